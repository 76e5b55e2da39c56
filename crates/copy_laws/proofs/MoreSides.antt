-- The siblings at a primary are the same however many diversions more are counted of which nothing came.
use Rattle.std.proofs.Common.{◌≡◌, ℕ, zero, suc, ◌<◌, ◌≤◌, Bool, true, false, not, ◌&&◌, ◌||◌, cond, List, [], ◌∷◌, ◌++◌, map, refl, sym, ◌∙◌, ap, arith, inl, inr}
use Rattle.std.specs.Prelude.{◌==◌, nat_le, length, filter, flat_map, reverse}
use Rattle.std.specs.Option.{option_map_or}
use Rattle.std.specs.List.{list_any}
use Rattle.std.proofs.lemmas.Bool.{cases_lt}
use Rattle.std.proofs.lemmas.Grind.{reverse_onto}
use Rattle.riak_msgs.specs.declared.Key.{Key}
use Rattle.riak_msgs.specs.Contents.{Content}
use Rattle.riak_msgs.specs.KeyOrder.{key_eq}
use Rattle.sibling_register.specs.History.{numbers_to}
use Rattle.sibling_register.specs.Siblings.{siblings}
use Rattle.actor_epoch.specs.declared.Dot.{Dot}
use Rattle.vnode_machine.specs.Replay.{History}
use Rattle.vnode_machine.proofs.Tests.{nat_eq-same}
use Rattle.copy_laws.specs.Copies.{Copy, Command, Copied, Closed, commands_of, brought}
use Rattle.copy_laws.specs.Sides.{Partition, Number, dot_at, is_covered_by, is_seen_by_primary, is_seen_elsewhere, siblings_of, siblings_at}
use Rattle.copy_laws.specs.Joining.{Log, Fallbacks}
use Rattle.copy_laws.proofs.Tests.{not_zero}

-- a side that has none adds nothing
flat-last : (f : ℕ → List Number) (xs : List ℕ) (x : ℕ) → f x ≡ [] → flat_map f (xs ++ x ∷ []) ≡ flat_map f xs
flat-last f [] x e = ap (λ (t : List Number). t ++ []) e
flat-last f (y ∷ xs) x e = ap (λ (t : List Number). f y ++ t) (flat-last f xs x e)

-- nothing was brought of a diversion that no copy of the key is of
pub none-come : (key : Key) (log : Log) (most n : ℕ) → most < n
    → ((later before : Log) (copy : Copy Content) → later ++ Copied copy ∷ before ≡ log → key_eq copy.key key ≡ true → copy.diversion ≤ most) → brought log key n ≡ []
none-come key [] most n less all = refl
none-come key (Command event ∷ before) most n less all =
    none-come key before most n less (λ later b copy e itself. all (Command event ∷ later) b copy (ap (λ (t : Log). Command event ∷ t) e) itself)
none-come key (Closed number ∷ before) most n less all =
    none-come key before most n less (λ later b copy e itself. all (Closed number ∷ later) b copy (ap (λ (t : Log). Closed number ∷ t) e) itself)
none-come key (Copied copy ∷ before) most n less all =
    by (none-come key before most n less (λ later b c e itself. all (Copied copy ∷ later) b c (ap (λ (t : Log). Copied copy ∷ t) e) itself)) (key_eq copy.key key) refl (copy.diversion == n) refl
    (nat_le (length (brought before key n)) (length copy.prefix))
  where
    by : brought before key n ≡ [] → (a : Bool) → key_eq copy.key key ≡ a → (b : Bool) → (copy.diversion == n) ≡ b → (c : Bool) → cond ((a && b) && c) copy.prefix (brought before key n) ≡ []
    by rest true p true q c = let few = all [] before copy refl p in let side = nat_eq-same copy.diversion n q in absurd (omega (arith, few, side, less))
    by rest true p false q c = rest
    by rest false p b q c = rest

module _ (partition : Partition) (log : Log) (key : Key) where
  abbrev come : Fallbacks
  come = brought log key

  abbrev so : ℕ → Partition
  so n = record partition { diversions = n }

  -- with one diversion more, of which nothing was brought
  module _ (n : ℕ) (none : come (suc n) ≡ []) where
    covered-same : (number : Number) (dot : Dot) → list_any (λ side. not (side == number.side) && is_covered_by (come side) key dot) (numbers_to (suc n))
        ≡ list_any (λ side. not (side == number.side) && is_covered_by (come side) key dot) (numbers_to n)
    covered-same number dot =
        let rest : Bool = list_any (λ side. not (side == number.side) && is_covered_by (come side) key dot) (numbers_to n) in
        ap (λ (h : History). (not (suc n == number.side) && is_covered_by h key dot) || rest) none ∙ by (not (suc n == number.side)) rest
      where
        by : (a b : Bool) → ((a && false) || b) ≡ b
        by true b = refl
        by false b = refl

    seen-same : (number : Number) → is_seen_elsewhere (so (suc n)) log come key number ≡ is_seen_elsewhere (so n) log come key number
    seen-same number =
        ap (λ (f : Dot → Bool). option_map_or f (dot_at partition log come key number) false)
        (λ i. λ dot. (not (number.side == 0) && is_seen_by_primary log key number dot) || covered-same number dot i)

    side-same : (side : ℕ) → siblings_of (so (suc n)) log come key side ≡ siblings_of (so n) log come key side
    side-same side =
        ap (λ (test : Number → Bool). filter test (map (λ m. (let number : Number = record { side = side; number = m } in number)) (siblings (cond (side == 0) (commands_of log) (come side)) key)))
        (λ i. λ number. not (seen-same number i))

    none-there : siblings_of (so (suc n)) log come key (suc n) ≡ []
    none-there = λ i. filter (λ number. not (is_seen_elsewhere (so (suc n)) log come key number))
        (map (λ m. (let number : Number = record { side = suc n; number = m } in number)) (siblings (cond (not_zero (suc n) (omega arith) i) (commands_of log) (none i)) key))

    pub one-more : siblings_at (so (suc n)) log key ≡ siblings_at (so n) log key
    one-more =
        ap (λ (sides : List ℕ). siblings_of (so (suc n)) log come key 0 ++ flat_map (siblings_of (so (suc n)) log come key) sides) (reverse_onto (numbers_to n) (suc n) [])
        ∙ ap (λ (t : List Number). siblings_of (so (suc n)) log come key 0 ++ t) (flat-last (siblings_of (so (suc n)) log come key) (reverse (numbers_to n)) (suc n) none-there)
        ∙ ap (λ (f : ℕ → List Number). flat_map f (0 ∷ reverse (numbers_to n))) (λ i. λ side. side-same side i)

  -- and with any number more
  pub any-more : (few most : ℕ) → few ≤ most → ((n : ℕ) → few < n → come n ≡ []) → siblings_at (so few) log key ≡ siblings_at (so most) log key
  any-more few zero le none = let same : few ≡ 0 = omega (arith, le) in ap (λ n. siblings_at (so n) log key) same
  any-more few (suc most) le none = elim (cases_lt most few) [
    | inl lt ↦ let same : few ≡ suc most = omega (arith, le, lt) in ap (λ n. siblings_at (so n) log key) same
    | inr below ↦ any-more few most below none ∙ sym (one-more most (none (suc most) (omega (arith, below))))
  ]
