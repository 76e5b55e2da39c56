-- A copy that stands since the key was last forgotten has a dot as its own side has it; so no other fallback covered it.
use Rattle.std.proofs.Common.{◌≡◌, ◌≢◌, ℕ, Bool, true, false, not, ◌&&◌, ◌||◌, List, [], ◌∷◌, ◌++◌, refl, sym, ◌∙◌, ap, arith}
use Rattle.std.specs.Prelude.{◌==◌, Option, Some, None}
use Rattle.std.specs.List.{list_any}
use Rattle.std.proofs.lemmas.Bool.Decides.{nat_tests}
use Rattle.riak_msgs.specs.declared.Key.{Key}
use Rattle.riak_msgs.specs.Contents.{Content}
use Rattle.riak_msgs.specs.KeyOrder.{key_eq}
use Rattle.sibling_register.specs.History.{numbers_to}
use Rattle.sibling_register.specs.Siblings.{is_among}
use Rattle.actor_epoch.specs.declared.Dot.{Dot}
use Rattle.copy_laws.specs.Copies.{Copy, Copied}
use Rattle.copy_laws.specs.Sides.{Partition, Number, is_covered_by}
use Rattle.copy_laws.specs.Joining.{Log, Fallbacks, IsJoined, HasDot, value_at}
use Rattle.copy_laws.proofs.Tests.{or_true}
use Rattle.copy_laws.proofs.Splits.{Passes, any-passes}
use Rattle.copy_laws.proofs.Clocks.{knows}
use Rattle.copy_laws.proofs.Since.{Since, is_forgotten_in, TakesAway}
use Rattle.copy_laws.proofs.JointLists.{among-diversion}
use Rattle.copy_laws.proofs.JoinedFacts.{Dotted, IsOfFallback, of-fallback, dotted-prefix, copy-covers, copy-sibling, full-covered, IsFull, full-copy, covered-some}
use Rattle.vnode_machine.proofs.Tests.{and_left, and_right, nat_eq-refl}

module _ (partition : Partition) (primary : Log) (fallbacks : Fallbacks) (key : Key) (joined : IsJoined partition primary fallbacks key) where
  abbrev v : ℕ
  v = partition.primary

  abbrev l : ℕ
  l = partition.last_epoch

  abbrev Has : ℕ → ℕ → Dot → Type 0
  Has side n dot = Dotted partition primary fallbacks key joined side n dot

  abbrev OfFallback : Copy Content → Type 0
  OfFallback copy = IsOfFallback partition primary fallbacks key joined copy

  module _ (dot : Dot) (live : Since key (TakesAway v l key dot) primary → ⊥) where
    -- a copy that stands with nothing after it that forgets the key, and knows the dot, has it as its side's
    pub known-is-own : (later : Log) (copy : Copy Content) (before : Log) → later ++ Copied copy ∷ before ≡ primary → key_eq copy.key key ≡ true → is_forgotten_in key later ≡ false
        → knows copy.clock dot ≡ true → (value : Option Content) × (value_at copy.clock dot ≡ Some value)
    known-is-own later copy before is e quiet k = by (value_at copy.clock dot) refl
      where
        by : (o : Option (Option Content)) → value_at copy.clock dot ≡ o → (value : Option Content) × (value_at copy.clock dot ≡ Some value)
        by None p = absurd (live (record { entry = Copied copy; later = later; before = before; is = is; quiet = quiet; holds = (e, k, p) }))
        by (Some value) p = (value, p)

    -- so a number of another side with this dot isn't covered by what such a copy brings
    side-of-copy : (later : Log) (copy : Copy Content) (before : Log) → later ++ Copied copy ∷ before ≡ primary → key_eq copy.key key ≡ true → is_forgotten_in key later ≡ false
        → knows copy.clock dot ≡ true → (number : ℕ) × Has copy.diversion number dot
    side-of-copy later copy before is e quiet k =
        let facts = of-fallback partition primary fallbacks key joined later copy before is e in
        let one = known-is-own later copy before is e quiet k in
        let sibling = copy-sibling partition primary fallbacks key joined copy facts dot one.0 one.1 in
        (sibling.number, dotted-prefix partition primary fallbacks key joined copy facts sibling.number dot sibling.dot_is)

    -- no fallback on another side covered the dot, where what covered it came after the number
    pub not-covered : (number : Number) → HasDot partition primary fallbacks key number dot
        → ((later : Log) (copy : Copy Content) (before : Log) → later ++ Copied copy ∷ before ≡ primary → key_eq copy.key key ≡ true → number.side ≢ copy.diversion
        → is_covered_by copy.prefix key dot ≡ true → is_forgotten_in key later ≡ false)
        → list_any (λ side. not (side == number.side) && is_covered_by (fallbacks side) key dot) (numbers_to partition.diversions) ≡ false
    not-covered number has_dot after = by (list_any test (numbers_to partition.diversions)) refl
      where
        test : ℕ → Bool
        test side = not (side == number.side) && is_covered_by (fallbacks side) key dot

        among-at : (xs later : List ℕ) (x : ℕ) (before : List ℕ) → later ++ x ∷ before ≡ xs → is_among xs x ≡ true
        among-at xs [] x before e = ap (λ t. is_among t x) (sym e) ∙ ap (λ b. b || is_among before x) (nat_eq-refl x)
        among-at xs (y ∷ later) x before e = ap (λ t. is_among t x) (sym e) ∙ ap (λ b. (y == x) || b) (among-at (later ++ x ∷ before) later x before refl) ∙ or_true (y == x)

        differs : (side : ℕ) → not (side == number.side) ≡ true → number.side ≢ side
        differs side h e = grind (arith, nat_tests)

        covered : (side : ℕ) → is_among (numbers_to partition.diversions) side ≡ true → not (side == number.side) ≡ true → is_covered_by (fallbacks side) key dot ≡ true → ⊥
        covered side among d h =
            let diversion = among-diversion partition.diversions side among in
            let full : IsFull partition primary fallbacks key joined side = full-copy partition primary fallbacks key joined side diversion (covered-some partition primary fallbacks key joined (fallbacks side) dot h) in
            let apart : number.side ≢ full.copy.diversion = λ e. differs side d (e ∙ full.side) in
            let here : is_covered_by full.copy.prefix key dot ≡ true =
            sym (full-covered partition primary fallbacks key joined full.copy full.facts full.full dot) ∙ ap (λ s. is_covered_by (fallbacks s) key dot) full.side ∙ h in
            let quiet = after full.later full.copy full.before full.is full.itself apart here in
            let own = side-of-copy full.later full.copy full.before full.is full.itself quiet (copy-covers partition primary fallbacks key joined full.copy full.facts dot here) in
            apart (joined.hand_off.apart number (record { side = full.copy.diversion; number = own.0 }) dot has_dot own.1)

        found : Passes test (numbers_to partition.diversions) → ⊥
        found p = covered p.x (among-at (numbers_to partition.diversions) p.later p.x p.before p.is) (and_left (not (p.x == number.side)) (is_covered_by (fallbacks p.x) key dot) p.passes) (and_right (not (p.x == number.side)) (is_covered_by (fallbacks p.x) key dot) p.passes)

        by : (b : Bool) → list_any test (numbers_to partition.diversions) ≡ b → list_any test (numbers_to partition.diversions) ≡ false
        by false e = e
        by true e = absurd (found (any-passes test (numbers_to partition.diversions) e))
