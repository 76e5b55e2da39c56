-- Pairs as sets of dots.
use Rattle.std.proofs.Common.{◌≡◌, ℕ, Bool, true, false, ◌&&◌, ◌||◌, cond, List, [], ◌∷◌, refl, sym, ◌∙◌, ap, arith}
use Rattle.std.specs.Prelude.{nat_le, nat_lt, nat_eq, max}
use Rattle.std.specs.declared.cmp.Ordering.{Ordering}
use Rattle.std.specs.declared.cmp.Ordering.TheVariants.{Less, Equal, Greater}
use Rattle.std.specs.Ordering.{nat_cmp, ordering_then}
use Rattle.std.specs.FinMap.Entries.{by_order}
use Rattle.std.proofs.lemmas.Bool.Decides.{nat_tests}
use Rattle.actor_epoch.specs.declared.actor.Actor.{Actor}
use Rattle.actor_epoch.specs.declared.dot.Dot.{Dot}
use Rattle.actor_epoch.specs.Dots.{actor_cmp, actor_eq, covers_by, covers, counter_in, insert_max, union}

nat_cmp-same : (a b : ℕ) → nat_cmp a b ≡ Equal → a ≡ b
nat_cmp-same a b h = by (nat_lt a b) (nat_eq a b) refl h
  where
    by : (l e : Bool) → nat_eq a b ≡ e → cond l Less (cond e Equal Greater) ≡ Equal → a ≡ b
    by true e q h = cc
    by false true q h = grind (arith, nat_tests)
    by false false q h = cc

then_first : (x y : Ordering) → ordering_then x y ≡ Equal → x ≡ Equal
then_first Less y h = cc
then_first Equal y h = refl
then_first Greater y h = cc

then_second : (x y : Ordering) → ordering_then x y ≡ Equal → y ≡ Equal
then_second Less y h = cc
then_second Equal y h = h
then_second Greater y h = cc

pub actor_cmp-same : (a b : Actor) → actor_cmp a b ≡ Equal → a ≡ b
actor_cmp-same a b h =
    let vnodes : a.vnode ≡ b.vnode = nat_cmp-same a.vnode b.vnode (then_first (nat_cmp a.vnode b.vnode) (nat_cmp a.epoch b.epoch) h) in
    let epochs : a.epoch ≡ b.epoch = nat_cmp-same a.epoch b.epoch (then_second (nat_cmp a.vnode b.vnode) (nat_cmp a.epoch b.epoch) h) in
    λ i. record { vnode = vnodes i; epoch = epochs i }

swapped : (a b c : Bool) → (a || (b || c)) ≡ (b || (a || c))
swapped true true c = refl
swapped true false c = refl
swapped false true c = refl
swapped false false c = refl

pub grouped : (a b c : Bool) → ((a || b) || c) ≡ (a || (b || c))
grouped true b c = refl
grouped false b c = refl

split : (a b c d : Bool) → (a && (b && (c || d))) ≡ ((a && (b && c)) || (a && (b && d)))
split true true c d = refl
split true false c d = refl
split false b c d = refl

nat_le-max : (x a b : ℕ) → nat_le x (max a b) ≡ (nat_le x a || nat_le x b)
nat_le-max x a b = grind (arith, nat_tests)

-- one pair more covers what it covers, and no more
pub covers-insert_max : (pair : Dot) (pairs : List Dot) (dot : Dot) → covers (insert_max pair pairs) dot ≡ (covers_by pair dot || covers pairs dot)
covers-insert_max pair [] dot = refl
covers-insert_max pair (first ∷ pairs) dot = by (actor_cmp pair.actor first.actor) refl (covers-insert_max pair pairs dot)
  where
    by : (o : Ordering) → actor_cmp pair.actor first.actor ≡ o → covers (insert_max pair pairs) dot ≡ (covers_by pair dot || covers pairs dot)
        → covers (by_order o (pair ∷ first ∷ pairs) ((let both : Dot = record { actor = first.actor; counter = max pair.counter first.counter } in both) ∷ pairs) (first ∷ insert_max pair pairs)) dot
        ≡ (covers_by pair dot || (covers_by first dot || covers pairs dot))
    by Less e rest = refl
    by Greater e rest = ap (λ b. covers_by first dot || b) rest ∙ swapped (covers_by first dot) (covers_by pair dot) (covers pairs dot)
    by Equal e rest =
        let same : actor_eq first.actor dot.actor ≡ actor_eq pair.actor dot.actor = ap (λ a. actor_eq a dot.actor) (sym (actor_cmp-same pair.actor first.actor e)) in
        ap (λ b. (actor_eq first.actor dot.actor && (nat_le 1 dot.counter && b)) || covers pairs dot) (nat_le-max dot.counter pair.counter first.counter)
        ∙ ap (λ b. b || covers pairs dot) (split (actor_eq first.actor dot.actor) (nat_le 1 dot.counter) (nat_le dot.counter pair.counter) (nat_le dot.counter first.counter))
        ∙ ap (λ a. ((a && (nat_le 1 dot.counter && nat_le dot.counter pair.counter)) || covers_by first dot) || covers pairs dot) same
        ∙ grouped (covers_by pair dot) (covers_by first dot) (covers pairs dot)

-- a union covers what one or the other does
pub covers-union : (pairs others : List Dot) (dot : Dot) → covers (union pairs others) dot ≡ (covers pairs dot || covers others dot)
covers-union [] others dot = refl
covers-union (pair ∷ pairs) others dot =
    covers-insert_max pair (union pairs others) dot
    ∙ ap (λ b. covers_by pair dot || b) (covers-union pairs others dot)
    ∙ sym (grouped (covers_by pair dot) (covers pairs dot) (covers others dot))

max_swapped : (a b c : ℕ) → max a (max b c) ≡ max b (max a c)
max_swapped a b c = omega arith

max_grouped : (a b c : ℕ) → max (max a b) c ≡ max a (max b c)
max_grouped a b c = omega arith

-- the greatest counter with one pair more
pub counter_in-insert_max : (pair : Dot) (pairs : List Dot) (actor : Actor)
    → counter_in (insert_max pair pairs) actor ≡ cond (actor_eq pair.actor actor) (max pair.counter (counter_in pairs actor)) (counter_in pairs actor)
counter_in-insert_max pair [] actor = refl
counter_in-insert_max pair (first ∷ pairs) actor = by (actor_cmp pair.actor first.actor) refl (counter_in-insert_max pair pairs actor)
  where
    C : ℕ
    C = counter_in pairs actor

    greater : (a b : Bool) (rest : ℕ) → rest ≡ cond a (max pair.counter C) C
        → cond b (max first.counter rest) rest ≡ cond a (max pair.counter (cond b (max first.counter C) C)) (cond b (max first.counter C) C)
    greater true true rest h = ap (max first.counter) h ∙ max_swapped first.counter pair.counter C
    greater true false rest h = h
    greater false true rest h = ap (max first.counter) h
    greater false false rest h = h

    equal : (a b : Bool) → b ≡ a → cond b (max (max pair.counter first.counter) C) C ≡ cond a (max pair.counter (cond b (max first.counter C) C)) (cond b (max first.counter C) C)
    equal true true h = max_grouped pair.counter first.counter C
    equal false false h = refl
    equal true false h = cc
    equal false true h = cc

    by : (o : Ordering) → actor_cmp pair.actor first.actor ≡ o
        → counter_in (insert_max pair pairs) actor ≡ cond (actor_eq pair.actor actor) (max pair.counter C) C
        → counter_in (by_order o (pair ∷ first ∷ pairs) ((let both : Dot = record { actor = first.actor; counter = max pair.counter first.counter } in both) ∷ pairs) (first ∷ insert_max pair pairs)) actor
        ≡ cond (actor_eq pair.actor actor) (max pair.counter (cond (actor_eq first.actor actor) (max first.counter C) C)) (cond (actor_eq first.actor actor) (max first.counter C) C)
    by Less e rest = refl
    by Greater e rest = greater (actor_eq pair.actor actor) (actor_eq first.actor actor) (counter_in (insert_max pair pairs) actor) rest
    by Equal e rest = equal (actor_eq pair.actor actor) (actor_eq first.actor actor) (ap (λ a. actor_eq a actor) (sym (actor_cmp-same pair.actor first.actor e)))

-- and of a union
pub counter_in-union : (pairs others : List Dot) (actor : Actor) → counter_in (union pairs others) actor ≡ max (counter_in pairs actor) (counter_in others actor)
counter_in-union [] others actor = zero_max (counter_in others actor)
  where
    zero_max : (n : ℕ) → n ≡ max 0 n
    zero_max n = omega arith
counter_in-union (pair ∷ pairs) others actor =
    counter_in-insert_max pair (union pairs others) actor
    ∙ ap (λ n. cond (actor_eq pair.actor actor) (max pair.counter n) n) (counter_in-union pairs others actor)
    ∙ by (actor_eq pair.actor actor) (counter_in pairs actor) (counter_in others actor)
  where
    by : (b : Bool) (m n : ℕ) → cond b (max pair.counter (max m n)) (max m n) ≡ max (cond b (max pair.counter m) m) n
    by true m n = sym (max_grouped pair.counter m n)
    by false m n = refl
