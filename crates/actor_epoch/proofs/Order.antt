-- The order of actors, and rising pairs.
use Rattle.std.proofs.Common.{◌≡◌, ℕ, Bool, true, false, ◌&&◌, ◌||◌, cond, IsTrue, List, [], ◌∷◌, ◌++◌, refl, sym, ◌∙◌, ap, arith}
use Rattle.std.specs.Prelude.{nat_le, nat_eq, max}
use Rattle.std.specs.declared.cmp.Ordering.{Ordering}
use Rattle.std.specs.declared.cmp.Ordering.TheVariants.{Less, Equal, Greater}
use Rattle.std.specs.Ordering.{is_lt}
use Rattle.std.specs.Cmp.{IsTotalOrder, tied_itself}
use Rattle.std.specs.Cmp.{on_total}
use Rattle.std.proofs.lemmas.Cmp.{then_total, nat_cmp_total}
use Rattle.std.proofs.lemmas.Bool.Decides.{nat_tests}
use Rattle.actor_epoch.specs.declared.actor.Actor.{Actor}
use Rattle.actor_epoch.specs.declared.dot.Dot.{Dot}
use Rattle.actor_epoch.specs.Dots.{actor_cmp, actor_eq, covers, counter_in}
use Rattle.actor_epoch.specs.Contexts.{is_rising}
use Rattle.actor_epoch.proofs.Rising.{and_first, and_second}
use Rattle.std.proofs.lemmas.Bool.{eq-eqb, and_from as both}

pub actor_cmp_total : IsTotalOrder actor_cmp
actor_cmp_total = then_total (on_total (λ (a : Actor). a.vnode) nat_cmp_total) (on_total (λ (a : Actor). a.epoch) nat_cmp_total)

-- an actor is below those of all pairs
abbrev pub is_below_all : Actor → List Dot → Bool
is_below_all actor [] = true
is_below_all actor (pair ∷ pairs) = is_lt (actor_cmp actor pair.actor) && is_below_all actor pairs

pub is_lt-less : (o : Ordering) → IsTrue (is_lt o) → o ≡ Less
is_lt-less Less h = refl
is_lt-less Equal h = cc
is_lt-less Greater h = cc

is_below_all-less : (a b : Actor) (pairs : List Dot) → actor_cmp a b ≡ Less → IsTrue (is_below_all b pairs) → IsTrue (is_below_all a pairs)
is_below_all-less a b [] less h = refl
is_below_all-less a b (pair ∷ pairs) less h =
    both _ _
    (ap is_lt (actor_cmp_total.trans a b pair.actor less (is_lt-less _ (and_first _ (is_below_all b pairs) h))))
    (is_below_all-less a b pairs less (and_second (is_lt (actor_cmp b pair.actor)) _ h))

-- the first of rising pairs has the least actor
pub rising-below : (pair : Dot) (pairs : List Dot) → IsTrue (is_rising (pair ∷ pairs)) → IsTrue (is_below_all pair.actor pairs)
rising-below pair [] h = refl
rising-below pair (next ∷ pairs) h =
    let less : IsTrue (is_lt (actor_cmp pair.actor next.actor)) = and_first _ (is_rising (next ∷ pairs)) h in
    let rest : IsTrue (is_rising (next ∷ pairs)) = and_second (is_lt (actor_cmp pair.actor next.actor)) _ h in
    both _ _ less (is_below_all-less pair.actor next.actor pairs (is_lt-less _ less) (rising-below next pairs rest))

pub rising-tail : (pair : Dot) (pairs : List Dot) → IsTrue (is_rising (pair ∷ pairs)) → IsTrue (is_rising pairs)
rising-tail pair [] h = refl
rising-tail pair (next ∷ pairs) h = and_second (is_lt (actor_cmp pair.actor next.actor)) _ h

pub actor_eq-itself : (a : Actor) → actor_eq a a ≡ true
actor_eq-itself a = both _ _ (eq-eqb a.vnode a.vnode refl) (eq-eqb a.epoch a.epoch refl)

pub actor_eq-same : (a b : Actor) → actor_eq a b ≡ true → a ≡ b
actor_eq-same a b h =
    let vnodes : nat_eq a.vnode b.vnode ≡ true = and_first _ (nat_eq a.epoch b.epoch) h in
    let epochs : nat_eq a.epoch b.epoch ≡ true = and_second (nat_eq a.vnode b.vnode) _ h in
    let v : a.vnode ≡ b.vnode = grind (arith, nat_tests) in
    let e : a.epoch ≡ b.epoch = grind (arith, nat_tests) in
    λ i. record { vnode = v i; epoch = e i }

pub actor_eq-less : (a b : Actor) → actor_cmp a b ≡ Less → actor_eq a b ≡ false
actor_eq-less a b h = by (actor_eq a b) refl
  where
    by : (t : Bool) → actor_eq a b ≡ t → t ≡ false
    by true e = let same = ap (actor_cmp a) (sym (actor_eq-same a b e)) in let tied = tied_itself actor_cmp_total a in cc
    by false e = refl

pub actor_eq-greater : (a b : Actor) → actor_cmp a b ≡ Less → actor_eq b a ≡ false
actor_eq-greater a b h = by (actor_eq b a) refl
  where
    by : (t : Bool) → actor_eq b a ≡ t → t ≡ false
    by true e = let same = ap (actor_cmp a) (actor_eq-same b a e) in let tied = tied_itself actor_cmp_total a in cc
    by false e = refl

pub counter_in-below : (actor : Actor) (pairs : List Dot) → IsTrue (is_below_all actor pairs) → counter_in pairs actor ≡ 0
counter_in-below actor [] h = refl
counter_in-below actor (pair ∷ pairs) h =
    let less : actor_cmp actor pair.actor ≡ Less = is_lt-less _ (and_first _ (is_below_all actor pairs) h) in
    ap (λ b. cond b (max pair.counter (counter_in pairs actor)) (counter_in pairs actor)) (actor_eq-greater actor pair.actor less)
    ∙ counter_in-below actor pairs (and_second (is_lt (actor_cmp actor pair.actor)) _ h)

-- of rising pairs each has the greatest counter of its actor
pub counter_in-rising : (before : List Dot) (pair : Dot) (after : List Dot) → IsTrue (is_rising (before ++ pair ∷ after)) → counter_in (before ++ pair ∷ after) pair.actor ≡ pair.counter
counter_in-rising [] pair after h =
    let others : counter_in after pair.actor ≡ 0 = counter_in-below pair.actor after (rising-below pair after h) in
    (λ i. cond (actor_eq-itself pair.actor i) (max pair.counter (others i)) (others i)) ∙ omega arith
counter_in-rising (first ∷ before) pair after h =
    let below : IsTrue (is_below_all first.actor (before ++ pair ∷ after)) = rising-below first (before ++ pair ∷ after) h in
    ap (λ b. cond b (max first.counter (counter_in (before ++ pair ∷ after) pair.actor)) (counter_in (before ++ pair ∷ after) pair.actor))
    (actor_eq-less first.actor pair.actor (is_below_all-has first.actor before pair after below))
    ∙ counter_in-rising before pair after (rising-tail first (before ++ pair ∷ after) h)
  where
    is_below_all-has : (a : Actor) (before : List Dot) (pair : Dot) (after : List Dot) → IsTrue (is_below_all a (before ++ pair ∷ after)) → actor_cmp a pair.actor ≡ Less
    is_below_all-has a [] pair after h = is_lt-less _ (and_first _ (is_below_all a after) h)
    is_below_all-has a (b ∷ before) pair after h = is_below_all-has a before pair after (and_second (is_lt (actor_cmp a b.actor)) _ h)

-- pairs cover the dots from 1 to the greatest counter of an actor in them
pub covers-counter_in : (pairs : List Dot) (dot : Dot) → covers pairs dot ≡ (nat_le 1 dot.counter && nat_le dot.counter (counter_in pairs dot.actor))
covers-counter_in [] dot = none dot.counter
  where
    none : (c : ℕ) → false ≡ (nat_le 1 c && nat_le c 0)
    none c = grind (arith, nat_tests)
covers-counter_in (pair ∷ pairs) dot = by (actor_eq pair.actor dot.actor) dot.counter pair.counter (counter_in pairs dot.actor) (covers pairs dot) (covers-counter_in pairs dot)
  where
    by : (b : Bool) (c n k : ℕ) (rest : Bool) → rest ≡ (nat_le 1 c && nat_le c k)
        → ((b && (nat_le 1 c && nat_le c n)) || rest) ≡ (nat_le 1 c && nat_le c (cond b (max n k) k))
    by true c n k rest h = grind (arith, nat_tests)
    by false c n k rest h = h
