-- Actors, dots, and contexts as what they cover.
use Rattle.std.specs.Prelude.{Bool, ◌&&◌, ◌==◌, ◌+◌, if◌then◌else◌, List, [], ◌∷◌, ℕ, max, nat_le}
use Rattle.std.specs.List.{list_any}
use Rattle.std.specs.declared.cmp.Ordering.{Ordering}
use Rattle.std.specs.Ordering.{nat_cmp, ordering_then}
use Rattle.std.specs.FinMap.Entries.{by_order}
use Rattle.actor_epoch.specs.declared.actor.Actor.{Actor}
use Rattle.actor_epoch.specs.declared.dot.Dot.{Dot}

-- by vnode id, then by epoch
abbrev pub actor_cmp : Actor → Actor → Ordering
actor_cmp a b = ordering_then (nat_cmp a.vnode b.vnode) (nat_cmp a.epoch b.epoch)

-- whether two actors are one
abbrev pub actor_eq : Actor → Actor → Bool
actor_eq a b = (a.vnode == b.vnode) && (a.epoch == b.epoch)

-- whether two dots are one
abbrev pub dot_eq : Dot → Dot → Bool
dot_eq a b = actor_eq a.actor b.actor && (a.counter == b.counter)

-- a pair (actor, n) covers the dots 1 to n of its actor
abbrev pub covers_by : Dot → Dot → Bool
covers_by pair dot = actor_eq pair.actor dot.actor && (nat_le 1 dot.counter && nat_le dot.counter pair.counter)

-- a list of pairs covers what one of them covers
abbrev pub covers : List Dot → Dot → Bool
covers pairs dot = list_any (λ pair. covers_by pair dot) pairs

-- the greatest counter of an actor, 0 where there is none
abbrev pub counter_in : List Dot → Actor → ℕ
counter_in [] actor = 0
counter_in (pair ∷ pairs) actor =
    if actor_eq pair.actor actor then max pair.counter (counter_in pairs actor) else counter_in pairs actor

-- the dot after the last that pairs have of an actor
abbrev pub next_dot : Actor → List Dot → Dot
next_dot actor pairs = record { actor = actor; counter = counter_in pairs actor + 1 }

-- the pairs with one more, kept strictly rising by actor
abbrev pub insert_max : Dot → List Dot → List Dot
insert_max dot [] = dot ∷ []
insert_max dot (pair ∷ pairs) =
    by_order (actor_cmp dot.actor pair.actor)
    (dot ∷ pair ∷ pairs)
    (record { actor = pair.actor; counter = max dot.counter pair.counter } ∷ pairs)
    (pair ∷ insert_max dot pairs)

-- the pairs that cover what one or the other covers
abbrev pub union : List Dot → List Dot → List Dot
union [] others = others
union (pair ∷ pairs) others = insert_max pair (union pairs others)
