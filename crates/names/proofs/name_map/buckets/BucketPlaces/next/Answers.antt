use Rattle.std.proofs.Common.{refl, List, ℕ}
use Rattle.names.specs.KeyRefs.{name_of}
use Rattle.std.specs.Option.{option_map}
use Rattle.std.specs.Borrow.{Bor}
use Rattle.names.proofs.Nested.{types_order}
use Rattle.names.proofs.MergedPlaces.{in_short, whole_next, lower_then, lower_else}
use Rattle.names.proofs.MergedNext.{all_first}
use Rattle.names.proofs.name_map.buckets.BucketPlaces.next.Goals as goal

pub next_in_short-requires : goal.next_in_short-requires
next_in_short-requires c = all_first types_order.inner_total in_short c.self.inside.short.entries c.self.inside.long.entries c.self.invariant

pub returns-in-None-long : goal.returns-in-None-long
returns-in-None-long c =
    rw (← c.self.view_is) (whole_next (option_map {T = Bor (List ℕ) × Bor (List ℕ)} (λ key. (key.0.now, key.1.now)) c.args.after) c.self.inside.short.entries c.self.inside.long.entries c.self.invariant c.in-None.ensures c.in-None-long.ensures refl)

pub returns-in-Some-long : goal.returns-in-Some-long
returns-in-Some-long c =
    rw (← c.self.view_is) (whole_next (option_map {T = Bor (List ℕ) × Bor (List ℕ)} (λ key. (key.0.now, key.1.now)) c.args.after) c.self.inside.short.entries c.self.inside.long.entries c.self.invariant c.in-None.ensures c.in-Some-long.ensures refl)

pub returns-in-None-long-2 : goal.returns-in-None-long-2
returns-in-None-long-2 c =
    rw (← c.self.view_is) (whole_next (option_map {T = Bor (List ℕ) × Bor (List ℕ)} (λ key. (key.0.now, key.1.now)) c.args.after) c.self.inside.short.entries c.self.inside.long.entries c.self.invariant c.in-Some.ensures c.in-None-long-2.ensures refl)

pub returns-then-is_above : goal.returns-then-is_above
returns-then-is_above c =
    rw (← c.self.view_is)
    (whole_next (option_map {T = Bor (List ℕ) × Bor (List ℕ)} (λ key. (key.0.now, key.1.now)) c.args.after) c.self.inside.short.entries c.self.inside.long.entries c.self.invariant c.in-Some.ensures c.in-Some-long-2.ensures
    (lower_then ((c.in-Some.found.0, name_of c.in-Some.found.1), c.in-Some.found.2) ((c.in-Some-long-2.bucket.now, name_of c.in-Some-long-2.other), c.in-Some-long-2.there) c.is_above.result c.as_slice.result.now c.is_above.ensures c.as_slice.ensures c.if-is_above.true))

pub returns-else-is_above : goal.returns-else-is_above
returns-else-is_above c =
    rw (← c.self.view_is)
    (whole_next (option_map {T = Bor (List ℕ) × Bor (List ℕ)} (λ key. (key.0.now, key.1.now)) c.args.after) c.self.inside.short.entries c.self.inside.long.entries c.self.invariant c.in-Some.ensures c.in-Some-long-2.ensures
    (lower_else ((c.in-Some.found.0, name_of c.in-Some.found.1), c.in-Some.found.2) ((c.in-Some-long-2.bucket.now, name_of c.in-Some-long-2.other), c.in-Some-long-2.there) c.is_above.result c.as_slice.result.now c.is_above.ensures c.as_slice.ensures c.if-is_above.false))
