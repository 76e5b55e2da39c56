use Rattle.std.proofs.Common.{◌∙◌, sym}
use Rattle.names.proofs.Nested.{types_order, nested_sorted}
use Rattle.names.proofs.NextEntry.{next_within, next_beyond, next_flatten_all}
use Rattle.names.proofs.name_map.NameMap.next.Goals as goal

pub returns-in_default-clause-next : goal.returns-in_default-clause-next
returns-in_default-clause-next c = rw (← c.self.view_is, c.in_default.is) (c.first_behind.ensures ∙ sym (next_flatten_all types_order c.self.inside.types.entries))

pub returns-in_default-clause-ordered : goal.returns-in_default-clause-ordered
returns-in_default-clause-ordered c = rw (← c.self.view_is) (nested_sorted types_order c.self.inside.types.entries c.self.invariant)

pub returns-in-None-clause-next : goal.returns-in-None-clause-next
returns-in-None-clause-next c =
    rw (← c.self.view_is, c.in-Some.is)
    (c.first_behind-in-None.ensures
    ∙ next_beyond types_order c.in-Some.after.bucket_type.now (c.in-Some.after.bucket.now, c.in-Some.after.key.now) c.self.inside.types.entries c.self.invariant.ordered c.in-None.ensures)

pub returns-in-None-clause-ordered : goal.returns-in-None-clause-ordered
returns-in-None-clause-ordered c = rw (← c.self.view_is) (nested_sorted types_order c.self.inside.types.entries c.self.invariant)

pub returns-in-Some-next_in_type-clause-next : goal.returns-in-Some-next_in_type-clause-next
returns-in-Some-next_in_type-clause-next c =
    rw (← c.self.view_is, c.in-Some.is)
    (next_within types_order c.in-Some.after.bucket_type.now (c.in-Some.after.bucket.now, c.in-Some.after.key.now) c.self.inside.types.entries c.self.invariant.ordered _ c.in-Some-next_in_type.ensures)

pub returns-in-Some-next_in_type-clause-ordered : goal.returns-in-Some-next_in_type-clause-ordered
returns-in-Some-next_in_type-clause-ordered c = rw (← c.self.view_is) (nested_sorted types_order c.self.inside.types.entries c.self.invariant)
