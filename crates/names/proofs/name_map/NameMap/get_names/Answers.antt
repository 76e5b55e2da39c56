use Rattle.std.proofs.Common.{◌∙◌, sym, ap}
use Rattle.std.specs.Option.{option_copied}
use Rattle.std.specs.Prelude.{Some, None}
use Rattle.names.proofs.Nested.{types_order, found_in, nested_sorted}
use Rattle.names.proofs.name_map.NameMap.get_names.Goals as goal

pub returns-in-Some-clause-place : goal.returns-in-Some-clause-place
returns-in-Some-clause-place c =
    rw (← c.self.view_is)
    (c.get_names.ensures.place
    ∙ sym (found_in types_order c.args.bucket_type.now (c.args.bucket.now, c.args.key) c.self.inside.types.entries c.self.invariant (Some c.in-Some.buckets.now) (sym c.get.ensures.value ∙ ap option_copied c.in-Some.is)))

pub returns-in-Some-clause-ordered : goal.returns-in-Some-clause-ordered
returns-in-Some-clause-ordered c = rw (← c.self.view_is) (nested_sorted types_order c.self.inside.types.entries c.self.invariant)

pub returns-in-None-clause-place : goal.returns-in-None-clause-place
returns-in-None-clause-place c =
    rw (← c.self.view_is)
    (sym (found_in types_order c.args.bucket_type.now (c.args.bucket.now, c.args.key) c.self.inside.types.entries c.self.invariant None (sym c.get.ensures.value ∙ ap option_copied c.in-None.is)))

pub returns-in-None-clause-ordered : goal.returns-in-None-clause-ordered
returns-in-None-clause-ordered c = rw (← c.self.view_is) (nested_sorted types_order c.self.inside.types.entries c.self.invariant)
