use Rattle.std.proofs.Common.{◌∙◌, sym, ap}
use Rattle.std.specs.Option.{option_copied_mut}
use Rattle.std.specs.Prelude.{Some, None}
use Rattle.names.proofs.Nested.{types_order, found_in, nested_sorted, nested_written, found_written, nested_emptied, found_emptied, found_absent, filled_unless}
use Rattle.names.proofs.name_map.NameMap.remove_names.Goals as goal

pub invariant_of-self-else-is_empty : goal.invariant_of-self-else-is_empty
invariant_of-self-else-is_empty c =
    nested_written types_order c.self.inside.types (c.get_mut.follows.lender c.remove_names-place.new.self) c.args.bucket_type.now c.in-Some.buckets.now c.remove_names-place.new.self
    (sym c.get_mut.ensures.value ∙ ap option_copied_mut c.in-Some.is) (c.get_mut.follows.holds c.remove_names-place.new.self) c.self.invariant
    (record {
      ordered = c.remove_names-place.ensures.ordered;
      filled = filled_unless c.is_empty-is_empty.result c.remove_names-place.new.self.entries c.if-is_empty.false c.is_empty-is_empty.ensures.1;
    })

pub returns-in-None-clause-place : goal.returns-in-None-clause-place
returns-in-None-clause-place c =
    rw (← c.self.view_is)
    (sym (found_in types_order c.args.bucket_type.now (c.args.bucket.now, c.args.key) c.self.inside.types.entries c.self.invariant None (sym c.get_mut.ensures.value ∙ ap option_copied_mut c.in-None.is)))

pub returns-in-None-clause-removed : goal.returns-in-None-clause-removed
returns-in-None-clause-removed c =
    rw (← c.self.view_is, c.get_mut.follows.holds-at-none)
    (λ other. found_absent types_order c.self.inside.types.entries c.self.invariant c.args.bucket_type.now (sym c.get_mut.ensures.value ∙ ap option_copied_mut c.in-None.is) (c.args.bucket.now, c.args.key) other.bucket_type (other.bucket, other.key))

pub returns-in-None-clause-ordered : goal.returns-in-None-clause-ordered
returns-in-None-clause-ordered c = rw c.get_mut.follows.holds-at-none (nested_sorted types_order c.self.inside.types.entries c.self.invariant)

pub returns-then-is_empty-clause-place : goal.returns-then-is_empty-clause-place
returns-then-is_empty-clause-place c =
    rw (← c.self.view_is)
    (c.remove_names-place.ensures.place
    ∙ sym (found_in types_order c.args.bucket_type.now (c.args.bucket.now, c.args.key) c.self.inside.types.entries c.self.invariant (Some c.in-Some.buckets.now) (sym c.get_mut.ensures.value ∙ ap option_copied_mut c.in-Some.is)))

pub returns-then-is_empty-clause-removed : goal.returns-then-is_empty-clause-removed
returns-then-is_empty-clause-removed c =
    rw (← c.self.view_is)
    (λ other. found_emptied types_order c.self.inside.types (c.get_mut.follows.lender c.remove_names-place.new.self) c.remove.new.self c.args.bucket_type.now c.in-Some.buckets.now c.remove_names-place.new.self
    (sym c.get_mut.ensures.value ∙ ap option_copied_mut c.in-Some.is) (c.get_mut.follows.holds c.remove_names-place.new.self) c.remove.ensures.updates c.remove.ensures.ordered c.self.invariant
    (c.is_empty-is_empty.ensures.0 c.if-is_empty.true) (c.args.bucket.now, c.args.key) (λ pair. c.remove_names-place.ensures.removed pair) other.bucket_type (other.bucket, other.key))

pub returns-then-is_empty-clause-ordered : goal.returns-then-is_empty-clause-ordered
returns-then-is_empty-clause-ordered c =
    nested_sorted types_order c.remove.new.self.entries
    (nested_emptied types_order c.self.inside.types (c.get_mut.follows.lender c.remove_names-place.new.self) c.remove.new.self c.args.bucket_type.now c.in-Some.buckets.now c.remove_names-place.new.self
    (sym c.get_mut.ensures.value ∙ ap option_copied_mut c.in-Some.is) (c.get_mut.follows.holds c.remove_names-place.new.self) c.remove.ensures.updates c.remove.ensures.ordered c.self.invariant)

pub returns-else-is_empty-clause-place : goal.returns-else-is_empty-clause-place
returns-else-is_empty-clause-place c =
    rw (← c.self.view_is)
    (c.remove_names-place.ensures.place
    ∙ sym (found_in types_order c.args.bucket_type.now (c.args.bucket.now, c.args.key) c.self.inside.types.entries c.self.invariant (Some c.in-Some.buckets.now) (sym c.get_mut.ensures.value ∙ ap option_copied_mut c.in-Some.is)))

pub returns-else-is_empty-clause-removed : goal.returns-else-is_empty-clause-removed
returns-else-is_empty-clause-removed c =
    rw (← c.self.view_is)
    (λ other. found_written types_order c.self.inside.types (c.get_mut.follows.lender c.remove_names-place.new.self) c.args.bucket_type.now c.in-Some.buckets.now c.remove_names-place.new.self
    (sym c.get_mut.ensures.value ∙ ap option_copied_mut c.in-Some.is) (c.get_mut.follows.holds c.remove_names-place.new.self) c.self.invariant (c.args.bucket.now, c.args.key) None
    (λ pair. c.remove_names-place.ensures.removed pair) other.bucket_type (other.bucket, other.key))

pub returns-else-is_empty-clause-ordered : goal.returns-else-is_empty-clause-ordered
returns-else-is_empty-clause-ordered c =
    nested_sorted types_order (c.get_mut.follows.lender c.remove_names-place.new.self).entries (invariant_of-self-else-is_empty c)
