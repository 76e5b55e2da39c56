use Rattle.std.proofs.Common.{◌∙◌, sym, ap}
use Rattle.std.specs.Option.{option_copied_mut}
use Rattle.std.specs.Prelude.{Some, None}
use Rattle.names.proofs.Nested.{buckets_order, found_in, nested_sorted, nested_written, found_written, nested_emptied, found_emptied, found_absent, filled_unless}
use Rattle.names.proofs.name_map.long_buckets.LongBuckets.remove.Goals as goal

pub invariant_of-self-else-is_empty : goal.invariant_of-self-else-is_empty
invariant_of-self-else-is_empty c =
    nested_written buckets_order c.self.inside.buckets (c.get_mut.follows.lender c.remove-place.new.self) c.args.bucket.now c.in-Some.keys.now c.remove-place.new.self
    (sym c.get_mut.ensures.value ∙ ap option_copied_mut c.in-Some.is) (c.get_mut.follows.holds c.remove-place.new.self) c.self.invariant
    (record {
      ordered = c.remove-place.ensures.ordered;
      filled = filled_unless c.is_empty-is_empty.result c.remove-place.new.self.entries c.if-is_empty.false c.is_empty-is_empty.ensures.1;
    })

pub returns-in-None-clause-place : goal.returns-in-None-clause-place
returns-in-None-clause-place c =
    rw (← c.self.view_is)
    (sym (found_in buckets_order c.args.bucket.now c.args.key.now c.self.inside.buckets.entries c.self.invariant None (sym c.get_mut.ensures.value ∙ ap option_copied_mut c.in-None.is)))

pub returns-in-None-clause-removed : goal.returns-in-None-clause-removed
returns-in-None-clause-removed c =
    rw (← c.self.view_is, c.get_mut.follows.holds-at-none)
    (λ other. found_absent buckets_order c.self.inside.buckets.entries c.self.invariant c.args.bucket.now (sym c.get_mut.ensures.value ∙ ap option_copied_mut c.in-None.is) c.args.key.now other.0 other.1)

pub returns-in-None-clause-ordered : goal.returns-in-None-clause-ordered
returns-in-None-clause-ordered c = rw c.get_mut.follows.holds-at-none (nested_sorted buckets_order c.self.inside.buckets.entries c.self.invariant)

pub returns-then-is_empty-clause-place : goal.returns-then-is_empty-clause-place
returns-then-is_empty-clause-place c =
    rw (← c.self.view_is)
    (c.remove-place.ensures.place
    ∙ sym (found_in buckets_order c.args.bucket.now c.args.key.now c.self.inside.buckets.entries c.self.invariant (Some c.in-Some.keys.now) (sym c.get_mut.ensures.value ∙ ap option_copied_mut c.in-Some.is)))

pub returns-then-is_empty-clause-removed : goal.returns-then-is_empty-clause-removed
returns-then-is_empty-clause-removed c =
    rw (← c.self.view_is)
    (λ other. found_emptied buckets_order c.self.inside.buckets (c.get_mut.follows.lender c.remove-place.new.self) c.remove.new.self c.args.bucket.now c.in-Some.keys.now c.remove-place.new.self
    (sym c.get_mut.ensures.value ∙ ap option_copied_mut c.in-Some.is) (c.get_mut.follows.holds c.remove-place.new.self) c.remove.ensures.updates c.remove.ensures.ordered c.self.invariant
    (c.is_empty-is_empty.ensures.0 c.if-is_empty.true) c.args.key.now (λ pair. c.remove-place.ensures.removed pair) other.0 other.1)

pub returns-then-is_empty-clause-ordered : goal.returns-then-is_empty-clause-ordered
returns-then-is_empty-clause-ordered c =
    nested_sorted buckets_order c.remove.new.self.entries
    (nested_emptied buckets_order c.self.inside.buckets (c.get_mut.follows.lender c.remove-place.new.self) c.remove.new.self c.args.bucket.now c.in-Some.keys.now c.remove-place.new.self
    (sym c.get_mut.ensures.value ∙ ap option_copied_mut c.in-Some.is) (c.get_mut.follows.holds c.remove-place.new.self) c.remove.ensures.updates c.remove.ensures.ordered c.self.invariant)

pub returns-else-is_empty-clause-place : goal.returns-else-is_empty-clause-place
returns-else-is_empty-clause-place c =
    rw (← c.self.view_is)
    (c.remove-place.ensures.place
    ∙ sym (found_in buckets_order c.args.bucket.now c.args.key.now c.self.inside.buckets.entries c.self.invariant (Some c.in-Some.keys.now) (sym c.get_mut.ensures.value ∙ ap option_copied_mut c.in-Some.is)))

pub returns-else-is_empty-clause-removed : goal.returns-else-is_empty-clause-removed
returns-else-is_empty-clause-removed c =
    rw (← c.self.view_is)
    (λ other. found_written buckets_order c.self.inside.buckets (c.get_mut.follows.lender c.remove-place.new.self) c.args.bucket.now c.in-Some.keys.now c.remove-place.new.self
    (sym c.get_mut.ensures.value ∙ ap option_copied_mut c.in-Some.is) (c.get_mut.follows.holds c.remove-place.new.self) c.self.invariant c.args.key.now None
    (λ pair. c.remove-place.ensures.removed pair) other.0 other.1)

pub returns-else-is_empty-clause-ordered : goal.returns-else-is_empty-clause-ordered
returns-else-is_empty-clause-ordered c =
    nested_sorted buckets_order (c.get_mut.follows.lender c.remove-place.new.self).entries (invariant_of-self-else-is_empty c)
