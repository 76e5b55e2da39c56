use Rattle.std.proofs.Common.{◌∙◌, sym, ap}
use Rattle.std.specs.Option.{option_copied_mut}
use Rattle.std.specs.Prelude.{Some}
use Rattle.names.proofs.Nested.{buckets_order, nested_sorted, nested_written, found_written, same_written, filled_insert, nested_added, found_added}
use Rattle.std.proofs.lemmas.Result.{on_ok_weaker, on_err_weaker}
use Rattle.names.proofs.name_map.long_buckets.LongBuckets.insert.Goals as goal

pub invariant_of-self : goal.invariant_of-self
invariant_of-self c =
    let is = sym c.get_mut.ensures.value ∙ ap option_copied_mut c.in-Some.is in
    nested_written buckets_order c.self.inside.buckets (c.get_mut.follows.lender c.insert.new.self) c.args.bucket.now c.in-Some.keys.now c.insert.new.self is
    (c.get_mut.follows.holds c.insert.new.self) c.self.invariant
    (record {
      ordered = c.insert.ensures.ordered;
      filled =
          filled_insert buckets_order c.insert.result c.in-Some.keys.now.entries c.insert.new.self.entries c.args.key.now c.args.place c.insert.ensures.inserted
          c.insert.ensures.refused (c.self.invariant.held c.args.bucket.now c.in-Some.keys.now is).filled;
    })

pub returns-in-Some-clause-inserted : goal.returns-in-Some-clause-inserted
returns-in-Some-clause-inserted c =
    rw (← c.self.view_is)
    (on_ok_weaker c.insert.result
    (λ changed other. found_written buckets_order c.self.inside.buckets (c.get_mut.follows.lender c.insert.new.self) c.args.bucket.now c.in-Some.keys.now c.insert.new.self
    (sym c.get_mut.ensures.value ∙ ap option_copied_mut c.in-Some.is) (c.get_mut.follows.holds c.insert.new.self) c.self.invariant c.args.key.now (Some c.args.place) changed other.0 other.1)
    c.insert.ensures.inserted)

pub returns-in-Some-clause-refused : goal.returns-in-Some-clause-refused
returns-in-Some-clause-refused c =
    rw (← c.self.view_is)
    (on_err_weaker c.insert.result
    (same_written buckets_order c.self.inside.buckets (c.get_mut.follows.lender c.insert.new.self) c.args.bucket.now c.in-Some.keys.now c.insert.new.self
    (sym c.get_mut.ensures.value ∙ ap option_copied_mut c.in-Some.is) (c.get_mut.follows.holds c.insert.new.self))
    c.insert.ensures.refused)

pub returns-in-Some-clause-ordered : goal.returns-in-Some-clause-ordered
returns-in-Some-clause-ordered c = nested_sorted buckets_order (c.get_mut.follows.lender c.insert.new.self).entries (invariant_of-self c)

pub returns-in_err-keys-clause-ordered : goal.returns-in_err-keys-clause-ordered
returns-in_err-keys-clause-ordered c = rw c.get_mut.follows.holds-at-none (nested_sorted buckets_order c.self.inside.buckets.entries c.self.invariant)

pub returns-in_err-own-clause-ordered : goal.returns-in_err-own-clause-ordered
returns-in_err-own-clause-ordered c = rw c.get_mut.follows.holds-at-none (nested_sorted buckets_order c.self.inside.buckets.entries c.self.invariant)

pub invariant_of-self-in-Ok : goal.invariant_of-self-in-Ok
invariant_of-self-in-Ok c =
    nested_added buckets_order c.self.inside.buckets c.get_mut.follows.lender-at-none c.insert-2.new.self c.args.bucket.now c.in_ok-own.own c.in_ok-keys.keys c.args.key.now c.args.place
    c.get_mut.follows.holds-at-none c.in_ok-own.ensures c.in_ok-keys.ensures c.in-Ok.ensures.updates c.insert-2.ensures.ordered c.self.invariant

pub returns-in-Ok-clause-inserted : goal.returns-in-Ok-clause-inserted
returns-in-Ok-clause-inserted c =
    rw (← c.self.view_is)
    (λ other. found_added buckets_order c.self.inside.buckets c.get_mut.follows.lender-at-none c.insert-2.new.self c.args.bucket.now c.in_ok-own.own c.in_ok-keys.keys c.args.key.now c.args.place
    c.get_mut.follows.holds-at-none c.in_ok-own.ensures c.in_ok-keys.ensures c.in-Ok.ensures.updates c.insert-2.ensures.ordered c.self.invariant
    (sym c.get_mut.ensures.value ∙ ap option_copied_mut c.in-None.is) other.0 other.1)

pub returns-in-Ok-clause-ordered : goal.returns-in-Ok-clause-ordered
returns-in-Ok-clause-ordered c = nested_sorted buckets_order c.insert-2.new.self.entries (invariant_of-self-in-Ok c)

pub returns-clause-ordered : goal.returns-clause-ordered
returns-clause-ordered c =
    rw (c.in-Err.ensures.err, c.get_mut.follows.holds-at-none) (nested_sorted buckets_order c.self.inside.buckets.entries c.self.invariant)
