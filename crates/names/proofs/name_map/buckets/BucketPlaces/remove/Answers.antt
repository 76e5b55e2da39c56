use Rattle.std.proofs.Common.{◌∙◌, sym, ap, ℕ, List, cond}
use Rattle.std.specs.Prelude.{None}
use Rattle.std.specs.BTreeMap.{is_at}
use Rattle.std.specs.Map.{lookup}
use Rattle.names.proofs.Merged.{found_first, found_second, set_first, set_second, merged_sorted}
use Rattle.names.specs.Nested.{bucket_key_cmp}
use Rattle.names.proofs.Nested.{types_order}
use Rattle.names.proofs.MergedPlaces.{of_some, of_none, in_short, same_bucket}
use Rattle.names.proofs.name_map.buckets.BucketPlaces.remove.Goals as goal

pub returns-in-Some-clause-place : goal.returns-in-Some-clause-place
returns-in-Some-clause-place c =
    let name = of_some c.of.result c.as_slice.result.now c.args.bucket.now c.in-Some.name c.of.ensures c.as_slice.ensures c.in-Some.is in
    rw (← c.self.view_is)
    (c.remove.ensures.place ∙ ap (λ (n : List ℕ). lookup (is_at (bucket_key_cmp (n, c.args.key.now))) c.self.inside.short.entries) name.1
    ∙ sym (found_first types_order.inner_total in_short same_bucket c.self.inside.short.entries c.self.inside.long.entries c.self.invariant (c.args.bucket.now, c.args.key.now) name.0))

pub returns-in-Some-clause-removed : goal.returns-in-Some-clause-removed
returns-in-Some-clause-removed c =
    let name = of_some c.of.result c.as_slice.result.now c.args.bucket.now c.in-Some.name c.of.ensures c.as_slice.ensures c.in-Some.is in
    rw (← c.self.view_is)
    (set_first types_order.inner_total in_short same_bucket c.self.inside.short.entries c.self.inside.long.entries c.remove.new.self.entries (c.args.bucket.now, c.args.key.now) None c.self.invariant c.remove.ensures.ordered name.0 (λ q. c.remove.ensures.removed q ∙ ap (λ (n : List ℕ). cond (is_at (bucket_key_cmp (n, c.args.key.now)) q) None (lookup (is_at (bucket_key_cmp q)) c.self.inside.short.entries)) name.1))

pub returns-in-None-clause-place : goal.returns-in-None-clause-place
returns-in-None-clause-place c =
    rw (← c.self.view_is)
    (c.remove-in-None.ensures.place ∙ sym (found_second types_order.inner_total in_short same_bucket c.self.inside.short.entries c.self.inside.long.entries c.self.invariant (c.args.bucket.now, c.args.key.now) (of_none c.of.result c.as_slice.result.now c.args.bucket.now c.of.ensures c.as_slice.ensures c.in-None.is)))

pub returns-in-None-clause-removed : goal.returns-in-None-clause-removed
returns-in-None-clause-removed c =
    rw (← c.self.view_is)
    (set_second types_order.inner_total in_short same_bucket c.self.inside.short.entries c.self.inside.long.entries c.remove-in-None.new.self.entries (c.args.bucket.now, c.args.key.now) None c.self.invariant c.remove-in-None.ensures.ordered (of_none c.of.result c.as_slice.result.now c.args.bucket.now c.of.ensures c.as_slice.ensures c.in-None.is) c.remove-in-None.ensures.removed)

pub returns-in-Some-clause-ordered : goal.returns-in-Some-clause-ordered
returns-in-Some-clause-ordered c = merged_sorted types_order.inner_total c.remove.new.self.entries c.self.inside.long.entries c.remove.ensures.ordered

pub returns-in-None-clause-ordered : goal.returns-in-None-clause-ordered
returns-in-None-clause-ordered c = merged_sorted types_order.inner_total c.self.inside.short.entries c.remove-in-None.new.self.entries c.self.invariant.first_ordered
