use Rattle.std.proofs.Common.{◌∙◌, ap, ℕ, List, cond}
use Rattle.std.specs.Prelude.{Some}
use Rattle.std.specs.BTreeMap.{is_at}
use Rattle.std.specs.Map.{lookup}
use Rattle.std.proofs.lemmas.Result.{on_ok_weaker, on_err_weaker}
use Rattle.names.specs.ShortNames.{is_short}
use Rattle.names.specs.Merged.{merged}
use Rattle.names.proofs.Merged.{set_first, set_second, merged_sorted}
use Rattle.names.specs.Nested.{bucket_key_cmp}
use Rattle.names.proofs.Nested.{types_order}
use Rattle.names.proofs.MergedPlaces.{of_some, of_none, in_short, same_bucket, first_after, second_after}
use Rattle.names.proofs.name_map.buckets.BucketPlaces.insert.Goals as goal

pub invariant_of-self : goal.invariant_of-self
invariant_of-self c =
    let name = of_some c.of.result c.as_slice.result.now c.args.bucket.now c.in-Some.name c.of.ensures c.as_slice.ensures c.in-Some.is in
    first_after types_order.inner_total in_short same_bucket c.insert.result c.self.inside.short.entries c.self.inside.long.entries c.insert.new.self.entries (c.in-Some.name, c.args.key.now) (Some c.args.place) c.self.invariant c.insert.ensures.ordered
    (ap is_short name.1 ∙ name.0) c.insert.ensures.inserted c.insert.ensures.refused

pub invariant_of-self-in-None : goal.invariant_of-self-in-None
invariant_of-self-in-None c =
    second_after types_order.inner_total in_short same_bucket c.insert-in-None.result c.self.inside.short.entries c.self.inside.long.entries c.insert-in-None.new.self.entries (c.args.bucket.now, c.args.key.now) (Some c.args.place) c.self.invariant c.insert-in-None.ensures.ordered
    (of_none c.of.result c.as_slice.result.now c.args.bucket.now c.of.ensures c.as_slice.ensures c.in-None.is) c.insert-in-None.ensures.inserted c.insert-in-None.ensures.refused

pub returns-in-Some-clause-inserted : goal.returns-in-Some-clause-inserted
returns-in-Some-clause-inserted c =
    let name = of_some c.of.result c.as_slice.result.now c.args.bucket.now c.in-Some.name c.of.ensures c.as_slice.ensures c.in-Some.is in
    rw (← c.self.view_is)
    (on_ok_weaker c.insert.result (λ set. set_first types_order.inner_total in_short same_bucket c.self.inside.short.entries c.self.inside.long.entries c.insert.new.self.entries (c.args.bucket.now, c.args.key.now) (Some c.args.place) c.self.invariant c.insert.ensures.ordered name.0 (λ q. set q ∙ ap (λ (n : List ℕ). cond (is_at (bucket_key_cmp (n, c.args.key.now)) q) (Some c.args.place) (lookup (is_at (bucket_key_cmp q)) c.self.inside.short.entries)) name.1)) c.insert.ensures.inserted)

pub returns-in-Some-clause-refused : goal.returns-in-Some-clause-refused
returns-in-Some-clause-refused c = rw (← c.self.view_is) (on_err_weaker c.insert.result (λ stays. ap (λ es. merged bucket_key_cmp es c.self.inside.long.entries) stays) c.insert.ensures.refused)

pub returns-in-None-clause-inserted : goal.returns-in-None-clause-inserted
returns-in-None-clause-inserted c =
    rw (← c.self.view_is)
    (on_ok_weaker c.insert-in-None.result (λ set. set_second types_order.inner_total in_short same_bucket c.self.inside.short.entries c.self.inside.long.entries c.insert-in-None.new.self.entries (c.args.bucket.now, c.args.key.now) (Some c.args.place) c.self.invariant c.insert-in-None.ensures.ordered (of_none c.of.result c.as_slice.result.now c.args.bucket.now c.of.ensures c.as_slice.ensures c.in-None.is) set) c.insert-in-None.ensures.inserted)

pub returns-in-None-clause-refused : goal.returns-in-None-clause-refused
returns-in-None-clause-refused c = rw (← c.self.view_is) (on_err_weaker c.insert-in-None.result (λ stays. ap (merged bucket_key_cmp c.self.inside.short.entries) stays) c.insert-in-None.ensures.refused)

pub returns-in-Some-clause-ordered : goal.returns-in-Some-clause-ordered
returns-in-Some-clause-ordered c = merged_sorted types_order.inner_total c.insert.new.self.entries c.self.inside.long.entries c.insert.ensures.ordered

pub returns-in-None-clause-ordered : goal.returns-in-None-clause-ordered
returns-in-None-clause-ordered c = merged_sorted types_order.inner_total c.self.inside.short.entries c.insert-in-None.new.self.entries c.self.invariant.first_ordered
