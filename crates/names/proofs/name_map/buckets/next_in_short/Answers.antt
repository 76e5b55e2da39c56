use Rattle.std.proofs.Common.{◌∙◌, ap, List, ℕ, take}
use Rattle.std.specs.Prelude.{Some}
use Rattle.names.specs.Behind.{next_entry}
use Rattle.names.specs.Nested.{bucket_key_cmp, first_of_buckets_behind}
use Rattle.names.proofs.MergedPlaces.{of_some, of_none}
use Rattle.names.proofs.BucketsNext.{next_of_longer}
use Rattle.names.proofs.name_map.buckets.next_in_short.Goals as goal

pub returns-in-Some-of : goal.returns-in-Some-of
returns-in-Some-of c =
    let name = of_some c.of.result c.as_slice.result.now c.in-Some.bucket.now c.in-Some-of.name c.of.ensures c.as_slice.ensures c.in-Some-of.is in
    rw (c.in-Some.is) (c.next-in-Some-of.ensures ∙ ap (λ (b : List ℕ). next_entry bucket_key_cmp (Some (b, c.in-Some.key.now)) c.args.short.now.entries) name.1)

pub returns-in-None : goal.returns-in-None
returns-in-None c =
    rw (c.in-Some.is)
    (c.first_of_behind.ensures
    ∙ ap (λ (b : List ℕ). first_of_buckets_behind b c.args.short.now.entries) (c.prefix_of.ensures ∙ ap (take 15) c.as_slice-in-None.ensures)
    ∙ next_of_longer c.in-Some.bucket.now c.in-Some.key.now c.args.short.now.entries (of_none c.of.result c.as_slice.result.now c.in-Some.bucket.now c.of.ensures c.as_slice.ensures c.in-None.is) c.requires)
