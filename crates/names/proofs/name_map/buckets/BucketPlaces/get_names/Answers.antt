use Rattle.std.proofs.Common.{◌∙◌, sym}
use Rattle.names.proofs.Merged.{found_first, merged_sorted}
use Rattle.names.proofs.Nested.{types_order}
use Rattle.names.proofs.MergedPlaces.{in_short, same_bucket}
use Rattle.names.proofs.name_map.buckets.BucketPlaces.get_names.Goals as goal

pub returns-clause-place : goal.returns-clause-place
returns-clause-place c =
    rw (← c.self.view_is)
    (c.get_name.ensures.place
    ∙ sym (found_first types_order.inner_total in_short same_bucket c.self.inside.short.entries c.self.inside.long.entries c.self.invariant (c.args.bucket.now, c.args.key) c.requires.bucket))

pub returns-clause-ordered : goal.returns-clause-ordered
returns-clause-ordered c = rw (← c.self.view_is) (merged_sorted types_order.inner_total c.self.inside.short.entries c.self.inside.long.entries c.self.invariant.first_ordered)
