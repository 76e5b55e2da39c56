use Rattle.std.proofs.Common.{◌∙◌}
use Rattle.names.proofs.BucketsNext.{first_behind_flat}
use Rattle.names.proofs.name_map.short_buckets.ShortBuckets.first_of_behind.Goals as goal

pub returns : goal.returns
returns c = rw (← c.self.view_is) (c.first_behind.ensures ∙ first_behind_flat c.args.after.now c.self.inside.buckets.entries)
