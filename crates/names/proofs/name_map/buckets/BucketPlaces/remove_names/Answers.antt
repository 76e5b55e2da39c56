use Rattle.std.proofs.Common.{◌∙◌, sym}
use Rattle.std.specs.Prelude.{None}
use Rattle.names.proofs.Merged.{found_first, apart_first, set_first, merged_sorted}
use Rattle.names.proofs.Nested.{types_order}
use Rattle.names.proofs.MergedPlaces.{in_short, same_bucket}
use Rattle.names.proofs.name_map.buckets.BucketPlaces.remove_names.Goals as goal

pub invariant_of-self : goal.invariant_of-self
invariant_of-self c =
    apart_first types_order.inner_total in_short same_bucket c.self.inside.short.entries c.self.inside.long.entries c.remove_name.new.self.entries (c.args.bucket.now, c.args.key) None c.self.invariant c.remove_name.ensures.ordered c.requires.bucket c.remove_name.ensures.removed

pub returns-clause-place : goal.returns-clause-place
returns-clause-place c =
    rw (← c.self.view_is)
    (c.remove_name.ensures.place ∙ sym (found_first types_order.inner_total in_short same_bucket c.self.inside.short.entries c.self.inside.long.entries c.self.invariant (c.args.bucket.now, c.args.key) c.requires.bucket))

pub returns-clause-removed : goal.returns-clause-removed
returns-clause-removed c =
    rw (← c.self.view_is)
    (set_first types_order.inner_total in_short same_bucket c.self.inside.short.entries c.self.inside.long.entries c.remove_name.new.self.entries (c.args.bucket.now, c.args.key) None c.self.invariant c.remove_name.ensures.ordered c.requires.bucket c.remove_name.ensures.removed)

pub returns-clause-ordered : goal.returns-clause-ordered
returns-clause-ordered c = merged_sorted types_order.inner_total c.remove_name.new.self.entries c.self.inside.long.entries c.remove_name.ensures.ordered
