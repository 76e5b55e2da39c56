use Rattle.std.proofs.Common.{rules}
use Rattle.control_text.proofs.diverted.DivertedPartitions.none.Goals as goal

pub returns : goal.returns
returns c = record { none = c.in_ok-vec.ensures.items_if_clones_equal (search rules) }
