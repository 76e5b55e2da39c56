use Rattle.key_counts.proofs.Pieces.{counted_exactly}
use Rattle.key_counts.proofs.laws.unchanged_vnodes_are_counted_exactly.Goals as goal

pub returns : goal.returns
returns c = counted_exactly
