use Rattle.std.proofs.Common.{◌∙◌, refl}
use Rattle.vnode_core.specs.Left.{stored_of}
use Rattle.key_counts.specs.Stored.{is_dead}
use Rattle.key_counts.proofs.Sums.{same-counts}
use Rattle.key_counts.proofs.Walks.{one-capped}
use Rattle.key_counts.proofs.counts.count_key.Goals as goal

pub returns : goal.returns
returns c = same-counts _ _ refl c.count_siblings.ensures (c.count_dead.ensures ∙ one-capped (is_dead (stored_of c.args.stored.now))) c.count_bytes.ensures
