use Rattle.handoff_tracks.proofs.Joining.{all_joined}
use Rattle.handoff_tracks.proofs.laws.known_hand_offs_join.Goals as goal

pub returns : goal.returns
returns c = all_joined
