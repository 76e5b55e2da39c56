use Rattle.pb_frame.proofs.Runs.{all_taken}
use Rattle.pb_frame.proofs.laws.none_left.Goals as goal

pub returns : goal.returns
returns c = all_taken
