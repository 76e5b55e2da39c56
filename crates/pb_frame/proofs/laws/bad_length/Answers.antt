use Rattle.pb_frame.proofs.Runs.{fault_behind}
use Rattle.pb_frame.proofs.laws.bad_length.Goals as goal

pub returns : goal.returns
returns c = fault_behind
