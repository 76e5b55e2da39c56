use Rattle.pb_frame.proofs.Splitting.{split_of_bytes}
use Rattle.pb_frame.proofs.laws.every_stream.Goals as goal

pub returns : goal.returns
returns c = split_of_bytes
