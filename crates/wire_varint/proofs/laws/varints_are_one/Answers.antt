use Rattle.wire_varint.proofs.Encoding.{IsVarint-unique}
use Rattle.wire_varint.proofs.laws.varints_are_one.Goals as goal

pub returns : goal.returns
returns c = IsVarint-unique
