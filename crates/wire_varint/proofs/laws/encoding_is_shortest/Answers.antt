use Rattle.wire_varint.proofs.Encoding.{encoding-is_varint, encoding-shortest}
use Rattle.wire_varint.proofs.laws.encoding_is_shortest.Goals as goal

pub returns-clause-varint : goal.returns-clause-varint
returns-clause-varint c = encoding-is_varint

pub returns-clause-shortest : goal.returns-clause-shortest
returns-clause-shortest c = encoding-shortest
