use Rattle.wire_varint.proofs.Encoding.{length-encoding}
use Rattle.wire_varint.proofs.writing.len.Goals as goal

pub returns-clause-encoded : goal.returns-clause-encoded
returns-clause-encoded c = length-encoding c.args.value c.groups.result c.ranges.value.fits c.groups.ensures.fewest
