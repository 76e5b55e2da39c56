use Rattle.std.proofs.Common.{arith, below_more}
use Rattle.wire_varint.proofs.Groups.{value_more, weight_more}
use Rattle.wire_varint.proofs.Encoding.{IsVarint-take}
use Rattle.wire_varint.proofs.reading.read_groups.Goals as goal

pub loop-i-preserved : goal.loop-i-preserved
loop-i-preserved c = record {
  within = omega arith;
  value_so_far = rw c.from-group.ensures (value_more _ _ _ _ c.if-i-bytes.false c.loop-i.invariant.value_so_far c.loop-i.invariant.weight_now);
  weight_now = weight_more _ _ c.loop-i.invariant.weight_now;
  all_high = below_more _ _ c.loop-i.invariant.all_high c.if-byte-lt128.false;
}

pub returns-then-byte-lt128-clause-varint : goal.returns-then-byte-lt128-clause-varint
returns-then-byte-lt128-clause-varint c =
    IsVarint-take c.args.bytes.now c.loop-i.i _ (omega arith) (omega arith) c.loop-i.invariant.all_high c.if-byte-lt128.true
    (rw c.from-group.ensures (value_more _ _ _ _ c.if-i-bytes.false c.loop-i.invariant.value_so_far c.loop-i.invariant.weight_now))
