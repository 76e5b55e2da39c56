use Rattle.std.proofs.Common.{◌≡◌, ◌+◌, ◌-◌, ◌^◌, ◌<◌, ◌≤◌, length, drop}
use Rattle.wire_varint.specs.Varint.{encoding}
use Rattle.wire_varint.proofs.Encoding.{Completes}
use Rattle.wire_varint.proofs.writing.write.Given as goal

abbrev pub decreases-loop-rest : goal.decreases-loop-rest
decreases-loop-rest l = l.rest

abbrev pub invariant-loop-rest : goal.invariant-loop-rest
invariant-loop-rest l = record {
  room : length (encoding l.value) ≤ length l.out;
  within : l.used ≤ length l.out;
  few : l.used ≤ 9;
  fits : l.rest < 128 ^ (9 - l.used + 1);
  completes : Completes l.value l.used l.rest l.out;
  kept : drop l.used l.out ≡ drop l.used l.initial.out;
}
