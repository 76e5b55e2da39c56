use Rattle.std.proofs.Common.{◌≡◌, ◌%◌, ◌^◌, ◌≤◌, take, length}
use Rattle.wire_varint.specs.Varint.{groups_from, GoesOn}
use Rattle.wire_varint.proofs.reading.read_groups.Given as goal

abbrev pub invariant-loop-i : goal.invariant-loop-i
invariant-loop-i l = record {
  within : l.i ≤ length l.bytes;
  value_so_far : l.value ≡ groups_from 0 (take l.i l.bytes) % 2 ^ 64;
  weight_now : l.weight ≡ 128 ^ l.i % 2 ^ 64;
  all_high : GoesOn l.bytes l.i;
}
