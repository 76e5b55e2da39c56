use Rattle.std.proofs.KnownBytes.{Appends-trans}
use Rattle.control_text.proofs.diverted.write_diverted.Goals as goal

pub returns : goal.returns
returns g c = Appends-trans _ _ _ _ _ c.in_ok-write.ensures.bytes (Appends-trans _ _ _ _ _ c.in_ok-write_partitions.ensures c.in_ok-writeln.ensures.bytes)
