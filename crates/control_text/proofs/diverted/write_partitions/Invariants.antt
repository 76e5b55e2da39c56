use Rattle.std.proofs.Common.{◌≡◌, ℕ, List, ◌++◌, drop, codes}
use denote.Text.{Utf8}
use denote.Shadow.{shadow}
use Rattle.std.specs.Io.KnownBytes.{Appends}
use Rattle.control_text.specs.Diverted.{partitions_text}
use Rattle.control_text.proofs.diverted.write_partitions.Given as goal

abbrev pub invariant-loop-began : goal.invariant-loop-began
invariant-loop-began g l = (l.index ≡ l.began-index) × (done : List ℕ) × Appends (g.W.Write.contents l.initial.writer) (g.W.Write.contents l.writer) done
    × (done ++ partitions_text l.now l.began-index l.before (drop l.began-index l.begun) ≡ partitions_text l.now 0 (codes " ") l.begun) × shadow (Utf8 l.before)
