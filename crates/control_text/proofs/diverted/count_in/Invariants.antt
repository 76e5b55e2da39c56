use Rattle.std.proofs.Common.{◌≡◌, ◌≤◌, ◌+◌, drop}
use Rattle.control_text.specs.Diverted.{count_diverted}
use Rattle.control_text.proofs.diverted.count_in.Given as goal

abbrev pub invariant-loop-began : goal.invariant-loop-began
invariant-loop-began l = (l.count ≤ l.began-index) × (count_diverted l.begun ≡ l.count + count_diverted (drop l.began-index l.begun))
