use Rattle.std.proofs.Common.{◌≡◌, ◌-◌, length, take, true}
use Rattle.std.specs.List.{list_all}
use Rattle.schedule_text.specs.Digits.{is_lower_digit}
use Rattle.schedule_text.proofs.message.is_hex.Given as goal

abbrev pub invariant-loop-at : goal.invariant-loop-at
invariant-loop-at l = list_all is_lower_digit (take l.at l.text) ≡ true

abbrev pub decreases-loop-at : goal.decreases-loop-at
decreases-loop-at l = length l.text - l.at
