use Rattle.std.proofs.Common.{◌≡◌, map, take}
use Rattle.schedule_text.specs.PlainAnswers.{sibling_shown}
use Rattle.schedule_text.proofs.reply_parts.siblings_shown.Given as goal

abbrev pub invariant-loop-number : goal.invariant-loop-number
invariant-loop-number l = l.shown.items ≡ map (sibling_shown l.register l.key l.is_bare) (take l.number-index l.numbers)
