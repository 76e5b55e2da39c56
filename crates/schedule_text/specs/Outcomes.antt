-- The line that a step's outcome is written as.
use Rattle.std.specs.Prelude.{ℕ, List, [], ◌∷◌, ◌++◌, codes, decimal}
use Rattle.hex.specs.Hex.{encode_lower}
use Rattle.riak_msgs.specs.declared.reply.Reply.{Reply}
use Rattle.riak_msgs.specs.Replies.{reply_code, reply_body}
use Rattle.schedule_text.specs.declared.outcome.LineOutcome.{LineOutcome}
use Rattle.schedule_text.specs.declared.outcome.LineOutcome.TheVariants as outcomes

-- a reply's code and body in lower-case hexadecimal
abbrev pub reply_text : Reply → List ℕ
reply_text reply = encode_lower (reply_code reply ∷ reply_body reply)

-- how many keys are left, in decimal
abbrev pub left_text : ℕ → List ℕ
left_text keys = codes "left " ++ decimal keys

-- what a line says of an outcome
abbrev pub outcome_text : LineOutcome → List ℕ
outcome_text outcomes.No = codes "no"
outcome_text outcomes.Done = codes "ok"
outcome_text (outcomes.Reply reply) = codes "reply " ++ reply_text reply.now
outcome_text outcomes.Reaped = codes "reaped"
outcome_text outcomes.Kept = codes "kept"
outcome_text outcomes.Copied = codes "copied"
outcome_text outcomes.Stuck = codes "stuck"
outcome_text outcomes.Elsewhere = codes "elsewhere"
outcome_text (outcomes.Left keys) = left_text keys

-- the line: its number in decimal, a space, the outcome, and a line feed
abbrev pub outcome_line : ℕ → LineOutcome → List ℕ
outcome_line number outcome = decimal number ++ 32 ∷ (outcome_text outcome ++ 10 ∷ [])
