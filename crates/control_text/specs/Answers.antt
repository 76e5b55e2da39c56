-- The lines of the answers.
use Rattle.std.specs.Prelude.{ℕ, List, ◌++◌, Bool, true, false, nat_le, ◌&&◌, ◌<◌, ◌^◌, ⊤, IsTrue, codes, decimal}
use Rattle.std.specs.List.{list_all}
use Rattle.control_text.specs.declared.refusal.OperatorRefusal.{OperatorRefusal}
use Rattle.control_text.specs.declared.mistake.Word.{Word}
use Rattle.control_text.specs.declared.mistake.Word.TheVariants as words
use Rattle.control_text.specs.declared.mistake.Mistake.{Mistake}
use Rattle.control_text.specs.declared.mistake.Mistake.TheVariants.{NoSuchCommand, BlankBehind, Operands}
use Rattle.control_text.specs.declared.refusal.OperatorRefusal.TheVariants.{BadLine, LongLine, NoPartition, AlreadyDiverted, NotDiverted, LeftOver, NoMemory, GateStopped}
use Rattle.control_text.specs.declared.answer.OperatorAnswer.{OperatorAnswer}
use Rattle.control_text.specs.declared.answer.OperatorAnswer.TheVariants.{Diverted, Copied, Returned, Refused}

-- what a word takes
abbrev pub usage_text : Word → List ℕ
usage_text words.Help = codes "help takes no number"
usage_text words.Totals = codes "totals takes no number"
usage_text words.Stats = codes "stats takes no number"
usage_text words.Diverted = codes "diverted takes no number"
usage_text words.Divert = codes "divert takes one number, a partition's, from 0 to 65535, as in: divert 3"
usage_text words.Copy = codes "copy takes two numbers, a partition's and how many keys, from 1 to 4294967295, as in: copy 3 100"
usage_text words.Return = codes "return takes one number, a partition's, from 0 to 65535, as in: return 3"
usage_text words.Stop = codes "stop takes no number"

-- a mistake in words
abbrev pub mistake_text : Mistake → List ℕ
mistake_text NoSuchCommand = codes "no such command; help lists them"
mistake_text BlankBehind = codes "a blank stands behind the last word"
mistake_text (Operands word) = usage_text word

-- a refusal in words
abbrev pub refusal_text : OperatorRefusal → List ℕ
refusal_text (BadLine mistake) = codes "refused: " ++ mistake_text mistake
refusal_text LongLine = codes "refused: the line has more than 64 bytes"
refusal_text (NoPartition partition) = codes "refused: there is no partition " ++ decimal partition
refusal_text (AlreadyDiverted partition) = codes "refused: partition " ++ decimal partition ++ codes " is diverted already"
refusal_text (NotDiverted partition) = codes "refused: partition " ++ decimal partition ++ codes " isn't diverted"
refusal_text (LeftOver partition) = codes "refused: partition " ++ decimal partition ++ codes " has keys left to be copied"
refusal_text NoMemory = codes "refused: no memory"
refusal_text (GateStopped partition) = codes "refused: partition " ++ decimal partition ++ codes "'s gate has stopped"

-- whether keys are left to be copied, in a word
abbrev pub rest_word : Bool → List ℕ
rest_word true = codes "left"
rest_word false = codes "whole"

-- an answer in words
abbrev pub answer_text : OperatorAnswer → List ℕ
answer_text (Diverted partition) = codes "diverted " ++ decimal partition
answer_text (Copied partition keys left) =
    codes "copied " ++ decimal partition ++ codes " keys " ++ decimal keys ++ codes " " ++ rest_word left
answer_text (Returned partition) = codes "returned " ++ decimal partition
answer_text (Refused refusal) = refusal_text refusal

-- the line of a refusal
abbrev pub refusal_line : OperatorRefusal → List ℕ
refusal_line refusal = refusal_text refusal ++ codes "\n"

-- the line of an answer
abbrev pub answer_line : OperatorAnswer → List ℕ
answer_line answer = answer_text answer ++ codes "\n"

-- the lines of the answer to `help`
abbrev pub help_lines : List ℕ
help_lines = codes "help           lists the commands\ntotals         what was done so far, and how much is stored\nstats          what was done by now, without a pause\ndiverted       which partitions are diverted, and for how long\ndivert 3       calls of partition 3 go to a fallback from now on\ncopy 3 100     at most 100 keys of partition 3 are copied back from its fallback\nreturn 3       calls of partition 3 go to its primary again, once all keys are copied\nstop           the node ends in order\n"

-- printable ASCII is from a space (20) to a tilde (7e)
abbrev pub is_printable : ℕ → Bool
is_printable byte = nat_le 32 byte && nat_le byte 126

-- a text of it is on one line
abbrev pub IsOneLine : List ℕ → Type 0
IsOneLine text = IsTrue (list_all is_printable text)

-- the numbers of a refusal are in their ranges
abbrev pub RefusalIsInRange : OperatorRefusal → Type 0
RefusalIsInRange (BadLine mistake) = ⊤
RefusalIsInRange LongLine = ⊤
RefusalIsInRange (NoPartition partition) = partition < 2 ^ 16
RefusalIsInRange (AlreadyDiverted partition) = partition < 2 ^ 16
RefusalIsInRange (NotDiverted partition) = partition < 2 ^ 16
RefusalIsInRange (LeftOver partition) = partition < 2 ^ 16
RefusalIsInRange NoMemory = ⊤
RefusalIsInRange (GateStopped partition) = partition < 2 ^ 16

-- the numbers of an answer are in their ranges
abbrev pub AnswerIsInRange : OperatorAnswer → Type 0
AnswerIsInRange (Diverted partition) = partition < 2 ^ 16
AnswerIsInRange (Copied partition keys left) = (partition < 2 ^ 16) × (keys < 2 ^ 64)
AnswerIsInRange (Returned partition) = partition < 2 ^ 16
AnswerIsInRange (Refused refusal) = RefusalIsInRange refusal
