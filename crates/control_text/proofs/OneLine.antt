-- The text of a command, and of an answer, is on one line, of printable ASCII.
use Rattle.std.proofs.Common.{◌≡◌, ℕ, List, [], ◌∷◌, ◌++◌, Bool, true, false, ◌<◌, refl, ◌∙◌, arith, codes}
use Rattle.std.specs.Prelude.{◌^◌, decimal}
use Rattle.std.specs.Char.{digit_value}
use Rattle.std.specs.Str.Parse.{AllDigits}
use Rattle.std.proofs.lemmas.Fmt.{decimal_is_IsNumeral}
use Rattle.std.proofs.lemmas.List.Folds.{list_all-append}
use Rattle.std.proofs.lemmas.Str.Parse.{digit_from_value}
use Rattle.control_text.specs.declared.command.OperatorCommand.{OperatorCommand}
use Rattle.control_text.specs.declared.command.OperatorCommand.TheVariants.{Help, Totals, Stats, Diverted, Divert, Copy, Return, Stop}
use Rattle.control_text.specs.declared.refusal.OperatorRefusal.{OperatorRefusal}
use Rattle.control_text.specs.declared.mistake.Word.{Word}
use Rattle.control_text.specs.declared.mistake.Word.TheVariants as words
use Rattle.control_text.specs.declared.mistake.Mistake.{Mistake}
use Rattle.control_text.specs.declared.mistake.Mistake.TheVariants.{NoSuchCommand, BlankBehind, Operands}
use Rattle.control_text.specs.declared.refusal.OperatorRefusal.TheVariants.{BadLine, LongLine, NoPartition, AlreadyDiverted, NotDiverted, LeftOver, NoMemory, GateStopped}
use Rattle.control_text.specs.declared.answer.OperatorAnswer.{OperatorAnswer}
use Rattle.control_text.specs.declared.answer.OperatorAnswer.TheVariants.{Diverted, Copied, Returned, Refused}
use Rattle.control_text.specs.Commands.{command_text, IsInRange}
use Rattle.control_text.specs.Answers.{usage_text, mistake_text, refusal_text, rest_word, answer_text, is_printable, IsOneLine, RefusalIsInRange, AnswerIsInRange}

-- digits are printable
digit_printable : (c : ℕ) → digit_value c < 10 → is_printable c ≡ true
digit_printable c is =
    let range = digit_from_value c is in
    grind (arith)

digits_line : (ds : List ℕ) → AllDigits 10 ds → IsOneLine ds
digits_line [] all = refl
digits_line (d ∷ ds) all = rw (digit_printable d all.0, digits_line ds all.1) refl

number_line : (n : ℕ) → n < 2 ^ 64 → IsOneLine (decimal n)
number_line n small = digits_line (decimal n) (decimal_is_IsNumeral n small).0.1

-- two texts on one line
both : (xs ys : List ℕ) → IsOneLine xs → IsOneLine ys → IsOneLine (xs ++ ys)
both xs ys left right = list_all-append is_printable xs ys ∙ rw (left, right) refl

-- words and a partition's index behind them, and more words behind it
numbered : (words : List ℕ) (partition : ℕ) → IsOneLine words → partition < 2 ^ 16 → IsOneLine (words ++ decimal partition)
numbered words partition is small = both words (decimal partition) is (number_line partition (omega (arith, small)))

about : (words : List ℕ) (partition : ℕ) (what : List ℕ) → IsOneLine words → IsOneLine what → partition < 2 ^ 16
    → IsOneLine (words ++ decimal partition ++ what)
about words partition what is then small = both (words ++ decimal partition) what (numbered words partition is small) then

pub command_line : (command : OperatorCommand) → IsInRange command → IsOneLine (command_text command)
command_line Help is = refl
command_line Totals is = refl
command_line Stats is = refl
command_line Diverted is = refl
command_line (Divert partition) is = numbered (codes "divert ") partition refl is
command_line (Copy partition budget) is =
    let many = is.1.1 in
    about (codes "copy ") partition (32 ∷ decimal budget) refl (both (codes " ") (decimal budget) refl (number_line budget (omega (arith, many)))) is.0
command_line (Return partition) is = numbered (codes "return ") partition refl is
command_line Stop is = refl

usage_line : (word : Word) → IsOneLine (usage_text word)
usage_line words.Help = refl
usage_line words.Totals = refl
usage_line words.Stats = refl
usage_line words.Diverted = refl
usage_line words.Divert = refl
usage_line words.Copy = refl
usage_line words.Return = refl
usage_line words.Stop = refl

mistake_line : (mistake : Mistake) → IsOneLine (mistake_text mistake)
mistake_line NoSuchCommand = refl
mistake_line BlankBehind = refl
mistake_line (Operands word) = usage_line word

refusal_line : (refusal : OperatorRefusal) → RefusalIsInRange refusal → IsOneLine (refusal_text refusal)
refusal_line (BadLine mistake) is = both (codes "refused: ") (mistake_text mistake) refl (mistake_line mistake)
refusal_line LongLine is = refl
refusal_line (NoPartition partition) is = numbered (codes "refused: there is no partition ") partition refl is
refusal_line (AlreadyDiverted partition) is = about (codes "refused: partition ") partition (codes " is diverted already") refl refl is
refusal_line (NotDiverted partition) is = about (codes "refused: partition ") partition (codes " isn't diverted") refl refl is
refusal_line (LeftOver partition) is = about (codes "refused: partition ") partition (codes " has keys left to be copied") refl refl is
refusal_line NoMemory is = refl
refusal_line (GateStopped partition) is = about (codes "refused: partition ") partition (codes "'s gate has stopped") refl refl is

rest_line : (left : Bool) → IsOneLine (rest_word left)
rest_line true = refl
rest_line false = refl

pub answer_line : (answer : OperatorAnswer) → AnswerIsInRange answer → IsOneLine (answer_text answer)
answer_line (Diverted partition) is = numbered (codes "diverted ") partition refl is
answer_line (Copied partition keys left) is =
    let words = about (codes "copied ") partition (codes " keys ") refl refl is.0 in
    let counted = both (codes "copied " ++ decimal partition ++ codes " keys ") (decimal keys) words (number_line keys is.1) in
    both (codes "copied " ++ decimal partition ++ codes " keys " ++ decimal keys ++ codes " ") (rest_word left)
    (both (codes "copied " ++ decimal partition ++ codes " keys " ++ decimal keys) (codes " ") counted refl) (rest_line left)
answer_line (Returned partition) is = numbered (codes "returned ") partition refl is
answer_line (Refused refusal) is = refusal_line refusal is
