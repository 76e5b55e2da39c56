-- What comes of reading the text of a line.
use Rattle.std.proofs.Common.{◌≡◌, ℕ, ◌==◌, List, [], ◌∷◌, ◌++◌, ◌<◌, Option, Some, None, true, false, sym, ap, subst, ◌∙◌, refl, arith, codes, inl, inr}
use Rattle.std.specs.Prelude.{◌≢◌, ◌^◌, decimal}
use Rattle.std.specs.List.{list_all}
use Rattle.std.proofs.lemmas.Bool.{and_parts}
use Rattle.std.proofs.lemmas.List.{append_cancel_left, append_cancel_right}
use Rattle.std.proofs.lemmas.List.Folds.{list_all-append}
use Rattle.control_text.specs.declared.command.OperatorCommand.{OperatorCommand}
use Rattle.control_text.specs.declared.command.OperatorCommand.TheVariants.{Help, Totals, Stats, Diverted, Divert, Copy, Return, Stop}
use Rattle.control_text.specs.Answers.{is_printable, IsOneLine}
use Rattle.control_text.specs.Commands.{command_text, IsPartition, IsBudget, IsInRange, IsLineOf, ReadsCommand}
use Rattle.control_text.specs.Reading.{ReadsText, ReadsBehind}
use Rattle.control_text.proofs.OneLine.{command_line}

-- the numbers of a command have 64 bits
pub partition-small : (partition : ℕ) → IsPartition partition → partition < 2 ^ 64
partition-small partition is = omega (arith, is)

pub budget-small : (budget : ℕ) → IsBudget budget → budget < 2 ^ 64
budget-small budget is =
    let top = is.1 in
    omega (arith, top)

-- the first of a list
abbrev pub head_or : ℕ → List ℕ → ℕ
head_or other [] = other
head_or other (x ∷ xs) = x

-- a text with a carriage return behind it is no command's
pub not_returned : (command : OperatorCommand) (text : List ℕ) → IsInRange command → command_text command ≢ text ++ 13 ∷ []
not_returned command text is e =
    let one : list_all is_printable (text ++ 13 ∷ []) ≡ true = subst IsOneLine e (command_line command is) in
    let parts = and_parts (list_all is_printable text) (list_all is_printable (13 ∷ [])) (sym (list_all-append is_printable text (13 ∷ [])) ∙ one) in
    let unlike : false ≡ true = parts.1 in
    cc unlike

-- a line that ends in a carriage return is read as what stands before it
pub returned_read : (line text : List ℕ) (r : Option OperatorCommand) → line ≡ text ++ 13 ∷ [] → ReadsText text r → ReadsCommand line r
returned_read line text (Some command) whole reads = record {
  text = inr (whole ∙ ap (λ t. t ++ 13 ∷ []) reads.whole);
  in_range = reads.in_range;
}
returned_read line text None whole reads = λ command asks. by command asks.in_range asks.text
  where
    by : (command : OperatorCommand) → IsInRange command → ¬ (IsLineOf (command_text command) line)
    by command is (inl e) = not_returned command text is (sym e ∙ whole)
    by command is (inr e) =
        reads command (record { whole = append_cancel_right text (command_text command) (13 ∷ []) (sym whole ∙ e); in_range = is })

-- a text that begins otherwise than a command's is not its
pub unlike : (x y : ℕ) (xs ys : List ℕ) → (x == y) ≡ false → x ∷ xs ≢ y ∷ ys
unlike x y xs ys other e =
    let same : x ≡ y = ap (head_or 0) e in
    grind (arith)

-- the text behind `copy ` is no two numbers
pub copy_refused : (operands : List ℕ)
    → ((partition budget : ℕ) → IsPartition partition → IsBudget budget → operands ≢ decimal partition ++ 32 ∷ decimal budget)
    → ReadsBehind (codes "copy ") operands None
copy_refused operands none = λ command is. by command is.in_range is.whole
  where
    by : (command : OperatorCommand) → IsInRange command → codes "copy " ++ operands ≢ command_text command
    by Help is e = unlike 99 104 _ _ refl e
    by Totals is e = unlike 99 116 _ _ refl e
    by Stats is e = unlike 99 115 _ _ refl e
    by Diverted is e = unlike 99 100 _ _ refl e
    by (Divert partition) is e = unlike 99 100 _ _ refl e
    by (Copy partition budget) is e =
        none partition budget is.0 is.1 (append_cancel_left (codes "copy ") operands (decimal partition ++ 32 ∷ decimal budget) e)
    by (Return partition) is e = unlike 99 114 _ _ refl e
    by Stop is e = unlike 99 115 _ _ refl e
