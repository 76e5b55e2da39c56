-- A line asks for one command.
use Rattle.std.proofs.Common.{◌≡◌, ℕ, List, [], ◌∷◌, ◌++◌, refl, sym, ap, ◌∙◌, arith, codes, inl, inr}
use Rattle.std.specs.Prelude.{decimal}
use Rattle.std.proofs.lemmas.Fmt.{decimal_injective}
use Rattle.std.proofs.lemmas.List.{append_cancel_left, append_cancel_right}
use Rattle.control_text.specs.declared.command.OperatorCommand.{OperatorCommand}
use Rattle.control_text.specs.declared.command.OperatorCommand.TheVariants.{Help, Totals, Stats, Diverted, Divert, Copy, Return, Stop}
use Rattle.control_text.specs.Commands.{command_text, IsPartition, IsInRange, IsLineOf, AsksFor}
use Rattle.control_text.proofs.Texts.{head_or, partition-small, budget-small, not_returned, unlike}
use Rattle.control_text.proofs.Numbers.{numbers_once}

-- two numbers of one text
partition_once : (p q : ℕ) → IsPartition p → IsPartition q → decimal p ≡ decimal q → p ≡ q
partition_once p q small less e = decimal_injective p q (omega (arith, small)) (omega (arith, less)) e

-- the first letter of a command's text
abbrev letter : OperatorCommand → ℕ
letter Help = 104
letter Totals = 116
letter Stats = 115
letter Diverted = 100
letter (Divert partition) = 100
letter (Copy partition budget) = 99
letter (Return partition) = 114
letter Stop = 115

first_letter : (command : OperatorCommand) → head_or 0 (command_text command) ≡ letter command
first_letter Help = refl
first_letter Totals = refl
first_letter Stats = refl
first_letter Diverted = refl
first_letter (Divert partition) = refl
first_letter (Copy partition budget) = refl
first_letter (Return partition) = refl
first_letter Stop = refl

-- two commands of one first letter and one text
same_letter : (a b : OperatorCommand) → letter a ≡ letter b → IsInRange a → IsInRange b → command_text a ≡ command_text b → a ≡ b
same_letter Help Help first small less e = refl
same_letter Help Totals first small less e = absurd (omega arith)
same_letter Help Stats first small less e = absurd (omega arith)
same_letter Help Diverted first small less e = absurd (omega arith)
same_letter Help (Divert q) first small less e = absurd (omega arith)
same_letter Help (Copy q c) first small less e = absurd (omega arith)
same_letter Help (Return q) first small less e = absurd (omega arith)
same_letter Help Stop first small less e = absurd (omega arith)
same_letter Totals Help first small less e = absurd (omega arith)
same_letter Totals Totals first small less e = refl
same_letter Totals Stats first small less e = absurd (omega arith)
same_letter Totals Diverted first small less e = absurd (omega arith)
same_letter Totals (Divert q) first small less e = absurd (omega arith)
same_letter Totals (Copy q c) first small less e = absurd (omega arith)
same_letter Totals (Return q) first small less e = absurd (omega arith)
same_letter Totals Stop first small less e = absurd (omega arith)
same_letter Stats Help first small less e = absurd (omega arith)
same_letter Stats Totals first small less e = absurd (omega arith)
same_letter Stats Stats first small less e = refl
same_letter Stats Diverted first small less e = absurd (omega arith)
same_letter Stats (Divert q) first small less e = absurd (omega arith)
same_letter Stats (Copy q c) first small less e = absurd (omega arith)
same_letter Stats (Return q) first small less e = absurd (omega arith)
same_letter Stats Stop first small less e = absurd (unlike 97 111 _ _ refl (append_cancel_left (codes "st") (codes "ats") (codes "op") e))
same_letter Diverted Help first small less e = absurd (omega arith)
same_letter Diverted Totals first small less e = absurd (omega arith)
same_letter Diverted Stats first small less e = absurd (omega arith)
same_letter Diverted Diverted first small less e = refl
same_letter Diverted (Divert q) first small less e = absurd (unlike 101 32 _ _ refl (append_cancel_left (codes "divert") (codes "ed") (32 ∷ decimal q) e))
same_letter Diverted (Copy q c) first small less e = absurd (omega arith)
same_letter Diverted (Return q) first small less e = absurd (omega arith)
same_letter Diverted Stop first small less e = absurd (omega arith)
same_letter (Divert p) Help first small less e = absurd (omega arith)
same_letter (Divert p) Totals first small less e = absurd (omega arith)
same_letter (Divert p) Stats first small less e = absurd (omega arith)
same_letter (Divert p) Diverted first small less e = absurd (unlike 32 101 _ _ refl (append_cancel_left (codes "divert") (32 ∷ decimal p) (codes "ed") e))
same_letter (Divert p) (Divert q) first small less e =
    ap Divert (partition_once p q small less (append_cancel_left (codes "divert ") (decimal p) (decimal q) e))
same_letter (Divert p) (Copy q c) first small less e = absurd (omega arith)
same_letter (Divert p) (Return q) first small less e = absurd (omega arith)
same_letter (Divert p) Stop first small less e = absurd (omega arith)
same_letter (Copy p b) Help first small less e = absurd (omega arith)
same_letter (Copy p b) Totals first small less e = absurd (omega arith)
same_letter (Copy p b) Stats first small less e = absurd (omega arith)
same_letter (Copy p b) Diverted first small less e = absurd (omega arith)
same_letter (Copy p b) (Divert q) first small less e = absurd (omega arith)
same_letter (Copy p b) (Copy q c) first small less e =
    let operands = append_cancel_left (codes "copy ") (decimal p ++ 32 ∷ decimal b) (decimal q ++ 32 ∷ decimal c) e in
    let once = numbers_once p b q c (partition-small p small.0) (budget-small b small.1) (partition-small q less.0) (budget-small c less.1) operands in
    rw (once.0, once.1) refl
same_letter (Copy p b) (Return q) first small less e = absurd (omega arith)
same_letter (Copy p b) Stop first small less e = absurd (omega arith)
same_letter (Return p) Help first small less e = absurd (omega arith)
same_letter (Return p) Totals first small less e = absurd (omega arith)
same_letter (Return p) Stats first small less e = absurd (omega arith)
same_letter (Return p) Diverted first small less e = absurd (omega arith)
same_letter (Return p) (Divert q) first small less e = absurd (omega arith)
same_letter (Return p) (Copy q c) first small less e = absurd (omega arith)
same_letter (Return p) (Return q) first small less e =
    ap Return (partition_once p q small less (append_cancel_left (codes "return ") (decimal p) (decimal q) e))
same_letter (Return p) Stop first small less e = absurd (omega arith)
same_letter Stop Help first small less e = absurd (omega arith)
same_letter Stop Totals first small less e = absurd (omega arith)
same_letter Stop Stats first small less e = absurd (unlike 111 97 _ _ refl (append_cancel_left (codes "st") (codes "op") (codes "ats") e))
same_letter Stop Diverted first small less e = absurd (omega arith)
same_letter Stop (Divert q) first small less e = absurd (omega arith)
same_letter Stop (Copy q c) first small less e = absurd (omega arith)
same_letter Stop (Return q) first small less e = absurd (omega arith)
same_letter Stop Stop first small less e = refl

-- a text is of one command
text_once : (a b : OperatorCommand) → IsInRange a → IsInRange b → command_text a ≡ command_text b → a ≡ b
text_once a b small less e = same_letter a b (sym (first_letter a) ∙ ap (head_or 0) e ∙ first_letter b) small less e

-- two texts of one line
line_once : (line : List ℕ) (a b : OperatorCommand) → IsInRange a → IsInRange b → IsLineOf (command_text a) line
    → IsLineOf (command_text b) line → command_text a ≡ command_text b
line_once line a b small less (inl e) (inl f) = sym e ∙ f
line_once line a b small less (inl e) (inr f) = absurd (not_returned a (command_text b) small (sym e ∙ f))
line_once line a b small less (inr e) (inl f) = absurd (not_returned b (command_text a) less (sym f ∙ e))
line_once line a b small less (inr e) (inr f) = append_cancel_right (command_text a) (command_text b) (13 ∷ []) (sym e ∙ f)

pub one_command : (line : List ℕ) (a b : OperatorCommand) → AsksFor line a → AsksFor line b → a ≡ b
one_command line a b x y = text_once a b x.in_range y.in_range (line_once line a b x.in_range y.in_range x.text y.text)
