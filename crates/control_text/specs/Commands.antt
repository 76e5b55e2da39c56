-- Which line asks for which command.
use Rattle.std.specs.Prelude.{⊤, ◌≡◌, ℕ, ◌<◌, ◌≤◌, ◌^◌, ◌⊎◌, List, [], ◌∷◌, ◌++◌, Option, Some, None, codes, decimal}
use Rattle.control_text.specs.declared.command.OperatorCommand.{OperatorCommand}
use Rattle.control_text.specs.declared.command.OperatorCommand.TheVariants.{Help, Totals, Stats, Diverted, Divert, Copy, Return, Stop}

-- a command's text
abbrev pub command_text : OperatorCommand → List ℕ
command_text Help = codes "help"
command_text Totals = codes "totals"
command_text Stats = codes "stats"
command_text Diverted = codes "diverted"
command_text (Divert partition) = codes "divert " ++ decimal partition
command_text (Copy partition budget) = codes "copy " ++ decimal partition ++ 32 ∷ decimal budget
command_text (Return partition) = codes "return " ++ decimal partition
command_text Stop = codes "stop"

-- a partition's index has 16 bits
abbrev pub IsPartition : ℕ → Type 0
IsPartition partition = partition < 2 ^ 16

-- a budget is of one key at least, and has 32 bits
abbrev pub IsBudget : ℕ → Type 0
IsBudget budget = (1 ≤ budget) × (budget < 2 ^ 32)

-- the numbers of a command are in their ranges
abbrev pub IsInRange : OperatorCommand → Type 0
IsInRange Help = ⊤
IsInRange Totals = ⊤
IsInRange Stats = ⊤
IsInRange Diverted = ⊤
IsInRange (Divert partition) = IsPartition partition
IsInRange (Copy partition budget) = IsPartition partition × IsBudget budget
IsInRange (Return partition) = IsPartition partition
IsInRange Stop = ⊤

-- a line is a text, or the text and a carriage return (0d)
abbrev pub IsLineOf : List ℕ → List ℕ → Type 0
IsLineOf text line = (line ≡ text) ⊎ (line ≡ text ++ 13 ∷ [])

-- the line asks for this command
pub record AsksFor (line : List ℕ) (command : OperatorCommand) : Type 0 where
  pub text : IsLineOf (command_text command) line
  pub in_range : IsInRange command

-- a line is read as the command that it asks for, and as none where it asks for none
abbrev pub ReadsCommand : List ℕ → Option OperatorCommand → Type 0
ReadsCommand line (Some command) = AsksFor line command
ReadsCommand line None = (command : OperatorCommand) → ¬ (AsksFor line command)
