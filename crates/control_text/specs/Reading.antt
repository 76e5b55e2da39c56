-- What comes of reading the parts of a line.
use Rattle.std.specs.Prelude.{◌≡◌, ◌≢◌, ℕ, ◌<◌, ◌^◌, List, ◌++◌, Option, Some, None, codes, decimal}
use Rattle.control_text.specs.declared.command.OperatorCommand.{OperatorCommand}
use Rattle.control_text.specs.Commands.{command_text, IsInRange}

-- the number below 2 to the 32 that a text writes in decimal without leading zeros
abbrev pub ReadsDecimal : List ℕ → Option ℕ → Type 0
ReadsDecimal text (Some number) = text ≡ decimal number
ReadsDecimal text None = (number : ℕ) → number < 2 ^ 32 → text ≢ decimal number

-- the number of a kind that a text writes
abbrev pub ReadsNumber : (ℕ → Type 0) → List ℕ → Option ℕ → Type 0
ReadsNumber Is text (Some number) = (text ≡ decimal number) × Is number
ReadsNumber Is text None = (number : ℕ) → Is number → text ≢ decimal number

-- the text is this command's
pub record IsTextOf (text : List ℕ) (command : OperatorCommand) : Type 0 where
  pub whole : text ≡ command_text command
  pub in_range : IsInRange command

-- a text is read as the command whose it is, and as none where it is no command's
abbrev pub ReadsText : List ℕ → Option OperatorCommand → Type 0
ReadsText text (Some command) = IsTextOf text command
ReadsText text None = (command : OperatorCommand) → ¬ (IsTextOf text command)

-- the same of what stands behind a word and its space
abbrev pub ReadsBehind : List ℕ → List ℕ → Option OperatorCommand → Type 0
ReadsBehind word operands result = ReadsText (word ++ operands) result

-- the same of the commands without a number
abbrev pub NamesAlone : List ℕ → Option OperatorCommand → Type 0
NamesAlone text (Some command) = (command_text command ≡ text) × IsInRange command
NamesAlone text None = (codes "help" ≢ text) × (codes "totals" ≢ text) × (codes "stats" ≢ text) × (codes "diverted" ≢ text) × (codes "stop" ≢ text)
