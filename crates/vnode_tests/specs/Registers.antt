-- A plain register behind a gate: what of it is applied, and the events that its commands make.
use Rattle.std.specs.Prelude.{◌≡◌, Bool, true, false, List, [], ◌∷◌, ℕ, Option, Some}
use Rattle.sibling_register.specs.declared.command.Command.{Command}
use Rattle.sibling_register.specs.History.{Event}
use Rattle.sibling_register.specs.Answers.{Told}
use Rattle.sibling_register.specs.Plain.{Gives}

module _ {V : Type 0} where
  -- the history without its newest event
  abbrev pub before_newest : List (Event V ℕ) → List (Event V ℕ)
  before_newest [] = []
  before_newest (event ∷ history) = history

  -- what is applied of a history, which may be ahead by one event
  abbrev pub applied : Bool → List (Event V ℕ) → List (Event V ℕ)
  applied true history = before_newest history
  applied false history = history

-- the command is answered like this at the first history, and makes the one event by which the second is longer
pub record RegisterMakes {V : Type 0} (asked : Option (Command V)) (told : Told ℕ) (old new : List (Event V ℕ)) : Type 0 where
  pub command : Command V
  pub same : asked ≡ Some command
  pub gives : Gives old command told new
  pub event : Event V ℕ
  pub appended : new ≡ event ∷ old
