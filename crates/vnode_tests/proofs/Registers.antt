-- What an answer did to a register, by the number of its events.
use Rattle.std.proofs.Common.{◌≡◌, ◌≢◌, ℕ, List, ◌∷◌, length, ap}
use Rattle.sibling_register.specs.declared.command.Command.{Command}
use Rattle.sibling_register.specs.History.{Event}
use Rattle.sibling_register.specs.Answers.{Told, RegisterOutcome, Answers, Accepts}
use Rattle.sibling_register.specs.Plain.{Follows, Gives}

module _ {V : Type 0} where
  -- where the number of events changed, it is one more
  pub followed_longer : (old new : List (Event V ℕ)) (outcome : RegisterOutcome V ℕ) (told : Told ℕ) → Follows old outcome told new → length new ≢ length old → (event : Event V ℕ) × (new ≡ event ∷ old)
  followed_longer old new (Answers given) told follows apart = absurd (apart (ap length follows.1))
  followed_longer old new (Accepts event given) told follows apart = (event, follows.1)

  pub given_longer : (old new : List (Event V ℕ)) (command : Command V) (told : Told ℕ) → Gives old command told new → length new ≢ length old → (event : Event V ℕ) × (new ≡ event ∷ old)
  given_longer old new command told gives = followed_longer old new gives.outcome told gives.follows
