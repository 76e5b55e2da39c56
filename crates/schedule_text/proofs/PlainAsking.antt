-- What a plain register gives is what comes of the command.
use Rattle.std.proofs.Common.{◌≡◌, ℕ, subst}
use Rattle.riak_msgs.specs.Contents.{Content}
use Rattle.sibling_register.specs.declared.command.Command.{Command}
use Rattle.sibling_register.specs.Answers.{Told, RegisterOutcome, Answers, Accepts}
use Rattle.sibling_register.specs.Plain.{Follows, Gives}
use Rattle.schedule_text.specs.PlainAnswers.{PlainHistory, PlainRegisterAnswers, told_in, history_after}

by_outcome : (old new : PlainHistory) (told : Told ℕ) (outcome : RegisterOutcome Content ℕ) → Follows old outcome told new
    → (told ≡ told_in outcome) × (new ≡ history_after old outcome)
by_outcome old new told (Answers given) f = f
by_outcome old new told (Accepts event given) f = f

pub comes : (old new : PlainHistory) (command : Command Content) (told : Told ℕ) → Gives old command told new → PlainRegisterAnswers old command told new
comes old new command told g =
    subst (λ o. (told ≡ told_in o) × (new ≡ history_after old o)) g.exact (by_outcome old new told g.outcome g.follows)
