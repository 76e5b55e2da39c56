-- What a vnode in hand makes of a copy that it prepared; and that a plan is there where a command is prepared.
use Rattle.std.proofs.Common.{◌≡◌, true, refl, sym, subst}
use Rattle.std.specs.Prelude.{Option, Some, None, IsSome, IfSome, is_some}
use Rattle.riak_msgs.specs.Contents.{Content}
use Rattle.sibling_register.specs.Answers.{RegisterAsk as Command, AskPut, AskDel, AskReap}
use Rattle.actor_epoch.specs.Given.{Context}
use Rattle.vnode_machine.specs.Copying.{is_stuck}
use Rattle.vnode_machine.specs.Machine.{State}
use Rattle.vnode_machine.specs.Sound.{IsSound}
use Rattle.vnode_machine.specs.Asks.{put_command, del_command}
use Rattle.vnode_machine.specs.Step.{MachineOutcome, Refused, Answered, Accepted, outcome}
use Rattle.vnode_machine.proofs.Copying.{sound-copy}
use Rattle.vnode_machine.proofs.Formed.{sound-next}
use Rattle.vnode_core.specs.declared.ask.Ask.{Ask}
use Rattle.vnode_core.specs.declared.ask.Ask.TheVariants.{Put, Del, Reap, ReapFirst, Copy, Close}
use Rattle.vnode_core.specs.declared.ask.Answer.{Answer}
use Rattle.vnode_core.specs.Plans.{View, IsAcceptedStep, AcceptsOpen, IsPrepared, StepsOpen}
use Rattle.node_steps.specs.Hands.{command_of, plan_by, plan_of}
use Rattle.node_steps.specs.CopyHands.{copied_by, IsCopy}
use Rattle.node_steps.proofs.Planning.{Finishes}
use Rattle.std.proofs.lemmas.Bool.{not-true as unstuck}

-- what the copy makes
pub makes_copy : (old : State Content) (change : Ask) (answer : Answer) (new : State Content) → IsCopy change → StepsOpen old change answer new → new ≡ copied_by old change
makes_copy old (Put put) answer new is steps = absurd is
makes_copy old (Del del) answer new is steps = absurd is
makes_copy old (Reap key) answer new is steps = absurd is
makes_copy old (ReapFirst from) answer new is steps = absurd is
makes_copy old (Copy copy) answer new is steps = steps.2
makes_copy old (Close number) answer new is steps = absurd is

-- it stays sound, and has its id
pub keeps_named : (old : State Content) (change : Ask) → (copied_by old change).vnode ≡ old.vnode
keeps_named old (Put put) = refl
keeps_named old (Del del) = refl
keeps_named old (Reap key) = refl
keeps_named old (ReapFirst from) = refl
keeps_named old (Copy copy) = refl
keeps_named old (Close number) = refl

pub keeps_sound : (old : State Content) (change : Ask) (answer : Answer) (new : State Content) → IsCopy change → StepsOpen old change answer new → IsSound old → IsSound new
keeps_sound old (Put put) answer new is steps sound = absurd is
keeps_sound old (Del del) answer new is steps sound = absurd is
keeps_sound old (Reap key) answer new is steps sound = absurd is
keeps_sound old (ReapFirst from) answer new is steps sound = absurd is
keeps_sound old (Copy copy) answer new is steps sound =
    subst IsSound (sym steps.2) (sound-copy old sound copy.key copy.clock steps.1.0 (unstuck (is_stuck old copy.key copy.clock) steps.1.1))
keeps_sound old (Close number) answer new is steps sound = absurd is

nothing : IsSome {T = Command Content Context} None → ⊥
nothing s = cc

-- so does a command
pub still_sound : (old : State Content) (answer : Answer) (new : State Content) (made : Option (Command Content Context)) → IsSome made
    → IfSome made (λ command. Finishes (outcome old command) answer new) → IsSound old → IsSound new
still_sound old answer new None s f sound = absurd (nothing s)
still_sound old answer new (Some command) s f sound = sound-next old sound command f.operation f.response new f.comes

accepted-some : (o : MachineOutcome) → IsAcceptedStep o → true ≡ is_some (plan_by o)
accepted-some (Refused number) a = absurd a
accepted-some (Answered response) a = absurd a
accepted-some (Accepted operation response next) a = refl

-- the plan of a command that is prepared
pub plan-there : (vnode : View) (change : Option Ask) → IfSome change (λ ask. IsSome (command_of ask) × IsPrepared vnode ask ask) → is_some change ≡ is_some (plan_of vnode.state change)
plan-there vnode None h = refl
plan-there vnode (Some ask) h = by ask h.0 h.1.accepted.1
  where
    by : (ask : Ask) → IsSome (command_of ask) → AcceptsOpen vnode.state ask → true ≡ is_some (plan_of vnode.state (Some ask))
    by (Put put) s a = accepted-some (outcome vnode.state (AskPut (put_command put))) a
    by (Del del) s a = accepted-some (outcome vnode.state (AskDel (del_command del))) a
    by (Reap key) s a = accepted-some (outcome vnode.state (AskReap key)) a
    by (ReapFirst from) s a = absurd (nothing s)
    by (Copy copy) s a = absurd (nothing s)
    by (Close number) s a = absurd (nothing s)
