-- What holds of a sound state, and that each ask that is accepted keeps it so.
use Rattle.std.proofs.Common.{◌≡◌, Bool, true, false, not, refl, sym, ◌∙◌, ap, subst}
use Rattle.std.specs.Prelude.{Option, Some, None, IsTrue, Ok}
use Rattle.std.specs.Option.{option_map_or}
use Rattle.riak_msgs.specs.declared.Key.{Key}
use Rattle.riak_msgs.specs.Contents.{Content}
use Rattle.sibling_register.specs.History.{Write, Reap as Forget}
use Rattle.riak_msgs.specs.declared.PutReply.{PutReply}
use Rattle.sibling_register.specs.Answers.{RegisterAsk as Command, AskPut, AskDel, AskReap}
use Rattle.actor_epoch.specs.Contexts.{is_well_formed}
use Rattle.actor_epoch.specs.Given.{Context}
use Rattle.vnode_machine.specs.Dead.{first_dead}
use Rattle.vnode_machine.specs.Asks.{put_command, del_command}
use Rattle.vnode_machine.specs.Machine.{State, Stored, stored, clock_of}
use Rattle.vnode_machine.specs.Sound.{ArePairs, IsFormed, IsSound}
use Rattle.vnode_machine.specs.Copying.{is_stuck}
use Rattle.vnode_machine.specs.Step.{MachineOutcome, Answered, Accepted, PutDone, ReapDone, ReapKept, outcome}
use Rattle.vnode_machine.proofs.Copying.{sound-copy, sound-close}
use Rattle.vnode_machine.proofs.Forms.{form-whole}
use Rattle.vnode_machine.proofs.Formed.{known-pairs, sound-next}
use Rattle.vnode_machine.proofs.StepLaw.{step_is_registers}
use Rattle.vnode_core.specs.declared.ask.Ask.{Ask}
use Rattle.vnode_core.specs.declared.ask.Ask.TheVariants.{Put, Del, Reap, ReapFirst, Copy, Close}
use Rattle.vnode_core.specs.declared.ask.Answer.TheVariants as answers
use Rattle.vnode_core.specs.declared.ask.Answer.{Answer}
use Rattle.copy_laws.proofs.JointUpdates.{step_is_of_logs}
use Rattle.vnode_core.specs.Plans.{Registers, RegistersPlan, RegistersStep, Steps}

same_reply : (reply other : PutReply) → answers.Put reply ≡ answers.Put other → reply ≡ other
same_reply reply other h = cc

pub untrue : (b : Bool) → IsTrue (not b) → b ≡ false
untrue true h = cc
untrue false h = refl

module _ (state : State Content) (is : IsSound state) where
  -- what is stored is of the form
  pub of-form : (key : Key) (s : Stored Content) → stored state key ≡ Some s → is_well_formed s.clock.known ≡ true
  of-form key s h = form-whole s (subst IsFormed h (is.keys key))

  -- what is known of a key strictly rises, within the limits
  pub known-at : (key : Key) → ArePairs (clock_of state key).known
  known-at key = known-pairs (stored state key) (is.keys key)

  -- what comes of a command is the register's
  pub registers : (command : Command Content Context) (result : MachineOutcome) → outcome state command ≡ result → Registers state command result
  registers command result h =
      subst (λ r. Registers state command r) h (record { at_history = step_is_registers state command is.limits; at_log = step_is_of_logs state command })

  -- of what the vnode is asked, where it isn't refused
  pub registers-plan : (X : Type 0) (ask : Ask) (plan : X) → RegistersPlan {X = X} state ask (Ok plan)
  registers-plan X (Put put) plan = registers (AskPut (put_command put)) _ refl
  registers-plan X (Del del) plan = registers (AskDel (del_command del)) _ refl
  registers-plan X (Reap key) plan = registers (AskReap key) _ refl
  registers-plan X (ReapFirst from) plan = λ key first. registers (AskReap key) _ refl
  registers-plan X (Copy copy) plan = tt
  registers-plan X (Close number) plan = tt

  -- and where it is made
  pub registers-step : (ask : Ask) (answer : Answer) (next : State Content) → Steps state ask answer next → RegistersStep state ask answer next
  registers-step (Put put) answer next (opened, (reply, is_put, made)) = λ other is_other.
      registers (AskPut (put_command put)) _ (made ∙ ap (λ r. Accepted (Write put.content) (PutDone r) next) (same_reply reply other (sym is_put ∙ is_other)))
  registers-step (Del del) answer next (opened, (is_del, made)) = registers (AskDel (del_command del)) _ made
  registers-step (Reap key) answer next (opened, (is_gone, made)) = registers (AskReap key) _ made
  registers-step (ReapFirst from) answer next (opened, (is_gone, made)) = λ key first.
      registers (AskReap key) _ (ap (λ (o : Option Key). option_map_or (λ key. outcome state (AskReap key)) o (Answered ReapKept)) (sym first) ∙ made)
  registers-step (Copy copy) answer next h = tt
  registers-step (Close number) answer next h = tt

  pub sound-after : (ask : Ask) (answer : Answer) (next : State Content) → Steps state ask answer next → IsSound next
  sound-after (Put put) answer next (opened, (reply, is_put, made)) = sound-next state is (AskPut (put_command put)) _ _ next made
  sound-after (Del del) answer next (opened, (is_del, made)) = sound-next state is (AskDel (del_command del)) _ _ next made
  sound-after (Reap key) answer next (opened, (is_gone, made)) = sound-next state is (AskReap key) _ _ next made
  sound-after (ReapFirst from) answer next (opened, (is_gone, made)) = by (first_dead state from) made
    where
      by : (o : Option Key) → option_map_or (λ key. outcome state (AskReap key)) o (Answered ReapKept) ≡ Accepted Forget ReapDone next → IsSound next
      by None h = cc
      by (Some key) h = sound-next state is (AskReap key) _ _ next h
  sound-after (Copy copy) answer next (opened, (is_copied, (form, unstuck), made)) =
      subst IsSound (sym made) (sound-copy state is copy.key copy.clock form (untrue (is_stuck state copy.key copy.clock) unstuck))
  sound-after (Close number) answer next (opened, (is_closed, made)) = subst IsSound (sym made) (sound-close state is number)

pub registers-view : (state seen : State Content) → state ≡ seen → IsSound state → (command : Command Content Context) (result : MachineOutcome) → outcome state command ≡ result
    → Registers seen command result
registers-view state seen same is command result h = subst (λ s. Registers s command result) same (registers state is command result h)
