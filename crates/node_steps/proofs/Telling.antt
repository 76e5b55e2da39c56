-- What a reply at a partition's own site tells to a call of a key: what comes of the ask by the machine is what the register gives over the
-- numbers of all sides.
use Rattle.std.proofs.Common.{◌≡◌, ℕ, ◌<◌, Bool, true, false, cond, ◌∷◌, refl, sym, ◌∙◌, ap, subst}
use Rattle.std.specs.Prelude.{Some, None, Result, Ok, MatchBool}
use Rattle.riak_msgs.specs.declared.Key.{Key}
use Rattle.riak_msgs.specs.Contents.{Content}
use Rattle.sibling_register.specs.History.{Event, Operation, Write, Tombstone, Reap}
use Rattle.sibling_register.specs.Answers.{RegisterAsk, AskGet, AskPut, AskDel, AskReap, PutCommand, DelCommand}
use Rattle.actor_epoch.specs.Given.{Context}
use Rattle.vnode_machine.specs.Machine.{State, opening, holds_dead, apply_operation}
use Rattle.vnode_machine.specs.Registers.{key_of, context_in_ask}
use Rattle.vnode_machine.specs.Runs.{reply_of}
use Rattle.vnode_machine.specs.Step.{Response, GetDone, PutDone, ReapDone, ReapKept, MachineOutcome, Refused, Answered, Accepted, outcome as outcome_of_ask}
use Rattle.vnode_machine.proofs.Tests.{match-true, match-false}
use Rattle.copy_laws.specs.Copies.{Command}
use Rattle.copy_laws.specs.Sides.{Partition, siblings_at}
use Rattle.copy_laws.specs.Joining.{Log}
use Rattle.copy_laws.specs.CopyReplay.{state_with, primary_after}
use Rattle.copy_laws.specs.Diversions.{Course, primary_of, HappensTo}
use Rattle.copy_laws.specs.JointAnswers.{update_at, put_event_at, del_event_at, del_refusal_at, does_nothing_at, put_told_at, put_shown_at, IsNextAt, PutGivesAt, DelGivesAt, MayAsk}
use Rattle.node_steps.specs.World.{World, Call, call_at, id_at, last_epoch_at, log_at}
use Rattle.node_steps.specs.Steps.{event_at, Step, number_of, Replied, after, outcome}
use Rattle.node_steps.specs.Claims.{state_at, FallbacksTakeCommands}
use Rattle.node_steps.specs.Courses.{IsCourseOf, CallsMayBeAsked}
use Rattle.node_steps.specs.Told.{log_by, IsAcceptedAt, PutTold, DelTold, IsToldAt}
use Rattle.node_steps.specs.HandOffs.{AnswersAsRegister}
use Rattle.node_steps.proofs.Unmixed.{saw-course}
use Rattle.node_steps.proofs.Kept.{IsOrderly}
use Rattle.node_steps.proofs.CloseSteps.{some_back}
use Rattle.node_steps.proofs.Claiming.{replies_are_registers}

module _ (partition : Partition) (course : Course) (ids : partition.primary < partition.fallback) (key : Key) (happens : HappensTo partition key course) where
  abbrev log : Log
  log = primary_of partition course

  abbrev state : State Content
  state = primary_after partition log

  abbrev later_by : RegisterAsk Content Context → MachineOutcome → Log
  later_by ask came = log_by partition.primary partition.last_epoch log ask came

  -- an accepted command is the event that saw what it has to see
  logged : (ask : RegisterAsk Content Context) → key_of ask ≡ key → (operation made : Operation Content) → operation ≡ made
      → Command (event_at partition.primary partition.last_epoch log ask operation) ∷ log ≡ Command (update_at partition log (key_of ask) (context_in_ask ask) made) ∷ log
  logged ask of_key operation made e =
      let saw = saw-course partition ids course (key_of ask) (subst (λ k. HappensTo partition k course) (sym of_key) happens) (context_in_ask ask) operation in
      let event : event_at partition.primary partition.last_epoch log ask operation ≡ update_at partition log (key_of ask) (context_in_ask ask) operation =
      (λ i. record { key = key_of ask; operation = operation; context = context_in_ask ask; saw = saw i }) in
      ap (λ (x : Event Content Context). Command x ∷ log) (event ∙ ap (update_at partition log (key_of ask) (context_in_ask ask)) e)

  accepted-at : (event : Event Content Context) (next : State Content) (later : Log) → IsNextAt partition course event next → later ≡ Command event ∷ log → IsAcceptedAt partition log event later
  accepted-at event next later n e = record { log_is = e; siblings = ap (λ (l : Log). siblings_at partition l event.key) e ∙ n.siblings }

  told-put : (put : PutCommand Content Context) → put.key ≡ key → (came : MachineOutcome) → PutGivesAt partition course put came → PutTold partition log put (reply_of came) (later_by (AskPut put) came)
  told-put put of_key (Refused number) h = (h, refl)
  told-put put of_key (Answered response) h = absurd h
  told-put put of_key (Accepted operation response next) h =
      let e = logged (AskPut put) of_key operation (Write put.value) h.1 in (
        h.0,
        accepted-at (put_event_at partition log put) next (later_by (AskPut put) (Accepted operation response next)) h.2 e,
        h.3 ∙ ap (λ (l : Log). PutDone (put_shown_at partition l put.key (put_told_at partition l put))) (sym e),
      )

  told-del : (del : DelCommand Context) → del.key ≡ key → (came : MachineOutcome) → DelGivesAt partition course del came → DelTold partition log del (reply_of came) (later_by (AskDel del) came)
  told-del del of_key (Refused number) h = (h.0, h.1, refl)
  told-del del of_key (Answered response) h = (
    h.1,
    match-true (does_nothing_at partition log del) (log ≡ log) ((del_refusal_at partition log del ≡ None) × IsAcceptedAt partition log (del_event_at partition log del) log) h.0 refl,
  )
  told-del del of_key (Accepted operation response next) h =
      let e = logged (AskDel del) of_key operation Tombstone h.2 in
      let later : Log = later_by (AskDel del) (Accepted operation response next) in (
        h.4,
        match-false (does_nothing_at partition log del) (later ≡ log) ((del_refusal_at partition log del ≡ None) × IsAcceptedAt partition log (del_event_at partition log del) later) h.0
            (h.1, accepted-at (del_event_at partition log del) next later h.3 e),
      )

  -- a reap, by whether the key is dead
  abbrev reaps : Bool → MachineOutcome
  reaps dead = cond dead (Accepted Reap ReapDone (apply_operation state key None Reap)) (Answered ReapKept)

  told-reap : (dead : Bool)
      → MatchBool dead ((reply_of (reaps dead) ≡ Ok ReapDone) × (later_by (AskReap key) (reaps dead) ≡ Command (update_at partition log key None Reap) ∷ log))
      ((reply_of (reaps dead) ≡ Ok ReapKept) × (later_by (AskReap key) (reaps dead) ≡ log))
  told-reap true = (refl, logged (AskReap key) refl Reap Reap refl)
  told-reap false = (refl, refl)

  module _ (answers : AnswersAsRegister partition course log key) where
    told : (ask : RegisterAsk Content Context) → key_of ask ≡ key → ((event : Event Content Context) → event.key ≡ key_of ask → event.context ≡ context_in_ask ask → MayAsk partition course event)
        → IsToldAt partition log ask (reply_of (outcome_of_ask state ask)) (later_by ask (outcome_of_ask state ask))
    told (AskGet get) of_key may = (ap (λ r. Ok (GetDone r)) (answers.gets get of_key), refl)
    told (AskPut put) of_key may = told-put put of_key (outcome_of_ask state (AskPut put)) (answers.puts put of_key (may (put_event_at partition log put) refl refl))
    told (AskDel del) of_key may = told-del del of_key (outcome_of_ask state (AskDel del)) (answers.deletes del of_key (may (del_event_at partition log del) refl refl))
    told (AskReap at) of_key may = subst (λ k. IsToldAt partition log (AskReap k) (reply_of (outcome_of_ask state (AskReap k))) (later_by (AskReap k) (outcome_of_ask state (AskReap k)))) (sym of_key) reaped
      where
        reaped : IsToldAt partition log (AskReap key) (reply_of (outcome_of_ask state (AskReap key))) (later_by (AskReap key) (outcome_of_ask state (AskReap key)))
        reaped =
            subst (λ (dead : Bool). MatchBool dead
            ((reply_of (reaps (holds_dead state key)) ≡ Ok ReapDone) × (later_by (AskReap key) (reaps (holds_dead state key)) ≡ Command (update_at partition log key None Reap) ∷ log))
            ((reply_of (reaps (holds_dead state key)) ≡ Ok ReapKept) × (later_by (AskReap key) (reaps (holds_dead state key)) ≡ log)))
            answers.reaps (told-reap (holds_dead state key))

    pub replies-tell : (run : ℕ) (w : World) (index : ℕ) → IsOrderly w → FallbacksTakeCommands w → IsCourseOf partition run w index course → CallsMayBeAsked partition w index course key
        → (step : Step) (call : Call) (reply : Result Response ℕ) → call_at w (number_of step) ≡ Some call → call.site ≡ index → key_of call.ask ≡ key → outcome w step ≡ Replied reply
        → IsToldAt partition (log_at w index) call.ask reply (log_at (after w step) index)
    replies-tell run w index orderly fallbacks of may step call reply asked at of_key replied =
        let a = replies_are_registers w orderly fallbacks step reply replied in
        let same : a.call ≡ call = some_back a.call call (sym a.asked ∙ asked) in
        let site : a.call.site ≡ index = ap (λ (c : Call). c.site) same ∙ at in
        let ask : RegisterAsk Content Context = a.call.ask in
        let there : log_by (id_at w a.call.site) (last_epoch_at w a.call.site) (log_at w a.call.site) ask (outcome_of_ask (state_at w a.call.site) ask) ≡ later_by ask (outcome_of_ask state ask) =
        ap (λ k. log_by (id_at w k) (last_epoch_at w k) (log_at w k) ask (outcome_of_ask (state_at w k) ask)) site
        ∙ (λ i. log_by (of.id i) (of.epoch i) (sym of.primary i) ask (outcome_of_ask (state_with (opening (of.id i) (of.epoch i)) (sym of.primary i)) ask)) in
        let state_is : state_at w a.call.site ≡ state = ap (state_at w) site ∙ (λ i. state_with (opening (of.id i) (of.epoch i)) (sym of.primary i)) in
        let logs : later_by ask (outcome_of_ask state ask) ≡ log_at (after w step) index = sym there ∙ sym a.log_is ∙ ap (log_at (after w step)) site in
        let mine : key_of a.call.ask ≡ key = ap (λ (c : Call). key_of c.ask) same ∙ of_key in
        let first = told ask mine (λ event key context. may (number_of step) a.call a.asked site mine event key context) in
        subst (λ (c : Call). IsToldAt partition (log_at w index) c.ask reply (log_at (after w step) index)) same
        (subst (λ (l : Log). IsToldAt partition l ask reply (log_at (after w step) index)) of.primary
        (subst (λ (l : Log). IsToldAt partition log ask reply l) logs
        (subst (λ r. IsToldAt partition log ask r (later_by ask (outcome_of_ask state ask))) (ap (λ s. reply_of (outcome_of_ask s ask)) (sym state_is) ∙ sym a.reply_is) first)))
