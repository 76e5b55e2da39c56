-- What comes of a look.
use Rattle.std.proofs.Common.{◌≡◌, ◌≢◌, inl, inr, ℕ, Bool, true, false, refl, sym, ◌∙◌, ap, subst}
use Rattle.std.specs.Prelude.{[], Some, None, is_some}
use Rattle.std.specs.Option.{option_map_or}
use Rattle.riak_msgs.specs.Contents.{Content}
use Rattle.sibling_register.specs.Answers.{RegisterAsk, AskGet, GetCommand}
use Rattle.actor_epoch.specs.Given.{Context}
use Rattle.vnode_machine.specs.Machine.{State}
use Rattle.vnode_machine.specs.Step.{MachineOutcome, Refused, Answered, Accepted, outcome as outcome_of_ask}
use Rattle.copy_laws.specs.Joining.{Log}
use Rattle.node_steps.specs.World.{Phase, Idle, Asked, Reading, Holding, Done, Turned, Copying, Closing, Brought, SiteVnode, Worker, World, Call, worker_at, call_of, call_at, id_at, last_epoch_at, log_at, seen_at, brought_by}
use Rattle.node_steps.specs.Steps.{Looks, Step, By, Outcome, WorkerTurn, reads_by, holds_by, looks_by, turn_of, site_of, happens}
use Rattle.node_steps.specs.Claims.{IsReplayOf, state_shown, comes_of, comes_unless, SeesReplay, LooksSeeReplays}
use Rattle.node_steps.proofs.Kept.{IsOrderly, IsPossible, possible}
use Rattle.node_steps.proofs.CloseSteps.{acts_cases}
use Rattle.node_steps.proofs.Lifting.{looks_show_replays}
use Rattle.std.proofs.lemmas.Option.{same_Some as some_same}

-- a holder's look comes to what the machine does
holder_comes : (seen : Log) (brought : Brought) (vnode : SiteVnode) (index : ℕ) (ask : RegisterAsk Content Context) (hand : State Content) (o : MachineOutcome)
    → (looks_by seen brought vnode index ask hand o).outcome ≡ comes_of o
holder_comes seen brought vnode index ask hand (Refused number) = refl
holder_comes seen brought vnode index ask hand (Answered response) = refl
holder_comes seen brought vnode index ask hand (Accepted operation response next) = refl

-- a reader's look, and a holder's, where the state is closed or not
read_comes : (seen : Log) (brought : Brought) (vnode : SiteVnode) (index : ℕ) (get : GetCommand Context) (closed : Bool)
    → (reads_by seen brought vnode index get closed).outcome ≡ comes_unless closed (outcome_of_ask vnode.place (AskGet get))
read_comes seen brought vnode index get true = refl
read_comes seen brought vnode index get false = refl

hold_comes : (seen : Log) (brought : Brought) (vnode : SiteVnode) (index : ℕ) (ask : RegisterAsk Content Context) (hand : State Content) (closed : Bool)
    → (holds_by seen brought vnode index ask hand closed).outcome ≡ comes_unless closed (outcome_of_ask hand ask)
hold_comes seen brought vnode index ask hand true = refl
hold_comes seen brought vnode index ask hand false = holder_comes seen brought vnode index ask hand (outcome_of_ask hand ask)

module _ (w : World) (orderly : IsOrderly w) (number : ℕ) (came : World × Outcome) (p : IsPossible w number Looks came) where
  seen : Log
  seen = seen_at p.worker.seen p.index

  sees : (call : Call) → call_of p.worker.phase ≡ Some call → call.site ≡ p.index → (state : State Content)
      → state_shown p.worker.phase p.vnode ≡ Some (p.index, state) → p.turn.outcome ≡ comes_unless (is_some state.closed) (outcome_of_ask state call.ask) → SeesReplay w (By number Looks) came.1
  sees call asked at state shown comes =
      let id : id_at w p.index ≡ p.vnode.id = ap (λ o. option_map_or (λ (v : SiteVnode). v.id) o 0) p.vnode_is in
      let epoch : last_epoch_at w p.index ≡ p.vnode.last_epoch = ap (λ o. option_map_or (λ (v : SiteVnode). v.last_epoch) o 0) p.vnode_is in
      let asked_there : call_at w number ≡ Some call = ap (λ o. option_map_or (λ (worker : Worker). call_of worker.phase) o None) p.worker_is ∙ asked in
      let log : log_at w p.index ≡ p.vnode.log = ap (λ o. option_map_or (λ (v : SiteVnode). v.log) o []) p.vnode_is in
      record {
        call = call;
        asked = asked_there;
        state = state;
        replay = subst (λ j. IsReplayOf (id_at w j) (last_epoch_at w j) (log_at w j) state) (sym at)
            (subst (λ i. IsReplayOf i (last_epoch_at w p.index) (log_at w p.index) state) (sym id)
            (subst (λ e. IsReplayOf p.vnode.id e (log_at w p.index) state) (sym epoch)
            (subst (λ l. IsReplayOf p.vnode.id p.vnode.last_epoch l state) (sym log)
            (looks_show_replays w orderly number p.index p.worker p.vnode state p.worker_is p.vnode_is (inl shown)))));
        comes = sym (ap (λ (q : World × Outcome). q.1) p.gives) ∙ comes;
      }

  none_here : call_of p.worker.phase ≡ None → call_at w number ≡ None
  none_here e = ap (λ o. option_map_or (λ (worker : Worker). call_of worker.phase) o None) p.worker_is ∙ e

  by_phase : (phase : Phase) → p.worker.phase ≡ phase → site_of Looks phase ≡ Some p.index → turn_of seen (brought_by w p.worker) p.vnode Looks phase ≡ Some p.turn
      → call_at w number ≢ None → SeesReplay w (By number Looks) came.1
  by_phase Idle e site turn asked = cc
  by_phase (Asked index ask) e site turn asked = cc
  by_phase (Reading index get) e site turn asked =
      sees (record { site = index; ask = AskGet get }) (ap call_of e) (some_same index p.index site) p.vnode.place
      (ap (λ phase. state_shown phase p.vnode) e ∙ ap (λ i. Some (i, p.vnode.place)) (some_same index p.index site))
      (sym (ap (λ (t : WorkerTurn). t.outcome) (some_same _ p.turn turn)) ∙ read_comes seen (brought_by w p.worker) p.vnode index get (is_some p.vnode.place.closed))
  by_phase (Holding index ask hand None) e site turn asked =
      sees (record { site = index; ask = ask }) (ap call_of e) (some_same index p.index site) hand
      (ap (λ phase. state_shown phase p.vnode) e ∙ ap (λ i. Some (i, hand)) (some_same index p.index site))
      (sym (ap (λ (t : WorkerTurn). t.outcome) (some_same _ p.turn turn)) ∙ hold_comes seen (brought_by w p.worker) p.vnode index ask hand (is_some hand.closed))
  by_phase (Holding index ask hand (Some plan)) e site turn asked = cc
  by_phase (Done index hand) e site turn asked = cc
  by_phase (Turned own from ask hand) e site turn asked = cc
  by_phase (Copying own from key stage) e site turn asked = absurd (asked (none_here (ap call_of e)))
  by_phase (Closing own from stage) e site turn asked = absurd (asked (none_here (ap call_of e)))

pub looks_see_replays : (w : World) → IsOrderly w → (step : Step) → LooksSeeReplays w step
looks_see_replays w orderly step = λ number is.
    subst (λ s. call_at w number ≢ None → (came : World × Outcome) → happens w s ≡ Some came → SeesReplay w s came.1) (sym is) (λ asked came h. elim (acts_cases w number Looks came h) [
      | inl does ↦ let p = possible w number Looks came does in by_phase w orderly number came p p.worker.phase refl p.site_is p.turn_is asked
      | inr two ↦ elim two [
        | inl j ↦ absurd (asked (no_call number j.worker j.worker_is (ap call_of j.phase_is)))
        | inr c ↦ absurd (asked (no_call number c.worker c.worker_is (ap call_of c.phase_is)))
      ]
    ])
  where
    no_call : (number : ℕ) (worker : Worker) → worker_at w number ≡ Some worker → call_of worker.phase ≡ None → call_at w number ≡ None
    no_call number worker is e = ap (λ o. option_map_or (λ (x : Worker). call_of x.phase) o None) is ∙ e
