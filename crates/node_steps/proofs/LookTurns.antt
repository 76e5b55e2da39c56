-- What a look and a publish for a call make of their worker and its vnode, where they were as they always are.
use Rattle.std.proofs.Common.{◌≡◌, ◌≢◌, inl, inr, ℕ, ◌+◌, ◌≤◌, Bool, true, false, ◌∷◌, refl, sym, ◌∙◌, ap, arith, subst}
use Rattle.std.specs.Prelude.{◌==◌, Option, Some, None, is_some, Result, Ok, Err}
use Rattle.std.proofs.lemmas.Option.{some_pair_parts}
use Rattle.riak_msgs.specs.Contents.{Content}
use Rattle.sibling_register.specs.History.{Event}
use Rattle.sibling_register.specs.Answers.{RegisterAsk, AskGet, GetCommand, Refused as ToldRefused, Answers, Accepts as ToldAccepts}
use Rattle.actor_epoch.specs.Given.{Context}
use Rattle.vnode_machine.specs.Machine.{State, apply_operation}
use Rattle.vnode_machine.specs.Replay.{HasReplay, AcceptsEvent, IsWithinLimits}
use Rattle.vnode_machine.specs.Replies.{get_reply}
use Rattle.vnode_machine.specs.Step.{Response, GetDone, MachineOutcome, Refused, Answered, Accepted, outcome as outcome_of_ask}
use Rattle.vnode_machine.specs.Registers.{key_of, context_in_ask, next_event, IsRegisters, IsNext}
use Rattle.vnode_machine.specs.Runs.{IsAnswer, reply_of}
use Rattle.vnode_machine.proofs.StepLaw.{registers-after}
use Rattle.vnode_machine.proofs.Tests.{none-from}
use Rattle.vnode_machine.proofs.Updates.{closed-kept}
use Rattle.copy_laws.specs.Copies.{Command, commands_of}
use Rattle.copy_laws.specs.Joining.{Log}
use Rattle.node_steps.specs.World.{Word, Phase, Idle, Asked, Reading, Holding, Done, Turned, Copying, Closing, Brought, Call, call_of}
use Rattle.node_steps.specs.Steps.{Looks, Publishes, Elsewhere, WorkerTurn, event_at, answers, sees, reads_by, holds_by, looks_by, publishes_by}
use Rattle.node_steps.specs.Schedules.{Begins}
use Rattle.node_steps.specs.Contexts.{context_bytes}
use Rattle.node_steps.specs.Told.{log_by}
use Rattle.node_steps.proofs.Accepting.{accepted_is, was_accepted}
use Rattle.node_steps.proofs.Coming.{BetweenIs, AboutIs, IsReplyTo}
use Rattle.node_steps.proofs.Lists.{one, no_more, cancel}
use Rattle.node_steps.proofs.Beginnings.{begins-itself, begins-longer}
use Rattle.node_steps.proofs.Shown.{AreHeld, ShowsHeld, outcome_shows, updates, accepts_update}
use Rattle.node_steps.proofs.Unmixed.{same-event}
use Rattle.node_steps.proofs.Inside.{is_reader, is_holder, FitsWord, state_of, replayed, IsInPlace, IsInHand, HasSeen, IsAbout, IsOfOne, same_test, StaysAt, IsOpenAt, IsPlain, alone-before, vnode_in}
use Rattle.node_steps.proofs.Turns.{same_number, one_of, some_none, Goes, IsTurn, not_between, one_goes, one_same, fits_same, place_read, turns, held_place}

module _ (id epoch home index readers holders : ℕ) where
  module _ (limits : IsWithinLimits id epoch) (log : Log) (seen : Log) (brought : Brought) (place : State Content) (has : Begins seen log) where
    -- what comes of an ask in the replay is the register's
    registers : IsPlain id epoch log → (ask : RegisterAsk Content Context) (hand : State Content) (came : MachineOutcome) → hand ≡ state_of id epoch log → outcome_of_ask hand ask ≡ came → IsRegisters id epoch (commands_of log) ask came
    registers plain ask hand came is h =
        subst (λ c. IsRegisters id epoch (commands_of log) ask c) h
        (registers-after id epoch limits (commands_of log) hand ask (record { replays = plain.replays; is = is ∙ replayed id epoch log plain.commands }))

    shows : (ask : RegisterAsk Content Context) (hand : State Content) (came : MachineOutcome) → outcome_of_ask hand ask ≡ came → ShowsHeld hand ask came
    shows ask hand came h = subst (λ c. ShowsHeld hand ask c) h (outcome_shows hand ask)

    -- what comes of an ask in the state in hand comes of it in the one after the log
    machines : (ask : RegisterAsk Content Context) (hand : State Content) (came : MachineOutcome) → hand ≡ state_of id epoch log → outcome_of_ask hand ask ≡ came
        → (reply_of came ≡ reply_of (outcome_of_ask (state_of id epoch log) ask)) × (log_by id epoch log ask came ≡ log_by id epoch log ask (outcome_of_ask (state_of id epoch log) ask))
    machines ask hand came is h =
        let same : came ≡ outcome_of_ask (state_of id epoch log) ask = sym h ∙ ap (λ s. outcome_of_ask s ask) is in (ap reply_of same, ap (log_by id epoch log ask) same)

    -- a look that answers: nothing but the worker changes
    answered : (phase next : Phase) (word : Word) → FitsWord word readers holders → IsInPlace id epoch word log place → is_reader index phase ≡ is_reader index next
        → is_holder index phase ≡ is_holder index next → IsInHand id epoch index log next → HasSeen index next log log → Goes id epoch home index readers holders Looks phase next
        → BetweenIs Looks index home (state_of id epoch log).closed phase next → call_of next ≡ None
        → (reply : Result Response ℕ) (call : Call) → call_of phase ≡ Some call
        → IsReplyTo id epoch index log (answers seen brought (vnode_in id home epoch log place word) next reply) reply call
        → IsTurn id epoch home index readers holders Looks phase brought log (answers seen brought (vnode_in id home epoch log place word) next reply)
    answered phase next word f p a b in_hand whole goes between none reply call c is = record {
      same_id = refl;
      same_own = refl;
      same_epoch = refl;
      same_closed = refl;
      between = between;
      same = inl refl;
      grows = begins-itself log;
      word = λ r h x y.
          fits_same id epoch home index readers holders word f r h (cancel r readers (is_reader index phase) (x ∙ ap (λ c. readers + one c) (sym a)))
          (cancel h holders (is_holder index phase) (y ∙ ap (λ c. holders + one c) (sym b)));
      place = p;
      hand = in_hand;
      seen = begins-itself log;
      whole = whole;
      goes = goes;
      call = inr (inl none);
      alone = λ only. only;
      plain = λ only plain. plain;
      comes = (call, c, is);
    }

    look_held : (word : Word) → FitsWord word readers holders → IsInPlace id epoch word log place → (other : ℕ) (ask : RegisterAsk Content Context) (hand : State Content) → other ≡ index
        → hand ≡ state_of id epoch log → hand.closed ≡ None → (came : MachineOutcome) → outcome_of_ask hand ask ≡ came
        → IsTurn id epoch home index readers holders Looks (Holding other ask hand None) brought log (looks_by seen brought (vnode_in id home epoch log place word) other ask hand came)
    look_held word f p other ask hand e is clear (Refused number) h =
        answered (Holding other ask hand None) (Done other (Some hand)) word f p refl refl (λ _. is) tt
        (one_goes id epoch home index readers holders Looks (Holding other ask hand None) (Done other (Some hand)) tt tt e e)
        (not_between id epoch home index readers holders Looks (state_of id epoch log).closed (Holding other ask hand None) (Done other (Some hand)) tt) refl (Err number) (record { site = other; ask = ask }) refl (record {
          at = e;
          opened = ap (λ (s : State Content). s.closed) (sym is) ∙ clear;
          answer = λ plain. record { given = Answers (ToldRefused number); may = registers plain ask hand (Refused number) is h; leads = refl; shown = refl };
          seen = refl;
          event = inl refl;
          machine = machines ask hand (Refused number) is h;
          shown = tt;
          shows = λ plain. tt;
        })
    look_held word f p other ask hand e is clear (Answered response) h =
        answered (Holding other ask hand None) (Done other (Some hand)) word f p refl refl (λ _. is) tt
        (one_goes id epoch home index readers holders Looks (Holding other ask hand None) (Done other (Some hand)) tt tt e e)
        (not_between id epoch home index readers holders Looks (state_of id epoch log).closed (Holding other ask hand None) (Done other (Some hand)) tt) refl (Ok response) (record { site = other; ask = ask }) refl (record {
          at = e;
          opened = ap (λ (s : State Content). s.closed) (sym is) ∙ clear;
          answer = λ plain.
              let gives = registers plain ask hand (Answered response) is h in
              record { given = Answers gives.told; may = gives.given; leads = refl; shown = gives.shown };
          seen = refl;
          event = inl refl;
          machine = machines ask hand (Answered response) is h;
          shown = subst (λ s. AreHeld s (key_of ask) (context_bytes response)) is (shows ask hand (Answered response) h);
          shows = λ plain. subst (λ s. AreHeld s (key_of ask) (context_bytes response)) (is ∙ replayed id epoch log plain.commands) (shows ask hand (Answered response) h);
        })
    look_held word f p other ask hand e is clear (Accepted operation response next) h = record {
      same_id = refl;
      same_own = refl;
      same_epoch = refl;
      same_closed = refl;
      between = not_between id epoch home index readers holders Looks (state_of id epoch log).closed (Holding other ask hand None) (Holding other ask hand (Some (record { operation = operation; response = response; next = next }))) tt;
      same = inl refl;
      grows = begins-itself log;
      word = λ r h x y. fits_same id epoch home index readers holders word f r h (no_more r readers x) (cancel h holders (other == index) y);
      place = p;
      hand = λ _. (is, (h, clear));
      seen = begins-itself log;
      whole = tt;
      goes = one_goes id epoch home index readers holders Looks (Holding other ask hand None) (Holding other ask hand (Some (record { operation = operation; response = response; next = next }))) tt tt e e;
      call = inl refl;
      alone = λ only. only;
      plain = λ only plain. plain;
      comes = refl;
    }

    -- a look at a closed fallback, by a worker that is inside as before
    turned : (phase next : Phase) (word : Word) → FitsWord word readers holders → IsInPlace id epoch word log place → is_reader index phase ≡ is_reader index next
        → is_holder index phase ≡ is_holder index next → IsInHand id epoch index log next → HasSeen index next log log
        → ((other : ℕ) → index ≢ other → StaysAt other phase next) → AboutIs Looks index home phase next
        → BetweenIs Looks index home (state_of id epoch log).closed phase next → call_of next ≡ call_of phase
        → IsTurn id epoch home index readers holders Looks phase brought log (sees seen brought (vnode_in id home epoch log place word) next Elsewhere)
    turned phase next word f p a b in_hand whole keeps about between call = record {
      same_id = refl;
      same_own = refl;
      same_epoch = refl;
      same_closed = refl;
      same = inl refl;
      grows = begins-itself log;
      word = λ r h x y.
          fits_same id epoch home index readers holders word f r h (cancel r readers (is_reader index phase) (x ∙ ap (λ c. readers + one c) (sym a)))
          (cancel h holders (is_holder index phase) (y ∙ ap (λ c. holders + one c) (sym b)));
      place = p;
      hand = in_hand;
      seen = begins-itself log;
      whole = whole;
      goes = record { keeps = keeps; about = about };
      between = between;
      call = inl call;
      alone = λ only. only;
      plain = λ only plain. plain;
      comes = refl;
    }

    about_turned : (phase : Phase) (other : ℕ) (ask : RegisterAsk Content Context) (hand : Option (State Content)) → other ≡ index → AboutIs Looks index home phase (Turned home other ask hand)
    about_turned phase other ask hand e = λ at h. elim (one_of (home == at) (other == at) h) [
      | inl is ↦ inr (inr (inl (same_number home at is)))
      | inr is ↦ inr (inl (sym e ∙ same_number other at is))
    ]

    between_turned : (phase : Phase) (other : ℕ) (ask : RegisterAsk Content Context) (hand : Option (State Content)) → other ≡ index → (state_of id epoch log).closed ≢ None
        → BetweenIs Looks index home (state_of id epoch log).closed phase (Turned home other ask hand)
    between_turned phase other ask hand e closed = λ own site h.
        let p = some_pair_parts home own other site h in (refl, inr (inr (p.0, sym e ∙ p.1, closed)))

    not_none : (state : State Content) → is_some state.closed ≡ true → state ≡ state_of id epoch log → (state_of id epoch log).closed ≢ None
    not_none state is e = λ none. some_none state.closed is (ap (λ (s : State Content). s.closed) e ∙ none)

    read_by : (word : Word) → FitsWord word readers holders → IsInPlace id epoch word log place → (other : ℕ) (get : GetCommand Context) → other ≡ index → place ≡ state_of id epoch log
        → (closed : Bool) → is_some place.closed ≡ closed → IsTurn id epoch home index readers holders Looks (Reading other get) brought log (reads_by seen brought (vnode_in id home epoch log place word) other get closed)
    read_by word f p other get e is true closed =
        turned (Reading other get) (Turned home other (AskGet get) None) word f p refl refl tt tt
        (λ at n. record { reader = refl; holder = refl; hand = λ i k l had. tt; whole = λ front past had. tt })
        (about_turned (Reading other get) other (AskGet get) None e) (between_turned (Reading other get) other (AskGet get) None e (not_none place closed is)) refl
    read_by word f p other get e is false closed =
        let reply : Result Response ℕ = Ok (GetDone (get_reply place get)) in
        answered (Reading other get) (Done other None) word f p refl refl tt tt (one_goes id epoch home index readers holders Looks (Reading other get) (Done other None) tt tt e e)
        (not_between id epoch home index readers holders Looks (state_of id epoch log).closed (Reading other get) (Done other None) tt) refl reply (record { site = other; ask = AskGet get }) refl (record {
          at = e;
          opened = ap (λ (s : State Content). s.closed) (sym is) ∙ none-from place.closed closed;
          answer = λ plain.
              let gives = registers plain (AskGet get) place (Answered (GetDone (get_reply place get))) is refl in
              record { given = Answers gives.told; may = gives.given; leads = refl; shown = gives.shown };
          seen = refl;
          event = inl refl;
          machine = machines (AskGet get) place (Answered (GetDone (get_reply place get))) is refl;
          shown = subst (λ s. AreHeld s get.key (get_reply place get).context) is (outcome_shows place (AskGet get));
          shows = λ plain. subst (λ s. AreHeld s get.key (get_reply place get).context) (is ∙ replayed id epoch log plain.commands) (outcome_shows place (AskGet get));
        })

    hold_by : (word : Word) → FitsWord word readers holders → IsInPlace id epoch word log place → (other : ℕ) (ask : RegisterAsk Content Context) (hand : State Content) → other ≡ index
        → hand ≡ state_of id epoch log → (closed : Bool) → is_some hand.closed ≡ closed
        → IsTurn id epoch home index readers holders Looks (Holding other ask hand None) brought log (holds_by seen brought (vnode_in id home epoch log place word) other ask hand closed)
    hold_by word f p other ask hand e is true closed =
        turned (Holding other ask hand None) (Turned home other ask (Some hand)) word f p refl refl (λ _. is) tt
        (λ at n. record { reader = refl; holder = refl; hand = λ i k l had. λ e. (had e).0; whole = λ front past had. tt })
        (about_turned (Holding other ask hand None) other ask (Some hand) e) (between_turned (Holding other ask hand None) other ask (Some hand) e (not_none hand closed is)) refl
    hold_by word f p other ask hand e is false closed = look_held word f p other ask hand e is (none-from hand.closed closed) (outcome_of_ask hand ask) refl

    pub look_turn : (word : Word) → FitsWord word readers holders → IsInPlace id epoch word log place → (phase : Phase) → IsOfOne phase → one (is_reader index phase) ≤ readers → IsAbout index phase
        → IsInHand id epoch index log phase → (t : WorkerTurn) → turns id epoch home index readers holders limits log seen brought place has word Looks phase ≡ Some t → IsTurn id epoch home index readers holders Looks phase brought log t
    look_turn word f p Idle one n at mine t h = cc
    look_turn word f p (Asked other ask) one n at mine t h = cc
    look_turn word f p (Reading other get) one n at mine t h =
        let is : place ≡ state_of id epoch log = place_read id epoch home index readers holders word log place f (omega (arith, n, one_same id epoch home index readers holders other at)) p in
        subst (λ u. IsTurn id epoch home index readers holders Looks (Reading other get) brought log u) (cc)
        (read_by word f p other get at is (is_some place.closed) refl)
    look_turn word f p (Holding other ask hand None) one n at mine t h =
        subst (λ u. IsTurn id epoch home index readers holders Looks (Holding other ask hand None) brought log u) (cc)
        (hold_by word f p other ask hand at (mine at).0 (is_some hand.closed) refl)
    look_turn word f p (Holding other ask hand (Some plan)) one n at mine t h = cc
    look_turn word f p (Done other hand) one n at mine t h = cc
    look_turn word f p (Turned own other ask hand) one n at mine t h = absurd one
    look_turn word f p (Copying own other key stage) one n at mine t h = absurd one
    look_turn word f p (Closing own other stage) one n at mine t h = absurd one

    pub publish_turn : (word : Word) → FitsWord word readers holders → (phase : Phase) → IsOfOne phase → one (is_holder index phase) ≤ holders → IsAbout index phase → IsInHand id epoch index log phase → (t : WorkerTurn)
        → turns id epoch home index readers holders limits log seen brought place has word Publishes phase ≡ Some t → IsTurn id epoch home index readers holders Publishes phase brought log t
    publish_turn word f Idle one held at mine t h = cc
    publish_turn word f (Asked other ask) one held at mine t h = cc
    publish_turn word f (Reading other get) one held at mine t h = cc
    publish_turn word f (Holding other ask hand None) one held at mine t h = cc
    publish_turn word f (Holding other ask hand (Some plan)) one held at mine t h =
        let event : Event Content Context = event_at id epoch log ask plan.operation in
        let turn : WorkerTurn = publishes_by seen brought (vnode_in id home epoch log place word) other ask plan in
        let same_turn : turn ≡ t = cc in
        let came : MachineOutcome = Accepted plan.operation plan.response plan.next in
        let next : IsPlain id epoch log → IsNext id epoch (commands_of log) ask plan.operation plan.response plan.next = λ plain. registers plain ask hand came (mine at).0 (mine at).1.0 in
        let next_is : plan.next ≡ state_of id epoch (Command event ∷ log) =
        accepted_is hand ask plan.operation plan.response plan.next (mine at).1.0 ∙ ap (λ s. apply_operation s (key_of ask) (context_in_ask ask) plan.operation) (mine at).0 in
        let clear : IsOpenAt id epoch log = ap (λ (s : State Content). s.closed) (sym (mine at).0) ∙ (mine at).1.1 in
        subst (λ u. IsTurn id epoch home index readers holders Publishes (Holding other ask hand (Some plan)) brought log u) same_turn (record {
          same_id = refl;
          same_own = refl;
          same_epoch = refl;
          same_closed = closed-kept (state_of id epoch log) (key_of ask) (context_in_ask ask) plan.operation;
          between = not_between id epoch home index readers holders Publishes (state_of id epoch log).closed (Holding other ask hand (Some plan)) (Done other (Some plan.next)) tt;
          same = inr (same_test other index at);
          grows = begins-longer (Command event) log log (begins-itself log);
          word = λ r h x y. fits_same id epoch home index readers holders word f r h (no_more r readers x) (cancel h holders (other == index) y);
          place = held_place id epoch home index readers holders limits log seen brought place has word f (omega (arith, held, one_same id epoch home index readers holders other at)) (Command event ∷ log);
          hand = λ _. next_is;
          seen = begins-itself (Command event ∷ log);
          whole = tt;
          goes = one_goes id epoch home index readers holders Publishes (Holding other ask hand (Some plan)) (Done other (Some plan.next)) tt tt at at;
          call = inr (inl refl);
          alone = alone-before event log;
          plain = λ only plain. record {
            commands = only;
            replays = subst (λ (e : Event Content Context). HasReplay id epoch (e ∷ (commands_of log))) (sym (same-event id epoch log plain.commands plain.replays ask plan.operation)) (next plain).leads.replays;
          };
          comes = (
            record { site = other; ask = ask },
            refl,
            record {
              at = at;
              opened = clear;
              answer = λ plain.
                  subst (λ (e : Event Content Context). IsAnswer id epoch (commands_of log) (record { ask = ask; reply = Ok plan.response }) (e ∷ (commands_of log))) (sym (same-event id epoch log plain.commands plain.replays ask plan.operation))
                  (record { given = ToldAccepts (next_event id epoch (commands_of log) ask plan.operation) (next plain).told; may = (next plain).given; leads = refl; shown = (next plain).shown });
              seen = refl;
              event = inr (
                event,
                refl,
                refl,
                refl,
                λ r. ap updates (sym (mine at).1.0) ∙ accepts_update hand ask r,
                subst (λ s. AcceptsEvent s (key_of ask) (context_in_ask ask) plan.operation) (mine at).0 (was_accepted hand ask plan.operation plan.response plan.next (mine at).1.0),
                refl,
              );
              machine = machines ask hand came (mine at).0 (mine at).1.0;
              shown = subst (λ s. AreHeld s (key_of ask) (context_bytes plan.response)) next_is (shows ask hand came (mine at).1.0);
              shows = λ plain. subst (λ s. AreHeld s (key_of ask) (context_bytes plan.response)) (next plain).leads.is (shows ask hand came (mine at).1.0);
            },
          );
        })
    publish_turn word f (Done other hand) one held at mine t h = cc
    publish_turn word f (Turned own other ask hand) one held at mine t h = absurd one
    publish_turn word f (Copying own other key stage) one held at mine t h = absurd one
    publish_turn word f (Closing own other stage) one held at mine t h = absurd one
