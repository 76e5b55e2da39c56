-- Over a schedule in which each context that is given for a key was shown for it: the contexts of calls and of events name
-- positions.
use Rattle.std.proofs.Common.{◌≡◌, ◌⊎◌, inl, inr, ℕ, ◌+◌, ◌&&◌, true, cond, List, [], ◌∷◌, ◌++◌, refl, sym, ◌∙◌, ap, subst}
use Rattle.std.specs.Prelude.{pred, Option, Some, None, Ok, option_map, slice_get, MatchOption}
use Rattle.std.specs.Option.{option_map_or}
use Rattle.riak_msgs.specs.declared.Key.{Key}
use Rattle.riak_msgs.specs.Contents.{Content}
use Rattle.riak_msgs.specs.KeyOrder.{key_eq}
use Rattle.sibling_register.specs.History.{Event}
use Rattle.sibling_register.specs.Siblings.{is_defined}
use Rattle.actor_epoch.specs.Given.{Context, context_of}
use Rattle.vnode_machine.specs.Replay.{History, HasReplay}
use Rattle.vnode_machine.specs.Step.{Response}
use Rattle.vnode_machine.specs.Registers.{key_of, context_in_ask}
use Rattle.vnode_machine.proofs.Keys.{key_eq-refl}
use Rattle.copy_laws.specs.Copies.{commands_of}
use Rattle.node_steps.specs.World.{SiteVnode, Worker, World, Call, fresh_vnode, fresh_worker, opening_world, opening_vnodes, CommandsAlone, route, id_at, last_epoch_at, log_at, history_at, brought_by, call_of, call_at, history_of}
use Rattle.node_steps.specs.Steps.{Action, Step, By, Diverts, Outcome, NotPossible, Happened, Replied, NotHeld, StuckThere, CopiedBack, Elsewhere, LeftThere, routed, seeing, turned, fallback_ids, acts, diverted_by, diverted, outcome}
use Rattle.node_steps.specs.Schedules.{Start, IsStart, world_after, Begins}
use Rattle.node_steps.specs.Contexts.{context_bytes, call_by, given_in, WasShownInRun, GivesShownInRun}
use Rattle.node_steps.specs.Claims.{CommandsFirst, ValuesLeaveOnlySeen}
use Rattle.node_steps.proofs.Lists.{set-here, set-there, same_or_other, get-before, get-replicate}
use Rattle.node_steps.proofs.Beginnings.{begins-itself, begins-commands}
use Rattle.node_steps.proofs.Inside.{same_test}
use Rattle.node_steps.proofs.Shown.{IsName, name-later, held_is_name, saw_position}
use Rattle.node_steps.proofs.Coming.{CallIs, EventIs, Comes}
use Rattle.node_steps.proofs.Kept.{IsOrderly, IsPossible, possible}
use Rattle.node_steps.proofs.FirstWorld.{opened}
use Rattle.node_steps.proofs.Diverting.{IsDiversion, diversion}
use Rattle.node_steps.proofs.Scheduled.{orderly}
use Rattle.node_steps.proofs.Lifting.{no_reply, history-more, log-more, log_before, log_after, log_elsewhere, alone_was, first_before, replied_alone, here, turn, plain, replays_next, reply_is, id_before, epoch_before, id_next, epoch_next, before_is, after_is, elsewhere_is, not_replied}
use Rattle.node_steps.proofs.Leaving.{seen}
use Rattle.node_steps.proofs.CloseSteps.{acts_cases}
use Rattle.node_steps.proofs.Quiet.{IsQuiet, quiet-judged, quiet-closed, alone_quiet, first_quiet}
use Rattle.node_steps.proofs.Claiming.{silent_judged, silent_closed}
use Rattle.node_steps.proofs.Replaying.{replays_after}
use Rattle.std.proofs.lemmas.Option.{same_Some as call_same, none-some}

no_event : (event : Event Content Context) (later before : History) → later ++ (event ∷ before) ≡ [] → ⊥
no_event event [] before h = cc
no_event event (x ∷ later) before h = cc

-- a front, ending with an event, of a history with an event more
begins_cases : (event new : Event Content Context) (before history : History) → Begins (event ∷ before) (new ∷ history)
    → ((event ≡ new) × (before ≡ history)) ⊎ Begins (event ∷ before) history
begins_cases event new before history h = by h.0 h.1
  where
    by : (later : History) → later ++ (event ∷ before) ≡ new ∷ history → ((event ≡ new) × (before ≡ history)) ⊎ Begins (event ∷ before) history
    by [] e = inl (cc, cc)
    by (x ∷ later) e = inr (later, cc)

module _ (index : ℕ) (key : Key) where
  -- the context of a call of the key is the name of a position
  abbrev NamesCall : (id epoch : ℕ) → History → Option Call → Type 0
  NamesCall id epoch history call =
      MatchOption call (Unit {0}) (λ c. c.site ≡ index → key_of c.ask ≡ key → (context : Context) → context_in_ask c.ask ≡ Some context → IsName id epoch history key context)

  abbrev OfWorker : (id epoch : ℕ) → History → Option Worker → Type 0
  OfWorker id epoch history o = MatchOption o (Unit {0}) (λ worker. NamesCall id epoch history (call_of worker.phase))

  -- what holds of contexts, those that were shown being given by Shown
  pub record IsNamedAs (id epoch : ℕ) (w : World) (Shown : Context → Type 0) : Type 0 where
    pub shown : CommandsAlone (log_at w index) → (context : Context) → Shown context → IsName id epoch (history_at w index) key context
    pub calls : CommandsAlone (log_at w index) → (place : ℕ) (worker : Worker) → slice_get w.workers place ≡ Some worker → NamesCall id epoch (history_at w index) (call_of worker.phase)
    pub events : CommandsFirst (log_at w index) → (before : History) (event : Event Content Context) (context : Context) → Begins (event ∷ before) (history_at w index)
        → event.key ≡ key → event.context ≡ Some context → IsName id epoch before key context

  abbrev pub IsNamed : World → (Context → Type 0) → Type 0
  IsNamed w Shown = IsNamedAs (id_at w index) (last_epoch_at w index) w Shown

  call_later : (id epoch : ℕ) (history later : History) (call : Option Call) → Begins history later → NamesCall id epoch history call → NamesCall id epoch later call
  call_later id epoch history later None p h = tt
  call_later id epoch history later (Some c) p h = λ at k context e. name-later id epoch history later key context p (h at k context e)

  module _ (w : World) (orderly : IsOrderly w) (number : ℕ) (action : Action) (r : World × Outcome) (p : IsPossible w number action r) (Shown : Context → Type 0) (named : IsNamed w Shown)
      (gives : (context : Context) → given_in (call_by action p.worker.phase) index key ≡ Some context → Shown context) where
    abbrev id : ℕ
    id = id_at w index

    abbrev epoch : ℕ
    epoch = last_epoch_at w index

    abbrev next : World
    next = turned w (pred number) p.index p.worker p.turn

    -- the history only grows
    grows : Begins (history_at w index) (history_at next index)
    grows = elim (same_or_other p.index index) [
      | inl e ↦ subst (λ k. Begins (history_at w k) (history_at next k)) e
          (subst (λ h. Begins h (history_at next p.index)) (sym (before_is w orderly number action r p))
          (subst (λ h. Begins (history_of p.vnode) h) (sym (after_is w orderly number action r p)) (begins-commands p.vnode.log p.turn.vnode.log (turn w orderly number action r p).grows)))
      | inr n ↦ subst (λ h. Begins (history_at w index) h) (sym (elsewhere_is w orderly number action r p index n)) (begins-itself (history_at w index))
    ]

    -- what the step shows
    shows_next : CommandsAlone (log_at w index) → (context : Context) (call : Call) → call_at w number ≡ Some call → call.site ≡ index → key_of call.ask ≡ key
        → (response : Response) → p.turn.outcome ≡ Replied (Ok response) → context_of (context_bytes response) ≡ Some context → IsName id epoch (history_at next index) key context
    shows_next alone context call asked at of_key response replied decodes =
        let a = reply_is w orderly number action r p (Ok response) replied in
        let same : a.0 ≡ call = call_same a.0 call (sym a.1 ∙ asked) in
        let there : p.index ≡ index = sym a.2.at ∙ ap (λ (c : Call). c.site) same ∙ at in
        let only : CommandsAlone p.vnode.log =
        subst CommandsAlone (log_before w orderly number action r p) (subst (λ k. CommandsAlone (log_at w k)) (sym there) alone) in
        let name : IsName p.vnode.id p.vnode.last_epoch (history_of p.turn.vnode) (key_of a.0.ask) context =
        held_is_name p.vnode.id p.vnode.last_epoch (history_of p.turn.vnode) (key_of a.0.ask) (context_bytes response) context (orderly.vnodes p.index p.vnode p.vnode_is).limits
        (replays_next w orderly number action r p (replied_alone w orderly number action r p (Ok response) replied only)) (a.2.shows (plain w orderly number action r p only)) decodes in
        subst (λ k. IsName (id_at w k) (last_epoch_at w k) (history_at next k) key context) there
        (subst (λ i. IsName i (last_epoch_at w p.index) (history_at next p.index) key context) (sym (id_before w orderly number action r p))
        (subst (λ e. IsName p.vnode.id e (history_at next p.index) key context) (sym (epoch_before w orderly number action r p))
        (subst (λ hist. IsName p.vnode.id p.vnode.last_epoch hist key context) (sym (after_is w orderly number action r p))
        (subst (λ k. IsName p.vnode.id p.vnode.last_epoch (history_of p.turn.vnode) k context) (ap (λ (c : Call). key_of c.ask) same ∙ of_key) name))))

    -- a context that an action gives for the key
    given_is : (call : Call) → call_by action p.worker.phase ≡ Some call → call.site ≡ index → key_of call.ask ≡ key
        → given_in (call_by action p.worker.phase) index key ≡ context_in_ask call.ask
    given_is call comes at k =
        ap (λ a. given_in a index key) comes
        ∙ ap (λ b. cond (b && key_eq (key_of call.ask) key) (context_in_ask call.ask) None) (same_test call.site index at)
        ∙ ap (λ b. cond b (context_in_ask call.ask) None) (ap (λ other. key_eq (key_of call.ask) other) (sym k) ∙ key_eq-refl (key_of call.ask))

    -- the call of the step's worker afterwards
    call_next : CommandsAlone (log_at w index) → NamesCall id epoch (history_at next index) (call_of p.turn.phase)
    call_next alone = by (turn w orderly number action r p).call
      where
        mine : NamesCall id epoch (history_at w index) (call_of p.worker.phase)
        mine = named.calls alone (pred number) p.worker (here w orderly number action r p)

        by : CallIs action p.worker.phase p.turn.phase → NamesCall id epoch (history_at next index) (call_of p.turn.phase)
        by (inl e) = subst (λ c. NamesCall id epoch (history_at next index) c) (sym e) (call_later id epoch (history_at w index) (history_at next index) (call_of p.worker.phase) grows mine)
        by (inr (inl e)) = subst (λ c. NamesCall id epoch (history_at next index) c) (sym e) tt
        by (inr (inr asked)) =
            subst (λ c. NamesCall id epoch (history_at next index) c) (sym asked.1)
            (λ at k context e. name-later id epoch (history_at w index) (history_at next index) key context grows
            (named.shown alone context (gives context (given_is asked.0 asked.2 at k ∙ e))))

    -- the events at the step's vnode
    events_here : CommandsFirst p.turn.vnode.log → p.index ≡ index → (before : History) (event : Event Content Context) (context : Context) → Begins (event ∷ before) (history_of p.turn.vnode)
        → event.key ≡ key → event.context ≡ Some context → IsName id epoch before key context
    events_here first at before event context begins k e = by p.turn.outcome (turn w orderly number action r p).comes
      where
        old_is : history_at w index ≡ (history_of p.vnode)
        old_is = subst (λ j. history_at w j ≡ (history_of p.vnode)) at (before_is w orderly number action r p)

        first_was : CommandsFirst (log_at w index)
        first_was = subst CommandsFirst (sym (subst (λ j. log_at w j ≡ p.vnode.log) at (log_before w orderly number action r p))) (first_before w orderly number action r p first)

        old : Begins (event ∷ before) (history_of p.vnode) → IsName id epoch before key context
        old h = named.events first_was before event context (subst (λ hist. Begins (event ∷ before) hist) (sym old_is) h) k e

        -- the event of a call
        new : (call : Call) → call_of p.worker.phase ≡ Some call → call.site ≡ p.index → EventIs p.vnode.id p.vnode.last_epoch call.ask p.vnode.log p.turn.vnode.log → IsName id epoch before key context
        new call asked about (inl same) = old (subst (λ log. Begins (event ∷ before) (commands_of log)) same begins)
        new call asked about (inr made) =
            let only : CommandsAlone p.vnode.log = subst CommandsFirst made.1 first in
            let alone : CommandsAlone (log_at w index) = subst CommandsAlone (sym (subst (λ j. log_at w j ≡ p.vnode.log) at (log_before w orderly number action r p))) only in
            let names = subst (λ c. NamesCall id epoch (history_at w index) c) asked (named.calls alone (pred number) p.worker (here w orderly number action r p)) in
            elim (begins_cases event made.0 before (history_of p.vnode) (subst (λ log. Begins (event ∷ before) (commands_of log)) made.1 begins)) [
              | inl is ↦ subst (λ hist. IsName id epoch hist key context) (old_is ∙ sym is.1)
                  (names (about ∙ at) (sym made.2 ∙ sym (ap (λ (x : Event Content Context). x.key) is.0) ∙ k) context
                  (sym made.3 ∙ sym (ap (λ (x : Event Content Context). x.context) is.0) ∙ e))
              | inr h ↦ old h
            ]

        by : (came : Outcome) → Comes p.vnode.id p.vnode.last_epoch p.index p.worker.phase (brought_by w p.worker) p.vnode.log p.turn came → IsName id epoch before key context
        by NotPossible h = absurd h
        by Happened h = old (subst (λ log. Begins (event ∷ before) (commands_of log)) h begins)
        by NotHeld h = old (subst (λ log. Begins (event ∷ before) (commands_of log)) h begins)
        by StuckThere h = old (subst (λ log. Begins (event ∷ before) (commands_of log)) h begins)
        by Elsewhere h = old (subst (λ log. Begins (event ∷ before) (commands_of log)) h begins)
        by (LeftThere keys) h = absurd h
        by CopiedBack h = old (subst (λ log. Begins (event ∷ before) (commands_of log)) h.later_is begins)
        by (Replied reply) h = new h.0 h.1 h.2.at h.2.event

    events_next : CommandsFirst (log_at next index) → (before : History) (event : Event Content Context) (context : Context) → Begins (event ∷ before) (history_at next index)
        → event.key ≡ key → event.context ≡ Some context → IsName id epoch before key context
    events_next first before event context begins k e = elim (same_or_other p.index index) [
      | inl at ↦ events_here (subst CommandsFirst (log_after w orderly number action r p) (subst (λ j. CommandsFirst (log_at next j)) (sym at) first)) at before event context
          (subst (λ hist. Begins (event ∷ before) hist) (subst (λ j. history_at next j ≡ (history_of p.turn.vnode)) at (after_is w orderly number action r p)) begins) k e
      | inr n ↦ named.events (subst CommandsFirst (log_elsewhere w orderly number action r p index n) first) before event context (subst (λ hist. Begins (event ∷ before) hist) (elsewhere_is w orderly number action r p index n) begins) k e
    ]

    calls_next : CommandsAlone (log_at w index) → (place : ℕ) (worker : Worker) → slice_get next.workers place ≡ Some worker → NamesCall id epoch (history_at next index) (call_of worker.phase)
    calls_next alone place worker h =
        let new : Worker = record { phase = p.turn.phase; seen = seeing p.worker.seen p.index p.turn.seen } in
        elim (same_or_other (pred number) place) [
          | inl e ↦ subst (λ o. OfWorker id epoch (history_at next index) o)
              (sym (set-here w.workers (pred number) p.worker new (here w orderly number action r p)) ∙ ap (λ j. slice_get next.workers j) e ∙ h) (call_next alone)
          | inr n ↦ call_later id epoch (history_at w index) (history_at next index) (call_of worker.phase) grows
              (named.calls alone place worker (sym (set-there w.workers (pred number) place new n) ∙ h))
        ]

    -- a context that is shown for the key by a step with this outcome
    pub record IsShownBy (came : Outcome) (context : Context) : Type 0 where
      pub call : Call
      pub asked : call_at w number ≡ Some call
      pub at : call.site ≡ index
      pub of_key : key_of call.ask ≡ key
      pub response : Response
      pub replied : came ≡ Replied (Ok response)
      pub decodes : context_of (context_bytes response) ≡ Some context

    pub named_next : (came : Outcome) → p.turn.outcome ≡ came → (Later : Context → Type 0)
        → ((context : Context) → Later context → IsShownBy came context ⊎ Shown context) → IsNamed next Later
    named_next came same Later splits = subst (λ i. IsNamedAs i (last_epoch_at next index) next Later) (sym (id_next w orderly number action r p index))
        (subst (λ e. IsNamedAs id e next Later) (sym (epoch_next w orderly number action r p index)) (record {
          shown = λ only context h. elim (splits context h) [
            | inl now ↦ shows_next (alone_was w orderly number action r p index only) context now.call now.asked now.at now.of_key now.response (same ∙ now.replied) now.decodes
            | inr was ↦ name-later id epoch (history_at w index) (history_at next index) key context grows (named.shown (alone_was w orderly number action r p index only) context was)
          ];
          calls = λ only. calls_next (alone_was w orderly number action r p index only);
          events = events_next;
        }))

abbrev id_in : Option SiteVnode → ℕ
id_in o = option_map_or (λ (v : SiteVnode). v.id) o 0

abbrev epoch_in : Option SiteVnode → ℕ
epoch_in o = option_map_or (λ (v : SiteVnode). v.last_epoch) o 0

abbrev history_in : Option SiteVnode → History
history_in o = option_map_or (λ (v : SiteVnode). history_of v) o []

-- before any event nothing has a name
nothing_named : (id epoch : ℕ) (key : Key) (context : Context) → IsName id epoch [] key context → ⊥
nothing_named id epoch key context n = by n.earlier.0 n.position n.earlier.1 n.defined
  where
    by : (later position : History) → later ++ position ≡ [] → is_defined position key ≡ true → ⊥
    by [] [] e d = cc
    by [] (event ∷ position) e d = cc
    by (event ∷ later) position e d = cc

names_nothing : (index : ℕ) (key : Key) (old_id old_epoch new_id new_epoch : ℕ) (history : History) (call : Option Call)
    → NamesCall index key old_id old_epoch [] call → NamesCall index key new_id new_epoch history call
names_nothing index key old_id old_epoch new_id new_epoch history None h = tt
names_nothing index key old_id old_epoch new_id new_epoch history (Some c) h = λ at k context e. absurd (nothing_named old_id old_epoch key context (h at k context e))

module _ (start : Start) (is : IsStart start) (index : ℕ) (key : Key) where
  named_opening : IsNamed index key (opening_world start.run start.workers start.vnodes) (λ _. ⊥)
  named_opening =
      let w : World = opening_world start.run start.workers start.vnodes in
      record {
        shown = λ only context h. absurd h;
        calls = λ only place worker h.
            subst (λ (x : Worker). NamesCall index key (id_at w index) (last_epoch_at w index) (history_at w index) (call_of x.phase))
            (sym (get-replicate start.workers place fresh_worker worker h)) tt;
        events = λ first before event context begins k e. absurd (no_event event begins.0 before (begins.1 ∙ empty (slice_get w.vnodes index) refl));
      }
    where
      empty : (o : Option SiteVnode) → slice_get (opening_vnodes start.run 0 start.vnodes) index ≡ o → option_map_or (λ (v : SiteVnode). history_of v) o [] ≡ []
      empty None h = refl
      empty (Some v) h = ap (λ (u : SiteVnode). history_of u) (opened start.run 0 start.vnodes index v h).1

  -- a site that is opened: nothing was named there
  named_diverted : (w diverted_w : World) (other : ℕ) (Shown : Context → Type 0) → IsDiversion w other diverted_w → IsNamed index key w Shown → IsNamed index key diverted_w Shown
  named_diverted w diverted_w other Shown d named = subst (λ (x : World). IsNamed index key x Shown) d.gives (by (slice_get w.vnodes index) refl)
    where
      fresh : SiteVnode
      fresh = fresh_vnode (d.primary.place.vnode + fallback_ids) other d.epoch

      later : World
      later = diverted_by w other d.epoch d.primary

      log_same : (site : ℕ) → log_at later site ≡ log_at w site
      log_same site = log-more w.vnodes fresh refl site

      by : (o : Option SiteVnode) → slice_get w.vnodes index ≡ o → IsNamed index key later Shown
      by (Some v) h = let same : slice_get later.vnodes index ≡ slice_get w.vnodes index = get-before w.vnodes (fresh ∷ []) index v h ∙ sym h in record {
        shown = λ only context s. subst (λ o. IsName (id_in o) (epoch_in o) (history_in o) key context) (sym same) (named.shown (subst CommandsAlone (log_same index) only) context s);
        calls = λ only place worker k. subst (λ o. NamesCall index key (id_in o) (epoch_in o) (history_in o) (call_of worker.phase)) (sym same)
            (named.calls (subst CommandsAlone (log_same index) only) place worker k);
        events = λ first before event context begins k e.
            subst (λ o. IsName (id_in o) (epoch_in o) before key context) (sym same)
            (named.events (subst CommandsFirst (log_same index) first) before event context (subst (λ o. Begins (event ∷ before) (history_in o)) same begins) k e);
      }
      by None h =
          let was : history_at w index ≡ [] = ap history_in h in
          let is_empty : history_at later index ≡ [] = history-more w.vnodes fresh refl index ∙ was in
          record {
            shown = λ only context s. absurd (nothing_named (id_at w index) (last_epoch_at w index) key context
                (subst (λ hist. IsName (id_at w index) (last_epoch_at w index) hist key context) was (named.shown (subst CommandsAlone (log_same index) only) context s)));
            calls = λ only place worker k. names_nothing index key (id_at w index) (last_epoch_at w index) (id_at later index) (last_epoch_at later index) (history_at later index) (call_of worker.phase)
                (subst (λ hist. NamesCall index key (id_at w index) (last_epoch_at w index) hist (call_of worker.phase)) was (named.calls (subst CommandsAlone (log_same index) only) place worker k));
            events = λ first before event context begins k e. absurd (no_event event begins.0 before (begins.1 ∙ is_empty));
          }

  -- a closer's look and its publish show nothing
  named_quiet : (w next : World) → IsQuiet w next → (Shown Later : Context → Type 0) → ((context : Context) → Later context → Shown context) → IsNamed index key w Shown → IsNamed index key next Later
  named_quiet w next quiet Shown Later back named =
      subst (λ i. IsNamedAs index key i (last_epoch_at next index) next Later) (sym (quiet.ids index))
      (subst (λ e. IsNamedAs index key (id_at w index) e next Later) (sym (quiet.epochs index)) (record {
        shown = λ only context s.
            subst (λ hist. IsName (id_at w index) (last_epoch_at w index) hist key context) (sym (quiet.histories index)) (named.shown (alone_quiet w next quiet index only) context (back context s));
        calls = λ only place worker h. by only place worker h (call_of worker.phase) refl;
        events = λ first before event context begins k e.
            named.events (first_quiet w next quiet index first) before event context (subst (λ hist. Begins (event ∷ before) hist) (quiet.histories index) begins) k e;
      }))
    where
      by : CommandsAlone (log_at next index) → (place : ℕ) (worker : Worker) → slice_get next.workers place ≡ Some worker → (o : Option Call) → call_of worker.phase ≡ o
          → NamesCall index key (id_at w index) (last_epoch_at w index) (history_at next index) o
      by only place worker h None e = tt
      by only place worker h (Some call) e =
          let old = quiet.calls place worker h call e in
          subst (λ hist. NamesCall index key (id_at w index) (last_epoch_at w index) hist (Some call)) (sym (quiet.histories index))
          (subst (λ c. NamesCall index key (id_at w index) (last_epoch_at w index) (history_at w index) c) (ap call_of old.2 ∙ e) (named.calls (alone_quiet w next quiet index only) place old.0 old.1))

  named_after : (schedule : List Step) → GivesShownInRun start index key schedule → IsNamed index key (world_after start schedule) (WasShownInRun start index key schedule)
  named_after [] gives = named_opening
  named_after (By number action ∷ earlier) gives = by (acts (world_after start earlier) number sent) refl (named_after earlier gives.0)
    where
      sent : Action
      sent = routed (route (world_after start earlier)) action

      came : (r : World × Outcome) → acts (world_after start earlier) number sent ≡ Some r → outcome (world_after start earlier) (By number action) ≡ r.1
      came r h = ap (λ o. option_map_or (λ (q : World × Outcome). q.1) o NotPossible) h

      by : (o : Option (World × Outcome)) → acts (world_after start earlier) number sent ≡ o → IsNamed index key (world_after start earlier) (WasShownInRun start index key earlier)
          → IsNamed index key (option_map_or (λ r. r.0) o (world_after start earlier)) (WasShownInRun start index key (By number action ∷ earlier))
      by None h named = record {
        shown = λ only context s. elim s [
          | inl now ↦ absurd (not_replied (Ok now.response) (sym (ap (λ o. option_map_or (λ (r : World × Outcome). r.1) o NotPossible) h) ∙ now.replied))
          | inr was ↦ named.shown only context was
        ];
        calls = named.calls;
        events = named.events;
      }
      by (Some r) h named = elim (acts_cases (world_after start earlier) number sent r h) [
        | inl does ↦
            let w : World = world_after start earlier in
            let p = possible w number sent r does in
            subst (λ q. IsNamed index key q.0 (WasShownInRun start index key (By number action ∷ earlier))) p.gives
            (named_next index key w (orderly start is earlier) number sent r p (WasShownInRun start index key earlier) named
            (λ context g. gives.1 (λ none. none-some r (sym none ∙ h)) context (ap (λ o. option_map_or (λ (x : Worker). given_in (call_by sent x.phase) index key) o None) p.worker_is ∙ g))
            (outcome w (By number action)) (ap (λ (q : World × Outcome). q.1) p.gives ∙ sym (came r h)) (WasShownInRun start index key (By number action ∷ earlier))
            (λ context s. elim s [
              | inl now ↦ inl (record { call = now.call; asked = now.asked; at = now.at; of_key = now.of_key; response = now.response; replied = now.replied; decodes = now.decodes })
              | inr was ↦ inr was
            ]))
        | inr two ↦ elim two [
          | inl j ↦ named_quiet (world_after start earlier) r.0 (quiet-judged (world_after start earlier) number sent r j) (WasShownInRun start index key earlier) (WasShownInRun start index key (By number action ∷ earlier))
              (λ context s. elim s [
                | inl now ↦ absurd (silent_judged (world_after start earlier) number (orderly start is earlier) sent r j (Ok now.response) (sym (came r h) ∙ now.replied))
                | inr was ↦ was
              ]) named
          | inr c ↦ named_quiet (world_after start earlier) r.0 (quiet-closed (world_after start earlier) (orderly start is earlier) number sent r c) (WasShownInRun start index key earlier)
              (WasShownInRun start index key (By number action ∷ earlier))
              (λ context s. elim s [
                | inl now ↦ absurd (silent_closed (world_after start earlier) number (orderly start is earlier) sent r c (Ok now.response) (sym (came r h) ∙ now.replied))
                | inr was ↦ was
              ]) named
        ]
      ]
  named_after (Diverts other ∷ earlier) gives = by (diverted (world_after start earlier) other) refl (named_after earlier gives.0)
    where
      -- what was shown was shown before
      before : (context : Context) → WasShownInRun start index key (Diverts other ∷ earlier) context → WasShownInRun start index key earlier context
      before context s = elim s [
        | inl now ↦ absurd (no_reply (diverted (world_after start earlier) other) (Ok now.response) now.replied)
        | inr was ↦ was
      ]

      by : (o : Option World) → diverted (world_after start earlier) other ≡ o → IsNamed index key (world_after start earlier) (WasShownInRun start index key earlier)
          → IsNamed index key (option_map_or (λ (r : World × Outcome). r.0) (option_map (λ (next : World). (next, Happened)) o) (world_after start earlier)) (WasShownInRun start index key (Diverts other ∷ earlier))
      by None h named = record { shown = λ only context s. named.shown only context (before context s); calls = named.calls; events = named.events }
      by (Some next) h named =
          let w : World = world_after start earlier in
          let later = named_diverted w next other (WasShownInRun start index key earlier) (diversion w other next h) named in
          record { shown = λ only context s. later.shown only context (before context s); calls = later.calls; events = later.events }

pub values_leave_only_seen : ValuesLeaveOnlySeen
values_leave_only_seen = λ start is schedule index key gives first.
    let w : World = world_after start schedule in
    let replays : HasReplay (id_at w index) (last_epoch_at w index) (history_at w index) = replays_after start is schedule index first in
    let named = named_after start is index key schedule gives in (
      λ before event context begins k e.
          saw_position (id_at w index) (last_epoch_at w index) key (history_at w index) before event context replays (named.events first) begins k e,
      λ between position number leaves. seen (id_at w index) (last_epoch_at w index) (history_at w index) between position key number replays leaves,
    )
