-- The claims that speak of one step: from the turn to the world.
use Rattle.std.proofs.Common.{◌≡◌, ◌≢◌, ◌⊎◌, inl, inr, ℕ, zero, suc, ◌+◌, true, List, [], ◌∷◌, ◌++◌, refl, sym, ◌∙◌, ap, subst}
use Rattle.std.specs.Prelude.{pred, Option, Some, None, Result, option_map, slice_get}
use Rattle.std.specs.Option.{option_map_or}
use Rattle.std.proofs.lemmas.Option.{some_pair_parts, same_Some as same_call}
use Rattle.riak_msgs.specs.Contents.{Content}
use Rattle.vnode_machine.specs.Machine.{State, opening, clock_of, stored}
use Rattle.vnode_machine.specs.Replay.{replay, HasReplay}
use Rattle.vnode_machine.specs.Step.{Response, outcome as outcome_of_ask}
use Rattle.vnode_machine.specs.Runs.{IsAnswer, reply_of}
use Rattle.vnode_machine.proofs.Legals.{replay_is_legal}
use Rattle.vnode_machine.proofs.DifferentDots.{no_dot_twice}
use Rattle.vnode_machine.proofs.LiveDots.{dots_are_of_lives}
use Rattle.vnode_machine.proofs.Steps.{known, alive, held_by}
use Rattle.copy_laws.specs.Copies.{Command, Copied, Closed, commands_of}
use Rattle.copy_laws.specs.CopyReplay.{state_with}
use Rattle.copy_laws.specs.Joining.{Log}
use Rattle.node_steps.specs.World.{CopyAsked, CopyInside, CopyLooked, CopyTaken, CopyDone, CloseAsked, CloseTaken, CloseInside, CloseLooked, CloseDone, Phase, Idle, Asked, Reading, Holding, Done, Turned, Copying, Closing, SiteVnode, Worker, World, CommandsAlone, Call, fresh_vnode, worker_at, id_at, last_epoch_at, log_at, history_at, front_at, call_of, call_at, seen_at, copied_from, brought_by, history_of}
use Rattle.node_steps.specs.Steps.{Action, Diverts, Outcome, NotPossible, Happened, Replied, NotHeld, StuckThere, CopiedBack, Elsewhere, LeftThere, WorkerTurn, seeing, turned, fallback_ids, diverted, after}
use Rattle.node_steps.specs.Schedules.{Begins}
use Rattle.node_steps.specs.Told.{log_by}
use Rattle.node_steps.specs.Claims.{CommandsFirst, HistoriesAreLegal, IsReplayOf, LooksShowReplays, state_at, state_shown, hand_shown, CopiesIn, NoDotIsIssuedTwice, LivesAreOfDefinedKeys}
use Rattle.node_steps.proofs.Lists.{how_many, set-here, set-there, same_or_other, counted_one}
use Rattle.node_steps.proofs.Inside.{is_reader, reads, holds, state_of, replayed, IsInHand, IsClockAt, HasSeen, same_test, IsPlain, IsAware, alone-before, copied-mixed, closed-mixed}
use Rattle.node_steps.proofs.Coming.{between_in, IsReplyTo, CopyIs, Comes}
use Rattle.node_steps.proofs.Turns.{IsTurn, place_read}
use Rattle.node_steps.proofs.Kept.{IsFallback, IsOrderly, IsPossible, seeing-here, at_place}
use Rattle.node_steps.proofs.KeptSteps.{turn_at}
use Rattle.node_steps.proofs.Diverting.{diversion}

-- the history at each site where no command follows a copy has a replay
abbrev pub HaveReplays : World → Type 0
HaveReplays w = (site : ℕ) → CommandsFirst (log_at w site) → HasReplay (id_at w site) (last_epoch_at w site) (history_at w site)

pub histories_are_legal : (w : World) → HaveReplays w → HistoriesAreLegal w
histories_are_legal w replays = λ index first.
    (replays index first, replay_is_legal (id_at w index) (last_epoch_at w index) (history_at w index) (replays index first))

pub no_dots_twice : (w : World) → NoDotIsIssuedTwice w
no_dots_twice w = λ index.
    (no_dot_twice (id_at w index) (last_epoch_at w index) (history_at w index), dots_are_of_lives (id_at w index) (last_epoch_at w index) (history_at w index))

pub lives_are_defined : (w : World) → HaveReplays w → LivesAreOfDefinedKeys w
lives_are_defined w replays = λ index key first.
    let id = id_at w index in
    let epoch = last_epoch_at w index in
    let history = history_at w index in
    let k = known id epoch history (replays index first) in
    let o = stored (replay id epoch history) key in
    alive id epoch history k key o (k.keys key) ∙ sym (held_by id epoch history k key o (k.keys key))

-- the state after a log of commands alone is the replay of its history
replay_of : (w : World) → IsOrderly w → (index : ℕ) (vnode : SiteVnode) → slice_get w.vnodes index ≡ Some vnode → (state : State Content)
    → state ≡ state_of vnode.id vnode.last_epoch vnode.log → IsReplayOf vnode.id vnode.last_epoch vnode.log state
replay_of w orderly index vnode there state is = (
  is,
  λ only.
      let plain = orderly.plain index vnode there only in
      record { replays = plain.replays; is = is ∙ replayed vnode.id vnode.last_epoch vnode.log plain.commands },
)

module _ (w : World) (orderly : IsOrderly w) (number index : ℕ) (worker : Worker) (vnode : SiteVnode) (state : State Content)
    (there : slice_get w.vnodes index ≡ Some vnode) (here : slice_get w.workers (pred number) ≡ Some worker) where
  -- a reader is shown what is in place
  placed : (other : ℕ) → is_reader other worker.phase ≡ true → ◌≡◌ {A = Option (ℕ × State Content)} (Some (other, vnode.place)) (Some (index, state)) → state ≡ state_of vnode.id vnode.last_epoch vnode.log
  placed other reading h =
      let p = some_pair_parts other index vnode.place state h in
      let sound = orderly.vnodes index vnode there in
      sym p.1 ∙ place_read vnode.id vnode.last_epoch vnode.own index (how_many (reads index) w.workers) (how_many (holds index) w.workers) vnode.word vnode.log vnode.place sound.word
      (counted_one (reads index) w.workers (pred number) worker here (subst (λ i. is_reader i worker.phase ≡ true) p.0 reading)) sound.place

  shown_by : (phase : Phase) → worker.phase ≡ phase → IsInHand vnode.id vnode.last_epoch index vnode.log worker.phase → state_shown phase vnode ≡ Some (index, state)
      → state ≡ state_of vnode.id vnode.last_epoch vnode.log
  shown_by Idle e hand h = cc
  shown_by (Asked other ask) e hand h = cc
  shown_by (Reading other get) e hand h = placed other (ap (is_reader other) e ∙ same_test other other refl) h
  shown_by (Holding other ask mine None) e hand h =
      let p = some_pair_parts other index mine state h in
      sym p.1 ∙ (subst (λ n. IsInHand vnode.id vnode.last_epoch index vnode.log n) e hand p.0).0
  shown_by (Holding other ask mine (Some plan)) e hand h = cc
  shown_by (Done other mine) e hand h = cc
  shown_by (Turned own site ask mine) e hand h = cc
  shown_by (Copying own site key CopyAsked) e hand h = cc
  shown_by (Copying own site key CopyInside) e hand h = placed site (ap (is_reader site) e ∙ same_test site site refl) h
  shown_by (Copying own site key (CopyLooked clock)) e hand h = cc
  shown_by (Copying own site key (CopyTaken clock mine None)) e hand h =
      let p = some_pair_parts own index mine state h in
      sym p.1 ∙ ((subst (λ n. IsInHand vnode.id vnode.last_epoch index vnode.log n) e hand).1 p.0).0
  shown_by (Copying own site key (CopyTaken clock mine (Some next))) e hand h = cc
  shown_by (Copying own site key (CopyDone mine)) e hand h = cc
  shown_by (Closing own site CloseAsked) e hand h = cc
  shown_by (Closing own site (CloseTaken mine)) e hand h = cc
  shown_by (Closing own site (CloseInside mine)) e hand h = placed own (ap (is_reader own) e ∙ same_test own own refl) h
  shown_by (Closing own site (CloseLooked mine count)) e hand h = cc
  shown_by (Closing own site (CloseDone mine inside)) e hand h = cc

  -- a closer's hand
  hand_by : (phase : Phase) → worker.phase ≡ phase → IsInHand vnode.id vnode.last_epoch index vnode.log worker.phase → hand_shown phase ≡ Some (index, state)
      → state ≡ state_of vnode.id vnode.last_epoch vnode.log
  hand_by (Closing own site (CloseInside mine)) e hand h =
      let p = some_pair_parts site index mine state h in sym p.1 ∙ subst (λ n. IsInHand vnode.id vnode.last_epoch index vnode.log n) e hand p.0
  hand_by (Closing own site CloseAsked) e hand h = cc
  hand_by (Closing own site (CloseTaken mine)) e hand h = cc
  hand_by (Closing own site (CloseLooked mine count)) e hand h = cc
  hand_by (Closing own site (CloseDone mine inside)) e hand h = cc
  hand_by Idle e hand h = cc
  hand_by (Asked other ask) e hand h = cc
  hand_by (Reading other get) e hand h = cc
  hand_by (Holding other ask mine plan) e hand h = cc
  hand_by (Done other mine) e hand h = cc
  hand_by (Turned own site ask mine) e hand h = cc
  hand_by (Copying own site key stage) e hand h = cc

pub looks_show_replays : (w : World) → IsOrderly w → LooksShowReplays w
looks_show_replays w orderly = λ number index worker vnode state worker_is vnode_is shows.
    let here = at_place w number worker worker_is in
    let hand = (orderly.workers (pred number) worker here index vnode vnode_is).hand in
    replay_of w orderly index vnode vnode_is state (elim shows [
      | inl it ↦ shown_by w orderly number index worker vnode state vnode_is here worker.phase refl hand it
      | inr it ↦ hand_by w orderly number index worker vnode state vnode_is here worker.phase refl hand it
    ])

-- the worker after its turn
worker_next : (w : World) (number index : ℕ) (worker : Worker) (turn : WorkerTurn) → worker_at w number ≡ Some worker
    → worker_at (turned w (pred number) index worker turn) number ≡ Some (record { phase = turn.phase; seen = seeing worker.seen index turn.seen })
worker_next w zero index worker turn h = cc
worker_next w (suc place) index worker turn h = set-here w.workers place worker (record { phase = turn.phase; seen = seeing worker.seen index turn.seen }) h

-- of commands alone they stand first
pub alone-first : (log : Log) → CommandsAlone log → CommandsFirst log
alone-first [] only = tt
alone-first (Command event ∷ before) only = alone-before event before only
alone-first (Copied copy ∷ before) only = absurd (copied-mixed copy before only)
alone-first (Closed number ∷ before) only = absurd (closed-mixed number before only)

module _ (w : World) (orderly : IsOrderly w) (number : ℕ) (action : Action) (r : World × Outcome) (p : IsPossible w number action r) where
  abbrev next : World
  next = turned w (pred number) p.index p.worker p.turn

  pub here : slice_get w.workers (pred number) ≡ Some p.worker
  here = at_place w number p.worker p.worker_is

  pub aware : IsAware p.vnode.id p.vnode.last_epoch p.index p.vnode.log p.worker
  aware = orderly.workers (pred number) p.worker here p.index p.vnode p.vnode_is

  pub turn : IsTurn p.vnode.id p.vnode.last_epoch p.vnode.own p.index (how_many (reads p.index) w.workers) (how_many (holds p.index) w.workers) action p.worker.phase (brought_by w p.worker) p.vnode.log p.turn
  turn = turn_at w orderly number action r p

  -- the log, where it is of commands alone
  pub plain : CommandsAlone p.vnode.log → IsPlain p.vnode.id p.vnode.last_epoch p.vnode.log
  plain = orderly.plain p.index p.vnode p.vnode_is

  pub replays_next : CommandsAlone p.turn.vnode.log → HasReplay p.vnode.id p.vnode.last_epoch (history_of p.turn.vnode)
  replays_next only = (turn.plain only (plain (turn.alone only))).replays

  pub call_is : call_at w number ≡ call_of p.worker.phase
  call_is = ap (λ o. option_map_or (λ (worker : Worker). call_of worker.phase) o None) p.worker_is

  pub id_before : id_at w p.index ≡ p.vnode.id
  id_before = ap (λ o. option_map_or (λ (v : SiteVnode). v.id) o 0) p.vnode_is

  pub epoch_before : last_epoch_at w p.index ≡ p.vnode.last_epoch
  epoch_before = ap (λ o. option_map_or (λ (v : SiteVnode). v.last_epoch) o 0) p.vnode_is

  pub before_is : history_at w p.index ≡ (history_of p.vnode)
  before_is = ap (λ o. option_map_or (λ (v : SiteVnode). history_of v) o []) p.vnode_is

  vnode_next : slice_get next.vnodes p.index ≡ Some p.turn.vnode
  vnode_next = set-here w.vnodes p.index p.vnode p.turn.vnode p.vnode_is

  pub after_is : history_at next p.index ≡ (history_of p.turn.vnode)
  after_is = ap (λ o. option_map_or (λ (v : SiteVnode). history_of v) o []) vnode_next

  pub elsewhere_is : (other : ℕ) → p.index ≢ other → history_at next other ≡ history_at w other
  elsewhere_is other n = ap (λ o. option_map_or (λ (v : SiteVnode). history_of v) o []) (set-there w.vnodes p.index other p.turn.vnode n)

  pub log_before : log_at w p.index ≡ p.vnode.log
  log_before = ap (λ o. option_map_or (λ (v : SiteVnode). v.log) o []) p.vnode_is

  pub log_after : log_at next p.index ≡ p.turn.vnode.log
  log_after = ap (λ o. option_map_or (λ (v : SiteVnode). v.log) o []) vnode_next

  pub log_elsewhere : (other : ℕ) → p.index ≢ other → log_at next other ≡ log_at w other
  log_elsewhere other n = ap (λ o. option_map_or (λ (v : SiteVnode). v.log) o []) (set-there w.vnodes p.index other p.turn.vnode n)

  -- a log of commands alone was one
  pub alone_was : (other : ℕ) → CommandsAlone (log_at next other) → CommandsAlone (log_at w other)
  alone_was other only = elim (same_or_other p.index other) [
    | inl e ↦ subst (λ k. CommandsAlone (log_at w k)) e (subst CommandsAlone (sym log_before)
        (turn.alone (subst CommandsAlone log_after (subst (λ k. CommandsAlone (log_at next k)) (sym e) only))))
    | inr n ↦ subst CommandsAlone (log_elsewhere other n) only
  ]

  -- a vnode keeps its id, and the epoch that it was opened behind
  pub id_next : (other : ℕ) → id_at next other ≡ id_at w other
  id_next other = elim (same_or_other p.index other) [
    | inl e ↦ subst (λ k. id_at next k ≡ id_at w k) e (ap (λ o. option_map_or (λ (v : SiteVnode). v.id) o 0) vnode_next ∙ turn.same_id ∙ sym id_before)
    | inr n ↦ ap (λ o. option_map_or (λ (v : SiteVnode). v.id) o 0) (set-there w.vnodes p.index other p.turn.vnode n)
  ]

  pub epoch_next : (other : ℕ) → last_epoch_at next other ≡ last_epoch_at w other
  epoch_next other = elim (same_or_other p.index other) [
    | inl e ↦ subst (λ k. last_epoch_at next k ≡ last_epoch_at w k) e (ap (λ o. option_map_or (λ (v : SiteVnode). v.last_epoch) o 0) vnode_next ∙ turn.same_epoch ∙ sym epoch_before)
    | inr n ↦ ap (λ o. option_map_or (λ (v : SiteVnode). v.last_epoch) o 0) (set-there w.vnodes p.index other p.turn.vnode n)
  ]

  seen_next : front_at next number p.index ≡ p.turn.seen
  seen_next =
      ap (λ o. option_map_or (λ worker. seen_at worker.seen p.index) o []) (worker_next w number p.index p.worker p.turn p.worker_is)
      ∙ seeing-here p.worker.seen p.index p.turn.seen

  seen_before : Begins (front_at w number p.index) (log_at w p.index)
  seen_before =
      subst (λ s. Begins s (log_at w p.index)) (sym (ap (λ o. option_map_or (λ worker. seen_at worker.seen p.index) o []) p.worker_is))
      (subst (λ l. Begins (seen_at p.worker.seen p.index) l) (sym log_before) aware.seen)

  -- a reply answers the call
  pub reply_is : (reply : Result Response ℕ) → p.turn.outcome ≡ Replied reply → (call : Call) × (call_at w number ≡ Some call) × IsReplyTo p.vnode.id p.vnode.last_epoch p.index p.vnode.log p.turn reply call
  reply_is reply o =
      let c = subst (λ u. Comes p.vnode.id p.vnode.last_epoch p.index p.worker.phase (brought_by w p.worker) p.vnode.log p.turn u) o turn.comes in
      (c.0, call_is ∙ c.1, c.2)

  -- after a reply a log of commands alone still is one
  pub replied_alone : (reply : Result Response ℕ) → p.turn.outcome ≡ Replied reply → CommandsAlone p.vnode.log → CommandsAlone p.turn.vnode.log
  replied_alone reply o only = elim (reply_is reply o).2.event [
    | inl same ↦ subst CommandsAlone (sym same) only
    | inr made ↦ subst CommandsAlone (sym made.1) (ap (λ (l : Log). Command made.0 ∷ l) only)
  ]

  -- a log in which commands stand first was one
  pub first_before : CommandsFirst p.turn.vnode.log → CommandsFirst p.vnode.log
  first_before first = by p.turn.outcome turn.comes
    where
      by : (came : Outcome) → Comes p.vnode.id p.vnode.last_epoch p.index p.worker.phase (brought_by w p.worker) p.vnode.log p.turn came → CommandsFirst p.vnode.log
      by NotPossible h = absurd h
      by Happened h = subst CommandsFirst h first
      by NotHeld h = subst CommandsFirst h first
      by StuckThere h = subst CommandsFirst h first
      by Elsewhere h = subst CommandsFirst h first
      by (LeftThere keys) h = absurd h
      by CopiedBack h = subst CommandsFirst h.later_is first
      by (Replied reply) h = elim h.2.event [
        | inl same ↦ subst CommandsFirst same first
        | inr made ↦ alone-first p.vnode.log (subst CommandsFirst made.1 first)
      ]

  answer_at : (reply : Result Response ℕ) (call : Call) → IsReplyTo p.vnode.id p.vnode.last_epoch p.index p.vnode.log p.turn reply call → CommandsAlone (log_at w call.site)
      → IsAnswer (id_at w call.site) (last_epoch_at w call.site) (history_at w call.site) (record { ask = call.ask; reply = reply }) (history_at next call.site)
  answer_at reply call is only =
      let only_here : CommandsAlone p.vnode.log = subst CommandsAlone log_before (subst (λ k. CommandsAlone (log_at w k)) is.at only) in
      subst (λ k. IsAnswer (id_at w k) (last_epoch_at w k) (history_at w k) (record { ask = call.ask; reply = reply }) (history_at next k)) (sym is.at)
      (subst (λ i. IsAnswer i (last_epoch_at w p.index) (history_at w p.index) (record { ask = call.ask; reply = reply }) (history_at next p.index)) (sym id_before)
      (subst (λ e. IsAnswer p.vnode.id e (history_at w p.index) (record { ask = call.ask; reply = reply }) (history_at next p.index)) (sym epoch_before)
      (subst (λ h. IsAnswer p.vnode.id p.vnode.last_epoch h (record { ask = call.ask; reply = reply }) (history_at next p.index)) (sym before_is)
      (subst (λ h. IsAnswer p.vnode.id p.vnode.last_epoch (history_of p.vnode) (record { ask = call.ask; reply = reply }) h) (sym after_is) (is.answer (plain only_here))))))

  abbrev CopiesBy : ℕ → Type 0
  CopiesBy site = CopiesIn w (next, p.turn.outcome) site

  -- a copy's clock and prefix are those of the fallback, which its copier is inside
  pub from_there : (c : CopyIs p.vnode.id p.vnode.last_epoch p.index p.worker.phase (brought_by w p.worker) p.vnode.log p.turn.vnode.log) (vnode : SiteVnode) → slice_get w.vnodes c.site ≡ Some vnode
      → (IsClockAt vnode.id vnode.last_epoch vnode.log c.key c.clock) × ((brought_by w p.worker).prefix ≡ history_of vnode)
  from_there c vnode there =
      let has = orderly.workers (pred number) p.worker here c.site vnode there in
      let hand = subst (λ phase. IsInHand vnode.id vnode.last_epoch c.site vnode.log phase) c.phase_is has.hand in
      let seen = subst (λ phase. HasSeen c.site phase (seen_at p.worker.seen c.site) vnode.log) c.phase_is has.whole in
      (hand.0 refl, ap (λ (l : Log). commands_of l) (ap (λ phase. seen_at p.worker.seen (copied_from phase)) c.phase_is ∙ seen refl))

  -- it is one of the copier's partition, to which its calls go
  pub copied_fallback : (c : CopyIs p.vnode.id p.vnode.last_epoch p.index p.worker.phase (brought_by w p.worker) p.vnode.log p.turn.vnode.log) → IsFallback w c.own c.site
  copied_fallback c = orderly.between (pred number) p.worker here c.own c.site (ap between_in c.phase_is)

  pub copied_route : (c : CopyIs p.vnode.id p.vnode.last_epoch p.index p.worker.phase (brought_by w p.worker) p.vnode.log p.turn.vnode.log) → slice_get w.routes c.own ≡ Some c.site
  copied_route c =
      let f = copied_fallback c in
      ap (λ k. slice_get w.routes k) (sym f.own_is) ∙ orderly.opens c.site f.vnode f.there (λ e. f.apart (sym f.own_is ∙ e)) (from_there c f.vnode f.there).0.2

  copies_to : (c : CopyIs p.vnode.id p.vnode.last_epoch p.index p.worker.phase (brought_by w p.worker) p.vnode.log p.turn.vnode.log) → p.turn.outcome ≡ CopiedBack → CopiesBy p.index
  copies_to c o =
      let f = copied_fallback c in
      let true_copy = from_there c f.vnode f.there in
      let brought = brought_by w p.worker in
      record {
        copied = o;
        copy = record { key = c.key; clock = c.clock; diversion = brought.diversion; prefix = brought.prefix };
        log_is = log_after ∙ c.later_is ∙ ap (λ (l : Log). Copied (record { key = c.key; clock = c.clock; diversion = brought.diversion; prefix = brought.prefix }) ∷ l) (sym log_before);
        from = c.site;
        from_is = ap (λ k. slice_get w.routes k) (sym c.at) ∙ copied_route c;
        clock = true_copy.0.0 ∙ sym (ap (λ o. clock_of (state_with (opening (option_map_or (λ (x : SiteVnode). x.id) o 0) (option_map_or (λ (x : SiteVnode). x.last_epoch) o 0))
            (option_map_or (λ (x : SiteVnode). x.log) o [])) c.key) f.there);
        prefix = true_copy.1 ∙ sym (ap (λ o. option_map_or (λ (x : SiteVnode). history_of x) o []) f.there);
      }

  -- what comes of the turn
  abbrev RepliesBy : ℕ → Type 0
  RepliesBy index = (call : Call) × (call_at w number ≡ Some call) × (call.site ≡ index) × ((reply : Result Response ℕ) × (p.turn.outcome ≡ Replied reply))

  nothing_else : (came : Outcome) → p.turn.outcome ≡ came → (log_at next p.index ≡ log_at w p.index) ⊎ (RepliesBy p.index ⊎ CopiesBy p.index)
  nothing_else came o = by came (subst (λ u. Comes p.vnode.id p.vnode.last_epoch p.index p.worker.phase (brought_by w p.worker) p.vnode.log p.turn u) o turn.comes) o
    where
      by : (came : Outcome) → Comes p.vnode.id p.vnode.last_epoch p.index p.worker.phase (brought_by w p.worker) p.vnode.log p.turn came → p.turn.outcome ≡ came
          → (log_at next p.index ≡ log_at w p.index) ⊎ (RepliesBy p.index ⊎ CopiesBy p.index)
      by NotPossible h o = absurd h
      by Happened h o = inl (log_after ∙ h ∙ sym log_before)
      by (Replied reply) h o = let c = reply_is reply o in inr (inl (c.0, c.1, c.2.at, (reply, o)))
      by NotHeld h o = inl (log_after ∙ h ∙ sym log_before)
      by StuckThere h o = inl (log_after ∙ h ∙ sym log_before)
      by Elsewhere h o = inl (log_after ∙ h ∙ sym log_before)
      by (LeftThere keys) h o = absurd h
      by CopiedBack h o = inr (inr (copies_to h o))

  opened_at : (reply : Result Response ℕ) (call : Call) → IsReplyTo p.vnode.id p.vnode.last_epoch p.index p.vnode.log p.turn reply call → (state_at w call.site).closed ≡ None
  opened_at reply call is =
      ap (λ k. (state_at w k).closed) is.at
      ∙ (λ i. (state_with (opening (id_before i) (epoch_before i)) (log_before i)).closed) ∙ is.opened

  -- the machine's reply, and the log after it
  machine_at : (reply : Result Response ℕ) (call : Call) → IsReplyTo p.vnode.id p.vnode.last_epoch p.index p.vnode.log p.turn reply call
      → (reply ≡ reply_of (outcome_of_ask (state_at w call.site) call.ask))
      × (log_at next call.site ≡ log_by (id_at w call.site) (last_epoch_at w call.site) (log_at w call.site) call.ask (outcome_of_ask (state_at w call.site) call.ask))
  machine_at reply call is =
      let id : id_at w call.site ≡ p.vnode.id = ap (id_at w) is.at ∙ id_before in
      let epoch : last_epoch_at w call.site ≡ p.vnode.last_epoch = ap (last_epoch_at w) is.at ∙ epoch_before in
      let log : log_at w call.site ≡ p.vnode.log = ap (log_at w) is.at ∙ log_before in
      let state : state_at w call.site ≡ state_of p.vnode.id p.vnode.last_epoch p.vnode.log = λ i. state_with (opening (id i) (epoch i)) (log i) in (
        is.machine.0 ∙ ap (λ s. reply_of (outcome_of_ask s call.ask)) (sym state),
        ap (log_at next) is.at ∙ log_after ∙ is.machine.1 ∙ sym (λ i. log_by (id i) (epoch i) (log i) call.ask (outcome_of_ask (state i) call.ask)),
      )

  pub step_answers : (reply : Result Response ℕ) → p.turn.outcome ≡ Replied reply
      → (call : Call) × (call_at w number ≡ Some call) × ((state_at w call.site).closed ≡ None)
      × ((reply ≡ reply_of (outcome_of_ask (state_at w call.site) call.ask))
      × (log_at next call.site ≡ log_by (id_at w call.site) (last_epoch_at w call.site) (log_at w call.site) call.ask (outcome_of_ask (state_at w call.site) call.ask)))
      × (CommandsAlone (log_at w call.site)
      → IsAnswer (id_at w call.site) (last_epoch_at w call.site) (history_at w call.site) (record { ask = call.ask; reply = reply }) (history_at next call.site))
  step_answers reply o = let c = reply_is reply o in (c.0, c.1, opened_at reply c.0 c.2, machine_at reply c.0 c.2, answer_at reply c.0 c.2)

  pub step_nothing_else : (index : ℕ) → (log_at next index ≡ log_at w index) ⊎ (RepliesBy index ⊎ CopiesBy index)
  step_nothing_else index = elim (same_or_other p.index index) [
    | inl e ↦ subst (λ k. (log_at next k ≡ log_at w k) ⊎ (RepliesBy k ⊎ CopiesBy k)) e (nothing_else p.turn.outcome refl)
    | inr n ↦ inl (log_elsewhere index n)
  ]

  pub step_seen : (index : ℕ) (call : Call) → call_at w number ≡ Some call → call.site ≡ index → (reply : Result Response ℕ) → p.turn.outcome ≡ Replied reply
      → Begins (front_at w number index) (log_at w index) × (front_at next number index ≡ log_at next index)
  step_seen index call asked at reply o =
      let c = reply_is reply o in
      let same : c.0 ≡ call = same_call c.0 call (sym c.1 ∙ asked) in
      let e : p.index ≡ index = sym c.2.at ∙ ap (λ (x : Call). x.site) same ∙ at in
      subst (λ k. Begins (front_at w number k) (log_at w k) × (front_at next number k ≡ log_at next k)) e
      (seen_before, seen_next ∙ c.2.seen ∙ sym log_after)

pub not_replied : (reply : Result Response ℕ) → NotPossible ≡ Replied reply → ⊥
not_replied reply h = cc

pub only_happened : (reply : Result Response ℕ) → Happened ≡ Replied reply → ⊥
only_happened reply h = cc

-- a partition's step replies nothing
pub no_reply : (o : Option World) (reply : Result Response ℕ)
    → option_map_or (λ (r : World × Outcome). r.1) (option_map (λ (next : World). (next, Happened)) o) NotPossible ≡ Replied reply → ⊥
no_reply None reply h = not_replied reply h
no_reply (Some after_it) reply h = only_happened reply h

pub log-more : (vnodes : List SiteVnode) (fresh : SiteVnode) → fresh.log ≡ [] → (site : ℕ)
    → option_map_or (λ (v : SiteVnode). v.log) (slice_get (vnodes ++ fresh ∷ []) site) [] ≡ option_map_or (λ (v : SiteVnode). v.log) (slice_get vnodes site) []
log-more [] fresh e zero = e
log-more [] fresh e (suc site) = refl
log-more (v ∷ vnodes) fresh e zero = refl
log-more (v ∷ vnodes) fresh e (suc site) = log-more vnodes fresh e site

pub history-more : (vnodes : List SiteVnode) (fresh : SiteVnode) → (history_of fresh) ≡ [] → (site : ℕ)
    → option_map_or (λ (v : SiteVnode). history_of v) (slice_get (vnodes ++ fresh ∷ []) site) [] ≡ option_map_or (λ (v : SiteVnode). history_of v) (slice_get vnodes site) []
history-more [] fresh e zero = e
history-more [] fresh e (suc site) = refl
history-more (v ∷ vnodes) fresh e zero = refl
history-more (v ∷ vnodes) fresh e (suc site) = history-more vnodes fresh e site

-- and changes no log
pub log-diverted : (w : World) (index site : ℕ) → log_at (after w (Diverts index)) site ≡ log_at w site
log-diverted w index site = by (diverted w index) refl
  where
    by : (o : Option World) → diverted w index ≡ o
        → log_at (option_map_or (λ (r : World × Outcome). r.0) (option_map (λ (next : World). (next, Happened)) o) w) site ≡ log_at w site
    by None h = refl
    by (Some next) h =
        let d = diversion w index next h in
        subst (λ (x : World). log_at x site ≡ log_at w site) d.gives
        (log-more w.vnodes (fresh_vnode (d.primary.place.vnode + fallback_ids) index d.epoch) refl site)
