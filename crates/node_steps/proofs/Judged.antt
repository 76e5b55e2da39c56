-- A closer that has looked: nothing was left to copy, and it has the number of the primary's commands; so it is as long as it is inside.
use Rattle.std.proofs.Common.{◌≡◌, ◌≢◌, inl, inr, ℕ, zero, suc, ◌+◌, Bool, true, false, List, [], ◌∷◌, refl, sym, ◌∙◌, ap, subst}
use Rattle.std.proofs.lemmas.Bool.{false≢true}
use Rattle.std.specs.Prelude.{pred, Option, Some, None, is_some, option_map, slice_get}
use Rattle.std.specs.Option.{option_map_or}
use Rattle.riak_msgs.specs.Contents.{Content}
use Rattle.vnode_machine.specs.Machine.{State}
use Rattle.node_steps.specs.World.{CloseLooked, Phase, Idle, Closing, SiteVnode, Worker, World, fresh_vnode, fresh_worker, opening_world, route}
use Rattle.node_steps.specs.Steps.{accepted_in, Action, Step, By, Diverts, Outcome, Happened, fallback_ids, left_in, judged, judged_by, routed, turned, acts, diverted}
use Rattle.node_steps.specs.Schedules.{Start, IsStart, world_after}
use Rattle.node_steps.proofs.Lists.{how_many, set-here, set-there, same_or_other, get-before, get-replicate, counted_one}
use Rattle.node_steps.proofs.Inside.{is_reader, is_holder, reads, holds, same_test, false_true, state_of}
use Rattle.node_steps.proofs.Coming.{between_in, is_looked}
use Rattle.node_steps.proofs.Turns.{place_read}
use Rattle.node_steps.proofs.Kept.{IsOrderly, IsPossible, possible, outside, at_place}
use Rattle.node_steps.proofs.CloseSteps.{IsJudgement, IsClose, acts_cases, some_back, set_cases}
use Rattle.node_steps.proofs.Closes.{close_here, close_vnode, close_worker, close_world}
use Rattle.node_steps.proofs.Diverting.{IsDiversion, diversion}
use Rattle.node_steps.proofs.Scheduled.{orderly}
use Rattle.node_steps.proofs.Lifting.{here, turn}

-- the state at a site is one to which all was copied, and it accepted so many commands
pub record IsCopiedTo (w : World) (own : ℕ) (hand : State Content) (number : ℕ) : Type 0 where
  pub primary : SiteVnode
  pub there : slice_get w.vnodes own ≡ Some primary
  pub none_left : left_in (state_of primary.id primary.last_epoch primary.log) hand ≡ 0
  pub number_is : number ≡ accepted_in (state_of primary.id primary.last_epoch primary.log)

-- so it is of each closer that has looked
abbrev pub AreJudged : World → Type 0
AreJudged w =
    (place : ℕ) (worker : Worker) → slice_get w.workers place ≡ Some worker → (own site : ℕ) (hand : State Content) (number : ℕ)
    → worker.phase ≡ Closing own site (CloseLooked hand number) → IsCopiedTo w own hand number

inside_own : (own site : ℕ) (hand : State Content) (number : ℕ) (phase : Phase) → phase ≡ Closing own site (CloseLooked hand number) → is_reader own phase ≡ true
inside_own own site hand number phase e = ap (is_reader own) e ∙ same_test own own refl

judged-opening : (start : Start) → AreJudged (opening_world start.run start.workers start.vnodes)
judged-opening start place worker h own site hand number e =
    absurd (not_idle (ap (λ (x : Worker). x.phase) (sym (get-replicate start.workers place fresh_worker worker h)) ∙ e))
  where
    not_idle : Idle ≡ Closing own site (CloseLooked hand number) → ⊥
    not_idle h = cc

-- a step at one site
module _ (w : World) (orderly : IsOrderly w) (number : ℕ) (action : Action) (r : World × Outcome) (p : IsPossible w number action r) (was : AreJudged w) where
  abbrev next : World
  next = turned w (pred number) p.index p.worker p.turn

  -- nobody changes the log of a vnode that another is inside
  stays : (place : ℕ) (worker : Worker) → pred number ≢ place → slice_get w.workers place ≡ Some worker → (own site : ℕ) (hand : State Content) (count : ℕ)
      → worker.phase ≡ Closing own site (CloseLooked hand count) → IsCopiedTo w own hand count → IsCopiedTo next own hand count
  stays place worker n h own site hand count e f = elim (same_or_other p.index own) [
    | inl at ↦
        let t = turn w orderly number action r p in
        let same = some_back p.vnode f.primary (sym p.vnode_is ∙ ap (λ k. slice_get w.vnodes k) at ∙ f.there) in
        let log : p.turn.vnode.log ≡ p.vnode.log = elim t.same [
          | inl kept ↦ kept
          | inr mine ↦ absurd (false_true (is_reader p.index worker.phase)
              (outside w orderly (pred number) p.index p.worker p.vnode (here w orderly number action r p) p.vnode_is place worker n h mine).0
              (ap (λ k. is_reader k worker.phase) at ∙ inside_own own site hand count worker.phase e))
        ] in
        let state : state_of p.turn.vnode.id p.turn.vnode.last_epoch p.turn.vnode.log ≡ state_of f.primary.id f.primary.last_epoch f.primary.log =
        (λ i. state_of (t.same_id i) (t.same_epoch i) (log i)) ∙ ap (λ (v : SiteVnode). state_of v.id v.last_epoch v.log) same in
        record {
          primary = p.turn.vnode;
          there = ap (λ k. slice_get next.vnodes k) (sym at) ∙ set-here w.vnodes p.index p.vnode p.turn.vnode p.vnode_is;
          none_left = ap (λ s. left_in s hand) state ∙ f.none_left;
          number_is = f.number_is ∙ ap accepted_in (sym state);
        }
    | inr m ↦ record { primary = f.primary; there = set-there w.vnodes p.index own p.turn.vnode m ∙ f.there; none_left = f.none_left; number_is = f.number_is }
  ]

  judged-does : AreJudged next
  judged-does place worker h own site hand count e = elim (set_cases w (pred number) p.worker _ (here w orderly number action r p) place worker h) [
    | inl d ↦
        let phase : p.turn.phase ≡ Closing own site (CloseLooked hand count) = ap (λ (x : Worker). x.phase) d.1 ∙ e in
        absurd (false_true (is_looked p.turn.phase) ((turn w orderly number action r p).between own site (ap between_in phase)).0 (ap is_looked phase))
    | inr d ↦ stays place worker d.0 d.1 own site hand count e (was place worker d.1 own site hand count e)
  ]

-- a closer's look
module _ (w : World) (orderly : IsOrderly w) (number : ℕ) (action : Action) (r : World × Outcome) (j : IsJudgement w number action r) (was : AreJudged w) where
  place_is : j.primary.place ≡ state_of j.primary.id j.primary.last_epoch j.primary.log
  place_is =
      let sound = orderly.vnodes j.own j.primary j.primary_is in
      place_read j.primary.id j.primary.last_epoch j.primary.own j.own (how_many (reads j.own) w.workers) (how_many (holds j.own) w.workers) j.primary.word j.primary.log j.primary.place sound.word
      (counted_one (reads j.own) w.workers (pred number) j.worker (at_place w number j.worker j.worker_is) (ap (is_reader j.own) j.phase_is ∙ same_test j.own j.own refl)) sound.place

  by_look : (closed : Bool) (left : ℕ) → left_in j.primary.place j.hand ≡ left → (own site : ℕ) (hand : State Content) (count : ℕ)
      → (judged j.own j.site j.hand j.primary.place closed left).0 ≡ Closing own site (CloseLooked hand count) → IsCopiedTo w own hand count
  by_look true left h own site hand count e = cc
  by_look false (suc left) h own site hand count e = cc
  by_look false zero h own site hand count e =
      let at : j.own ≡ own = cc in
      let held : j.hand ≡ hand = cc in
      let counts : accepted_in j.primary.place ≡ count = cc in
      record {
        primary = j.primary;
        there = ap (λ k. slice_get w.vnodes k) (sym at) ∙ j.primary_is;
        none_left = (λ i. left_in (sym place_is i) (sym held i)) ∙ h;
        number_is = sym counts ∙ ap accepted_in place_is;
      }

  judged-judged : AreJudged r.0
  judged-judged = subst (λ (q : World × Outcome). AreJudged q.0) j.gives (λ place worker h own site hand count e.
      as_before own hand count (elim (set_cases w (pred number) j.worker _ (at_place w number j.worker j.worker_is) place worker h) [
        | inl d ↦ by_look (is_some j.hand.closed) (left_in j.primary.place j.hand) refl own site hand count (ap (λ (x : Worker). x.phase) d.1 ∙ e)
        | inr d ↦ was place worker d.1 own site hand count e
      ]))
    where
      as_before : (own : ℕ) (hand : State Content) (count : ℕ) → IsCopiedTo w own hand count
          → IsCopiedTo (judged_by w (pred number) j.own j.site j.worker j.primary j.fallback (judged j.own j.site j.hand j.primary.place (is_some j.hand.closed) (left_in j.primary.place j.hand)).0) own hand count
      as_before own hand count f = record { primary = f.primary; there = f.there; none_left = f.none_left; number_is = f.number_is }

-- and its publish
module _ (w : World) (orderly : IsOrderly w) (number : ℕ) (action : Action) (r : World × Outcome) (c : IsClose w number action r) (was : AreJudged w) where
  abbrev later : World
  later = close_world w orderly number action r c

  judged-closed : AreJudged r.0
  judged-closed = subst (λ (q : World × Outcome). AreJudged q.0) c.gives (λ place worker h own site hand count e.
      elim (set_cases w (pred number) c.worker (close_worker w orderly number action r c) (close_here w orderly number action r c) place worker h) [
        | inl d ↦ absurd (false≢true (ap (λ (x : Worker). is_looked x.phase) d.1 ∙ ap is_looked e))
        | inr d ↦
            let f = was place worker d.1 own site hand count e in
            record {
              primary = f.primary;
              there = set-there w.vnodes c.site own (close_vnode w orderly number action r c) (apart place worker d.0 d.1 own site hand count e) ∙ f.there;
              none_left = f.none_left;
              number_is = f.number_is;
            }
      ])
    where
      apart : (place : ℕ) (worker : Worker) → pred number ≢ place → slice_get w.workers place ≡ Some worker → (own site : ℕ) (hand : State Content) (count : ℕ)
          → worker.phase ≡ Closing own site (CloseLooked hand count) → c.site ≢ own
      apart place worker n h own site hand count e = λ at.
          false_true (is_reader c.site worker.phase)
          (outside w orderly (pred number) c.site c.worker c.fallback (close_here w orderly number action r c) c.fallback_is place worker n h
          (ap (is_holder c.site) c.phase_is ∙ same_test c.site c.site refl)).0
          (ap (λ k. is_reader k worker.phase) at ∙ inside_own own site hand count worker.phase e)

judged-diverted : (w : World) (other : ℕ) (after : World) (d : IsDiversion w other after) → AreJudged w → AreJudged after
judged-diverted w other after d was = subst AreJudged d.gives (λ place worker h own site hand count e.
    let f = was place worker h own site hand count e in
    record {
      primary = f.primary;
      there = get-before w.vnodes (fresh_vnode (d.primary.place.vnode + fallback_ids) other d.epoch ∷ []) own f.primary f.there;
      none_left = f.none_left;
      number_is = f.number_is;
    })

pub judged_after : (start : Start) → IsStart start → (schedule : List Step) → AreJudged (world_after start schedule)
judged_after start is [] = judged-opening start
judged_after start is (By number action ∷ earlier) = by (acts w number sent) refl (judged_after start is earlier)
  where
    w : World
    w = world_after start earlier

    sent : Action
    sent = routed (route w) action

    by : (o : Option (World × Outcome)) → acts w number sent ≡ o → AreJudged w → AreJudged (option_map_or (λ (r : World × Outcome). r.0) o w)
    by None h was = was
    by (Some r) h was = elim (acts_cases w number sent r h) [
      | inl does ↦
          let p = possible w number sent r does in
          subst (λ (q : World × Outcome). AreJudged q.0) p.gives (judged-does w (orderly start is earlier) number sent r p was)
      | inr two ↦ elim two [
        | inl j ↦ judged-judged w (orderly start is earlier) number sent r j was
        | inr c ↦ judged-closed w (orderly start is earlier) number sent r c was
      ]
    ]
judged_after start is (Diverts other ∷ earlier) = by (diverted w other) refl (judged_after start is earlier)
  where
    w : World
    w = world_after start earlier

    by : (o : Option World) → diverted w other ≡ o → AreJudged w → AreJudged (option_map_or (λ (r : World × Outcome). r.0) (option_map (λ (next : World). (next, Happened)) o) w)
    by None h was = was
    by (Some next) h was = judged-diverted w other next (diversion w other next h) was
