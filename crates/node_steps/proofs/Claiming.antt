-- The claims that speak of one step, by what comes of it.
use Rattle.std.proofs.Common.{◌≡◌, ◌⊎◌, inl, inr, ℕ, zero, suc, Bool, true, false, refl, sym, ◌∙◌, ap, subst}
use Rattle.std.specs.Prelude.{pred, [], Option, Some, None, is_some, Result}
use Rattle.std.specs.Option.{option_map_or}
use Rattle.riak_msgs.specs.Contents.{Content}
use Rattle.vnode_machine.specs.Machine.{State}
use Rattle.vnode_machine.specs.Step.{Response, outcome as outcome_of_ask}
use Rattle.vnode_machine.specs.Runs.{IsAnswer, reply_of}
use Rattle.node_steps.specs.World.{SiteVnode, World, CommandsAlone, Call, route, id_at, last_epoch_at, log_at, history_at, front_at, call_at}
use Rattle.node_steps.specs.Steps.{accepted_in, Action, Step, By, Diverts, Outcome, NotPossible, Happened, Replied, accepted_in, left_in, judged, routed, acts, diverted}
use Rattle.node_steps.specs.Schedules.{Begins}
use Rattle.node_steps.specs.Told.{log_by}
use Rattle.node_steps.specs.Claims.{state_at, FallbacksTakeCommands, RepliesAreRegisters, CopiesIn, ClosesIn, NothingElseHappens, RepliesHaveSeen}
use Rattle.node_steps.proofs.Lists.{set-here, set-there, same_or_other}
use Rattle.node_steps.proofs.Inside.{state_of}
use Rattle.node_steps.proofs.Kept.{IsOrderly, possible}
use Rattle.node_steps.proofs.CloseSteps.{IsJudgement, IsClose, acts_cases}
use Rattle.node_steps.proofs.Closes.{close_here, close_hand, close_route, close_vnode, close_world}
use Rattle.node_steps.proofs.Quiet.{close_log}
use Rattle.node_steps.proofs.Judged.{AreJudged}
use Rattle.node_steps.proofs.Lifting.{not_replied, no_reply, log-diverted, step_answers, step_nothing_else, step_seen, only_happened}

abbrev then : World → Option (World × Outcome) → World × Outcome
then w o = (option_map_or (λ r. r.0) o w, option_map_or (λ r. r.1) o NotPossible)

-- the state after a vnode's log
abbrev state_in : Option SiteVnode → State Content
state_in o = state_of (option_map_or (λ (v : SiteVnode). v.id) o 0) (option_map_or (λ (v : SiteVnode). v.last_epoch) o 0) (option_map_or (λ (v : SiteVnode). v.log) o [])

-- a closer's look answers no call, nor does its publish
judged_silent : (own site : ℕ) (hand primary : State Content) (closed : Bool) (left : ℕ) (reply : Result Response ℕ) → (judged own site hand primary closed left).1 ≡ Replied reply → ⊥
judged_silent own site hand primary true left reply h = cc
judged_silent own site hand primary false zero reply h = cc
judged_silent own site hand primary false (suc left) reply h = cc

-- the claims, by the world after what a worker does and what comes of it
module _ (w : World) (number : ℕ) where
  abbrev AnswersBy : World × Outcome → Type 0
  AnswersBy q =
      (reply : Result Response ℕ) → q.1 ≡ Replied reply
      → (call : Call) × (call_at w number ≡ Some call) × ((state_at w call.site).closed ≡ None)
      × ((reply ≡ reply_of (outcome_of_ask (state_at w call.site) call.ask))
      × (log_at q.0 call.site ≡ log_by (id_at w call.site) (last_epoch_at w call.site) (log_at w call.site) call.ask (outcome_of_ask (state_at w call.site) call.ask)))
      × (CommandsAlone (log_at w call.site)
      → IsAnswer (id_at w call.site) (last_epoch_at w call.site) (history_at w call.site) (record { ask = call.ask; reply = reply }) (history_at q.0 call.site))

  abbrev NothingElseBy : World × Outcome → Type 0
  NothingElseBy q =
      (index : ℕ) → (log_at q.0 index ≡ log_at w index)
      ⊎ (((call : Call) × (call_at w number ≡ Some call) × (call.site ≡ index) × ((reply : Result Response ℕ) × (q.1 ≡ Replied reply))) ⊎ (CopiesIn w q index ⊎ ClosesIn w q index))

  abbrev SeenBy : World × Outcome → Type 0
  SeenBy q =
      (index : ℕ) (call : Call) → call_at w number ≡ Some call → call.site ≡ index → (reply : Result Response ℕ) → q.1 ≡ Replied reply
      → Begins (front_at w number index) (log_at w index) × (front_at q.0 number index ≡ log_at q.0 index)

  module _ (orderly : IsOrderly w) (action : Action) where
    -- what answers nothing has nothing to show for it
    pub silent_judged : (r : World × Outcome) → IsJudgement w number action r → (reply : Result Response ℕ) → r.1 ≡ Replied reply → ⊥
    silent_judged r j reply h = judged_silent j.own j.site j.hand j.primary.place (is_some j.hand.closed) (left_in j.primary.place j.hand) reply (ap (λ (q : World × Outcome). q.1) j.gives ∙ h)

    pub silent_closed : (r : World × Outcome) → IsClose w number action r → (reply : Result Response ℕ) → r.1 ≡ Replied reply → ⊥
    silent_closed r c reply h = only_happened reply (ap (λ (q : World × Outcome). q.1) c.gives ∙ h)

    answers_by : (o : Option (World × Outcome)) → acts w number action ≡ o → AnswersBy (then w o)
    answers_by None h = λ reply e. absurd (not_replied reply e)
    answers_by (Some r) h = elim (acts_cases w number action r h) [
      | inl does ↦ let p = possible w number action r does in subst AnswersBy p.gives (step_answers w orderly number action r p)
      | inr two ↦ elim two [
        | inl j ↦ λ reply e. absurd (silent_judged r j reply e)
        | inr c ↦ λ reply e. absurd (silent_closed r c reply e)
      ]
    ]

    -- a close
    module _ (judged_all : AreJudged w) (r : World × Outcome) (c : IsClose w number action r) where
      closes_in : ClosesIn w (close_world w orderly number action r c, Happened) c.site
      closes_in =
          let f = judged_all (pred number) c.worker (close_here w orderly number action r c) c.own c.site c.hand c.count c.phase_is in
          let own : state_of f.primary.id f.primary.last_epoch f.primary.log ≡ state_at w c.own = sym (ap state_in f.there) in
          let site : c.hand ≡ state_at w c.site = (close_hand w orderly number action r c).0 ∙ sym (ap state_in c.fallback_is) in
          record {
            number = c.count;
            log_is = close_log w orderly number action r c;
            own = c.own;
            from_is = close_route w orderly number action r c;
            number_is = f.number_is ∙ ap accepted_in own;
            copied = (λ i. left_in (sym own i) (sym site i)) ∙ f.none_left;
            to_is = set-here w.routes c.own c.site c.own (close_route w orderly number action r c);
          }

      closed_else : NothingElseBy r
      closed_else = subst NothingElseBy c.gives (λ index. elim (same_or_other c.site index) [
        | inl e ↦ inr (inr (inr (subst (λ k. ClosesIn w (close_world w orderly number action r c, Happened) k) e closes_in)))
        | inr n ↦ inl (ap (λ o. option_map_or (λ (v : SiteVnode). v.log) o []) (set-there w.vnodes c.site index (close_vnode w orderly number action r c) n))
      ])

    nothing_else_by : AreJudged w → (o : Option (World × Outcome)) → acts w number action ≡ o → NothingElseBy (then w o)
    nothing_else_by judged_all None h = λ index. inl refl
    nothing_else_by judged_all (Some r) h = elim (acts_cases w number action r h) [
      | inl does ↦
          let p = possible w number action r does in
          subst NothingElseBy p.gives (λ index. elim (step_nothing_else w orderly number action r p index) [
            | inl same ↦ inl same
            | inr rest ↦ elim rest [
              | inl replies ↦ inr (inl replies)
              | inr copies ↦ inr (inr (inl copies))
            ]
          ])
      | inr two ↦ elim two [
        | inl j ↦ subst NothingElseBy j.gives (λ index. inl refl)
        | inr c ↦ closed_else judged_all r c
      ]
    ]

    seen_by : (o : Option (World × Outcome)) → acts w number action ≡ o → SeenBy (then w o)
    seen_by None h = λ index call asked at reply e. absurd (not_replied reply e)
    seen_by (Some r) h = elim (acts_cases w number action r h) [
      | inl does ↦ let p = possible w number action r does in subst SeenBy p.gives (step_seen w orderly number action r p)
      | inr two ↦ elim two [
        | inl j ↦ λ index call asked at reply e. absurd (silent_judged r j reply e)
        | inr c ↦ λ index call asked at reply e. absurd (silent_closed r c reply e)
      ]
    ]

pub replies_are_registers : (w : World) → IsOrderly w → FallbacksTakeCommands w → (step : Step) → RepliesAreRegisters w step
replies_are_registers w orderly fallbacks (By number action) reply replied =
    let sent = routed (route w) action in
    let a = answers_by w number orderly sent (acts w number sent) refl reply replied in record {
      call = a.0;
      asked = a.1;
      opened = a.2;
      reply_is = a.3.0;
      log_is = a.3.1;
      answer = λ plain. elim plain [ inl only ↦ a.4 only | inr away ↦ a.4 ((fallbacks a.0.site away).1 a.2) ];
    }
replies_are_registers w orderly fallbacks (Diverts index) reply replied = absurd (no_reply (diverted w index) reply replied)

pub nothing_else_happens : (w : World) → IsOrderly w → AreJudged w → (step : Step) → NothingElseHappens w step
nothing_else_happens w orderly judged_all (By number action) index =
    let sent = routed (route w) action in
    elim (nothing_else_by w number orderly sent judged_all (acts w number sent) refl index) [
      | inl same ↦ inl same
      | inr rest ↦ elim rest [
        | inl a ↦ inr (inl (record { call = a.0; asked = a.1; at = a.2; reply = a.3.0; replied = a.3.1 }))
        | inr more ↦ inr (inr more)
      ]
    ]
nothing_else_happens w orderly judged_all (Diverts other) index = inl (log-diverted w other index)

pub replies_have_seen : (w : World) → IsOrderly w → (step : Step) → RepliesHaveSeen w step
replies_have_seen w orderly (By number action) index a =
    let sent = routed (route w) action in seen_by w number orderly sent (acts w number sent) refl index a.call a.asked a.at a.reply a.replied
replies_have_seen w orderly (Diverts other) index a = absurd (no_reply (diverted w other) a.reply a.replied)
