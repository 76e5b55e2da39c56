-- A closer's look and its publish leave ids, histories and calls as they were; a publish adds a close to one log.
use Rattle.std.proofs.Common.{◌≡◌, ◌⊎◌, inl, inr, ℕ, zero, suc, Bool, true, false, [], ◌∷◌, refl, sym, ◌∙◌, ap, subst, ◌≢◌}
use Rattle.std.proofs.lemmas.Option.{none-some}
use Rattle.std.proofs.lemmas.Bool.{false≢true}
use Rattle.std.specs.Prelude.{pred, Some, None, is_some, slice_get}
use Rattle.std.specs.Option.{option_map_or}
use Rattle.riak_msgs.specs.Contents.{Content}
use Rattle.vnode_machine.specs.Machine.{State}
use Rattle.copy_laws.specs.Copies.{Closed}
use Rattle.copy_laws.specs.Joining.{Log}
use Rattle.node_steps.specs.World.{SiteVnode, Worker, World, CommandsAlone, Call, id_at, own_at, last_epoch_at, log_at, history_at, call_of, history_of}
use Rattle.node_steps.specs.Steps.{Action, Outcome, left_in, judged}
use Rattle.node_steps.specs.Claims.{CommandsFirst, state_at, HadClose}
use Rattle.node_steps.proofs.Lists.{set-here, set-there, same_or_other}
use Rattle.node_steps.proofs.Inside.{closed-mixed, false_true, state_of}
use Rattle.node_steps.proofs.Coming.{is_turned}
use Rattle.node_steps.proofs.CloseSteps.{IsJudgement, IsClose, set_cases}
use Rattle.node_steps.proofs.Kept.{IsOrderly, at_place}
use Rattle.node_steps.proofs.Closes.{close_here, close_vnode, close_worker, close_world}

pub record IsQuiet (w next : World) : Type 0 where
  pub ids : (site : ℕ) → id_at next site ≡ id_at w site
  pub owns : (site : ℕ) → own_at next site ≡ own_at w site
  pub epochs : (site : ℕ) → last_epoch_at next site ≡ last_epoch_at w site
  pub histories : (site : ℕ) → history_at next site ≡ history_at w site
  pub logs : (site : ℕ) → (log_at next site ≡ log_at w site) ⊎ ((number : ℕ) × (log_at next site ≡ Closed number ∷ log_at w site))
  pub calls : (place : ℕ) (worker : Worker) → slice_get next.workers place ≡ Some worker → (call : Call) → call_of worker.phase ≡ Some call
      → (old : Worker) × (slice_get w.workers place ≡ Some old) × (old.phase ≡ worker.phase)
  pub turned : (place : ℕ) (worker : Worker) → slice_get next.workers place ≡ Some worker → is_turned worker.phase ≡ true
      → (old : Worker) × (slice_get w.workers place ≡ Some old) × (old.phase ≡ worker.phase)

judged_turned : (own site : ℕ) (hand primary : State Content) (closed : Bool) (left : ℕ) → is_turned (judged own site hand primary closed left).0 ≡ false
judged_turned own site hand primary true left = refl
judged_turned own site hand primary false zero = refl
judged_turned own site hand primary false (suc left) = refl

judged_call : (own site : ℕ) (hand primary : State Content) (closed : Bool) (left : ℕ) → call_of (judged own site hand primary closed left).0 ≡ None
judged_call own site hand primary true left = refl
judged_call own site hand primary false zero = refl
judged_call own site hand primary false (suc left) = refl

pub quiet-judged : (w : World) (number : ℕ) (action : Action) (r : World × Outcome) → IsJudgement w number action r → IsQuiet w r.0
quiet-judged w number action r j = subst (λ (q : World × Outcome). IsQuiet w q.0) j.gives (record {
  ids = λ site. refl;
  owns = λ site. refl;
  epochs = λ site. refl;
  histories = λ site. refl;
  logs = λ site. inl refl;
  calls = λ place worker h call asked. elim (set_cases w (pred number) j.worker _ (at_place w number j.worker j.worker_is) place worker h) [
    | inl d ↦ absurd (none-some call (sym (judged_call j.own j.site j.hand j.primary.place (is_some j.hand.closed) (left_in j.primary.place j.hand)) ∙ ap (λ (x : Worker). call_of x.phase) d.1 ∙ asked))
    | inr d ↦ (worker, d.1, refl)
  ];
  turned = λ place worker h turned. elim (set_cases w (pred number) j.worker _ (at_place w number j.worker j.worker_is) place worker h) [
    | inl d ↦ absurd (false_true (is_turned (judged j.own j.site j.hand j.primary.place (is_some j.hand.closed) (left_in j.primary.place j.hand)).0)
        (judged_turned j.own j.site j.hand j.primary.place (is_some j.hand.closed) (left_in j.primary.place j.hand)) (ap (λ (x : Worker). is_turned x.phase) d.1 ∙ turned))
    | inr d ↦ (worker, d.1, refl)
  ];
})

module _ (w : World) (orderly : IsOrderly w) (number : ℕ) (action : Action) (r : World × Outcome) (c : IsClose w number action r) where
  abbrev next : World
  next = close_world w orderly number action r c

  abbrev vnode : SiteVnode
  vnode = close_vnode w orderly number action r c

  pub close_log : log_at next c.site ≡ Closed c.count ∷ log_at w c.site
  close_log =
      ap (λ o. option_map_or (λ (v : SiteVnode). v.log) o []) (set-here w.vnodes c.site c.fallback vnode c.fallback_is)
      ∙ ap (λ (l : Log). Closed c.count ∷ l) (sym (ap (λ o. option_map_or (λ (v : SiteVnode). v.log) o []) c.fallback_is))

  -- what the close doesn't change of a vnode
  same_at : {X : Type 0} (f : SiteVnode → X) (d : X) → f vnode ≡ f c.fallback → (site : ℕ) → option_map_or f (slice_get next.vnodes site) d ≡ option_map_or f (slice_get w.vnodes site) d
  same_at f d e site = elim (same_or_other c.site site) [
    | inl at ↦ subst (λ k. option_map_or f (slice_get next.vnodes k) d ≡ option_map_or f (slice_get w.vnodes k) d) at
        (ap (λ o. option_map_or f o d) (set-here w.vnodes c.site c.fallback vnode c.fallback_is) ∙ e ∙ sym (ap (λ o. option_map_or f o d) c.fallback_is))
    | inr n ↦ ap (λ o. option_map_or f o d) (set-there w.vnodes c.site site vnode n)
  ]

  pub quiet-closed : IsQuiet w r.0
  quiet-closed = subst (λ (q : World × Outcome). IsQuiet w q.0) c.gives (record {
    ids = same_at (λ v. v.id) 0 refl;
    owns = same_at (λ v. v.own) 0 refl;
    epochs = same_at (λ v. v.last_epoch) 0 refl;
    histories = same_at (λ v. history_of v) [] refl;
    logs = λ site. elim (same_or_other c.site site) [
      | inl e ↦ inr (c.count, subst (λ k. log_at next k ≡ Closed c.count ∷ log_at w k) e close_log)
      | inr n ↦ inl (ap (λ o. option_map_or (λ (v : SiteVnode). v.log) o []) (set-there w.vnodes c.site site vnode n))
    ];
    calls = λ place worker h call asked.
        elim (set_cases w (pred number) c.worker (close_worker w orderly number action r c) (close_here w orderly number action r c) place worker h) [
          | inl d ↦ absurd (none-some call (ap (λ (x : Worker). call_of x.phase) d.1 ∙ asked))
          | inr d ↦ (worker, d.1, refl)
        ];
    turned = λ place worker h turned.
        elim (set_cases w (pred number) c.worker (close_worker w orderly number action r c) (close_here w orderly number action r c) place worker h) [
          | inl d ↦ absurd (false≢true (ap (λ (x : Worker). is_turned x.phase) d.1 ∙ turned))
          | inr d ↦ (worker, d.1, refl)
        ];
  })

module _ (w next : World) (quiet : IsQuiet w next) where
  -- what was closed still is
  pub had_quiet : (site : ℕ) → HadClose w site → HadClose next site
  had_quiet site (other, own, closed) = (other, quiet.owns other ∙ own ∙ sym (quiet.owns site), by (quiet.logs other))
    where
      by : (log_at next other ≡ log_at w other) ⊎ ((number : ℕ) × (log_at next other ≡ Closed number ∷ log_at w other)) → (state_at next other).closed ≢ None
      by (inl same) = λ none. closed (sym (λ i. (state_of (quiet.ids other i) (quiet.epochs other i) (same i)).closed) ∙ none)
      by (inr more) = λ none. none-some more.0 (sym none ∙ (λ i. (state_of (quiet.ids other i) (quiet.epochs other i) (more.1 i)).closed))

  -- a log that is of commands alone, or has its commands first, was so
  pub alone_quiet : (site : ℕ) → CommandsAlone (log_at next site) → CommandsAlone (log_at w site)
  alone_quiet site only = elim (quiet.logs site) [
    | inl same ↦ subst CommandsAlone same only
    | inr closed ↦ absurd (closed-mixed closed.0 (log_at w site) (subst CommandsAlone closed.1 only))
  ]

  pub first_quiet : (site : ℕ) → CommandsFirst (log_at next site) → CommandsFirst (log_at w site)
  first_quiet site first = elim (quiet.logs site) [
    | inl same ↦ subst CommandsFirst same first
    | inr closed ↦ subst CommandsFirst closed.1 first
  ]
