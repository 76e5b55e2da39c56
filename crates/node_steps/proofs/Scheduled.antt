-- What is always true of a world is true after every schedule.
use Rattle.std.proofs.Common.{◌≡◌, inl, inr, ℕ, Bool, true, false, cond, not, ◌&&◌, List, [], ◌∷◌, refl, sym, ◌∙◌, ap, subst}
use Rattle.std.specs.Prelude.{◌==◌, Option, Some, None, slice_get}
use Rattle.std.specs.Option.{option_map_or}
use Rattle.node_steps.specs.World.{World, route}
use Rattle.node_steps.specs.Steps.{Action, Asks, AsksNowhere, Copies, CopiesFrom, Closes, ClosesFrom, Enters, Leaves, Marks, Unmarks, Takes, Puts, Looks, Publishes, Step, By, Diverts, Outcome, is_reap, sent, routed, diverted, happens, after}
use Rattle.node_steps.specs.Schedules.{Start, IsStart, world_after}
use Rattle.std.proofs.lemmas.Option.{some_pair_parts}
use Rattle.node_steps.proofs.Inside.{false_true, same_test}
use Rattle.node_steps.proofs.Kept.{CopiesWell, SendsWell, IsOrderly}
use Rattle.node_steps.proofs.KeptSteps.{orderly-does}
use Rattle.node_steps.proofs.Coming.{sent_between}
use Rattle.node_steps.proofs.CloseSteps.{acts_cases, orderly-judged}
use Rattle.node_steps.proofs.Closes.{orderly-closed}
use Rattle.node_steps.proofs.FirstWorld.{orderly-opening}
use Rattle.node_steps.proofs.Diverting.{diversion, orderly-diverted}
use Rattle.vnode_machine.proofs.Tests.{unmapped}

not_same : (a b : ℕ) → (a == b) ≡ false → a ≡ b → ⊥
not_same a b h e = false_true (a == b) h (same_test a b e)

-- where a copier or closer of a partition is sent, if anywhere
sent_well : (w : World) (index : ℕ) (made : ℕ → Action) → ((to : ℕ) → sent_between (made to) ≡ Some (index, to)) → (own site : ℕ)
    → sent_between (option_map_or (λ to. cond (to == index) AsksNowhere (made to)) (slice_get w.routes index) AsksNowhere) ≡ Some (own, site) → CopiesWell w own site
sent_well w index made is own site h = by (slice_get w.routes index) refl h
  where
    by_test : (to : ℕ) (b : Bool) → (to == index) ≡ b → slice_get w.routes index ≡ Some to → sent_between (cond b AsksNowhere (made to)) ≡ Some (own, site) → CopiesWell w own site
    by_test to true e route h = cc
    by_test to false e route h =
        let p = some_pair_parts index own to site (sym (is to) ∙ h) in (
          ap (λ o. slice_get w.routes o) (sym p.0) ∙ route ∙ ap (λ s. Some s) p.1,
          λ k. not_same to index e (p.1 ∙ sym k ∙ sym p.0),
        )

    by : (o : Option ℕ) → slice_get w.routes index ≡ o → sent_between (option_map_or (λ to. cond (to == index) AsksNowhere (made to)) o AsksNowhere) ≡ Some (own, site) → CopiesWell w own site
    by None route h = cc
    by (Some to) route h = by_test to (to == index) refl route h

-- an action that was sent copies or closes at another site than the own one, to which the calls go
pub sends-well : (w : World) (action : Action) → SendsWell w (routed (route w) action)
sends-well w (Copies index key) = sent_well w index (λ to. CopiesFrom index to key) (λ to. refl)
sends-well w (Closes index) = sent_well w index (λ to. ClosesFrom index to) (λ to. refl)
sends-well w (CopiesFrom at from key) = λ own site h. cc
sends-well w (ClosesFrom at from) = λ own site h. cc
sends-well w (Asks index ask) = λ own site h. by own site (slice_get w.routes index) h
  where
    by_test : (own site : ℕ) (to : ℕ) (b : Bool) → sent_between (cond b AsksNowhere (Asks to ask)) ≡ Some (own, site) → CopiesWell w own site
    by_test own site to true h = cc
    by_test own site to false h = cc

    by : (own site : ℕ) (o : Option ℕ) → sent_between (option_map_or (λ to. sent index to ask) o AsksNowhere) ≡ Some (own, site) → CopiesWell w own site
    by own site None h = cc
    by own site (Some to) h = by_test own site to (not (to == index) && is_reap ask) h
sends-well w AsksNowhere = λ own site h. cc
sends-well w Enters = λ own site h. cc
sends-well w Leaves = λ own site h. cc
sends-well w Marks = λ own site h. cc
sends-well w Unmarks = λ own site h. cc
sends-well w Takes = λ own site h. cc
sends-well w Puts = λ own site h. cc
sends-well w Looks = λ own site h. cc
sends-well w Publishes = λ own site h. cc

pub orderly-step : (w : World) (orderly : IsOrderly w) (step : Step) (r : World × Outcome) → happens w step ≡ Some r → IsOrderly r.0
orderly-step w orderly (By number action) r h =
    let to = routed (route w) action in
    elim (acts_cases w number to r h) [
      | inl does ↦ orderly-does w orderly number to (sends-well w action) r does
      | inr two ↦ elim two [
        | inl judged ↦ orderly-judged w orderly number to r judged
        | inr closed ↦ orderly-closed w orderly number to r closed
      ]
    ]
orderly-step w orderly (Diverts index) r h =
    let d = unmapped _ (diverted w index) r h in
    let p = diversion w index d.0 d.1 in
    subst (λ (q : World × Outcome). IsOrderly q.0) d.2 (subst IsOrderly p.gives (orderly-diverted w orderly index p.epoch p.primary p.vnode_is p.own p.alone p.epoch_is))

orderly-after : (w : World) → IsOrderly w → (step : Step) → IsOrderly (after w step)
orderly-after w orderly step = by (happens w step) refl
  where
    by : (o : Option (World × Outcome)) → happens w step ≡ o → IsOrderly (option_map_or (λ r. r.0) o w)
    by None h = orderly
    by (Some r) h = orderly-step w orderly step r h

pub orderly : (start : Start) → IsStart start → (schedule : List Step) → IsOrderly (world_after start schedule)
orderly start is [] = orderly-opening start is
orderly start is (step ∷ earlier) = orderly-after (world_after start earlier) (orderly start is earlier) step
