-- The site of a call, and where an ask is sent.
use Rattle.std.proofs.Common.{◌≡◌, ℕ, Bool, true, false, not, ◌&&◌, cond, refl, sym, ◌∙◌, ap}
use Rattle.std.specs.Prelude.{◌==◌, Option, Some, None, slice_get}
use Rattle.std.specs.Option.{option_map_or}
use Rattle.riak_msgs.specs.Contents.{Content}
use Rattle.sibling_register.specs.Answers.{RegisterAsk}
use Rattle.actor_epoch.specs.Given.{Context}
use Rattle.node_steps.specs.World.{Phase, Idle, Asked, Reading, Holding, Done, Turned, Copying, Closing, World, Call, route, call_of}
use Rattle.node_steps.specs.Steps.{Action, Asks, AsksNowhere, Copies, CopiesFrom, Closes, ClosesFrom, Enters, Leaves, Marks, Unmarks, Takes, Puts, Looks, Publishes, is_reap, sent, sent_copy, sent_close, routed, site_of}
use Rattle.node_steps.proofs.CloseSteps.{some_back}

-- the site of a call
pub call_site : (phase : Phase) (call : Call) → call_of phase ≡ Some call → site_of Enters phase ≡ Some call.site
call_site Idle call h = cc
call_site (Asked site ask) call h = ap (λ (c : Call). Some c.site) (some_back _ call h)
call_site (Reading site get) call h = ap (λ (c : Call). Some c.site) (some_back _ call h)
call_site (Holding site ask hand plan) call h = ap (λ (c : Call). Some c.site) (some_back _ call h)
call_site (Done site hand) call h = cc
call_site (Turned own site ask hand) call h = ap (λ (c : Call). Some c.site) (some_back _ call h)
call_site (Copying own site key stage) call h = cc
call_site (Closing own site stage) call h = cc

-- where an ask is sent
pub sent-by : (w : World) (action : Action) (site : ℕ) (ask : RegisterAsk Content Context) → routed (route w) action ≡ Asks site ask
    → (other : ℕ) × (slice_get w.routes other ≡ Some site) × ((not (site == other) && is_reap ask) ≡ false)
sent-by w (Asks other given) site ask h = by (slice_get w.routes other) refl h
  where
    by_test : (to : ℕ) (b : Bool) → (not (to == other) && is_reap given) ≡ b → slice_get w.routes other ≡ Some to → cond b AsksNowhere (Asks to given) ≡ Asks site ask
        → (at : ℕ) × (slice_get w.routes at ≡ Some site) × ((not (site == at) && is_reap ask) ≡ false)
    by_test to true e route h = cc
    by_test to false e route h =
        let there : to ≡ site = cc in
        let same : given ≡ ask = cc in
        (other, route ∙ ap (λ s. Some s) there, (λ i. not (sym there i == other) && is_reap (sym same i)) ∙ e)

    by : (o : Option ℕ) → slice_get w.routes other ≡ o → option_map_or (λ to. sent other to given) o AsksNowhere ≡ Asks site ask
        → (at : ℕ) × (slice_get w.routes at ≡ Some site) × ((not (site == at) && is_reap ask) ≡ false)
    by None route h = cc
    by (Some to) route h = by_test to (not (to == other) && is_reap given) refl route h
sent-by w (Copies index key) site ask h = by (slice_get w.routes index) h
  where
    by_test : (to : ℕ) (b : Bool) → cond b AsksNowhere (CopiesFrom index to key) ≡ Asks site ask
        → (at : ℕ) × (slice_get w.routes at ≡ Some site) × ((not (site == at) && is_reap ask) ≡ false)
    by_test to true h = cc
    by_test to false h = cc

    by : (o : Option ℕ) → option_map_or (λ to. sent_copy index to key) o AsksNowhere ≡ Asks site ask
        → (at : ℕ) × (slice_get w.routes at ≡ Some site) × ((not (site == at) && is_reap ask) ≡ false)
    by None h = cc
    by (Some to) h = by_test to (to == index) h
sent-by w (CopiesFrom own from key) site ask h = cc
sent-by w (Closes index) site ask h = by (slice_get w.routes index) h
  where
    by_test : (to : ℕ) (b : Bool) → cond b AsksNowhere (ClosesFrom index to) ≡ Asks site ask
        → (at : ℕ) × (slice_get w.routes at ≡ Some site) × ((not (site == at) && is_reap ask) ≡ false)
    by_test to true h = cc
    by_test to false h = cc

    by : (o : Option ℕ) → option_map_or (λ to. sent_close index to) o AsksNowhere ≡ Asks site ask
        → (at : ℕ) × (slice_get w.routes at ≡ Some site) × ((not (site == at) && is_reap ask) ≡ false)
    by None h = cc
    by (Some to) h = by_test to (to == index) h
sent-by w (ClosesFrom own from) site ask h = cc
sent-by w AsksNowhere site ask h = cc
sent-by w Enters site ask h = cc
sent-by w Leaves site ask h = cc
sent-by w Marks site ask h = cc
sent-by w Unmarks site ask h = cc
sent-by w Takes site ask h = cc
sent-by w Puts site ask h = cc
sent-by w Looks site ask h = cc
sent-by w Publishes site ask h = cc
