-- What a worker does at its place, as the step of the world.
use Rattle.std.proofs.Common.{◌≡◌, ℕ, suc, refl, sym, ◌∙◌, ap, subst}
use Rattle.std.specs.Prelude.{[], Some, None, slice_get, slice_set}
use Rattle.riak_msgs.specs.Contents.{Content}
use Rattle.vnode_machine.specs.Machine.{State}
use Rattle.node_steps.specs.declared.outcome.Outcome.{Outcome as Returned}
use Rattle.node_steps.specs.declared.parts.Parts.{Parts}
use Rattle.node_steps.specs.declared.phase.Phase.{Phase as RunPhase}
use Rattle.node_steps.specs.declared.phase.Phase.TheVariants as phases
use Rattle.node_steps.specs.declared.close_stage.CloseStage.{CloseStage as RunCloseStage}
use Rattle.node_steps.specs.declared.site.Site.{Site}
use Rattle.node_steps.specs.declared.step.Act.{Act}
use Rattle.node_steps.specs.declared.step.Act.TheVariants as acts
use Rattle.node_steps.specs.World.{CloseStage, CloseAsked, CloseTaken, CloseInside, CloseLooked, CloseDone, Phase, Idle, Asked, Reading, Holding, Done, Turned, Copying, Closing, nothing_brought, SiteVnode, World, route}
use Rattle.node_steps.specs.Steps.{Enters, Looks, Publishes as Publishes_, closes, acts as acts_in, site_of, turn_of}
use Rattle.node_steps.specs.Erased.{IsShown}
use Rattle.node_steps.specs.Asked.{action_of, step_by}
use Rattle.node_steps.specs.Running.{phase_of, vnode_of, worker_of, world_of}
use Rattle.node_steps.specs.Parts.{IsAt, IsFit, TakesRunStep, TakesFitStep, world_in}
use Rattle.node_steps.specs.Closings.{Ground, MovesAt, LooksInside, CloserPublishes, Stays, WorkerMoves, TurnsAt, ground_of}
use Rattle.node_steps.proofs.Stepping.{sent_itself, same_site, step_taken, at_one, no_turn}
use Rattle.node_steps.proofs.RunCloses.{judges, publishes, stays}
use Rattle.node_steps.proofs.Mapped.{at_some}
pub use Rattle.std.proofs.lemmas.Option.{same_Some as some_same}

module _ (old new : Parts) (place index : ℕ) (phase next : RunPhase) (site : Site) (returns : Returned)
    (here : slice_get old.workers.items place ≡ Some phase) (about : site_of Enters (phase_of phase) ≡ Some index) (there : slice_get old.sites.items index ≡ Some site)
    (workers : new.workers.items ≡ slice_set old.workers.items place next) (fit : IsFit (vnode_of site).word (phase_of phase)) where
  abbrev w : World
  w = world_in old

  abbrev Taken_ : Act → Type 0
  Taken_ act = TakesRunStep w (step_by (suc place) act) returns (world_in new)

  -- the ground after it
  abbrev world_on : Ground → World
  world_on ground = world_of ground.sites ground.routes ground.epochs (slice_set old.workers.items place next)

  over : (act : Act) (ground : Ground) → ground_of new ≡ ground → TakesRunStep w (step_by (suc place) act) returns (world_on ground) → Taken_ act
  over act ground e t =
      subst (λ ws. TakesRunStep w (step_by (suc place) act) returns (world_of new.sites.items new.routes.items new.epochs.items ws)) (sym workers)
      (subst (λ g. TakesRunStep w (step_by (suc place) act) returns (world_on g)) (sym e) t)

  at_site : (act : Act) → closes w (suc place) (worker_of phase) (action_of act) (phase_of phase) ≡ None
      → MovesAt act index (ground_of old) (phase_of phase) (ground_of new) (phase_of next) returns → Taken_ act
  at_site act one m =
      let same = some_same site m.site (sym there ∙ m.there) in
      let turns = m.turns (subst (λ s. IsFit (vnode_of s).word (phase_of phase)) same fit) in
      over act (record (ground_of old) { sites = slice_set old.sites.items index m.later }) m.new_is
      (step_taken old.sites.items old.routes.items old.epochs.items old.workers.items place index phase next m.site m.later (action_of act) (action_of act) returns
      (sent_itself (route w) act) here (same_site act (phase_of phase) ∙ about) m.there one turns)

  -- a closer's look
  looks : (own from : ℕ) (hand : State Content) → phase_of phase ≡ Closing own from (CloseInside hand)
      → (ground_of new ≡ ground_of old) × LooksInside (ground_of old) own from hand (phase_of next) returns → Taken_ acts.Look
  looks own from hand is m =
      let at : own ≡ index = some_same own index (sym (ap (site_of Enters) is) ∙ about) in
      let shown = subst (λ p. IsShown (vnode_of site).word p) is fit.shown in
      over acts.Look (ground_of old) m.0
      (judges old.sites.items old.routes.items old.epochs.items old.workers.items place phase next returns here own from hand is
      (m.1 (λ primary there_too.
      let same = some_same site primary (sym (ap (λ n. slice_get old.sites.items n) at ∙ there) ∙ there_too) in
      subst (λ s. IsShown (vnode_of s).word (Closing own from (CloseInside hand))) same shown)))

  -- and its publish
  closes_it : (own from : ℕ) (hand : State Content) (number : ℕ) → phase_of phase ≡ Closing own from (CloseLooked hand number)
      → CloserPublishes (ground_of old) own from hand number (ground_of new) (phase_of next) returns → Taken_ acts.Publish
  closes_it own from hand number is m =
      let at : from ≡ index = some_same from index (sym (ap (site_of Enters) is) ∙ about) in
      over acts.Publish (record (ground_of old) { routes = slice_set old.routes.items own own; epochs = slice_set old.epochs.items own hand.last_epoch }) m.new_is
      (publishes old.sites.items old.routes.items old.epochs.items old.workers.items place phase next returns here own from hand number is site
      (ap (λ n. slice_get old.sites.items n) at ∙ there) m.next_is m.outcome_is)

  -- a closer that is to do neither
  waits : (act : Act) (p : Phase) → phase_of phase ≡ p → closes w (suc place) (worker_of phase) (action_of act) p ≡ None
      → ((v : SiteVnode) → turn_of [] nothing_brought v (action_of act) p ≡ None) → Stays (ground_of old) p (ground_of new) (phase_of next) returns → Taken_ act
  waits act p is one none m =
      over act (ground_of old) m.new_is
      (stays old.sites.items old.routes.items old.epochs.items old.workers.items place phase next returns here act
      (ap (λ a. acts_in w (suc place) a) (sent_itself (route w) act)
      ∙ at_one w place (action_of act) (worker_of phase) (at_some worker_of old.workers.items place phase here) (ap (λ q. closes w (suc place) (worker_of phase) (action_of act) q) is ∙ one)
      ∙ no_turn w place (action_of act) (worker_of phase) (λ i v. ap (λ q. turn_of [] nothing_brought v (action_of act) q) is ∙ none v))
      (m.next_is ∙ sym is) m.outcome_is)

  by_act : (act : Act) (p : Phase) → closes w (suc place) (worker_of phase) Looks p ≡ None → closes w (suc place) (worker_of phase) Publishes_ p ≡ None
      → closes w (suc place) (worker_of phase) (action_of act) p ≡ None
  by_act acts.Enter p look publish = refl
  by_act acts.Leave p look publish = refl
  by_act acts.Mark p look publish = refl
  by_act acts.Unmark p look publish = refl
  by_act acts.Take p look publish = refl
  by_act acts.Put p look publish = refl
  by_act acts.Look p look publish = look
  by_act acts.Publish p look publish = publish

  at_phase : (p : Phase) (act : Act) → phase_of phase ≡ p → closes w (suc place) (worker_of phase) (action_of act) p ≡ None
      → MovesAt act index (ground_of old) p (ground_of new) (phase_of next) returns → Taken_ act
  at_phase p act is one m =
      at_site act (ap (λ q. closes w (suc place) (worker_of phase) (action_of act) q) is ∙ one)
      (subst (λ q. MovesAt act index (ground_of old) q (ground_of new) (phase_of next) returns) (sym is) m)

  by_phase : (p : Phase) (act : Act) → phase_of phase ≡ p → WorkerMoves p act index (ground_of old) (ground_of new) (phase_of next) returns → Taken_ act
  by_phase (Closing own from CloseAsked) acts.Look is m =
      waits acts.Look (Closing own from CloseAsked) is refl (λ v. refl) (record { new_is = m.0; next_is = m.1.0; outcome_is = m.1.1 })
  by_phase (Closing own from CloseAsked) acts.Publish is m = waits acts.Publish (Closing own from CloseAsked) is refl (λ v. refl) m
  by_phase (Closing own from (CloseTaken hand)) acts.Look is m =
      waits acts.Look (Closing own from (CloseTaken hand)) is refl (λ v. refl) (record { new_is = m.0; next_is = m.1.0; outcome_is = m.1.1 })
  by_phase (Closing own from (CloseTaken hand)) acts.Publish is m = waits acts.Publish (Closing own from (CloseTaken hand)) is refl (λ v. refl) m
  by_phase (Closing own from (CloseInside hand)) acts.Look is m = looks own from hand is m
  by_phase (Closing own from (CloseInside hand)) acts.Publish is m = waits acts.Publish (Closing own from (CloseInside hand)) is refl (λ v. refl) m
  by_phase (Closing own from (CloseLooked hand number)) acts.Look is m =
      waits acts.Look (Closing own from (CloseLooked hand number)) is refl (λ v. refl) (record { new_is = m.0; next_is = m.1.0; outcome_is = m.1.1 })
  by_phase (Closing own from (CloseLooked hand number)) acts.Publish is m = closes_it own from hand number is m
  by_phase (Closing own from (CloseDone hand inside)) acts.Look is m =
      waits acts.Look (Closing own from (CloseDone hand inside)) is refl (λ v. refl) (record { new_is = m.0; next_is = m.1.0; outcome_is = m.1.1 })
  by_phase (Closing own from (CloseDone hand inside)) acts.Publish is m = waits acts.Publish (Closing own from (CloseDone hand inside)) is refl (λ v. refl) m
  by_phase Idle act is m = at_phase Idle act is (by_act act Idle refl refl) m
  by_phase (Asked at ask) act is m = at_phase (Asked at ask) act is (by_act act (Asked at ask) refl refl) m
  by_phase (Reading at get) act is m = at_phase (Reading at get) act is (by_act act (Reading at get) refl refl) m
  by_phase (Holding at ask hand plan) act is m = at_phase (Holding at ask hand plan) act is (by_act act (Holding at ask hand plan) refl refl) m
  by_phase (Done at hand) act is m = at_phase (Done at hand) act is (by_act act (Done at hand) refl refl) m
  by_phase (Turned own at ask hand) act is m = at_phase (Turned own at ask hand) act is (by_act act (Turned own at ask hand) refl refl) m
  by_phase (Copying own from key stage) act is m = at_phase (Copying own from key stage) act is (by_act act (Copying own from key stage) refl refl) m
  by_phase (Closing own from stage) acts.Enter is m = at_phase (Closing own from stage) acts.Enter is refl m
  by_phase (Closing own from stage) acts.Leave is m = at_phase (Closing own from stage) acts.Leave is refl m
  by_phase (Closing own from stage) acts.Mark is m = at_phase (Closing own from stage) acts.Mark is refl m
  by_phase (Closing own from stage) acts.Unmark is m = at_phase (Closing own from stage) acts.Unmark is refl m
  by_phase (Closing own from stage) acts.Take is m = at_phase (Closing own from stage) acts.Take is refl m
  by_phase (Closing own from stage) acts.Put is m = at_phase (Closing own from stage) acts.Put is refl m

-- what is done at the places where a worker and its vnode were found is the worker's step
pub taken : (old new : Parts) (worker place index : ℕ) (act : Act) (returns : Returned) → IsAt old worker place index → TurnsAt act place index old new returns
    → TakesFitStep old (step_by worker act) returns new
taken old new worker place index act returns at t = λ fit.
    let same = some_same at.phase t.phase (sym at.here ∙ t.here) in
    let about = ap (λ p. site_of Enters (phase_of p)) (sym same) ∙ at.about in
    subst (λ n. TakesRunStep (world_in old) (step_by n act) returns (world_in new)) (sym at.number)
    (by_phase old new place index t.phase t.next at.site returns t.here about at.there t.workers_are (fit.turns place index t.phase at.site t.here about at.there)
    (phase_of t.phase) act refl t.moves)

-- a turn at one site is what the worker does, unless it is a closer that looks or publishes
module _ (act : Act) (index : ℕ) (old new : Ground) (next : Phase) (returns : Returned) where
  pub moves_at : (phase : RunPhase) → ((own from : ℕ) (stage : RunCloseStage) → phase ≡ phases.Closing own from stage → ⊥)
      → MovesAt act index old (phase_of phase) new next returns → WorkerMoves (phase_of phase) act index old new next returns
  moves_at phases.Idle other m = m
  moves_at (phases.Asked at call) other m = m
  moves_at (phases.Reading at get) other m = m
  moves_at (phases.Holding at call hand) other m = m
  moves_at (phases.Done at hand) other m = m
  moves_at (phases.Turned own at call hand) other m = m
  moves_at (phases.Copying own from key stage) other m = m
  moves_at (phases.Closing own from stage) other m = absurd (other own from stage refl)

pub closer_at : (act : Act) (own from index : ℕ) (stage : CloseStage) (old new : Ground) (next : Phase) (returns : Returned) → (act ≡ acts.Look → ⊥) → (act ≡ acts.Publish → ⊥)
    → MovesAt act index old (Closing own from stage) new next returns → WorkerMoves (Closing own from stage) act index old new next returns
closer_at acts.Enter own from index stage old new next returns look publish m = m
closer_at acts.Leave own from index stage old new next returns look publish m = m
closer_at acts.Mark own from index stage old new next returns look publish m = m
closer_at acts.Unmark own from index stage old new next returns look publish m = m
closer_at acts.Take own from index stage old new next returns look publish m = m
closer_at acts.Put own from index stage old new next returns look publish m = m
closer_at acts.Look own from index stage old new next returns look publish m = absurd (look refl)
closer_at acts.Publish own from index stage old new next returns look publish m = absurd (publish refl)
