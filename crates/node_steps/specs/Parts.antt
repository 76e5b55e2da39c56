-- Where a step finds its worker and its vnode among the running parts, and what it leaves of them; which partition may be diverted.
use Rattle.std.specs.Prelude.{◌≡◌, ◌⊎◌, ◌+◌, ◌<◌, ◌^◌, ℕ, suc, not, true, List, length, Option, Some, None, slice_get}
use Rattle.std.specs.List.{list_all}
use Rattle.riak_msgs.specs.declared.Key.{Key}
use Rattle.riak_msgs.specs.Contents.{Content}
use Rattle.sibling_register.specs.Answers.{RegisterAsk}
use Rattle.actor_epoch.specs.Given.{Context}
use Rattle.node_steps.specs.declared.outcome.Outcome.{Outcome as Returned}
use Rattle.node_steps.specs.declared.phase.Phase.{Phase as RunPhase}
use Rattle.node_steps.specs.declared.site.Site.{Site}
use Rattle.node_steps.specs.declared.phase.Phase.TheVariants as phases
use Rattle.node_steps.specs.declared.parts.Parts.{Parts}
use Rattle.node_steps.specs.declared.step.Act.{Act}
use Rattle.node_steps.specs.World.{Word, Open, Taken, CopyTaken, Phase, Copying, SiteVnode, World, route}
use Rattle.node_steps.specs.Erased.{IsShown, erase}
use Rattle.node_steps.specs.Steps.{Asks, Copies, CopiesFrom, Closes, ClosesFrom, Enters, Step, site_of, is_for, fallback_ids, routed, diverted_by, diverted, happens, after, outcome}
use Rattle.node_steps.specs.Returned.{returned}
use Rattle.node_steps.specs.Running.{CanCountReader, phase_of, vnode_of, world_of}
use Rattle.node_steps.specs.Asked.{asking_step, closing_step, copying_step, step_by}

-- the state that a copier is to sync isn't closed: it is a primary's
abbrev pub IsOpenInHand : Phase → Type 0
IsOpenInHand (Copying own site key (CopyTaken clock hand None)) = hand.closed ≡ None
IsOpenInHand phase = Unit {0}

-- there is room for one reader more, a reader has a state to look at, and a copier one that isn't closed
pub record IsFit (word : Word) (phase : Phase) : Type 0 where
  pub room : CanCountReader word
  pub shown : IsShown word phase
  pub opened : IsOpenInHand phase

-- the world that running parts are
abbrev pub world_in : Parts → World
world_in parts = world_of parts.sites.items parts.routes.items parts.epochs.items parts.workers.items

-- a vnode is not taken
abbrev pub IsOpen : Word → Type 0
IsOpen (Open readers marked) = Unit {0}
IsOpen Taken = ⊥

-- the vnode can be left for a fallback: its state is in place, and its fallback can have an id
pub record IsLeft (vnode : SiteVnode) : Type 0 where
  pub opened : IsOpen vnode.word
  pub id_fits : vnode.place.vnode + fallback_ids < 2 ^ 64

-- it is so of all that the workers are about, and of a partition's own vnode where its calls go there and no worker has to do with the
-- partition
pub record AreFit (parts : Parts) : Type 0 where
  pub turns : (place index : ℕ) (phase : RunPhase) (site : Site)
      → slice_get parts.workers.items place ≡ Some phase → site_of Enters (phase_of phase) ≡ Some index
      → slice_get parts.sites.items index ≡ Some site → IsFit (vnode_of site).word (phase_of phase)
  pub left : (index : ℕ) (site : Site)
      → slice_get parts.routes.items index ≡ Some index → slice_get parts.sites.items index ≡ Some site
      → list_all (λ worker. not (is_for (world_in parts).vnodes index 0 worker.phase)) (world_in parts).workers ≡ true → IsLeft (vnode_of site)

-- the worker at a place is about the vnode at an index
pub record IsAt (parts : Parts) (worker place index : ℕ) : Type 0 where
  pub phase : RunPhase
  pub site : Site
  pub number : worker ≡ suc place
  pub here : slice_get parts.workers.items place ≡ Some phase
  pub about : site_of Enters (phase_of phase) ≡ Some index
  pub there : slice_get parts.sites.items index ≡ Some site

-- the place of a worker, and the index of its vnode; none where it can do nothing
abbrev pub Finds : Parts → ℕ → Option (ℕ × ℕ) → Type 0
Finds parts worker (Some at) = IsAt parts worker at.0 at.1
Finds parts worker None = (act : Act) → happens (world_in parts) (step_by worker act) ≡ None

-- a worker that has a call, copies or closes
abbrev pub IsBusy : RunPhase → Type 0
IsBusy phases.Idle = ⊥
IsBusy (phases.Asked index call) = Unit {0}
IsBusy (phases.Reading index get) = Unit {0}
IsBusy (phases.Holding index call hand) = Unit {0}
IsBusy (phases.Done index hand) = Unit {0}
IsBusy (phases.Turned own site call hand) = Unit {0}
IsBusy (phases.Copying own site key stage) = Unit {0}
IsBusy (phases.Closing own site stage) = Unit {0}

-- the place of a worker that has no call; none where there is no such worker, or it has one
abbrev pub FindsIdle : List RunPhase → ℕ → Option ℕ → Type 0
FindsIdle workers worker (Some place) = (worker ≡ suc place) × (slice_get workers place ≡ Some phases.Idle)
FindsIdle workers worker None = (place : ℕ) (phase : RunPhase) → worker ≡ suc place → slice_get workers place ≡ Some phase → IsBusy phase

-- the site that a call for a partition goes to; none where no worker can be asked it
abbrev pub SendsTo : Parts → (index : ℕ) → RegisterAsk Content Context → Option ℕ → Type 0
SendsTo parts index ask (Some site) = (routed (route (world_in parts)) (Asks index ask) ≡ Asks site ask) × (site < length parts.sites.items)
SendsTo parts index ask None = (worker : ℕ) → happens (world_in parts) (asking_step worker index ask) ≡ None

-- the site of a partition's fallback, from which copies come and which is closed
pub record IsFallbackSite (parts : Parts) (index site : ℕ) : Type 0 where
  pub copies : (key : Key) → routed (route (world_in parts)) (Copies index key) ≡ CopiesFrom index site key
  pub closes : routed (route (world_in parts)) (Closes index) ≡ ClosesFrom index site
  pub there : site < length parts.sites.items

-- a partition that isn't diverted, or of which there is nothing: no worker can copy or close
pub record HasNone (parts : Parts) (index : ℕ) : Type 0 where
  pub copies : (worker : ℕ) (key : Key) → happens (world_in parts) (copying_step worker index key) ≡ None
  pub closes : (worker : ℕ) → happens (world_in parts) (closing_step worker index) ≡ None

abbrev pub HasFallbackSite : Parts → (index : ℕ) → Option ℕ → Type 0
HasFallbackSite parts index (Some site) = IsFallbackSite parts index site
HasFallbackSite parts index None = HasNone parts index

-- a worker that has no call, and a partition's fallback; none where one of them is missing
abbrev pub FindsIdleAndFallback : Parts → (worker index : ℕ) → Option (ℕ × ℕ) → Type 0
FindsIdleAndFallback parts worker index (Some found) = FindsIdle parts.workers.items worker (Some found.0) × IsFallbackSite parts index found.1
FindsIdleAndFallback parts worker index None = FindsIdle parts.workers.items worker None ⊎ HasNone parts index

-- a partition is diverted to a fallback of this id, opened behind this epoch
pub record DivertsTo (w : World) (index id epoch : ℕ) : Type 0 where
  pub primary : SiteVnode
  pub diverted_is : diverted w index ≡ Some (diverted_by w index epoch primary)
  pub id_is : id ≡ primary.place.vnode + fallback_ids

-- the id of a partition's fallback and the epoch that it is opened behind, where it can be diverted
abbrev pub MayDivert : Parts → (index : ℕ) → Option (ℕ × ℕ) → Type 0
MayDivert parts index (Some next) = (index < length parts.routes.items) × (AreFit parts → DivertsTo (world_in parts) index next.0 next.1)
MayDivert parts index None = AreFit parts → diverted (world_in parts) index ≡ None

-- what a step returns in a world that is kept without histories, and the world after it
pub record TakesRunStep (old : World) (step : Step) (returns : Returned) (new : World) : Type 0 where
  pub returns_is : returns ≡ returned (outcome old step)
  pub world_is : new ≡ erase (after old step)

abbrev pub TakesFitStep : Parts → Step → Returned → Parts → Type 0
TakesFitStep old step returns new = AreFit old → TakesRunStep (world_in old) step returns (world_in new)
