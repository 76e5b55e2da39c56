-- What a running worker's step makes of the sites, the routes and the epochs: at one site, or of a closer at two.
use Rattle.std.specs.Borrow.{Bor}
use Rattle.std.specs.Prelude.{◌≡◌, ◌⊎◌, ℕ, List, Option, Some, None, true, MatchOption, is_some, option_map, option_and_then, slice_get, slice_set}
use Rattle.riak_msgs.specs.Contents.{Content}
use Rattle.vnode_machine.specs.Copying.{apply_close}
use Rattle.vnode_machine.specs.Machine.{State}
use Rattle.node_steps.specs.declared.outcome.Outcome.{Outcome as Returned}
use Rattle.node_steps.specs.declared.outcome.Outcome.TheVariants as outcomes
use Rattle.node_steps.specs.declared.parts.Parts.{Parts}
use Rattle.node_steps.specs.declared.phase.Phase.{Phase as RunPhase}
use Rattle.node_steps.specs.declared.site.Site.{Site}
use Rattle.node_steps.specs.declared.step.Act.{Act}
use Rattle.node_steps.specs.declared.step.Act.TheVariants as acts
use Rattle.node_steps.specs.World.{Taken, CloseStage, CloseAsked, CloseTaken, CloseInside, CloseLooked, CloseDone, Phase, Closing}
use Rattle.node_steps.specs.Steps.{Outcome, left_in, judged}
use Rattle.node_steps.specs.Erased.{IsShown}
use Rattle.node_steps.specs.Asked.{action_of}
use Rattle.node_steps.specs.Returned.{returned}
use Rattle.node_steps.specs.Hands.{HandView}
use Rattle.node_steps.specs.Running.{phase_of, vnode_of, Turns}
use Rattle.node_steps.specs.Parts.{IsFit}

-- what runs but for the workers
pub record Ground : Type 0 where
  pub sites : List Site
  pub routes : List ℕ
  pub epochs : List ℕ

abbrev pub ground_of : Parts → Ground
ground_of parts = record { sites = parts.sites.items; routes = parts.routes.items; epochs = parts.epochs.items }

-- a turn at the vnode of an index
pub record MovesAt (act : Act) (index : ℕ) (old : Ground) (phase : Phase) (new : Ground) (next : Phase) (outcome : Returned) : Type 0 where
  pub site : Site
  pub later : Site
  pub there : slice_get old.sites index ≡ Some site
  pub new_is : new ≡ record old { sites = slice_set old.sites index later }
  pub turns : IsFit (vnode_of site).word phase → Turns (action_of act) (vnode_of site) phase (vnode_of later) next outcome

-- a closer's look at the states of both
abbrev pub JudgesTo : (own site : ℕ) (hand primary : State Content) → Phase → Returned → Type 0
JudgesTo own site hand primary next outcome =
    let came = judged own site hand primary (is_some hand.closed) (left_in primary hand) in
    (next ≡ came.0) × (outcome ≡ returned came.1)

-- what comes of it, where there are both sites
abbrev pub looked : (sites : List Site) (own site : ℕ) (hand : State Content) → Option (Phase × Outcome)
looked sites own site hand =
    option_and_then (λ fallback.
    option_map (λ primary.
    judged own site hand (vnode_of primary).place (is_some hand.closed) (left_in (vnode_of primary).place hand))
    (slice_get sites own))
    (slice_get sites site)

-- the state in place at the first site, where there is the second too
pub record IsInPlace (ground : Ground) (own from : ℕ) (primary : HandView) : Type 0 where
  pub site : Site
  pub there : slice_get ground.sites own ≡ Some site
  pub place_is : (vnode_of site).place ≡ primary.state
  pub fallback : Site
  pub beside : slice_get ground.sites from ≡ Some fallback

-- none where there isn't one of them, or the state is in a hand
abbrev pub IsPrimaryFor : Ground → (own from : ℕ) → Option (Bor HandView) → Type 0
IsPrimaryFor ground own from (Some primary) = IsInPlace ground own from primary.now
IsPrimaryFor ground own from None =
    (slice_get ground.sites from ≡ None) ⊎ ((primary : Site) → slice_get ground.sites own ≡ Some primary → (vnode_of primary).word ≡ Taken)

-- it comes to that, where the primary's state is in place
abbrev pub LooksInside : Ground → (own site : ℕ) (hand : State Content) → Phase → Returned → Type 0
LooksInside ground own site hand next outcome =
    ((primary : Site) → slice_get ground.sites own ≡ Some primary → IsShown (vnode_of primary).word (Closing own site (CloseInside hand)))
    → MatchOption (looked ground.sites own site hand)
    ((next ≡ Closing own site (CloseInside hand)) × (outcome ≡ outcomes.No))
    (λ came. (next ≡ came.0) × (outcome ≡ returned came.1))

-- a closer that isn't to look stays as it is
abbrev pub CloserLooksTo : Ground → (own site : ℕ) → CloseStage → Phase → Returned → Type 0
CloserLooksTo ground own site CloseAsked next outcome = (next ≡ Closing own site CloseAsked) × (outcome ≡ outcomes.No)
CloserLooksTo ground own site (CloseTaken hand) next outcome = (next ≡ Closing own site (CloseTaken hand)) × (outcome ≡ outcomes.No)
CloserLooksTo ground own site (CloseInside hand) next outcome = LooksInside ground own site hand next outcome
CloserLooksTo ground own site (CloseLooked hand number) next outcome = (next ≡ Closing own site (CloseLooked hand number)) × (outcome ≡ outcomes.No)
CloserLooksTo ground own site (CloseDone hand inside) next outcome = (next ≡ Closing own site (CloseDone hand inside)) × (outcome ≡ outcomes.No)

-- a close is published: the partition's calls go to its own site again, and its next fallback is opened behind this one's epochs
pub record CloserPublishes (old : Ground) (own site : ℕ) (hand : State Content) (number : ℕ) (new : Ground) (next : Phase) (outcome : Returned) : Type 0 where
  pub new_is : new ≡ record old { routes = slice_set old.routes own own; epochs = slice_set old.epochs own hand.last_epoch }
  pub next_is : next ≡ Closing own site (CloseDone (apply_close hand number) true)
  pub outcome_is : outcome ≡ outcomes.Done

-- nothing changes
pub record Stays (old : Ground) (phase : Phase) (new : Ground) (next : Phase) (outcome : Returned) : Type 0 where
  pub new_is : new ≡ old
  pub next_is : next ≡ phase
  pub outcome_is : outcome ≡ outcomes.No

-- a closer's publish
abbrev pub ClosesTo : Ground → (own site : ℕ) → CloseStage → Ground → Phase → Returned → Type 0
ClosesTo old own site CloseAsked new next outcome = Stays old (Closing own site CloseAsked) new next outcome
ClosesTo old own site (CloseTaken hand) new next outcome = Stays old (Closing own site (CloseTaken hand)) new next outcome
ClosesTo old own site (CloseInside hand) new next outcome = Stays old (Closing own site (CloseInside hand)) new next outcome
ClosesTo old own site (CloseLooked hand number) new next outcome = CloserPublishes old own site hand number new next outcome
ClosesTo old own site (CloseDone hand inside) new next outcome = Stays old (Closing own site (CloseDone hand inside)) new next outcome

-- what a worker in a phase does, whose step at one site is about that of this index
abbrev pub WorkerMoves : Phase → Act → (index : ℕ) → Ground → Ground → Phase → Returned → Type 0
WorkerMoves (Closing own site stage) acts.Look index old new next outcome = (new ≡ old) × CloserLooksTo old own site stage next outcome
WorkerMoves (Closing own site stage) acts.Publish index old new next outcome = ClosesTo old own site stage new next outcome
WorkerMoves phase act index old new next outcome = MovesAt act index old phase new next outcome

-- the worker at a place does it
pub record TurnsAt (act : Act) (place index : ℕ) (old new : Parts) (outcome : Returned) : Type 0 where
  pub phase : RunPhase
  pub next : RunPhase
  pub here : slice_get old.workers.items place ≡ Some phase
  pub workers_are : new.workers.items ≡ slice_set old.workers.items place next
  pub moves : WorkerMoves (phase_of phase) act index (ground_of old) (ground_of new) (phase_of next) outcome
