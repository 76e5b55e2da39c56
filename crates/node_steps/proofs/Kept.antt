-- What is always true of a world; and who a possible step is of.
use Rattle.std.proofs.Common.{◌≡◌, ◌≢◌, ◌⊎◌, inl, inr, ℕ, zero, suc, ◌+◌, ◌^◌, ◌<◌, ◌≤◌, true, false, cond, not, ◌&&◌, List, [], ◌∷◌, length, refl, ◌∙◌, ap, arith}
use Rattle.std.proofs.lemmas.Bool.{cases_Bool}
use Rattle.std.specs.Prelude.{pred, Option, Some, None, option_and_then, slice_get}
use Rattle.std.specs.Option.{option_map_or}
use Rattle.riak_msgs.specs.Contents.{Content}
use Rattle.sibling_register.specs.Answers.{RegisterAsk}
use Rattle.actor_epoch.specs.Given.{Context}
use Rattle.actor_epoch.specs.Limits.{max_epoch}
use Rattle.vnode_machine.specs.Sound.{IsSound as IsSoundState}
use Rattle.vnode_machine.proofs.Tests.{unmapped}
use Rattle.copy_laws.specs.Joining.{Log}
use Rattle.node_steps.specs.World.{Word, Open, Taken, SiteVnode, Worker, World, CommandsAlone, worker_at, seen_at, brought_by}
use Rattle.node_steps.specs.Steps.{Action, Asks, AsksNowhere, is_reap, sent, routed, Outcome, WorkerTurn, turn_of, site_of, is_about, seeing, turned, fallback_ids, does}
use Rattle.node_steps.proofs.Lists.{how_many, counted_one, counted_two}
use Rattle.node_steps.proofs.Inside.{is_reader, is_holder, reads, holds, FitsWord, same_test, IsSound, IsPlain, IsAware, state_of, IsOpenAt}
use Rattle.node_steps.proofs.Coming.{between_in, sent_between}

-- the calls of a partition go to another site than its own, from which is copied, and which is closed
abbrev pub CopiesWell : World → (own site : ℕ) → Type 0
CopiesWell w own site = (slice_get w.routes own ≡ Some site) × (own ≢ site)

-- an action that was sent copies or closes so
abbrev pub SendsWell : World → Action → Type 0
SendsWell w action = (own site : ℕ) → sent_between action ≡ Some (own, site) → CopiesWell w own site

-- a site is of a partition's fallback
pub record IsFallback (w : World) (own site : ℕ) : Type 0 where
  pub apart : own ≢ site
  pub vnode : SiteVnode
  pub there : slice_get w.vnodes site ≡ Some vnode
  pub own_is : vnode.own ≡ own

-- what is always true of a world: of each vnode, and of each worker and vnode
pub record IsOrderly (w : World) : Type 0 where
  pub vnodes : (index : ℕ) (vnode : SiteVnode) → slice_get w.vnodes index ≡ Some vnode → IsSound (how_many (reads index) w.workers) (how_many (holds index) w.workers) vnode
  pub workers : (place : ℕ) (worker : Worker) → slice_get w.workers place ≡ Some worker → (index : ℕ) (vnode : SiteVnode) → slice_get w.vnodes index ≡ Some vnode
      → IsAware vnode.id vnode.last_epoch index vnode.log worker
  -- a log of commands alone has a replay
  pub plain : (index : ℕ) (vnode : SiteVnode) → slice_get w.vnodes index ≡ Some vnode → CommandsAlone vnode.log → IsPlain vnode.id vnode.last_epoch vnode.log
  -- the state after a log is one that the machine comes to
  pub sound : (index : ℕ) (vnode : SiteVnode) → slice_get w.vnodes index ≡ Some vnode → IsSoundState (state_of vnode.id vnode.last_epoch vnode.log)
  -- who was turned away, or copies or closes, is between a partition's own site and a fallback's
  pub between : (place : ℕ) (worker : Worker) → slice_get w.workers place ≡ Some worker → (own site : ℕ) → between_in worker.phase ≡ Some (own, site) → IsFallback w own site
  -- each site is of a partition; a partition's own vnode is never closed
  pub owned : (index : ℕ) (vnode : SiteVnode) → slice_get w.vnodes index ≡ Some vnode → vnode.own < length w.routes
  pub homes : (index : ℕ) (vnode : SiteVnode) → index < length w.routes → slice_get w.vnodes index ≡ Some vnode → (vnode.own ≡ index) × IsOpenAt vnode.id vnode.last_epoch vnode.log
  -- calls go to a partition's own site or to a fallback of it, and to one that isn't closed
  pub routed_to : (own site : ℕ) → slice_get w.routes own ≡ Some site → (site ≡ own) ⊎ IsFallback w own site
  pub opens : (site : ℕ) (vnode : SiteVnode) → slice_get w.vnodes site ≡ Some vnode → vnode.own ≢ site → IsOpenAt vnode.id vnode.last_epoch vnode.log
      → slice_get w.routes vnode.own ≡ Some site
  -- the epochs that fallbacks gave can be given
  pub limited : (index epoch : ℕ) → slice_get w.epochs index ≡ Some epoch → epoch ≤ max_epoch
  -- a fallback of each partition can have an id
  pub bounds : (index : ℕ) (vnode : SiteVnode) → index < length w.routes → slice_get w.vnodes index ≡ Some vnode → vnode.id + fallback_ids < 2 ^ 64
  -- a partition has a site, a worker has a call at one, and has seen nothing of what isn't one
  pub sites : length w.routes ≤ length w.vnodes
  pub about : (place : ℕ) (worker : Worker) → slice_get w.workers place ≡ Some worker → (site : ℕ) → is_about site worker.phase ≡ true → site < length w.vnodes
  pub unseen : (place : ℕ) (worker : Worker) → slice_get w.workers place ≡ Some worker → (site : ℕ) → length w.vnodes ≤ site → seen_at worker.seen site ≡ []

-- what a worker does, its call being sent, where that is possible: who it is, at which site, and its turn
pub record IsPossible (w : World) (number : ℕ) (action : Action) (r : World × Outcome) : Type 0 where
  pub worker : Worker
  pub index : ℕ
  pub vnode : SiteVnode
  pub turn : WorkerTurn
  pub worker_is : worker_at w number ≡ Some worker
  pub site_is : site_of action worker.phase ≡ Some index
  pub vnode_is : slice_get w.vnodes index ≡ Some vnode
  pub turn_is : turn_of (seen_at worker.seen index) (brought_by w worker) vnode action worker.phase ≡ Some turn
  pub gives : (turned w (pred number) index worker turn, turn.outcome) ≡ r

pub and_then_some : {A B : Type 0} (f : A → Option B) (o : Option A) (y : B) → option_and_then f o ≡ Some y → (x : A) × (o ≡ Some x) × (f x ≡ Some y)
and_then_some f None y h = cc
and_then_some f (Some x) y h = (x, refl, h)

pub possible : (w : World) (number : ℕ) (action : Action) (r : World × Outcome) → does w number action ≡ Some r → IsPossible w number action r
possible w number action r h =
    let a = and_then_some _ (worker_at w number) r h in
    let b = and_then_some _ (site_of action a.0.phase) r a.2 in
    let c = and_then_some _ (slice_get w.vnodes b.0) r b.2 in
    let d = unmapped _ (turn_of (seen_at a.0.seen b.0) (brought_by w a.0) c.0 action a.0.phase) r c.2 in
    record { worker = a.0; index = b.0; vnode = c.0; turn = d.0; worker_is = a.1; site_is = b.1; vnode_is = c.1; turn_is = d.1; gives = d.2 }

pub at_place : (w : World) (number : ℕ) (worker : Worker) → worker_at w number ≡ Some worker → slice_get w.workers (pred number) ≡ Some worker
at_place w zero worker h = cc
at_place w (suc place) worker h = h

-- an ask for a partition whose calls go to its own site
pub sent_own : (index : ℕ) (ask : RegisterAsk Content Context) → sent index index ask ≡ Asks index ask
sent_own index ask = ap (λ b. cond (not b && is_reap ask) AsksNowhere (Asks index ask)) (same_test index index refl)

pub routed_own : (route : ℕ → Option ℕ) (index : ℕ) (ask : RegisterAsk Content Context) → route index ≡ Some index → routed route (Asks index ask) ≡ Asks index ask
routed_own route index ask h = ap (λ o. option_map_or (λ site. sent index site ask) o AsksNowhere) h ∙ sent_own index ask

-- what a worker has seen where it looked, and elsewhere
pub seeing-here : (seen : List Log) (site : ℕ) (front : Log) → seen_at (seeing seen site front) site ≡ front
seeing-here [] zero front = refl
seeing-here [] (suc site) front = seeing-here [] site front
seeing-here (other ∷ seen) zero front = refl
seeing-here (other ∷ seen) (suc site) front = seeing-here seen site front

pub seeing-there : (seen : List Log) (site other : ℕ) (front : Log) → site ≢ other → seen_at (seeing seen site front) other ≡ seen_at seen other
seeing-there [] zero zero front n = absurd (n refl)
seeing-there [] zero (suc other) front n = refl
seeing-there [] (suc site) zero front n = refl
seeing-there [] (suc site) (suc other) front n = seeing-there [] site other front (λ e. n (ap suc e))
seeing-there (x ∷ seen) zero zero front n = absurd (n refl)
seeing-there (x ∷ seen) zero (suc other) front n = refl
seeing-there (x ∷ seen) (suc site) zero front n = refl
seeing-there (x ∷ seen) (suc site) (suc other) front n = seeing-there seen site other front (λ e. n (ap suc e))

-- who has the state of a vnode in its hand is alone inside
module _ (w : World) (orderly : IsOrderly w) (place index : ℕ) (worker : Worker) (vnode : SiteVnode) (here : slice_get w.workers place ≡ Some worker) (there : slice_get w.vnodes index ≡ Some vnode) where
  abbrev readers_in : ℕ
  readers_in = how_many (reads index) w.workers

  abbrev holders_in : ℕ
  holders_in = how_many (holds index) w.workers

  at_most_one : (word : Word) (r h : ℕ) → FitsWord word r h → h ≤ 1
  at_most_one (Open n mark) r h f = omega (arith, f.1)
  at_most_one Taken r h f = omega (arith, f.1)

  too_many : (a : ℕ) → a ≤ 1 → 2 ≤ a → ⊥
  too_many a h k = omega (arith, h, k)

  no_reader : (word : Word) (r h : ℕ) → FitsWord word r h → 1 ≤ r → 1 ≤ h → ⊥
  no_reader (Open n mark) r h f a b = omega (arith, f.1, b)
  no_reader Taken r h f a b = omega (arith, f.0, a)

  pub outside : (at : ℕ) (x : Worker) → place ≢ at → slice_get w.workers at ≡ Some x → is_holder index worker.phase ≡ true
      → (is_reader index x.phase ≡ false) × (is_holder index x.phase ≡ false)
  outside at x n h mine = (
    elim (cases_Bool (is_reader index x.phase)) [
      | inl his ↦ absurd (no_reader vnode.word readers_in holders_in (orderly.vnodes index vnode there).word
          (counted_one (reads index) w.workers at x h his) (counted_one (holds index) w.workers place worker here mine))
      | inr nobody ↦ nobody
    ],
    elim (cases_Bool (is_holder index x.phase)) [
      | inl his ↦ absurd (too_many holders_in (at_most_one vnode.word readers_in holders_in (orderly.vnodes index vnode there).word)
          (counted_two (holds index) w.workers place at worker x n here h mine his))
      | inr nobody ↦ nobody
    ],
  )
