-- Each run of a partition is a course: what is true of a world and the course so far, for each partition of the law that agrees with it.
use Rattle.std.proofs.Common.{◌≡◌, ◌≢◌, ◌⊎◌, ℕ, ◌+◌, ◌<◌, ◌≤◌, true, false, [], ◌∷◌, length, refl, sym, ◌∙◌, ap, arith, subst}
use Rattle.std.specs.Prelude.{Some, None, slice_get}
use Rattle.riak_msgs.specs.declared.Key.{Key}
use Rattle.actor_epoch.specs.Given.{Context, Pairs}
use Rattle.vnode_machine.specs.Lives.{lives_begun}
use Rattle.vnode_machine.specs.Replay.{replay}
use Rattle.vnode_machine.specs.Registers.{key_of, context_in_ask}
use Rattle.copy_laws.specs.Copies.{all_commands}
use Rattle.copy_laws.specs.Joining.{Log}
use Rattle.copy_laws.specs.Sides.{Partition}
use Rattle.copy_laws.specs.CopyReplay.{primary_after}
use Rattle.copy_laws.specs.Diversions.{Course, Happening, diversions_of, is_diverted, fallback_of, fallback_state, primary_of, WasShownInCourse, Happens, HappensTo}
use Rattle.copy_laws.proofs.Fallback.{log-replay}
use Rattle.node_steps.specs.Partitions.{fallback_ids}
use Rattle.node_steps.specs.World.{SiteVnode, Worker, World, Call, id_of, call_of, history_of}
use Rattle.node_steps.specs.Steps.{is_reap}
use Rattle.node_steps.proofs.Inside.{state_of}

-- the vnode at a site has this id, was opened behind this epoch, and has this log
pub record IsVnode (w : World) (site id epoch : ℕ) (log : Log) : Type 0 where
  pub vnode : SiteVnode
  pub there : slice_get w.vnodes site ≡ Some vnode
  pub id_is : vnode.id ≡ id
  pub epoch_is : vnode.last_epoch ≡ epoch
  pub log_is : vnode.log ≡ log

-- its state
pub vnode-state : (w : World) (site id epoch : ℕ) (log : Log) (v : IsVnode w site id epoch log) → state_of v.vnode.id v.vnode.last_epoch v.vnode.log ≡ state_of id epoch log
vnode-state w site id epoch log v = λ i. state_of (v.id_is i) (v.epoch_is i) (v.log_is i)

pub above : (a b n : ℕ) → a ≡ n → b ≡ n + fallback_ids → a < b
above a b n e f = omega (arith, e, f)

module _ (run index : ℕ) where
  abbrev pub home_id : ℕ
  home_id = id_of run index

  abbrev pub away_id : ℕ
  away_id = id_of run index + fallback_ids

  -- a partition of the law is this one, with these epochs behind which its fallbacks were opened so far
  pub record Agrees (opened : ℕ → ℕ) (count : ℕ) (partition : Partition) : Type 0 where
    pub primary : partition.primary ≡ home_id
    pub last_epoch : partition.last_epoch ≡ 0
    pub fallback : partition.fallback ≡ away_id
    pub opened_is : (n : ℕ) → n ≤ count → partition.opened n ≡ opened n
    pub diversions : count ≤ partition.diversions

  -- the partition isn't diverted; its next fallback begins behind the last one's epochs
  pub record IsOwn (w : World) (course : Course) (opened : ℕ → ℕ) : Type 0 where
    pub route_is : slice_get w.routes index ≡ Some index
    pub not_diverted : is_diverted course ≡ false
    pub epoch_is : slice_get w.epochs index ≡ Some (opened (diversions_of course) + lives_begun (fallback_of course (diversions_of course)))

  -- or it is, to the vnode at another site, where no worker has a reap to do
  pub record IsAway (w : World) (course : Course) (opened : ℕ → ℕ) : Type 0 where
    pub site : ℕ
    pub route_is : slice_get w.routes index ≡ Some site
    pub other : index ≢ site
    pub diverted : is_diverted course ≡ true
    pub vnode : IsVnode w site away_id (opened (diversions_of course)) (all_commands (fallback_of course (diversions_of course)))
    pub updates : (place : ℕ) (worker : Worker) → slice_get w.workers place ≡ Some worker → (call : Call) → call_of worker.phase ≡ Some call
        → call.site ≡ site → is_reap call.ask ≡ false

  -- a fallback that was closed
  pub record WasFallback (w : World) (course : Course) (opened : ℕ → ℕ) (n : ℕ) : Type 0 where
    pub site : ℕ
    pub vnode : SiteVnode
    pub there : slice_get w.vnodes site ≡ Some vnode
    pub own_is : vnode.own ≡ index
    pub id_is : vnode.id ≡ away_id
    pub epoch_is : vnode.last_epoch ≡ opened n
    pub history_is : history_of vnode ≡ fallback_of course n
    pub closed : (state_of vnode.id vnode.last_epoch vnode.log).closed ≢ None

  -- it stays one where its vnode does
  pub was-later : (w next : World) (course later : Course) (opened : ℕ → ℕ) (n : ℕ) → fallback_of later n ≡ fallback_of course n
      → (f : WasFallback w course opened n) → slice_get next.vnodes f.site ≡ Some f.vnode → WasFallback next later opened n
  was-later w next course later opened n same f there = record {
    site = f.site;
    vnode = f.vnode;
    there = there;
    own_is = f.own_is;
    id_is = f.id_is;
    epoch_is = f.epoch_is;
    history_is = f.history_is ∙ sym same;
    closed = f.closed;
  }

  -- a context was shown, and isn't empty
  abbrev pub WasGiven : Partition → Course → Key → Context → Type 0
  WasGiven partition course key context = WasShownInCourse partition course key context × (context ≢ Pairs [])

  -- what the law has of the course, those contexts having been shown that are given by Shown; and of the keys for which just such were given
  pub record IsLawful (partition : Partition) (w : World) (course : Course) (Shown : Key → Context → Type 0) (Gives : Key → Type 0) : Type 0 where
    pub may_happen : Happens partition course
    pub to_key : (key : Key) → Gives key → HappensTo partition key course
    pub vnode : IsVnode w index home_id 0 (primary_of partition course)
    pub shown : (key : Key) (context : Context) → Shown key context → WasGiven partition course key context
    pub calls : (place : ℕ) (worker : Worker) → slice_get w.workers place ≡ Some worker → (call : Call) → call_of worker.phase ≡ Some call
        → (v : SiteVnode) → slice_get w.vnodes call.site ≡ Some v → v.own ≡ index → Gives (key_of call.ask)
        → (context : Context) → context_in_ask call.ask ≡ Some context → WasGiven partition course (key_of call.ask) context

  -- what is true of a world and the course so far
  pub record IsRun (w : World) (course : Course) (opened : ℕ → ℕ) (Shown : Key → Context → Type 0) (Gives : Key → Type 0) : Type 0 where
    pub known : index < length w.routes
    pub timed : index < length w.epochs
    pub first : opened 0 ≡ 0
    pub number : slice_get w.diversions index ≡ Some (diversions_of course)
    pub side : IsOwn w course opened ⊎ IsAway w course opened
    pub fallbacks : (n : ℕ) → 1 ≤ n → n ≤ diversions_of course → (is_diverted course ≡ true → n ≢ diversions_of course) → WasFallback w course opened n
    pub lawful : (partition : Partition) → Agrees opened (diversions_of course) partition → IsLawful partition w course Shown Gives

  -- what was shown still was
  pub shown-later : (partition : Partition) (happening : Happening) (course : Course) (key : Key) (context : Context)
      → WasShownInCourse partition course key context → WasShownInCourse partition (happening ∷ course) key context
  shown-later partition happening course key context s =
      record { later = happening ∷ s.later; moment = s.moment; is = ap (λ (c : Course). happening ∷ c) s.is; shown = s.shown }

  -- so it still is where what was shown is
  pub given-later : (partition : Partition) (course later : Course) → ((key : Key) (context : Context) → WasShownInCourse partition course key context → WasShownInCourse partition later key context)
      → (key : Key) (context : Context) → WasGiven partition course key context → WasGiven partition later key context
  given-later partition course later still key context given = (still key context given.0, given.1)

  module _ (opened : ℕ → ℕ) (count : ℕ) (partition : Partition) (agrees : Agrees opened count partition) where
    pub ids : partition.primary < partition.fallback
    ids = above partition.primary partition.fallback home_id agrees.primary agrees.fallback

    -- what holds by the primary's id and epoch
    pub by-primary : (Holds : (id epoch : ℕ) → Type 0) → Holds home_id 0 → Holds partition.primary partition.last_epoch
    by-primary Holds h = subst (λ i. Holds i partition.last_epoch) (sym agrees.primary) (subst (λ e. Holds home_id e) (sym agrees.last_epoch) h)

    -- and by the last fallback's
    pub by-fallback : (Holds : (id epoch : ℕ) → Type 0) → Holds away_id (opened count) → Holds partition.fallback (partition.opened count)
    by-fallback Holds h = subst (λ i. Holds i (partition.opened count)) (sym agrees.fallback) (subst (λ e. Holds away_id e) (sym (agrees.opened_is count (omega arith))) h)

    pub primary-state : (log : Log) → state_of home_id 0 log ≡ primary_after partition log
    primary-state log = by-primary (λ id epoch. state_of home_id 0 log ≡ state_of id epoch log) refl

  module _ (opened : ℕ → ℕ) (course : Course) (partition : Partition) (agrees : Agrees opened (diversions_of course) partition) where
    pub away-state : (w : World) (away : IsAway w course opened)
        → state_of away.vnode.vnode.id away.vnode.vnode.last_epoch away.vnode.vnode.log ≡ fallback_state partition course
    away-state w away =
        let history = fallback_of course (diversions_of course) in
        vnode-state w away.site away_id (opened (diversions_of course)) (all_commands history) away.vnode
        ∙ log-replay away_id (opened (diversions_of course)) history
        ∙ by-fallback opened (diversions_of course) partition agrees (λ id epoch. replay away_id (opened (diversions_of course)) history ≡ replay id epoch history) refl
