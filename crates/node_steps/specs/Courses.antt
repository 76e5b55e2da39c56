-- Each run of a partition as a course of the law of copies: what happened to its primary and its fallbacks, one thing after another.
use Rattle.std.specs.Prelude.{◌≡◌, ◌≢◌, ◌⊎◌, ◌<◌, ◌≤◌, ◌+◌, true, false, List, [], ◌∷◌, ℕ, Some, None}
use Rattle.riak_msgs.specs.declared.Key.{Key}
use Rattle.actor_epoch.specs.Given.{Context}
use Rattle.actor_epoch.specs.Limits.{max_epoch}
use Rattle.riak_msgs.specs.Contents.{Content}
use Rattle.sibling_register.specs.History.{Event}
use Rattle.vnode_machine.specs.Registers.{key_of, context_in_ask}
use Rattle.copy_laws.specs.Sides.{Partition}
use Rattle.copy_laws.specs.JointAnswers.{MayAsk}
use Rattle.copy_laws.specs.Diversions.{Course, Happens, HappensTo, diversions_of, is_diverted, fallback_of, primary_of}
use Rattle.node_steps.specs.Partitions.{fallback_ids}
use Rattle.node_steps.specs.World.{World, CommandsAlone, Call, call_at, id_of, route, id_at, own_at, last_epoch_at, log_at, history_at}
use Rattle.node_steps.specs.Steps.{Step, happens}
use Rattle.node_steps.specs.Schedules.{Start, IsStart, world_after}
use Rattle.node_steps.specs.Contexts.{given_by, Shows}

-- a site of a partition: its own, or the one that its calls go to
abbrev pub IsSiteOf : World → (index site : ℕ) → Type 0
IsSiteOf w index site = (site ≡ index) ⊎ (route w index ≡ Some site)

module _ (start : Start) (index : ℕ) where
  -- some step of the schedule showed the context for the key at a site of the partition
  abbrev pub WasShownThere : List Step → Key → Context → Type 0
  WasShownThere [] key context = ⊥
  WasShownThere (step ∷ earlier) key context =
      let w = world_after start earlier in
      ((site : ℕ) × IsSiteOf w index site × Shows w step site key context) ⊎ WasShownThere earlier key context

  -- each context that was given for the key at a site of the partition had been shown for it at one
  abbrev pub GivesShownThere : Key → List Step → Type 0
  GivesShownThere key [] = Unit {0}
  GivesShownThere key (step ∷ earlier) =
      let w = world_after start earlier in
      GivesShownThere key earlier
      × (happens w step ≢ None → (site : ℕ) → IsSiteOf w index site → (context : Context)
      → given_by w step site key ≡ Some context → WasShownThere earlier key context)

-- a site is the one of the n-th diversion's fallback: with its id, the epoch that it was opened behind, and its history
pub record IsFallbackOf (partition : Partition) (w : World) (index : ℕ) (course : Course) (n site : ℕ) : Type 0 where
  pub own : own_at w site ≡ index
  pub id : id_at w site ≡ partition.fallback
  pub epoch : last_epoch_at w site ≡ partition.opened n
  pub history : history_at w site ≡ fallback_of course n

-- a course whose primary has the id, the epoch and the log at the partition's own site, a log of commands alone until it is diverted, and
-- each of whose fallbacks has the history at a site: the last one, where it didn't return yet, at the site that the calls go to, with a
-- log of commands alone
pub record IsCourseOf (partition : Partition) (run : ℕ) (w : World) (index : ℕ) (course : Course) : Type 0 where
  pub may_happen : Happens partition course
  pub primary_id : partition.primary ≡ id_of run index
  pub fallback_id : partition.fallback ≡ id_of run index + fallback_ids
  pub first_epoch : partition.last_epoch ≡ 0
  pub id : id_at w index ≡ partition.primary
  pub epoch : last_epoch_at w index ≡ partition.last_epoch
  pub diversions : partition.diversions ≡ diversions_of course
  pub limits : (n : ℕ) → n ≤ diversions_of course → partition.opened n ≤ max_epoch
  pub primary : primary_of partition course ≡ log_at w index
  pub undiverted : diversions_of course ≡ 0 → CommandsAlone (log_at w index)
  pub own : route w index ≡ Some index → is_diverted course ≡ false
  pub away : (site : ℕ) → route w index ≡ Some site → site ≢ index
      → (is_diverted course ≡ true) × IsFallbackOf partition w index course (diversions_of course) site × CommandsAlone (log_at w site)
  pub fallbacks : (n : ℕ) → 1 ≤ n → n ≤ diversions_of course → (site : ℕ) × IsFallbackOf partition w index course n site

-- what a worker is asked of the key at the partition's own site may be asked there: the partition isn't diverted, and a context that is
-- given had been shown, where the key was defined
abbrev pub CallsMayBeAsked : Partition → World → (index : ℕ) → Course → Key → Type 0
CallsMayBeAsked partition w index course key =
    (number : ℕ) (call : Call) → call_at w number ≡ Some call → call.site ≡ index → key_of call.ask ≡ key
    → (event : Event Content Context) → event.key ≡ key_of call.ask → event.context ≡ context_in_ask call.ask → MayAsk partition course event

-- so is each run of a partition, whatever contexts were given; and it happens so to each key whose contexts had been shown
abbrev pub RunsAreCourses : Type 0
RunsAreCourses =
    (start : Start) → IsStart start → (schedule : List Step) (index : ℕ) → index < start.vnodes
    → (partition : Partition) × (course : Course) × IsCourseOf partition start.run (world_after start schedule) index course
    × ((key : Key) → GivesShownThere start index key schedule
    → HappensTo partition key course × CallsMayBeAsked partition (world_after start schedule) index course key)
