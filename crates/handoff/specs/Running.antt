-- The diversions of a partition of a new run, one behind another, each from its beginning to its return, by what the calls of the hand-off say of them.
use Rattle.std.specs.Prelude.{◌≡◌, ◌⊎◌, ◌+◌, ◌≤◌, ◌++◌, ◌==◌, if◌then◌else◌, IsTrue, ℕ, List, [], ◌∷◌, length, Option, Some, None, IfSome, slice_get}
use Rattle.std.specs.Option.{option_map_or}
use mathlib.Core.List.{IsPrefix}
use Rattle.ring_map.specs.Ring.{id_of}
use Rattle.riak_msgs.specs.declared.Key.{Key}
use Rattle.riak_msgs.specs.Contents.{Content}
use Rattle.riak_msgs.specs.KeyOrder.{key_eq}
use Rattle.sibling_register.specs.History.{Event}
use Rattle.actor_epoch.specs.Given.{Context}
use Rattle.vnode_machine.specs.Replay.{History}
use Rattle.copy_laws.specs.Copies.{Command}
use Rattle.rw_gate.specs.Views.{GateId}
use Rattle.copy_laws.specs.Joining.{Log, Fallbacks, NamesWhatCame}
use Rattle.copy_laws.specs.LegalLogs.{IsLegalLog}
use Rattle.copy_laws.specs.Sides.{Partition}
use Rattle.vnode_core.specs.declared.entry.Entry.{Entry}
use Rattle.vnode_core.specs.declared.vnode.tally.Tally.{Tally}
use Rattle.vnode_core.specs.Events.{commands_of, history_after}
use Rattle.vnode_core.specs.Plans.{View}
use Rattle.handoff.specs.declared.copying.Copied.{Copied as CopyBack}
use Rattle.handoff.specs.declared.fault.Returned.{Returned}
use Rattle.handoff.specs.declared.gates.Fallback.{Fallback}
use Rattle.handoff.specs.declared.gates.Start.{Start}
use Rattle.handoff.specs.Joined.{CopiesNameWhatCame, CopyInTurn, IsJoinedIn, keys_copied, log_after}
use Rattle.handoff.specs.Partitions.{AreOfNewRun, HandoffView, IsDiverted, fallback_id}
use Rattle.handoff.specs.Returning.{HasReturned}
use Rattle.handoff.specs.Shown.{WasShown, WasShownBy}

-- a diversion from its beginning to its return: as `divert` found the hand-off and as it left it, the fallback that stood there and what the
-- primary had then, what the copy backs gave, as `finish_return` found the hand-off, and the passes that it gave
pub record Diversion : Type 0 where
  pub found : HandoffView
  pub left : HandoffView
  pub fallback : Fallback
  pub start : Start
  pub calls : List CopyBack
  pub ended : HandoffView
  pub passes : Returned

-- of diversions, the last one first: the fallback that stands there behind them, what was seen of the primary and of that fallback by the return,
-- and how many commands the primary counted then
abbrev pub last_fallback : List Diversion → Option Fallback
last_fallback [] = None
last_fallback (diversion ∷ earlier) = Some diversion.fallback

abbrev pub seen_here : List Diversion → List Entry
seen_here [] = []
seen_here (diversion ∷ earlier) = diversion.passes.primary.prefix

abbrev pub seen_there : List Diversion → List Entry
seen_there [] = []
seen_there (diversion ∷ earlier) = diversion.passes.fallback.prefix

abbrev pub commands_in : Tally → ℕ
commands_in tally = tally.writes + tally.tombstones + tally.reaps

abbrev pub counted_here : List Diversion → ℕ
counted_here [] = 0
counted_here (diversion ∷ earlier) = commands_in diversion.start.tally

module _ (run index : ℕ) (primary : GateId View) where
  -- What a caller has who diverted the partition of this primary behind these diversions, copied back by calls of its own, one behind another, and
  -- returned: clauses of `divert`, `fallback`, `gates`, `finish_return` and `copy_back`; and what passes and tallies compare: that the primary took
  -- commands alone since the return before, that the pass which saw the fallback before closed had seen no less than that return, and that the calls
  -- copied as many keys as entries came.
  pub record HasReturnedBehind (earlier : List Diversion) (diversion : Diversion) : Type 0 where
    pub of_run : diversion.found.run ≡ run
    pub diverted : IsDiverted index diversion.found diversion.left
    pub stood : slice_get diversion.found.fallbacks index ≡ Some (last_fallback earlier)
    pub stands : slice_get diversion.left.fallbacks index ≡ Some (Some diversion.fallback)
    pub starts : diversion.fallback.start ≡ Some diversion.start
    pub gate : slice_get diversion.ended.gates index ≡ Some primary
    pub stands_still : slice_get diversion.ended.fallbacks index ≡ Some (Some diversion.fallback)
    pub returned : HasReturned diversion.ended index diversion.passes
    pub begins : IsPrefix (seen_here earlier) diversion.start.pass.prefix
    pub commands : commands_in diversion.start.tally + length (seen_here earlier) ≡ counted_here earlier + length diversion.start.pass.prefix
    pub closed : IfSome diversion.fallback.before (λ pass. IsPrefix (seen_there earlier) pass.prefix)
    pub turns : CopyInTurn primary diversion.fallback diversion.passes.primary returned.of_gates.sees.ended.before (length diversion.start.pass.prefix) diversion.calls
    pub total : length diversion.start.pass.prefix + keys_copied diversion.calls ≡ length diversion.passes.primary.prefix

  -- so it is with each of these, the last one first
  abbrev pub HaveReturned : List Diversion → Type 0
  HaveReturned [] = Unit {0}
  HaveReturned (diversion ∷ earlier) = HasReturnedBehind earlier diversion × HaveReturned earlier

-- the epoch behind which the first life at a gate's vnode begins
abbrev pub opened_at : GateId View → ℕ
opened_at gate = option_map_or (λ vnode. vnode.state.last_epoch) gate.opening 0

module _ (run index : ℕ) where
  -- the partition, its log and its fallbacks' histories, as the law of copies has them
  abbrev pub opened_in : List Diversion → ℕ → ℕ
  opened_in [] n = 0
  opened_in (diversion ∷ earlier) n = if n == length (diversion ∷ earlier) then opened_at diversion.fallback.gate else opened_in earlier n

  abbrev pub partition_of : List Diversion → Partition
  partition_of diversions = record {
    primary = id_of run index;
    last_epoch = 0;
    fallback = fallback_id run index;
    opened = opened_in diversions;
    diversions = length diversions;
  }

  abbrev pub log_of : List Diversion → Log
  log_of diversions = log_after (partition_of diversions) [] (seen_here diversions)

  abbrev pub fallbacks_of : List Diversion → Fallbacks
  fallbacks_of [] n = []
  fallbacks_of (diversion ∷ earlier) n =
      if n == length (diversion ∷ earlier) then history_after (fallback_id run index) (opened_at diversion.fallback.gate) [] (commands_of diversion.passes.fallback.prefix)
      else fallbacks_of earlier n

  module _ (partition : Partition) (fallbacks : Fallbacks) (key : Key) where
    -- Each context that a command of the key carried had been shown for it. At the primary, from the return before to this diversion: by the primary
    -- before, or by a fallback that had returned. At the fallback: by the primary before it was diverted, by an earlier fallback, or by itself before.
    pub record GivesShown (earlier : List Diversion) (diversion : Diversion) : Type 0 where
      pub here : (later before : Log) (event : Event Content Context) → later ++ Command event ∷ before ≡ log_after partition [] diversion.start.pass.prefix
          → length (seen_here earlier) ≤ length before → IsTrue (key_eq event.key key) → (context : Context) → event.context ≡ Some context
          → WasShown partition fallbacks key (length earlier) before context
      pub there : (later before : History) (event : Event Content Context) → later ++ event ∷ before ≡ fallbacks (length (diversion ∷ earlier))
          → IsTrue (key_eq event.key key) → (context : Context) → event.context ≡ Some context
          → WasShown partition fallbacks key (length earlier) (log_after partition [] diversion.start.pass.prefix) context
          ⊎ WasShownBy partition fallbacks key (length (diversion ∷ earlier)) before context

    -- so in each of these diversions
    abbrev pub GiveShown : List Diversion → Type 0
    GiveShown [] = Unit {0}
    GiveShown (diversion ∷ earlier) = GivesShown earlier diversion × GiveShown earlier

  -- then they name what was there
  abbrev pub ShownContextsName : (primary : GateId View) (last : Diversion) (earlier : List Diversion) → Type 0
  ShownContextsName primary last earlier =
      let diversions = last ∷ earlier in
      let partition = partition_of diversions in
      let log = log_of diversions in
      let fallbacks = fallbacks_of diversions in
      AreOfNewRun run last.ended.gates → HaveReturned run index primary diversions
      → (key : Key) → GiveShown partition fallbacks key diversions → NamesWhatCame partition log fallbacks key × CopiesNameWhatCame partition log fallbacks key

  -- each key's siblings at the primary are the joint ones behind the last return, where contexts name what was there; and its log is legal for
  -- the key, so what is asked there is answered over the numbers of all sides
  abbrev pub RunningHandOffsJoin : (primary : GateId View) (last : Diversion) (earlier : List Diversion) → Type 0
  RunningHandOffsJoin primary last earlier =
      let diversions = last ∷ earlier in
      let partition = partition_of diversions in
      let log = log_of diversions in
      let fallbacks = fallbacks_of diversions in
      AreOfNewRun run last.ended.gates → (returned : HaveReturned run index primary diversions)
      → (key : Key) → NamesWhatCame partition log fallbacks key → CopiesNameWhatCame partition log fallbacks key
      → IsJoinedIn partition log fallbacks key returned.0.returned.of_gates.sees.ended.primary × IsLegalLog partition log fallbacks key
