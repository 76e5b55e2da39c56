-- What the console compares of what the calls of a hand-off gave.
use Rattle.std.specs.Prelude.{◌≡◌, ◌<◌, ◌≤◌, ◌+◌, ℕ, length, Option, Some, None, IfSome}
use mathlib.Core.List.{IsPrefix}
use Rattle.handoff.specs.declared.copying.Copied.{Copied as CopyBack}
use Rattle.handoff.specs.declared.fault.Returned.{Returned}
use Rattle.handoff.specs.declared.gates.Fallback.{Fallback}
use Rattle.handoff.specs.declared.gates.Start.{Start}
use Rattle.handoff.specs.Running.{commands_in}
use Rattle.handoff.specs.Sights.{Sight}
use Rattle.handoff_tracks.specs.declared.track.Copies.{Copies}
use Rattle.handoff_tracks.specs.declared.track.LastReturn.{LastReturn}
use Rattle.handoff_tracks.specs.declared.track.HandoffTrack.{HandoffTrack}
use Rattle.handoff_tracks.specs.declared.track.HandoffTrack.TheVariants.{AtPrimary, AtFallback, Unknown}

-- both calls had passes of the same gates
abbrev pub HaveSameGates : (first next : CopyBack) → Type 0
HaveSameGates first next = (next.primary.gate ≡ first.primary.gate) × (next.fallback.gate ≡ first.fallback.gate)

-- a call began behind all that another had seen of the primary, and it saw no less than that one of either
pub record IsBehind (first next : CopyBack) : Type 0 where
  pub here : IsPrefix first.primary.prefix next.primary.prefix
  pub there : IsPrefix first.fallback.prefix next.fallback.prefix
  pub began : length first.primary.prefix ≤ next.began

-- a return saw what a call had seen, and then the close
pub record EndsBehind (last : CopyBack) (passes : Returned) : Type 0 where
  pub here : IsPrefix last.primary.prefix passes.primary.prefix
  pub there : IsPrefix last.fallback.prefix passes.fallback.prefix
  pub closed : length last.fallback.prefix < length passes.fallback.prefix

-- all that came to the primary since the diversion began are the copies of these calls, one behind another
pub record AreAll (start : Start) (copies : Copies) (passes : Returned) : Type 0 where
  pub total : length start.pass.prefix + copies.keys ≡ length passes.primary.prefix
  pub last : IfSome copies.last (λ last. (length start.pass.prefix ≤ copies.from) × EndsBehind last passes)

-- since the last return the primary took commands alone, as its tally says, and the fallback of that return nothing, as the pass that saw it closed says
abbrev pub Follows : Option LastReturn → Option Sight → Start → ℕ → Type 0
Follows None before start commands = commands ≡ length start.pass.prefix
Follows (Some kept) before start commands =
    IsPrefix kept.passes.primary.prefix start.pass.prefix × (commands + length kept.passes.primary.prefix ≡ kept.commands + length start.pass.prefix)
    × IfSome before (λ pass. IsPrefix kept.passes.fallback.prefix pass.prefix)

-- the passes of the last return are of the gates of a diversion's beginning
abbrev pub KeepsGates : Option LastReturn → Option Sight → Start → Type 0
KeepsGates kept before start =
    IfSome kept (λ last. (start.pass.gate ≡ last.passes.primary.gate) × IfSome before (λ pass. pass.gate ≡ last.passes.fallback.gate))

-- those of the last copies are of the gates of a return
abbrev pub CopiesGates : Copies → Returned → Type 0
CopiesGates copies passes = IfSome copies.last (λ last. (passes.primary.gate ≡ last.primary.gate) × (passes.fallback.gate ≡ last.fallback.gate))

-- what is known of a partition has passes of its gates: with keys copied back, and where its diversion has ended
abbrev pub CanCopy : HandoffTrack → CopyBack → Type 0
CanCopy (AtPrimary kept) copied = Unit {0}
CanCopy (AtFallback kept copies) copied = IfSome copies.last (λ last. HaveSameGates last copied)
CanCopy Unknown copied = Unit {0}

abbrev pub CanEnd : HandoffTrack → Fallback → Returned → Type 0
CanEnd (AtPrimary kept) fallback passes = Unit {0}
CanEnd (AtFallback kept copies) fallback passes = IfSome fallback.start (KeepsGates kept fallback.before) × CopiesGates copies passes
CanEnd Unknown fallback passes = Unit {0}

-- how many diversions have returned
abbrev pub returned_by : Option LastReturn → ℕ
returned_by None = 0
returned_by (Some kept) = kept.diversions

-- how many of a partition's have, where that is known
abbrev pub returned_of : HandoffTrack → Option ℕ
returned_of (AtPrimary kept) = Some (returned_by kept)
returned_of (AtFallback kept copies) = Some (returned_by kept)
returned_of Unknown = None

-- this is kept of the return of a diversion, behind what was kept before, with these copies and by these passes
pub record IsReturnOf (kept : Option LastReturn) (copies : Copies) (fallback : Fallback) (passes : Returned) (last : LastReturn) : Type 0 where
  pub start : Start
  pub starts : fallback.start ≡ Some start
  pub all : AreAll start copies passes
  pub follows : Follows kept fallback.before start last.commands
  pub passes_are : last.passes ≡ passes
  pub commands : last.commands ≡ commands_in start.tally
  pub number : last.diversions ≡ returned_by kept + 1
