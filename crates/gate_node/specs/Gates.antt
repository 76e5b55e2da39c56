-- The gates of a run: one round the vnode of each partition, and the fallbacks of those that are diverted.
use Rattle.std.specs.Prelude.{ℕ, List, Option}
use Rattle.rw_gate.specs.Views.{GateId}
use Rattle.vnode_core.specs.Plans.{View}
use Rattle.handoff.specs.declared.gates.Fallback.{Fallback}
pub use Rattle.handoff.specs.Partitions.{HandoffView, AreNone, AreOfNewRun, IsDiverted}

-- how many bits number the partitions, which run it is, how many dead keys are forgotten at most after an answer, how often a
-- session reads at most, the gates in the partitions' order, and the fallback of each partition that is diverted
pub record Gates : Type 0 where
  pub index_bits : ℕ
  pub run : ℕ
  pub budget : ℕ
  pub reads : ℕ
  pub gates : List (GateId View)
  pub fallbacks : List (Option Fallback)

-- without what sessions over them have in common
abbrev pub handoff_of : Gates → HandoffView
handoff_of shared = record {
  index_bits = shared.index_bits;
  run = shared.run;
  gates = shared.gates;
  fallbacks = shared.fallbacks;
}
