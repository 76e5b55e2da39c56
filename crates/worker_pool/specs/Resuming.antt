-- A node that goes on over later gates of its run.
use Rattle.std.specs.Prelude.{◌≡◌, ℕ, false, List, [], ◌∷◌}
use Rattle.riak_msgs.specs.declared.Request.{Request}
use Rattle.riak_msgs.specs.declared.Reply.{Reply}
use Rattle.stats_book.specs.Counter.{Count}
use Rattle.stats_book.specs.Counting.{both, zeros}
use Rattle.stats_book.specs.declared.totals.Totals.{Totals}
use Rattle.gate_node.specs.Gates.{Gates, IsDiverted, handoff_of}
use Rattle.gate_node.specs.GateStep.{NodeOverGates, GateNodeStep}
use Rattle.gate_node.specs.OneHistory.{StepIn, AnswersIn}
use Rattle.gate_node.specs.Passes.{Sights, ArePassesOf}
use Rattle.gate_node.specs.Tallies.{GateHistory}

-- the gates of a run, once the partition of this index was diverted
pub record IsOnceDiverted (index : ℕ) (old new : Gates) : Type 0 where
  pub handoff : IsDiverted index (handoff_of old) (handoff_of new)
  pub budget : new.budget ≡ old.budget
  pub reads : new.reads ≡ old.reads

-- once the partitions of these indices were, one after another
abbrev pub AreDiverted : List ℕ → Gates → Gates → Type 0
AreDiverted [] old new = new ≡ old
AreDiverted (index ∷ indices) old new = (between : Gates) × IsOnceDiverted index old between × AreDiverted indices between new

-- the same gates, or those of the run later on
abbrev pub IsLater : Gates → Gates → Type 0
IsLater old new = (indices : List ℕ) × AreDiverted indices old new

-- a node goes on over later gates by the same passes, with what it has counted
pub record GoesOn (old new : NodeOverGates) : Type 0 where
  pub later : IsLater old.shared new.shared
  pub passes : new.passes ≡ old.passes
  pub count : new.count ≡ old.count

-- the step of a node over the gates of its run as they are then
abbrev pub RunStep : NodeOverGates → Request → Reply → NodeOverGates → Type 0
RunStep old request reply new = (on : NodeOverGates) × GoesOn old on × GateNodeStep on request reply new

-- where a node of a run stands, the gates that its next step is over, and what it had counted before it went on over these
pub record RunNodeView : Type 0 where
  pub stands : NodeOverGates
  pub over : Gates
  pub before : Totals

-- its step
pub record RunNodeStep (old : RunNodeView) (request : Request) (reply : Reply) (new : RunNodeView) : Type 0 where
  pub step : RunStep old.stands request reply new.stands
  pub over : new.over ≡ old.over
  pub before : new.before ≡ old.before

-- of no run
abbrev pub no_gates : Gates
no_gates = record { index_bits = 0; run = 0; budget = 0; reads = 0; gates = []; fallbacks = [] }

-- over no gates
abbrev pub no_node : NodeOverGates
no_node = record { shared = no_gates; passes = record { primaries = []; fallbacks = [] }; count = record { counted = zeros; book_full = false } }

-- what a list of one has
abbrev pub gates_in : List Gates → Gates
gates_in [] = no_gates
gates_in (gates ∷ rest) = gates

abbrev pub node_in : List NodeOverGates → NodeOverGates
node_in [] = no_node
node_in (node ∷ rest) = node

-- what was counted, with what had been counted before
abbrev pub on_top : Totals → Count → Count
on_top before count = record { counted = both before count.counted; book_full = count.book_full }

-- A step of a node of a run in histories, over gates that became these: of each gate's history every pass has seen a beginning behind it, and where it
-- answers at a primary the reply is at a position of that one's history.
abbrev pub RunStepIn : List GateHistory → Gates → NodeOverGates → Request → Reply → NodeOverGates → Type 0
RunStepIn histories shared old request reply new =
    (on : NodeOverGates) × GoesOn old on × IsLater on.shared shared × (step : StepIn histories on request reply new) × AnswersIn histories on request reply new step

-- passes of a run's gates are passes of its gates later on
abbrev pub ArePassesLater : (old new : Gates) → Sights → Type 0
ArePassesLater old new passes = IsLater old new → ArePassesOf old passes → ArePassesOf new passes

-- the node of a run that stands there, over these gates, and had counted so much before
abbrev pub standing : (over : Gates) (before : Totals) → NodeOverGates → RunNodeView
standing over before node = record { stands = node; over = over; before = before }
