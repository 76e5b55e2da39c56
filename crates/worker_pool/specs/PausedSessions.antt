-- A session that rests between two of its steps, and how one that went on is left.
use Rattle.std.specs.Prelude.{◌≡◌, ℕ, Bool, false, List, [], ◌∷◌, Option, None}
use Rattle.node_session.specs.Streams.{SourceView, TargetView, source_of, target_of}
use Rattle.node_session.specs.Stages.{Came, Fits}
use Rattle.node_session.specs.Views.{nothing_read}
use Rattle.node_session.specs.declared.stage.Stage.TheVariants.{Answering}
use Rattle.node_session.specs.declared.session.Session.{Session}
use Rattle.stats_book.specs.Counting.{both, zeros}
use Rattle.stats_book.specs.declared.totals.Totals.{Totals}
use Rattle.gate_node.specs.Gates.{Gates}
use Rattle.gate_node.specs.GateStep.{NodeOverGates}
use Rattle.gate_node.specs.Passes.{Sights, ArePassesOf}
use Rattle.worker_pool.specs.Resuming.{IsLater, RunStep, RunNodeView, RunNodeStep, standing, no_gates, no_node}

-- where a session began: the gates, its passes of them, and what its streams had
pub record Origin : Type 0 where
  pub gates : Gates
  pub passes : Sights
  pub source : SourceView
  pub target : TargetView

abbrev pub no_origin : Origin
no_origin = record { gates = no_gates; passes = no_node.passes; source = source_of None; target = target_of None }

-- what a list of one has
abbrev pub origin_in : List Origin → Origin
origin_in [] = no_origin
origin_in (origin ∷ rest) = origin

-- the node by which it began, which had counted nothing
abbrev pub first_node : Origin → NodeOverGates
first_node origin = record { shared = origin.gates; passes = origin.passes; count = record { counted = zeros; book_full = false } }

-- where it began, where its node stands, the gates that it rested over, what it does next, what it has counted, and its streams
pub record PausedSessionView (R W : Type 0) : Type 0 where
  pub origin : Origin
  pub rest : NodeOverGates
  pub over : Gates
  pub session : Session
  pub reader : R
  pub writer : W

-- one that is to begin over these gates
abbrev pub begun : {R W : Type 0} → Origin → R → W → PausedSessionView R W
begun origin reader writer = record {
  origin = origin;
  rest = first_node origin;
  over = origin.gates;
  session = record { buffers = nothing_read; stage = Answering; replies = 0; made = 0; most = origin.gates.reads };
  reader = reader;
  writer = writer;
}

-- a session that went on: its node, what it does next, what it has counted, its streams, and where it began
pub record OpenSessionView (R W : Type 0) : Type 0 where
  pub node : RunNodeView
  pub session : Session
  pub reader : R
  pub writer : W
  pub origin : Origin

module _ {R W : Type 0} where
  -- a session that rests may go on over these gates
  pub record CanGoOn (shared : Gates) (session : PausedSessionView R W) : Type 0 where
    pub later : IsLater session.over shared
    pub room : session.rest.count.book_full ≡ false

  -- a session that went on, over these gates, is the one that rested
  pub record StaysOver (shared : Gates) (session : PausedSessionView R W) (open_session : OpenSessionView R W) : Type 0 where
    pub origin : open_session.origin ≡ session.origin
    pub over : open_session.node.over ≡ shared
    pub before : open_session.node.before ≡ session.rest.count.counted

  -- a session that rested went on over these gates, has counted so much more, and rests again
  pub record RestsAgain (shared : Gates) (session : PausedSessionView R W) (counted : Totals) (full : Bool) (now : PausedSessionView R W) : Type 0 where
    pub origin : now.origin ≡ session.origin
    pub over : now.over ≡ shared
    pub counts : full ≡ false → both session.rest.count.counted counted ≡ now.rest.count.counted
    pub room : full ≡ false → now.rest.count.book_full ≡ false

  module _ (source : R → SourceView) (target : W → TargetView) where
    -- a session has come so far, from its first read, by a node over the gates as they were at each step; and its passes are of those that it rested over
    pub record IsUnderWay (session : PausedSessionView R W) : Type 0 where
      pub came : Came RunStep (first_node session.origin) session.rest session.origin.source (source session.reader) session.origin.target (target session.writer) session.session.stage session.session
      pub fits : Fits session.session.stage session.session
      pub reads : session.session.most ≡ session.origin.gates.reads
      pub began_before : IsLater session.origin.gates session.over
      pub rested_before : IsLater session.rest.shared session.over
      pub of_gates : ArePassesOf session.over session.rest.passes

    -- so has one that went on
    pub record IsOpen (open_session : OpenSessionView R W) : Type 0 where
      pub came : Came RunNodeStep (standing open_session.node.over open_session.node.before (first_node open_session.origin)) open_session.node open_session.origin.source (source open_session.reader) open_session.origin.target (target open_session.writer) open_session.session.stage open_session.session
      pub fits : Fits open_session.session.stage open_session.session
      pub reads : open_session.session.most ≡ open_session.origin.gates.reads
      pub began_before : IsLater open_session.origin.gates open_session.node.over
