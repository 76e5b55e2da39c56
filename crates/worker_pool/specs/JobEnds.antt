-- What the end of a job says.
use Rattle.std.specs.Prelude.{◌≡◌, false, List, [], Option, IfSome, MatchResult}
use Rattle.job_pool.specs.Lists.{Every}
use Rattle.node_session.specs.Streams.{SourceView, TargetView, input_of}
use Rattle.node_session.specs.declared.ended.Ended.{Ended}
use Rattle.node_session.specs.declared.fault.SessionFault.{SessionFault}
use Rattle.node_session.specs.Session.{Given, EndsInput, StopsInput}
use Rattle.stats_book.specs.Counting.{both, zeros}
use Rattle.stats_book.specs.declared.totals.Totals.{Totals}
pub use Rattle.gate_node.specs.Gates.{Gates}
use Rattle.gate_node.specs.GateStep.{NodeOverGates, GateNodeStep, Request, Reply}
pub use Rattle.gate_node.specs.Passes.{Sights, ArePassesOf, AreUnused}
use Rattle.worker_pool.specs.PausedSessions.{PausedSessionView, OpenSessionView, StaysOver, begun}
use Rattle.worker_pool.specs.declared.job.Job.{Job}
use Rattle.worker_pool.specs.declared.job.End.{End}
use Rattle.worker_pool.specs.declared.server.ServedJob.{ServedJob}

module _ {I O : Type 0} where
  abbrev pub IsForGates : Gates → Job I O → Type 0
  IsForGates shared job = ArePassesOf shared job.passes

  -- the passes that a session left
  abbrev pub end_passes : End I O → Sights
  end_passes end = end.passes

  -- the passes that each of these sessions left are of the gates of this run
  abbrev pub WereOfRun : Gates → List (ServedJob I O) → Type 0
  WereOfRun shared all = Every (λ (served : ServedJob I O). ArePassesOf shared served.end.passes) all

  -- an end at none of whose answers the book was full
  abbrev pub counted_whole : End I O → ServedJob I O
  counted_whole end = record { end = end; book_full = false }

  module _ (Step : NodeOverGates → Request → Reply → NodeOverGates → Type 0) (source : I → SourceView) (target : O → TargetView) (shared : Gates) where
    -- what was written is the output for all that could be read, by a run of this step from the one node to the other; the writer has handed on all
    abbrev pub EndsAtEnd : Job I O → End I O → NodeOverGates → NodeOverGates → Ended → Type 0
    EndsAtEnd job end before after ended = Given (source job.reader) (source end.reader) shared.reads (λ noted.
        IfSome (source job.reader).unread (λ all. input_of noted ≡ all)
        × EndsInput Step before after (target job.writer).contents (target end.writer).contents ended noted)
        × ((target end.writer).waiting ≡ [])

    -- what was written is the output for what was read, as far as the fault lets it come
    abbrev pub EndsAtFault : Job I O → End I O → NodeOverGates → NodeOverGates → SessionFault → Type 0
    EndsAtFault job end before after fault = Given (source job.reader) (source end.reader) shared.reads
        (StopsInput Step before after (target job.writer).contents (target end.writer).contents shared.reads fault)

    -- between a node over these gates by the job's passes, which has met no full book, and one with what the end has,
    -- whose passes are of the same gates, and which has met none either where the end says so
    pub record Joins (job : Job I O) (served : ServedJob I O) (before after : NodeOverGates) : Type 0 where
      pub gates : before.shared ≡ shared
      pub passes : before.passes ≡ job.passes
      pub begins : before.count.book_full ≡ false
      pub left : after.passes ≡ served.end.passes
      pub kept : ArePassesOf shared served.end.passes
      pub full : served.book_full ≡ false → after.count.book_full ≡ false
      pub number : (target served.end.writer).number ≡ (target job.writer).number
      pub session : MatchResult served.end.result (EndsAtEnd job served.end before after) (EndsAtFault job served.end before after)

    -- a session of the job came to this end
    abbrev pub Serves : Job I O → ServedJob I O → Type 0
    Serves job served = (before : NodeOverGates) × (after : NodeOverGates) × Joins job served before after

    -- and the book was full at none of its answers
    abbrev pub EndsWell : Job I O → End I O → Type 0
    EndsWell job end = Serves job (counted_whole end)

  module _ (source : I → SourceView) (target : O → TargetView) (shared : Gates) where
    -- a session of the job over the gates came to this end; it counted from zero on, and where the book had room for all of that, a worker's
    -- numbers rose by it from the first to the last
    abbrev pub CountsInSession : Totals → Job I O → Totals → ServedJob I O → Type 0
    CountsInSession first job last served = (before : NodeOverGates) × (after : NodeOverGates)
        × (before.count.counted ≡ zeros) × (served.book_full ≡ false → last ≡ both first after.count.counted)
        × Joins GateNodeStep source target shared job served before after

    -- the job as a session that is to begin over the gates
    abbrev pub session_of : Job I O → PausedSessionView I O
    session_of job = begun (record {
      gates = shared;
      passes = job.passes;
      source = source job.reader;
      target = target job.writer;
    }) job.reader job.writer

    -- the job's session went on over the gates
    abbrev pub StandsFor : Job I O → OpenSessionView I O → Type 0
    StandsFor job opened = StaysOver shared (session_of job) opened
