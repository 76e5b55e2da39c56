-- What the end of a job says, once its session is over.
use Rattle.std.proofs.Common.{◌≡◌, ◌∙◌, ℕ, Bool, List, [], refl, sym, ap, subst}
use Rattle.std.proofs.KnownBytes.{Consumes-all}
use Rattle.std.specs.Prelude.{Option, Result, Ok, Err, MatchResult}
use Rattle.node_session.specs.Streams.{SourceView, TargetView, input_of}
use Rattle.node_session.specs.declared.ended.Ended.{Ended}
use Rattle.node_session.specs.declared.fault.SessionFault.{SessionFault}
use Rattle.node_session.specs.Stages.{IsOverBy}
use Rattle.stats_book.specs.Counting.{both}
use Rattle.stats_book.specs.declared.totals.Totals.{Totals}
use Rattle.gate_node.specs.Gates.{Gates}
use Rattle.gate_node.specs.GateStep.{NodeOverGates, GateNodeStep}
use Rattle.worker_pool.specs.declared.left.EndedSession.{EndedSession}
use Rattle.worker_pool.specs.declared.left.Left.TheVariants as lefts
use Rattle.worker_pool.specs.Serving.{CountsInOpenSession}
use Rattle.worker_pool.specs.PausedSessions.{first_node}
use Rattle.worker_pool.proofs.Gathering.{none_both}
use Rattle.worker_pool.specs.declared.job.Job.{Job}
use Rattle.worker_pool.specs.declared.job.End.{End}
use Rattle.worker_pool.specs.JobEnds.{CountsInSession, EndsAtEnd, EndsAtFault, session_of}
use Rattle.worker_pool.proofs.Staying.{over_same}

module _ {I O : Type 0} (source : I → SourceView) (target : O → TargetView) (shared : Gates) where
  -- the end of a job's session, as the job sees it
  over_ends : (job : Job I O) (end : End I O) (first last : NodeOverGates) (result : Result Ended SessionFault) → IsOverBy GateNodeStep first last (source job.reader) (source end.reader) (target job.writer) (target end.writer) shared.reads result
      → MatchResult result (EndsAtEnd GateNodeStep source target shared job end first last) (EndsAtFault GateNodeStep source target shared job end first last)
  over_ends job end first last (Ok e) p = (
    record {
      noted = p.0.noted;
      gave = p.0.gave;
      within = p.0.within;
      serves = (Consumes-all (source job.reader).unread (source end.reader).unread (input_of p.0.noted) [] (input_of p.0.noted) p.0.gave.read p.1 refl, p.0.serves);
    },
    p.2,
  )
  over_ends job end first last (Err fault) p = p.0

  same_number : (job : Job I O) (end : End I O) (first last : NodeOverGates) (result : Result Ended SessionFault) → IsOverBy GateNodeStep first last (source job.reader) (source end.reader) (target job.writer) (target end.writer) shared.reads result → (target end.writer).number ≡ (target job.writer).number
  same_number job end first last (Ok e) p = p.3
  same_number job end first last (Err fault) p = p.1

  -- a session that never rests counts as the session of its job, whose streams stay as it left them
  pub counts_in_session : (first last : Totals) (job : Job I O) (full : Bool) (ended : EndedSession I O) (reader : I) (writer : O) → source reader ≡ source ended.reader → target writer ≡ target ended.writer
      → CountsInOpenSession ⊥ source target shared first (session_of source target shared job) last (record { left = lefts.Ended ended; book_full = full })
      → CountsInSession source target shared first job last (record { end = record { result = ended.result; reader = reader; writer = writer; passes = ended.passes }; book_full = full })
  counts_in_session first last job full ended reader writer read written h =
      let before = first_node (session_of source target shared job).origin in
      let after = h.leaves.after in
      let ends = h.leaves.ends in
      let end : End I O = record { result = ended.result; reader = reader; writer = writer; passes = ended.passes } in
      let same = over_same shared before after (source job.reader) (source ended.reader) (target job.writer) (target ended.writer) shared.reads ended.result refl ends.reaches ends.session in
      let over = subst (λ (t : TargetView). IsOverBy GateNodeStep before after (source job.reader) (source reader) (target job.writer) t shared.reads ended.result) (sym written)
      (subst (λ (s : SourceView). IsOverBy GateNodeStep before after (source job.reader) s (target job.writer) (target ended.writer) shared.reads ended.result) (sym read) same) in (
        before,
        after,
        refl,
        λ whole. h.raised ∙ ap (both first) (sym (none_both h.counted) ∙ h.leaves.counts whole),
        record {
          gates = refl;
          passes = refl;
          begins = refl;
          left = ends.left;
          kept = ends.kept;
          full = h.leaves.room;
          number = same_number job end before after ended.result over;
          session = over_ends job end before after ended.result over;
        },
      )
