-- What a worker counts of a session that was left.
use Rattle.std.proofs.Common.{◌≡◌, ◌∙◌, ℕ, List, true, false, refl, sym, subst}
use Rattle.std.specs.Prelude.{Bool, Option, not}
use Rattle.node_session.specs.Streams.{SourceView, TargetView}
use Rattle.stats_book.specs.Counter.{Count}
use Rattle.stats_book.specs.Counting.{both, zeros}
use Rattle.stats_book.specs.declared.totals.Totals.{Totals}
use Rattle.gate_node.specs.Gates.{Gates}
use Rattle.worker_pool.specs.declared.left.Left.{Left}
use Rattle.worker_pool.specs.Leaving.{LeavesSession}
use Rattle.worker_pool.specs.Resuming.{RunStep}
use Rattle.worker_pool.specs.Serving.{CountsInOpenSession, RestsWhere}
use Rattle.worker_pool.specs.PausedSessions.{PausedSessionView}
use Rattle.worker_pool.proofs.Gathering.{both_none}
use Rattle.worker_pool.proofs.Resting.{leaves_full}

module _ {R W : Type 0} (may_rest : Type 0) (source : R → SourceView) (target : W → TargetView) (shared : Gates) (first last : Totals) (session : PausedSessionView R W) (count : Count) where
  -- where the worker had room for what it counted, and where not
  pub counts_in_open_session : (added : Bool) (left : Left R W) → LeavesSession source target shared RunStep session count.counted count.book_full left → RestsWhere may_rest left
      → (added ≡ true → (count.book_full ≡ false) × (last ≡ both first count.counted)) → (added ≡ false → last ≡ first)
      → CountsInOpenSession may_rest source target shared first session last (record { left = left; book_full = not added })
  counts_in_open_session true left leaves rests room same =
      let is = room refl in
      record {
        counted = count.counted;
        raised = is.1;
        leaves = subst (λ (full : Bool). LeavesSession source target shared RunStep session count.counted full left) is.0 leaves;
        rests = rests;
      }
  counts_in_open_session false left leaves rests room same = record {
    counted = zeros;
    raised = same refl ∙ sym (both_none first);
    leaves = leaves_full source target shared session count.counted zeros count.book_full left leaves;
    rests = rests;
  }
