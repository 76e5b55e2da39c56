use Rattle.std.proofs.Common.{◌≡◌, ◌≤◌, ◌++◌, List, length, map}
use Rattle.std.specs.Prelude.{vec_capacity}
use Rattle.std.specs.Vec.Iter.{into_iter_items}
use Rattle.worker_pool.specs.EndReporters.{EndReporterView, AreApart}
use Rattle.worker_pool.proofs.settle.take_apart.Given as goal

abbrev pub invariant-loop-end_reporter : goal.invariant-loop-end_reporter
invariant-loop-end_reporter g l =
    (done : List (EndReporterView g.row.R.Denot g.row.W.Denot g.row.K.Denot)) × (done ++ into_iter_items l.end_reporter-iterator ≡ l.fn.end_reporters.items)
    × (length l.sinks.items ≡ length done) × (length l.resting.items ≡ length done) × (length l.fn.end_reporters.items ≤ vec_capacity l.sinks) × (length l.fn.end_reporters.items ≤ vec_capacity l.resting)
    × AreApart g.K.EndSink.told g.H.OfGates.gates done l.sinks.items (map (λ one. one.items) l.resting.items) l.is_book_full l.fn.seen l.seen
