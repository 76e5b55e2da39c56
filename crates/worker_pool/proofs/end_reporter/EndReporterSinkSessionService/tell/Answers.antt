use Rattle.std.proofs.Common.{◌≡◌, ◌∙◌, ◌++◌, [], refl, ap, sym, subst}
use Rattle.std.proofs.lemmas.List.{append-nil}
use Rattle.std.specs.Prelude.{vec_capacity}
use Rattle.job_pool.specs.declared.worker.NumberedEnd.{NumberedEnd}
use Rattle.worker_pool.specs.declared.session_service.LeftSession.{LeftSession}
use Rattle.worker_pool.specs.declared.left.Left.{Left}
use Rattle.worker_pool.specs.declared.left.Left.TheVariants as lefts
use Rattle.worker_pool.specs.EndReporters.{EndReporterView, HaveSeenLeft, ends_more, rests_more}
use Rattle.worker_pool.proofs.EndReporters.{one_more, seen_same}
use Rattle.worker_pool.proofs.end_reporter.EndReporterSinkSessionService.tell.Goals as goal

pub invariant_of-self : goal.invariant_of-self
invariant_of-self g c =
    let told = g.K.EndSink.told in
    let inside = c.self.inside in
    let one : NumberedEnd (LeftSession g.row.R.Denot g.row.W.Denot) = record { number = c.args.number; end = c.args.end } in
    let old : EndReporterView g.row.R.Denot g.row.W.Denot g.row.K.Denot = record { sink = inside.sink; seen = inside.seen; book_full = inside.is_book_full; resting = inside.resting.items; places = vec_capacity inside.resting; told = inside.told } in
    let new : EndReporterView g.row.R.Denot g.row.W.Denot g.row.K.Denot = record { sink = c.tell_end.new.sink; seen = c.tell_end.new.seen; book_full = c.either-is_full.result; resting = inside.resting.items; places = vec_capacity inside.resting; told = c.push.new.self } in
    let left : lefts.Ended c.in-Ended.ended ≡ c.args.end.left = sym c.in-Ended.is in
    one_more told g.H.OfGates.gates old new one c.self.invariant c.push.ensures
    (c.tell_end.ensures.told ∙ ap (λ (l : Left g.row.R.Denot g.row.W.Denot). told inside.sink ++ ends_more c.args.number l []) left)
    (sym (append-nil inside.resting.items) ∙ ap (λ (l : Left g.row.R.Denot g.row.W.Denot). inside.resting.items ++ rests_more l []) left)
    c.tell_end.ensures.mine (subst (HaveSeenLeft c.tell_end.new.seen) left c.tell_end.ensures.theirs) c.tell_end.ensures.fallbacks c.either-is_full.ensures

pub invariant_of-self-in-Rests : goal.invariant_of-self-in-Rests
invariant_of-self-in-Rests g c =
    let told = g.K.EndSink.told in
    let inside = c.self.inside in
    let one : NumberedEnd (LeftSession g.row.R.Denot g.row.W.Denot) = record { number = c.args.number; end = c.args.end } in
    let old : EndReporterView g.row.R.Denot g.row.W.Denot g.row.K.Denot = record { sink = inside.sink; seen = inside.seen; book_full = inside.is_book_full; resting = inside.resting.items; places = vec_capacity inside.resting; told = inside.told } in
    let new : EndReporterView g.row.R.Denot g.row.W.Denot g.row.K.Denot = record { sink = c.rest.new.self; seen = inside.seen; book_full = c.either-is_full.result; resting = c.push_reserved.new.self.items; places = vec_capacity c.push_reserved.new.self; told = c.push.new.self } in
    let left : lefts.Rests c.in-Rests.session ≡ c.args.end.left = sym c.in-Rests.is in
    one_more told g.H.OfGates.gates old new one c.self.invariant c.push.ensures
    (c.rest.ensures.told ∙ sym (append-nil (told inside.sink)) ∙ ap (λ (l : Left g.row.R.Denot g.row.W.Denot). told inside.sink ++ ends_more c.args.number l []) left)
    (c.push_reserved.ensures.items ∙ ap (λ (l : Left g.row.R.Denot g.row.W.Denot). inside.resting.items ++ rests_more l []) left)
    (seen_same inside.seen.primaries) (subst (HaveSeenLeft inside.seen) left tt) refl c.either-is_full.ensures
