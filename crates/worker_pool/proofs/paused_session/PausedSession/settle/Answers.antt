use Rattle.std.proofs.Common.{refl, sym, subst}
use Rattle.worker_pool.specs.Leaving.{EndsOver}
use Rattle.worker_pool.specs.Resuming.{RunStep, gates_in}
use Rattle.worker_pool.specs.PausedSessions.{PausedSessionView}
use Rattle.worker_pool.proofs.Resting.{ends_over}
use Rattle.worker_pool.proofs.paused_session.PausedSession.settle.Goals as goal

pub returns : goal.returns
returns g c =
    let inside = c.self.inside in
    let session : PausedSessionView g.row.R.Denot g.row.W.Denot = record {
      origin = inside.origin;
      rest = inside.rest;
      over = gates_in inside.over;
      session = inside.session;
      reader = inside.reader;
      writer = inside.writer;
    } in
    subst (λ (s : PausedSessionView g.row.R.Denot g.row.W.Denot). EndsOver g.R.Source.source g.W.Target.target s.over RunStep s.origin (record { result = c.in-Some.result; reader = inside.reader; writer = inside.writer; passes = inside.passes; origin = inside.origin }) s.rest) c.self.view_is
    (ends_over g.R.Source.source g.W.Target.target session c.self.invariant.1 (record { result = c.in-Some.result; reader = inside.reader; writer = inside.writer; passes = inside.passes; origin = inside.origin }) c.in-Some.ensures.over refl refl refl (sym c.self.invariant.0))
