use Rattle.std.proofs.Common.{refl, subst, sym}
use Rattle.worker_pool.specs.PausedSessions.{OpenSessionView, StaysOver}
use Rattle.worker_pool.proofs.Resting.{stays_open, stays_over}
use Rattle.worker_pool.proofs.open_session.OpenSession.advance.Goals as goal

pub invariant_of-self : goal.invariant_of-self
invariant_of-self g c =
    let open_session = c.self.inside in
    let old : OpenSessionView g.row.R.Denot g.row.W.Denot = record { node = open_session.node; session = open_session.session; reader = open_session.reader; writer = open_session.writer; origin = open_session.origin } in
    let new : OpenSessionView g.row.R.Denot g.row.W.Denot = record { node = c.step.new.node; session = c.step.new.self; reader = c.step.new.reader; writer = c.step.new.writer; origin = open_session.origin } in
    stays_open g.R.Source.source g.W.Target.target old new c.self.invariant refl c.step.ensures.goes c.step.ensures.fits c.step.ensures.most

pub returns-clause-stays : goal.returns-clause-stays
returns-clause-stays g c = λ shared session h.
    let open_session = c.self.inside in
    let old : OpenSessionView g.row.R.Denot g.row.W.Denot = record { node = open_session.node; session = open_session.session; reader = open_session.reader; writer = open_session.writer; origin = open_session.origin } in
    let new : OpenSessionView g.row.R.Denot g.row.W.Denot = record { node = c.step.new.node; session = c.step.new.self; reader = c.step.new.reader; writer = c.step.new.writer; origin = open_session.origin } in
    stays_over g.R.Source.source g.W.Target.target old new c.self.invariant refl c.step.ensures.goes shared session (subst (StaysOver shared session) (sym c.self.view_is) h)
