use Rattle.std.proofs.Common.{◌≡◌, sym, subst}
use Rattle.gate_node.specs.Passes.{Sights, ArePassesOf}
use Rattle.worker_pool.specs.Resuming.{IsLater, gates_in, standing}
use Rattle.worker_pool.specs.PausedSessions.{PausedSessionView}
use Rattle.worker_pool.proofs.Resting.{goes_on}
use Rattle.worker_pool.proofs.Resuming.{later_on, passes_later}
use Rattle.worker_pool.proofs.paused_session.PausedSession.go_on.Goals as goal

pub counting_by-requires : goal.counting_by-requires
counting_by-requires g c =
    let session = c.self.inside in
    let shared = c.args.shared.now in
    let later = subst (λ (s : PausedSessionView g.row.R.Denot g.row.W.Denot). IsLater s.over shared) (sym c.self.view_is) c.requires.goes.later in
    subst (λ (passes : Sights). ArePassesOf shared passes) (sym c.self.invariant.0) (passes_later (gates_in session.over) shared session.rest.passes later c.self.invariant.1.of_gates)

pub resumed-requires-clause-later : goal.resumed-requires-clause-later
resumed-requires-clause-later g c =
    let session = c.self.inside in
    let shared = c.args.shared.now in
    let later = subst (λ (s : PausedSessionView g.row.R.Denot g.row.W.Denot). IsLater s.over shared) (sym c.self.view_is) c.requires.goes.later in
    later_on session.rest.shared (gates_in session.over) shared c.self.invariant.1.rested_before later

pub invariant_of-result : goal.invariant_of-result
invariant_of-result g c =
    let inside = c.self.inside in
    let shared = c.args.shared.now in
    let later = subst (λ (s : PausedSessionView g.row.R.Denot g.row.W.Denot). IsLater s.over shared) (sym c.self.view_is) c.requires.goes.later in
    let session : PausedSessionView g.row.R.Denot g.row.W.Denot = record {
      origin = inside.origin;
      rest = inside.rest;
      over = gates_in inside.over;
      session = inside.session;
      reader = inside.reader;
      writer = inside.writer;
    } in
    let node = c.resumed in
    let is : node.result ≡ standing shared session.rest.count.counted session.rest = λ i. record { stands = node.ensures.stands i; over = node.ensures.over i; before = node.ensures.before i } in
    goes_on g.R.Source.source g.W.Target.target session c.self.invariant.1 shared later node.result is
