use Rattle.std.proofs.Common.{sym, subst}
use Rattle.node_session.specs.Stages.{Came, CanWait, IsOverBy, Waits}
use Rattle.node_session.specs.Streams.{SourceView, TargetView}
use Rattle.node_session.specs.declared.stage.Stage.{Stage}
use Rattle.node_session.proofs.Coming.{blocked_idle, blocked_over, blocked_reading, blocked_sending, blocked_telling}
use Rattle.node_session.proofs.session.Session.outcome_of_waiting.Goals as goal

pub returns-in-Sending : goal.returns-in-Sending
returns-in-Sending g c =
    let step = g.N.Node.step in
    let was = c.args.self.now in
    λ first now u u' u'' h h' h'' waits p. blocked_sending step first u u' u'' h h' h'' now was.buffers was.replies was.made was.most
    (subst (λ (stage : Stage). CanWait stage was.buffers) c.in-Sending.is c.requires)
    (subst (λ (stage : Stage). Waits stage u' u'' h' h'') c.in-Sending.is waits)
    (subst (λ (stage : Stage). Came step first now u u' h h' stage was) c.in-Sending.is p)

pub returns-in-Telling : goal.returns-in-Telling
returns-in-Telling g c =
    let step = g.N.Node.step in
    let was = c.args.self.now in
    λ first now u u' u'' h h' h'' waits p. blocked_telling step first u u' u'' h h' h'' now was.buffers was.replies was.made was.most
    (subst (λ (stage : Stage). CanWait stage was.buffers) c.in-Telling.is c.requires)
    (subst (λ (stage : Stage). Waits stage u' u'' h' h'') c.in-Telling.is waits)
    (subst (λ (stage : Stage). Came step first now u u' h h' stage was) c.in-Telling.is p)

pub returns-in-Flushing : goal.returns-in-Flushing
returns-in-Flushing g c =
    let step = g.N.Node.step in
    let was = c.args.self.now in
    λ first now u u' u'' h h' h'' waits p. blocked_idle step first u u' u'' h h' h'' now was.buffers was.replies was.made was.most c.is_read.ensures
    (subst (λ (stage : Stage). Waits stage u' u'' h' h'') c.in-Flushing.is waits)
    (subst (λ (stage : Stage). Came step first now u u' h h' stage was) c.in-Flushing.is p)

pub returns-in-Reading : goal.returns-in-Reading
returns-in-Reading g c =
    let step = g.N.Node.step in
    let was = c.args.self.now in
    λ first now u u' u'' h h' h'' waits p. blocked_reading step first u u' u'' h h' h'' now was.buffers was.replies was.made was.most c.is_read.ensures
    (subst (λ (stage : Stage). Waits stage u' u'' h' h'') c.in-Reading.is waits)
    (subst (λ (stage : Stage). Came step first now u u' h h' stage was) c.in-Reading.is p)

pub returns-in-Closing : goal.returns-in-Closing
returns-in-Closing g c =
    let step = g.N.Node.step in
    let was = c.args.self.now in
    λ first now u u' u'' h h' h'' waits p. blocked_over step first u u' u'' h h' h'' now was.most c.in-Closing.fault
    (subst (λ (stage : Stage). Waits stage u' u'' h' h'') c.in-Closing.is waits)
    (subst (λ (stage : Stage). Came step first now u u' h h' stage was) c.in-Closing.is p)
