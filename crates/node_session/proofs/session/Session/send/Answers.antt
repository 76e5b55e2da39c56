use Rattle.node_session.proofs.SentParts.{none_left}
use Rattle.node_session.proofs.Coming.{sent_whole, sending_more, sending_failed}
use Rattle.node_session.proofs.session.Session.send.Goals as goal

pub returns-then-waiting-gt0-clause-goes : goal.returns-then-waiting-gt0-clause-goes
returns-then-waiting-gt0-clause-goes g c =
    let was = c.args.self.now in
    λ now u' first u h p. sending_more g.N.Node.step first now u u' h _ was.buffers was.replies was.made was.most _ p c.sent.new.self c.pending.result.now c.in-Bytes.n c.pending.ensures c.in-Bytes.ensures.1 c.in-Bytes.ensures.2 c.sent.ensures

pub returns-else-waiting-gt0-clause-goes : goal.returns-else-waiting-gt0-clause-goes
returns-else-waiting-gt0-clause-goes g c =
    let was = c.args.self.now in
    λ now u' first u h p. sent_whole g.N.Node.step first now u u' h _ c.sent.new.self was.replies was.made was.most
    (sending_more g.N.Node.step first now u u' h _ was.buffers was.replies was.made was.most _ p c.sent.new.self c.pending.result.now c.in-Bytes.n c.pending.ensures c.in-Bytes.ensures.1 c.in-Bytes.ensures.2 c.sent.ensures)
    (none_left _ _ c.waiting.ensures c.if-waiting-gt0.false) c.saturating_add-self.result c.saturating_add-self.ensures

pub returns-in-Failed-clause-goes : goal.returns-in-Failed-clause-goes
returns-in-Failed-clause-goes g c =
    let was = c.args.self.now in
    λ now u' first u h p. sending_failed g.N.Node.step first now u u' h _ _ was.buffers was.replies was.made was.most p c.requires.1 c.in-Failed.ensures
