use Rattle.node_session.proofs.SentParts.{empty_if, some_unsent, tested}
use Rattle.node_session.proofs.Coming.{told_whole, telling_more, telling_failed}
use Rattle.node_session.proofs.session.Session.tell.Goals as goal

pub returns-then-is_empty-clause-goes : goal.returns-then-is_empty-clause-goes
returns-then-is_empty-clause-goes g c =
    let was = c.args.self.now in
    let empty = c.pending.ensures.some (empty_if c.pending.result.now c.is_empty.result c.is_empty.ensures c.if-is_empty.true) in
    λ now u' first u h p. told_whole g.N.Node.step first now u u' h _ was.buffers was.replies was.made was.most p empty

pub returns-in-Bytes-clause-goes : goal.returns-in-Bytes-clause-goes
returns-in-Bytes-clause-goes g c =
    let was = c.args.self.now in
    λ now u' first u h p. telling_more g.N.Node.step first now u u' h _ was.buffers was.replies was.made was.most _ p c.sent.new.self c.pending-2.result.now c.in-Bytes.n c.pending-2.ensures c.in-Bytes.ensures.1 c.in-Bytes.ensures.2 c.sent.ensures

pub returns-in-Failed-clause-goes : goal.returns-in-Failed-clause-goes
returns-in-Failed-clause-goes g c =
    let was = c.args.self.now in
    let some = some_unsent c.pending.result.now _ c.pending.ensures (tested c.pending.result.now c.is_empty.result c.is_empty.ensures c.if-is_empty.false) in
    λ now u' first u h p. telling_failed g.N.Node.step first now u u' h _ _ was.buffers was.replies was.made was.most p some c.in-Failed.ensures
