use Rattle.std.proofs.Common.{◌-◌, subst}
use Rattle.node_session.specs.Nexts.{AnswersNext}
use Rattle.node_session.proofs.Coming.{to_lost}
use Rattle.node_session.proofs.Weighing.{answered_less, answered_some, bad_less}
use Rattle.node_session.proofs.session.Session.answer.Goals as goal

pub returns-in-Answered-clause-fits : goal.returns-in-Answered-clause-fits
returns-in-Answered-clause-fits g c =
    let step = g.N.Node.step in
    let s = c.args.self.now.buffers in
    let t = c.answer_next.new.self in
    let told = subst (λ s. AnswersNext step c.args.node.now c.answer_next.new.node s t c.answer_next.result) c.give_back.ensures c.answer_next.ensures in
    let one = subst (AnswersNext step c.args.node.now c.answer_next.new.node s t) c.in-Answered.is told in
    (one.fault, answered_some step c.args.node.now c.answer_next.new.node s t c.requires.1 one)

pub returns-in-Answered-clause-less : goal.returns-in-Answered-clause-less
returns-in-Answered-clause-less g c =
    let step = g.N.Node.step in
    let s = c.args.self.now.buffers in
    let t = c.answer_next.new.self in
    let told = subst (λ s. AnswersNext step c.args.node.now c.answer_next.new.node s t c.answer_next.result) c.give_back.ensures c.answer_next.ensures in
    let one = subst (AnswersNext step c.args.node.now c.answer_next.new.node s t) c.in-Answered.is told in
    answered_less step c.args.node.now c.answer_next.new.node s t (c.args.self.now.most - c.args.self.now.made) c.requires.1 one

pub returns-in-BadFrame-clause-less : goal.returns-in-BadFrame-clause-less
returns-in-BadFrame-clause-less g c =
    let step = g.N.Node.step in
    let s = c.args.self.now.buffers in
    let t = c.answer_next.new.self in
    let told = subst (λ s. AnswersNext step c.args.node.now c.answer_next.new.node s t c.answer_next.result) c.give_back.ensures c.answer_next.ensures in
    let bad = subst (AnswersNext step c.args.node.now c.answer_next.new.node s t) c.in-BadFrame.is told in
    bad_less s t (c.args.self.now.most - c.args.self.now.made) c.requires.1 bad.0

pub returns-in-Lost-clause-goes : goal.returns-in-Lost-clause-goes
returns-in-Lost-clause-goes g c =
    let step = g.N.Node.step in
    let was = c.args.self.now in
    let t = c.answer_next.new.self in
    let told = subst (λ s. AnswersNext step c.args.node.now c.answer_next.new.node s t c.answer_next.result) c.give_back.ensures c.answer_next.ensures in
    let lost = subst (AnswersNext step c.args.node.now c.answer_next.new.node was.buffers t) c.in-Lost.is told in
    λ u' h' first u h p. to_lost step first c.args.node.now u u' h h' h' was.buffers was.replies was.made was.most p c.is_read.ensures c.answer_next.new.node t lost
