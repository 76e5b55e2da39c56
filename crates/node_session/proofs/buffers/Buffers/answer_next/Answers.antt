use Rattle.std.proofs.Common.{◌≡◌, ℕ, List, [], ◌++◌, refl, ap, subst, sym, ◌∙◌}
use Rattle.pb_frame.specs.Message.{FitsLimit}
use Rattle.pb_frame.specs.Stream.{Stream}
use Rattle.node_session.specs.Answers.{reply_frame}
use Rattle.node_session.specs.Nexts.{IsNextAnswered, IsLost}
use Rattle.node_session.specs.Unsent.{PutsReply}
use Rattle.node_session.specs.Views.{Transcript, message_of}
use Rattle.node_session.specs.declared.exchange.Exchange.{Exchange}
use Rattle.node_session.proofs.Telling.{taken_at, still_limit, still_read}
use Rattle.node_session.proofs.buffers.Buffers.answer_next.Goals as goal

pub invariant_of-self : goal.invariant_of-self
invariant_of-self g c =
    let was = c.self.inside in
    let x : Exchange = record { code = c.in-Ok-Some.frame.code; body = c.in-Ok-Some.frame.body.now; reply = c.answer-framed.result.reply } in
    let taken = taken_at was.framer c.take.follows.lender-at-none c.take.result c.in-Ok-Some.field-0 c.in-Ok-Some.frame c.in-Ok-Some.is c.in-Ok-Some.field-0-is c.take.follows.holds-at-none in (
      still_limit was.framer c.take.follows.lender-at-none was.exchanges c.listed-longer.result x was.input c.self.invariant.0 taken c.listed-longer.ensures,
      still_read was.framer c.take.follows.lender-at-none was.exchanges c.listed-longer.result x was.input c.self.invariant.0 taken c.listed-longer.ensures c.self.invariant.1,
    )

pub invariant_of-self-in-Ok-Some : goal.invariant_of-self-in-Ok-Some
invariant_of-self-in-Ok-Some g c =
    let was = c.self.inside in
    let x : Exchange = record { code = c.in-Ok-Some.frame.code; body = c.in-Ok-Some.frame.body.now; reply = c.answer-framed.result.reply } in
    let taken = taken_at was.framer c.take.follows.lender-at-none c.take.result c.in-Ok-Some.field-0 c.in-Ok-Some.frame c.in-Ok-Some.is c.in-Ok-Some.field-0-is c.take.follows.holds-at-none in (
      still_limit was.framer c.take.follows.lender-at-none was.exchanges c.listed-longer.result x was.input c.self.invariant.0 taken c.listed-longer.ensures,
      still_read was.framer c.take.follows.lender-at-none was.exchanges c.listed-longer.result x was.input c.self.invariant.0 taken c.listed-longer.ensures c.self.invariant.1,
    )

pub returns-in-Ok : goal.returns-in-Ok
returns-in-Ok g c =
    let was = c.self.inside in
    let x : Exchange = record { code = c.in-Ok-Some.frame.code; body = c.in-Ok-Some.frame.body.now; reply = c.answer-framed.result.reply } in
    let taken = taken_at was.framer c.take.follows.lender-at-none c.take.result c.in-Ok-Some.field-0 c.in-Ok-Some.frame c.in-Ok-Some.is c.in-Ok-Some.field-0-is c.take.follows.holds-at-none in
    let no_fault = subst (λ (s : Transcript). s.fault ≡ _) (sym c.self.view_is) c.requires.no_fault in
    let sent : was.outbox ≡ [] = subst (λ (s : Transcript). s.unsent ≡ []) (sym c.self.view_is) c.requires.sent in
    let after : Transcript = record { input = was.input; exchanges = c.listed-longer.result; rest = c.take.follows.lender-at-none.rest; fault = c.take.follows.lender-at-none.fault; unsent = c.answer-framed.new.out } in
    let puts = subst (PutsReply x.reply c.answer-framed.new.out) c.in-Ok.is c.answer-framed.ensures.put in
    subst (λ (s : Transcript). IsNextAnswered g.N.Node.step c.args.node.now c.answer-framed.new.node s after) c.self.view_is (record {
      exchange = x;
      front = taken.front;
      within = subst (λ (n : ℕ). FitsLimit n (message_of x)) c.self.invariant.0 taken.within;
      answers = c.answer-framed.ensures.answers;
      input = refl;
      exchanges = c.listed-longer.ensures;
      fault = ap (λ (s : Stream). s.fault) taken.stream ∙ no_fault;
      framed = puts.0;
      unsent = puts.1 ∙ ap (λ (l : List ℕ). l ++ reply_frame x.reply) (sym sent);
    })

pub returns-in-Ok-Some : goal.returns-in-Ok-Some
returns-in-Ok-Some g c =
    let was = c.self.inside in
    let x : Exchange = record { code = c.in-Ok-Some.frame.code; body = c.in-Ok-Some.frame.body.now; reply = c.answer-framed.result.reply } in
    let taken = taken_at was.framer c.take.follows.lender-at-none c.take.result c.in-Ok-Some.field-0 c.in-Ok-Some.frame c.in-Ok-Some.is c.in-Ok-Some.field-0-is c.take.follows.holds-at-none in
    let sent : was.outbox ≡ [] = subst (λ (s : Transcript). s.unsent ≡ []) (sym c.self.view_is) c.requires.sent in
    let after : Transcript = record { input = was.input; exchanges = c.listed-longer.result; rest = c.take.follows.lender-at-none.rest; fault = c.take.follows.lender-at-none.fault; unsent = c.answer-framed.new.out } in
    let puts = subst (PutsReply x.reply c.answer-framed.new.out) c.in-Err-put.is c.answer-framed.ensures.put in
    subst (λ (s : Transcript). IsLost g.N.Node.step c.args.node.now c.answer-framed.new.node s after) c.self.view_is (record {
      exchange = x;
      front = taken.front;
      within = subst (λ (n : ℕ). FitsLimit n (message_of x)) c.self.invariant.0 taken.within;
      answers = c.answer-framed.ensures.answers;
      no_error = puts.1;
      input = refl;
      exchanges = c.listed-longer.ensures;
      unsent = puts.2 ∙ sym sent;
    })
