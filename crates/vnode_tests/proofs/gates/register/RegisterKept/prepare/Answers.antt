use Rattle.std.proofs.Common.{◌≡◌, refl, ap, sym, ◌∙◌}
use Rattle.sibling_register.specs.Plain.{answer_of}
use Rattle.vnode_tests.specs.Registers.{before_newest}
use Rattle.vnode_tests.proofs.Registers.{given_longer}
use Rattle.vnode_tests.proofs.gates.register.RegisterKept.prepare.Goals as goal

pub returns-clause-change : goal.returns-clause-change
returns-clause-change c =
    let old = c.args.self.now.register in
    let new = c.ask.new.self in
    let gives = c.in_ok-told.ensures.gives in
    let longer = given_longer old new c.args.ask (answer_of c.in_ok-told.told) gives (λ same. c.if-len-before.false (c.len.ensures.value ∙ same ∙ sym c.len-before.ensures.value)) in
    let kept : before_newest new ≡ old = ap before_newest longer.1 in (
      (
        refl,
        record {
          command = c.args.ask;
          same = c.some-command.ensures;
          gives = rw kept gives;
          event = longer.0;
          appended = rw kept longer.1;
        },
      ),
      c.some-command.ensures,
    )
