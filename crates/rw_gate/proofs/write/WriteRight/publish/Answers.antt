use Rattle.std.proofs.Common.{◌<◌, ◌++◌, ◌∷◌, [], length, ap, sym, ◌∙◌, subst, arith}
use Rattle.rw_gate.specs.declared.log.GateEntry.TheVariants.{Made}
use Rattle.rw_gate.specs.Logs.{events}
use Rattle.rw_gate.proofs.Logs.{events_append}
use Rattle.rw_gate.proofs.SlotValues.{replay_of, slot_value_snoc, gate_id_prefix}
use Rattle.rw_gate.proofs.write.WriteRight.publish.Goals as goal

pub invariant_of-self : goal.invariant_of-self
invariant_of-self g c =
    let own = c.self.inside in
    let longer = c.in-Ok.ensures in
    slot_value_snoc g.S.Kept.content g.S.Kept.accepts own.gate.now own.seen.book c.in-Ok.longer.book own.seen.log c.in-Ok.longer.log own.count own.state.value c.apply.new.self (g.S.Kept.event c.args.change) c.self.invariant longer.book longer.log (subst (λ s. g.S.Kept.accepts (g.S.Kept.content s) (g.S.Kept.event c.args.change) (g.S.Kept.content c.apply.new.self)) c.deref_mut.ensures.value c.apply.ensures.moved)

pub returns-in-Ok-clause-event : goal.returns-in-Ok-clause-event
returns-in-Ok-clause-event g c =
    let own = c.self.inside in
    let e = g.S.Kept.event c.args.change in
    let few : length (events own.seen.log) < 18446744073709551615 = omega (arith, c.self.invariant.counted, c.self.ranges, c.if-self.false) in
    rw (← c.self.view_is) (record {
      gate = gate_id_prefix g.S.Kept.content g.S.Kept.accepts own.seen.book c.in-Ok.longer.book own.seen.log c.in-Ok.longer.log (g.S.Kept.content own.state.value, c.self.invariant.leads) c.in-Ok.ensures.book (Made e ∷ [], sym c.in-Ok.ensures.log);
      history = ap events c.in-Ok.ensures.log ∙ events_append own.seen.log (Made e ∷ []);
      accepted = (subst (λ s. g.S.Kept.accepts (g.S.Kept.content s) (g.S.Kept.event c.args.change) (g.S.Kept.content c.apply.new.self)) c.deref_mut.ensures.value c.apply.ensures.moved);
      room = few;
    })

pub returns-in-Ok-clause-state : goal.returns-in-Ok-clause-state
returns-in-Ok-clause-state g c =
    let own = c.self.inside in
    let longer = c.in-Ok.ensures in
    let value = slot_value_snoc g.S.Kept.content g.S.Kept.accepts own.gate.now own.seen.book c.in-Ok.longer.book own.seen.log c.in-Ok.longer.log own.count own.state.value c.apply.new.self (g.S.Kept.event c.args.change) c.self.invariant longer.book longer.log (subst (λ s. g.S.Kept.accepts (g.S.Kept.content s) (g.S.Kept.event c.args.change) (g.S.Kept.content c.apply.new.self)) c.deref_mut.ensures.value c.apply.ensures.moved) in
    replay_of g.S.Kept.content g.S.Kept.accepts c.in-Ok.longer.book c.in-Ok.longer.log c.apply.new.self value.leads

pub returns-in-Err-clause-state : goal.returns-in-Err-clause-state
returns-in-Err-clause-state g c =
    let own = c.self.inside in
    rw (← c.self.view_is) (replay_of g.S.Kept.content g.S.Kept.accepts own.seen.book own.seen.log own.state.value c.self.invariant.leads)

pub returns-in-Err-clause-fault : goal.returns-in-Err-clause-fault
returns-in-Err-clause-fault g c =
    let own = c.self.inside in
    let few : length (events own.seen.log) < 18446744073709551615 = omega (arith, c.self.invariant.counted, c.self.ranges, c.if-self.false) in
    rw (← c.self.view_is) (c.in-Err.ensures.err, few)

pub returns-in-Ok-clause-own : goal.returns-in-Ok-clause-own
returns-in-Ok-clause-own g c = rw (← c.self.view_is) (c.in-Ok.ensures.own ∙ ap (λ n. c.args.pass.now.own ++ n ∷ []) c.self.invariant.counted)

pub returns-in-Ok-clause-before : goal.returns-in-Ok-clause-before
returns-in-Ok-clause-before g c = rw (← c.self.view_is) c.in-Ok.ensures.before
