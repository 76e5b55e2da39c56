use Rattle.rw_gate.proofs.SlotValues.{replay_of}
use Rattle.rw_gate.proofs.write.WriteRight.look.Goals as goal

pub returns-clause-replay : goal.returns-clause-replay
returns-clause-replay g c =
    let own = c.self.inside in
    rw (← c.self.view_is) (replay_of g.S.Kept.content g.S.Kept.accepts own.seen.book own.seen.log own.state.value c.self.invariant.leads)

pub returns-in_err-look-clause-gate : goal.returns-in_err-look-clause-gate
returns-in_err-look-clause-gate g c = c.look.ensures.gate

pub returns-in_err-look-clause-own : goal.returns-in_err-look-clause-own
returns-in_err-look-clause-own g c = c.look.ensures.own

pub returns-in_err-look-clause-more : goal.returns-in_err-look-clause-more
returns-in_err-look-clause-more g c = c.look.ensures.more

pub returns-clause-gate : goal.returns-clause-gate
returns-clause-gate g c = c.look.ensures.gate

pub returns-clause-own : goal.returns-clause-own
returns-clause-own g c = c.look.ensures.own

pub returns-clause-more : goal.returns-clause-more
returns-clause-more g c = c.look.ensures.more

pub returns-in_err-look-clause-replay : goal.returns-in_err-look-clause-replay
returns-in_err-look-clause-replay g c =
    let own = c.self.inside in
    rw (← c.self.view_is) (replay_of g.S.Kept.content g.S.Kept.accepts own.seen.book own.seen.log own.state.value c.self.invariant.leads)
