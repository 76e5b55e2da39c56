use Rattle.std.proofs.Common.{sym, subst, arith}
use mathlib.Core.List.{IsPrefix}
use Rattle.rw_gate.proofs.Prefixes.{prefix_trans, prefix_length}
use Rattle.rw_gate.proofs.Logs.{events_prefix}
use Rattle.rw_gate.proofs.Below.{below_more}
use Rattle.rw_gate.proofs.pass.Pass.load.Goals as goal

pub invariant_of-self : goal.invariant_of-self
invariant_of-self g c =
    let own = c.self.inside in
    let seen = c.load-found.ensures.6.1 in
    let both : IsPrefix own.seen.log c.learn.new.self.log = subst (λ s. IsPrefix s.log c.learn.new.self.log) c.again-both.ensures c.learn.ensures.2 in
    let longer = prefix_length _ _ (events_prefix own.seen.log c.load-found.new.seen.log (prefix_trans own.seen.log c.learn.new.self.log c.load-found.new.seen.log both c.load-found.ensures.5)) in
    (sym seen.0, seen.1, below_more own.count c.load-found.result own.own (omega (arith, seen.0, c.self.invariant.0, longer)) c.self.invariant.2)

pub returns-clause-more : goal.returns-clause-more
returns-clause-more g c =
    let own = c.self.inside in
    let both : IsPrefix own.seen.log c.learn.new.self.log = subst (λ s. IsPrefix s.log c.learn.new.self.log) c.again-both.ensures c.learn.ensures.2 in
    rw (← c.self.view_is) (events_prefix own.seen.log c.load-found.new.seen.log (prefix_trans own.seen.log c.learn.new.self.log c.load-found.new.seen.log both c.load-found.ensures.5))

pub returns-clause-with_seen : goal.returns-clause-with_seen
returns-clause-with_seen g c =
    let seen = c.args.seen.now.log in
    events_prefix seen c.load-found.new.seen.log (prefix_trans seen c.learn.new.self.log c.load-found.new.seen.log c.learn.ensures.3 c.load-found.ensures.5)
