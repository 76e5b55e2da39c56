use Rattle.std.proofs.Common.{subst, arith}
use mathlib.Core.List.{IsPrefix}
use Rattle.rw_gate.specs.Logs.{events}
use Rattle.rw_gate.proofs.Prefixes.{prefix_shorter}
use Rattle.rw_gate.proofs.Logs.{events_prefix}
use Rattle.rw_gate.proofs.pass.Pass.is_behind.Goals as goal

pub returns-then-self-other : goal.returns-then-self-other
returns-then-self-other g c =
    let mine = c.self.inside.seen.log in
    let theirs = c.other.inside.seen.log in
    let both = c.learn.new.self.log in
    let this : IsPrefix mine both = subst (λ s. IsPrefix s.log both) c.again-both.ensures c.learn.ensures.2 in
    rw (← c.self.view_is, ← c.other.view_is) (prefix_shorter (events mine) (events theirs) (events both) (events_prefix mine both this) (events_prefix theirs both c.learn.ensures.3) (omega (arith, c.self.invariant.0, c.other.invariant.0)))

pub returns : goal.returns
returns g c =
    let mine = c.self.inside.seen.log in
    let theirs = c.other.inside.seen.log in
    let both = c.learn.new.self.log in
    let this : IsPrefix mine both = subst (λ s. IsPrefix s.log both) c.again-both.ensures c.learn.ensures.2 in
    rw (← c.self.view_is, ← c.other.view_is) (prefix_shorter (events theirs) (events mine) (events both) (events_prefix theirs both c.learn.ensures.3) (events_prefix mine both this) (omega (arith, c.self.invariant.0, c.other.invariant.0)))
