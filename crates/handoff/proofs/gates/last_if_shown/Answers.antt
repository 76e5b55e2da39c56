use Rattle.std.proofs.Common.{◌∙◌, refl, sym, subst}
use Rattle.std.specs.Prelude.{IsSome}
use Rattle.handoff.proofs.Showing.{shown}
use Rattle.handoff.proofs.gates.last_if_shown.Goals as goal

pub returns-in-Some-clause-closed : goal.returns-in-Some-clause-closed
returns-in-Some-clause-closed c = (
  record {
    state = c.in-Ok.vnode.now.state;
    shows = shown c.args.right.now c.look.new.pass c.in-Ok.vnode.now c.look.ensures.replay (c.look.ensures.gate ∙ c.requires) c.in-Ok.ensures.seen c.in-Ok.ensures.shown;
    closed = subst IsSome (sym c.in-Some.is ∙ c.closed_at.ensures) refl;
  },
  c.last_epoch.ensures,
)
