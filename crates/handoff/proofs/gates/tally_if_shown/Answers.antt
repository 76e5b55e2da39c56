use Rattle.std.proofs.Common.{◌∙◌}
use Rattle.handoff.proofs.Showing.{shown}
use Rattle.handoff.proofs.gates.tally_if_shown.Goals as goal

pub returns-clause-tally : goal.returns-clause-tally
returns-clause-tally c = record {
  state = c.in-Ok.vnode.now.state;
  shows = shown c.args.right.now c.look.new.pass c.in-Ok.vnode.now c.look.ensures.replay (c.look.ensures.gate ∙ c.requires) c.in-Ok.ensures.seen c.in-Ok.ensures.shown;
  writes = c.tally.ensures.writes;
  tombstones = c.tally.ensures.tombstones;
  reaps = c.tally.ensures.reaps;
}
