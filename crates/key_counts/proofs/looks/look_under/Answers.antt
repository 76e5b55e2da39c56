use Rattle.std.proofs.Common.{◌∙◌}
use Rattle.handoff.proofs.Showing.{shown, shown-sound}
use Rattle.key_counts.proofs.looks.look_under.Goals as goal

pub count_stretch-requires : goal.count_stretch-requires
count_stretch-requires c = shown-sound c.args.right.now c.in-Ok.vnode.now c.requires.vnode c.look.ensures.replay c.in-Ok.ensures.shown

pub returns-in-Ok-count_stretch-clause-some : goal.returns-in-Ok-count_stretch-clause-some
returns-in-Ok-count_stretch-clause-some c = record {
  state = c.in-Ok.vnode.now.state;
  shows = shown c.args.right.now c.look.new.pass c.in-Ok.vnode.now c.look.ensures.replay (c.look.ensures.gate ∙ c.requires.gate) c.in-Ok.ensures.seen c.in-Ok.ensures.shown;
  is_stretch = c.in-Ok-count_stretch.ensures;
}
