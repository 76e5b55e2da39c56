use Rattle.handoff.proofs.Showing.{shown-sound}
use Rattle.handoff.proofs.counting.left_under.Goals as goal

pub count_left-requires : goal.count_left-requires
count_left-requires c = shown-sound c.args.there.now c.in_ok-from.from.now c.requires.vnode c.in_ok-from.ensures.replay c.in_ok-from.ensures.shown
