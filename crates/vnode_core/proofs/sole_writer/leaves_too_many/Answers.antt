use Rattle.std.proofs.Common.{◌∙◌, sym}
use Rattle.dvv_set.specs.Held.{pairs_of as seen_in}
use Rattle.clock_store.specs.Keys.{stored_of}
use Rattle.vnode_core.proofs.Rooms.{siblings-free}
use Rattle.vnode_core.proofs.SoleWrites.{none-left}
use Rattle.vnode_core.proofs.sole_writer.leaves_too_many.Goals as goal

pub returns-then-seen-last : goal.returns-then-seen-last
returns-then-seen-last c = λ _.
    none-left (stored_of c.args.key.now) c.args.last c.requires.sole (seen_in c.args.context) c.args.seen c.requires.saw c.if-seen-last.true

pub returns : goal.returns
returns c = λ few. siblings-free _ (sym c.has_uncovered.ensures ∙ few)
