use Rattle.std.proofs.Common.{◌∙◌, sym}
use Rattle.dvv_set.specs.Held.{pairs_of as seen_in}
use Rattle.vnode_core.specs.Checks.{found_in}
use Rattle.vnode_core.proofs.SoleWrites.{put-free}
use Rattle.vnode_core.proofs.sole_writer.plain_writer.Goals as goal

pub returns : goal.returns
returns c = λ state found vnode epoch given.
    let put = c.args.put.now in
    put-free state put (seen_in c.args.context) given (sym c.has_conditions.ensures ∙ c.if-has_conditions.false) (found_in c.args.found) found c.in_ok-writer.writer
    (c.in_ok-writer.ensures state put.key found vnode epoch)
