use Rattle.std.proofs.Common.{◌++◌}
use Rattle.std.proofs.KnownBytes.{Appends-trans}
use Rattle.control_text.proofs.Groups.{group_next}
use Rattle.control_text.proofs.figures.write_group.Goals as goal

pub loop-figure-preserved : goal.loop-figure-preserved
loop-figure-preserved g c =
    let was = c.loop-figure.invariant in (
      was.0 ++ _,
      Appends-trans _ _ _ was.0 _ was.1 (Appends-trans _ _ _ _ _ c.in_ok-write.ensures.bytes c.in_ok-write_figure.ensures),
      group_next c.args.figures.now c.loop-figure.figure-index _ was.0 _ c.loop-figure-test.true was.2,
    )
