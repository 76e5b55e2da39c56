use Rattle.std.proofs.Common.{◌∙◌, sym}
use Rattle.vnode_core.proofs.Rooms.{siblings-full, siblings-free}
use Rattle.vnode_core.proofs.checks.check_siblings.Goals as goal

pub returns-then-has_uncovered : goal.returns-then-has_uncovered
returns-then-has_uncovered c = siblings-full _ (sym c.has_uncovered.ensures ∙ c.if-has_uncovered.true)

pub returns : goal.returns
returns c = siblings-free _ (sym c.has_uncovered.ensures ∙ c.if-has_uncovered.false)
