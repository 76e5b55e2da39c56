use Rattle.clock_store.proofs.MergedMarks.{apart_left, merged_left}
use Rattle.clock_store.proofs.clock_map.index.DeadKeys.retain_marks.Goals as goal

pub invariant_of-self : goal.invariant_of-self
invariant_of-self c =
    apart_left c.args.spare c.self.inside.short.entries c.self.inside.long.entries c.retain_marks.new.index.entries c.retain_marks-2.new.index.entries c.self.invariant c.retain_marks.ensures.ordered c.retain_marks-2.ensures.ordered
    c.retain_marks.ensures.left c.retain_marks-2.ensures.left

pub returns : goal.returns
returns c =
    rw (← c.self.view_is)
    (merged_left c.args.spare c.self.inside.short.entries c.self.inside.long.entries c.retain_marks.new.index.entries c.retain_marks-2.new.index.entries c.self.invariant c.retain_marks.ensures.ordered c.retain_marks-2.ensures.ordered
    c.retain_marks.ensures.left c.retain_marks-2.ensures.left)
