use Rattle.std.proofs.Common.{◌∙◌, sym, ap}
use Rattle.std.specs.Prelude.{is_some}
use Rattle.vnode_machine.proofs.Keys.{key_cmp_total}
use Rattle.names.proofs.Merged.{merged_sorted}
use Rattle.clock_store.specs.Forgetting.{key_given}
use Rattle.clock_store.specs.Index.{first_marked}
use Rattle.clock_store.proofs.Marks.{some_copied}
use Rattle.clock_store.proofs.MergedMarks.{some_merged, or_then, or_else}
use Rattle.clock_store.proofs.clock_map.index.DeadKeys.has_dead.Goals as goal

pub returns-then-short-clause-first : goal.returns-then-short-clause-first
returns-then-short-clause-first c =
    let v = c.self.inside in
    rw (← c.self.view_is)
    (or_then c.is_some-short.result (is_some (first_marked c.args.spare (key_given c.args.from) v.short.entries)) (is_some (first_marked c.args.spare (key_given c.args.from) v.long.entries))
    (c.is_some-short.ensures ∙ ap is_some c.first_dead.ensures) c.if-short.true
    ∙ some_merged c.args.spare (key_given c.args.from) v.short.entries v.long.entries c.self.invariant)

pub returns-else-short-clause-first : goal.returns-else-short-clause-first
returns-else-short-clause-first c =
    let v = c.self.inside in
    rw (← c.self.view_is)
    (or_else c.is_some-short.result (is_some (first_marked c.args.spare (key_given c.args.from) v.short.entries)) c.is_some-long.result (is_some (first_marked c.args.spare (key_given c.args.from) v.long.entries))
    (c.is_some-short.ensures ∙ ap is_some c.first_dead.ensures) c.if-short.false (c.is_some-long.ensures ∙ sym (some_copied c.first_dead-2.result) ∙ ap is_some c.first_dead-2.ensures)
    ∙ some_merged c.args.spare (key_given c.args.from) v.short.entries v.long.entries c.self.invariant)

pub returns-then-short-clause-ordered : goal.returns-then-short-clause-ordered
returns-then-short-clause-ordered c = rw (← c.self.view_is) (merged_sorted key_cmp_total c.self.inside.short.entries c.self.inside.long.entries c.self.invariant.first_ordered)

pub returns-else-short-clause-ordered : goal.returns-else-short-clause-ordered
returns-else-short-clause-ordered c = rw (← c.self.view_is) (merged_sorted key_cmp_total c.self.inside.short.entries c.self.inside.long.entries c.self.invariant.first_ordered)
