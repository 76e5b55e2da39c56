use Rattle.std.proofs.Common.{◌≡◌, ◌∙◌, sym, true}
use Rattle.std.specs.Prelude.{None}
use Rattle.vnode_machine.proofs.Keys.{key_cmp_total}
use Rattle.names.proofs.Merged.{apart_first, set_first, merged_sorted}
use Rattle.clock_store.specs.Forgetting.{key_given}
use Rattle.names.specs.ShortKeys.{is_short_key}
use Rattle.clock_store.proofs.MergedMarks.{same_short_key, taken_first, taken_second, taken_is_short, apart_taken, merged_taken, merged_none}
use Rattle.clock_store.proofs.clock_map.index.DeadKeys.take_first.Goals as goal

pub invariant_of-self : goal.invariant_of-self
invariant_of-self c =
    let v = c.self.inside in
    let short : is_short_key c.in-Some.key ≡ true = taken_is_short (key_given c.args.from) v.short.entries v.long.entries c.self.invariant c.in-Some.key (sym c.in-Some.is ∙ c.first_short.ensures) in
    apart_first key_cmp_total is_short_key same_short_key v.short.entries v.long.entries c.remove.new.index.entries c.in-Some.key None c.self.invariant c.remove.ensures.ordered short c.remove.ensures.removed

pub invariant_of-self-in-None : goal.invariant_of-self-in-None
invariant_of-self-in-None c =
    let v = c.self.inside in
    apart_taken (key_given c.args.from) v.short.entries v.long.entries c.self.invariant c.take_long.new.long.entries c.take_long.ensures.ordered c.take_long.result c.take_long.ensures.first c.take_long.ensures.taken c.take_long.ensures.none

pub returns-in-Some-clause-first : goal.returns-in-Some-clause-first
returns-in-Some-clause-first c =
    let v = c.self.inside in
    rw (← c.self.view_is) (taken_first (key_given c.args.from) v.short.entries v.long.entries c.self.invariant c.in-Some.key (sym c.in-Some.is ∙ c.first_short.ensures))

pub returns-in-Some-clause-taken : goal.returns-in-Some-clause-taken
returns-in-Some-clause-taken c =
    let v = c.self.inside in
    let short : is_short_key c.in-Some.key ≡ true = taken_is_short (key_given c.args.from) v.short.entries v.long.entries c.self.invariant c.in-Some.key (sym c.in-Some.is ∙ c.first_short.ensures) in
    rw (← c.self.view_is) (set_first key_cmp_total is_short_key same_short_key v.short.entries v.long.entries c.remove.new.index.entries c.in-Some.key None c.self.invariant c.remove.ensures.ordered short c.remove.ensures.removed)

pub returns-in-Some-clause-ordered : goal.returns-in-Some-clause-ordered
returns-in-Some-clause-ordered c = rw (← c.self.view_is) (merged_sorted key_cmp_total c.self.inside.short.entries c.self.inside.long.entries c.self.invariant.first_ordered)

pub returns-in-None-clause-first : goal.returns-in-None-clause-first
returns-in-None-clause-first c =
    let v = c.self.inside in
    rw (← c.self.view_is) (c.take_long.ensures.first ∙ taken_second (key_given c.args.from) v.short.entries v.long.entries c.self.invariant (sym c.in-None.is ∙ c.first_short.ensures))

pub returns-in-None-clause-taken : goal.returns-in-None-clause-taken
returns-in-None-clause-taken c =
    let v = c.self.inside in
    rw (← c.self.view_is)
    (merged_taken (key_given c.args.from) v.short.entries v.long.entries c.self.invariant c.take_long.new.long.entries c.take_long.ensures.ordered c.take_long.result c.take_long.ensures.first c.take_long.ensures.taken)

pub returns-in-None-clause-none : goal.returns-in-None-clause-none
returns-in-None-clause-none c =
    let v = c.self.inside in
    rw (← c.self.view_is) (merged_none v.short.entries v.long.entries c.take_long.new.long.entries c.take_long.result c.take_long.ensures.none)

pub returns-in-None-clause-ordered : goal.returns-in-None-clause-ordered
returns-in-None-clause-ordered c = rw (← c.self.view_is) (merged_sorted key_cmp_total c.self.inside.short.entries c.self.inside.long.entries c.self.invariant.first_ordered)
