use Rattle.std.proofs.Common.{◌∙◌, ◌<◌, ap, map, subst}
use Rattle.std.specs.Prelude.{Some, None}
use Rattle.std.proofs.lemmas.List.{length-map}
use Rattle.vnode_machine.specs.Dead.{has_dead}
use Rattle.clock_store.specs.Forgetting.{holding, key_given, after_first_reap}
use Rattle.clock_list.specs.Rows.{entry_of}
use Rattle.clock_list.proofs.DeadRows.{placed_dead, dead_at, has_dead_at, left_at, left_none, list_left}
use Rattle.clock_list.proofs.list.ClockListClockStore.forget_first_dead.Goals as goal

pub forget_at-requires : goal.forget_at-requires
forget_at-requires c =
    let at = placed_dead c.self.inside.rows.items c.as_slice.result.now _ c.first_dead.result (Some c.in-Some.i) c.as_slice.ensures.value c.first_dead.ensures c.in-Some.is in
    subst (λ n. c.in-Some.i < n) (length-map c.self.inside.rows.items entry_of) (dead_at (map entry_of c.self.inside.rows.items) c.self.invariant.sorted _ c.in-Some.i at).within

pub invariant_of-self-in-Some : goal.invariant_of-self-in-Some
invariant_of-self-in-Some c =
    let keys = map entry_of c.self.inside.rows.items in
    let at = placed_dead c.self.inside.rows.items c.as_slice.result.now _ c.first_dead.result (Some c.in-Some.i) c.as_slice.ensures.value c.first_dead.ensures c.in-Some.is in
    let dead = dead_at keys c.self.invariant.sorted _ c.in-Some.i at in
    list_left c.forget_at.new.rows keys dead.key (c.forget_at.ensures ∙ dead.left) c.self.invariant.sorted

pub returns-in-None-clause-found : goal.returns-in-None-clause-found
returns-in-None-clause-found c =
    let from = key_given c.args.from in
    let at = placed_dead c.self.inside.rows.items c.as_slice.result.now from c.first_dead.result None c.as_slice.ensures.value c.first_dead.ensures c.in-None.is in
    has_dead_at (map entry_of c.self.inside.rows.items) c.self.invariant.sorted from None at ∙ ap (λ list. has_dead (holding list.keys) from) c.self.view_is

pub returns-in-None-clause-keys : goal.returns-in-None-clause-keys
returns-in-None-clause-keys c =
    let from = key_given c.args.from in
    let at = placed_dead c.self.inside.rows.items c.as_slice.result.now from c.first_dead.result None c.as_slice.ensures.value c.first_dead.ensures c.in-None.is in
    left_none (map entry_of c.self.inside.rows.items) c.self.invariant.sorted from at ∙ ap (λ list. (after_first_reap (holding list.keys) from).keys) c.self.view_is

pub returns-in-Some-clause-found : goal.returns-in-Some-clause-found
returns-in-Some-clause-found c =
    let from = key_given c.args.from in
    let at = placed_dead c.self.inside.rows.items c.as_slice.result.now from c.first_dead.result (Some c.in-Some.i) c.as_slice.ensures.value c.first_dead.ensures c.in-Some.is in
    has_dead_at (map entry_of c.self.inside.rows.items) c.self.invariant.sorted from (Some c.in-Some.i) at ∙ ap (λ list. has_dead (holding list.keys) from) c.self.view_is

pub returns-in-Some-clause-keys : goal.returns-in-Some-clause-keys
returns-in-Some-clause-keys c =
    let from = key_given c.args.from in
    let at = placed_dead c.self.inside.rows.items c.as_slice.result.now from c.first_dead.result (Some c.in-Some.i) c.as_slice.ensures.value c.first_dead.ensures c.in-Some.is in
    c.forget_at.ensures ∙ left_at (map entry_of c.self.inside.rows.items) c.self.invariant.sorted from c.in-Some.i at
    ∙ ap (λ list. (after_first_reap (holding list.keys) from).keys) c.self.view_is
