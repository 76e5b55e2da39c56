use Rattle.std.proofs.Common.{◌∙◌, ◌<◌, sym, ap, map, subst, length}
use Rattle.clock_store.specs.Forgetting.{holding, reap_result, after_reap}
use Rattle.clock_store.specs.Keys.{stored_of}
use Rattle.clock_list.specs.Rows.{entry_of}
use Rattle.clock_store.proofs.Reaps.{reap-none, reap-kept, reap-gone}
use Rattle.clock_list.proofs.DeadRows.{removed_at, list_left}
use Rattle.clock_list.proofs.Rows.{placed, within_at, found_at, found_none}
use Rattle.clock_list.proofs.list.ClockListClockStore.forget_dead.Goals as goal

pub index-requires : goal.index-requires
index-requires c =
    let at = placed c.self.inside.rows.items _ _ _ _ c.as_slice.ensures.value c.place_of.ensures c.in-At.is in
    subst (λ n. c.in-At.i < n) (ap length (sym c.as_slice.ensures.value) ∙ c.as_slice.ensures.len) (within_at c.self.inside.rows.items c.args.key.now c.in-At.i at)

pub returns-then-has_value-clause-result : goal.returns-then-has_value-clause-result
returns-then-has_value-clause-result c =
    let at = placed c.self.inside.rows.items _ _ _ _ c.as_slice.ensures.value c.place_of.ensures c.in-At.is in
    let found = sym (found_at c.self.inside.rows.items c.args.key.now c.in-At.i c.index.result.now at c.index.ensures) in
    let kept = reap-kept (map entry_of c.self.inside.rows.items) c.args.key.now (stored_of c.index.result.now.stored) found (sym c.has_value.ensures ∙ c.if-has_value.true) in
    kept.0 ∙ ap (λ list. reap_result (holding list.keys) c.args.key.now) c.self.view_is

pub returns-then-has_value-clause-keys : goal.returns-then-has_value-clause-keys
returns-then-has_value-clause-keys c =
    let at = placed c.self.inside.rows.items _ _ _ _ c.as_slice.ensures.value c.place_of.ensures c.in-At.is in
    let found = sym (found_at c.self.inside.rows.items c.args.key.now c.in-At.i c.index.result.now at c.index.ensures) in
    let kept = reap-kept (map entry_of c.self.inside.rows.items) c.args.key.now (stored_of c.index.result.now.stored) found (sym c.has_value.ensures ∙ c.if-has_value.true) in
    kept.1 ∙ ap (λ list. (after_reap (holding list.keys) c.args.key.now).keys) c.self.view_is

pub forget_at-requires : goal.forget_at-requires
forget_at-requires c =
    let at = placed c.self.inside.rows.items _ _ _ _ c.as_slice.ensures.value c.place_of.ensures c.in-At.is in
    within_at c.self.inside.rows.items c.args.key.now c.in-At.i at

pub invariant_of-self-in-At : goal.invariant_of-self-in-At
invariant_of-self-in-At c =
    let at = placed c.self.inside.rows.items _ _ _ _ c.as_slice.ensures.value c.place_of.ensures c.in-At.is in
    let keys = map entry_of c.self.inside.rows.items in
    let left = removed_at keys c.args.key.now c.in-At.i c.self.invariant.sorted at in
    list_left c.forget_at.new.rows keys c.args.key.now (c.forget_at.ensures ∙ left) c.self.invariant.sorted

pub returns-in-New-clause-result : goal.returns-in-New-clause-result
returns-in-New-clause-result c =
    let at = placed c.self.inside.rows.items _ _ _ _ c.as_slice.ensures.value c.place_of.ensures c.in-New.is in
    let none = sym (found_none c.self.inside.rows.items c.args.key.now c.in-New.field-0 c.self.invariant.sorted at) in
    (reap-none (map entry_of c.self.inside.rows.items) c.args.key.now none).0 ∙ ap (λ list. reap_result (holding list.keys) c.args.key.now) c.self.view_is

pub returns-in-New-clause-keys : goal.returns-in-New-clause-keys
returns-in-New-clause-keys c =
    let at = placed c.self.inside.rows.items _ _ _ _ c.as_slice.ensures.value c.place_of.ensures c.in-New.is in
    let none = sym (found_none c.self.inside.rows.items c.args.key.now c.in-New.field-0 c.self.invariant.sorted at) in
    (reap-none (map entry_of c.self.inside.rows.items) c.args.key.now none).1 ∙ ap (λ list. (after_reap (holding list.keys) c.args.key.now).keys) c.self.view_is

pub returns-else-has_value-clause-result : goal.returns-else-has_value-clause-result
returns-else-has_value-clause-result c =
    let at = placed c.self.inside.rows.items _ _ _ _ c.as_slice.ensures.value c.place_of.ensures c.in-At.is in
    let found = sym (found_at c.self.inside.rows.items c.args.key.now c.in-At.i c.index.result.now at c.index.ensures) in
    let gone = reap-gone (map entry_of c.self.inside.rows.items) c.args.key.now (stored_of c.index.result.now.stored) found (sym c.has_value.ensures ∙ c.if-has_value.false) in
    gone.0 ∙ ap (λ list. reap_result (holding list.keys) c.args.key.now) c.self.view_is

pub returns-else-has_value-clause-keys : goal.returns-else-has_value-clause-keys
returns-else-has_value-clause-keys c =
    let at = placed c.self.inside.rows.items _ _ _ _ c.as_slice.ensures.value c.place_of.ensures c.in-At.is in
    let found = sym (found_at c.self.inside.rows.items c.args.key.now c.in-At.i c.index.result.now at c.index.ensures) in
    let keys = map entry_of c.self.inside.rows.items in
    let gone = reap-gone keys c.args.key.now (stored_of c.index.result.now.stored) found (sym c.has_value.ensures ∙ c.if-has_value.false) in
    c.forget_at.ensures ∙ removed_at keys c.args.key.now c.in-At.i c.self.invariant.sorted at ∙ gone.1
    ∙ ap (λ list. (after_reap (holding list.keys) c.args.key.now).keys) c.self.view_is
