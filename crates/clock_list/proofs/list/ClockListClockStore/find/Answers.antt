use Rattle.std.specs.Option.{option_map}
use Rattle.std.proofs.Common.{◌∙◌, ◌<◌, sym, ap, subst, length}
use Rattle.std.specs.FinMap.Entries.{find}
use Rattle.riak_msgs.specs.KeyOrder.{key_cmp}
use Rattle.clock_list.specs.Rows.{first_place}
use Rattle.clock_list.proofs.Rows.{placed, found_place, within_at, found_at, found_none}
use Rattle.clock_list.proofs.list.ClockListClockStore.find.Goals as goal

pub index-requires : goal.index-requires
index-requires c =
    let at = placed c.self.inside.rows.items _ _ _ _ c.as_slice.ensures.value c.place_of.ensures c.in-At.is in
    subst (λ n. c.in-At.i < n) (ap length (sym c.as_slice.ensures.value) ∙ c.as_slice.ensures.len) (within_at c.self.inside.rows.items c.args.key.now c.in-At.i at)

pub returns-in-At-clause-stored : goal.returns-in-At-clause-stored
returns-in-At-clause-stored c =
    let at = placed c.self.inside.rows.items _ _ _ _ c.as_slice.ensures.value c.place_of.ensures c.in-At.is in
    found_at c.self.inside.rows.items c.args.key.now c.in-At.i c.index.result.now at c.index.ensures
    ∙ ap (λ list. find key_cmp c.args.key.now list.keys) c.self.view_is

pub returns-in-New-clause-stored : goal.returns-in-New-clause-stored
returns-in-New-clause-stored c =
    let at = placed c.self.inside.rows.items _ _ _ _ c.as_slice.ensures.value c.place_of.ensures c.in-New.is in
    found_none c.self.inside.rows.items c.args.key.now c.in-New.field-0 c.self.invariant.sorted at
    ∙ ap (λ list. find key_cmp c.args.key.now list.keys) c.self.view_is

pub returns-in-At-clause-place : goal.returns-in-At-clause-place
returns-in-At-clause-place c =
    let items = c.self.inside.rows.items in
    let at = placed items _ _ _ _ c.as_slice.ensures.value c.place_of.ensures c.in-At.is in
    ap (option_map (λ s. first_place)) (found_at items c.args.key.now c.in-At.i c.index.result.now at c.index.ensures) ∙ sym (found_place items c.args.key.now)
    ∙ ap (λ list. find key_cmp c.args.key.now list.places) c.self.view_is

pub returns-in-New-clause-place : goal.returns-in-New-clause-place
returns-in-New-clause-place c =
    let items = c.self.inside.rows.items in
    let at = placed items _ _ _ _ c.as_slice.ensures.value c.place_of.ensures c.in-New.is in
    ap (option_map (λ s. first_place)) (found_none items c.args.key.now c.in-New.field-0 c.self.invariant.sorted at) ∙ sym (found_place items c.args.key.now)
    ∙ ap (λ list. find key_cmp c.args.key.now list.places) c.self.view_is
