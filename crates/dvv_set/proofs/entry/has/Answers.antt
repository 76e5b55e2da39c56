use Rattle.std.proofs.Common.{◌∙◌, ◌+◌, true, cond, sym, ap, drop}
use Rattle.std.specs.Prelude.{is_some}
use Rattle.std.specs.FinMap.Entries.{find}
use Rattle.std.proofs.Math.ListN.{drop_of_length-le}
use Rattle.actor_epoch.specs.Dots.{actor_cmp, actor_eq}
use Rattle.dvv_set.specs.Stored.{actor_of, clock_entries}
use Rattle.dvv_set.proofs.Walks.{has-next}
use Rattle.dvv_set.proofs.entry.has.Goals as goal

pub offset_bounds-entries-entry-index : goal.offset_bounds-entries-entry-index
offset_bounds-entries-entry-index g c = c.loop-entry.auto.entry-index-end

pub bounds-entries-entry-index : goal.bounds-entries-entry-index
bounds-entries-entry-index g c = c.loop-entry-test.true

pub returns-then-eq : goal.returns-then-eq
returns-then-eq g c =
    let entries = c.args.entries.now in
    let rest = is_some (find actor_cmp c.args.actor (clock_entries (drop (c.loop-entry.entry-index + 1) entries))) in
    let here = ap (λ entry. actor_eq (actor_of entry.pair) c.args.actor) (sym c.entry-item.is) ∙ ap (λ a. actor_eq a c.args.actor) (sym c.actor.ensures) ∙ sym c.eq.ensures ∙ c.if-eq.true in
    sym (c.loop-entry.invariant ∙ has-next entries c.args.actor c.loop-entry.entry-index c.entry-item.result c.loop-entry-test.true ∙ ap (λ b. cond b true rest) here)

pub loop-entry-preserved : goal.loop-entry-preserved
loop-entry-preserved g c =
    let entries = c.args.entries.now in
    let rest = is_some (find actor_cmp c.args.actor (clock_entries (drop (c.loop-entry.entry-index + 1) entries))) in
    let here = ap (λ entry. actor_eq (actor_of entry.pair) c.args.actor) (sym c.entry-item.is) ∙ ap (λ a. actor_eq a c.args.actor) (sym c.actor.ensures) ∙ sym c.eq.ensures ∙ c.if-eq.false in
    c.loop-entry.invariant ∙ has-next entries c.args.actor c.loop-entry.entry-index c.entry-item.result c.loop-entry-test.true ∙ ap (λ b. cond b true rest) here

pub returns : goal.returns
returns g c =
    sym (c.loop-entry.invariant ∙ ap (λ entries. is_some (find actor_cmp c.args.actor (clock_entries entries))) (drop_of_length-le c.args.entries.now c.loop-entry-test.false))
