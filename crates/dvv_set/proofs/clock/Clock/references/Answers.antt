use Rattle.std.proofs.Common.{◌≡◌, ◌∙◌, ◌++◌, sym, ap, map, drop, ◌+◌, arith}
use Rattle.std.specs.Prelude.{Some}
use Rattle.std.proofs.Math.ListN.{drop_of_length-le}
use Rattle.std.proofs.lemmas.List.{append-nil}
use Rattle.dvv_set.specs.References.{referred, with_entry, with_values}
use Rattle.dvv_set.specs.Stored.{clock_entry, clock_entries}
use Rattle.dvv_set.proofs.References.{are-same, means-same, length-same, next-same}
use Rattle.dvv_set.proofs.Stored.{length-clock_entries}
use Rattle.dvv_set.proofs.clock.Clock.references.Goals as goal

pub invariant_of-result : goal.invariant_of-result
invariant_of-result g c =
    let made = clock_entries c.loop-entry.entries.items in
    let own = clock_entries c.self.inside.entries.items in
    let none = drop_of_length-le c.deref-entry-items.result.now c.loop-entry-test.false in
    let same : map (with_entry referred) made ≡ map (with_entry (λ value. Some value)) own =
    sym (append-nil (map (with_entry referred) made)) ∙ ap (λ xs. map (with_entry referred) made ++ map (with_entry (λ value. Some value)) (clock_entries xs)) (sym none)
    ∙ c.loop-entry.invariant ∙ ap (λ xs. map (with_entry (λ value. Some value)) (clock_entries xs)) c.deref-entry-items.ensures in
    record {
      entries = are-same referred (λ value. Some value) made own same c.self.invariant.entries;
      few =
          let few = c.self.invariant.few in
          omega (arith, few, length-same referred (λ value. Some value) made own same, length-clock_entries c.loop-entry.entries.items, length-clock_entries c.self.inside.entries.items);
    }

pub returns : goal.returns
returns g c =
    let made = clock_entries c.loop-entry.entries.items in
    let own = clock_entries c.self.inside.entries.items in
    let none = drop_of_length-le c.deref-entry-items.result.now c.loop-entry-test.false in
    let same : map (with_entry referred) made ≡ map (with_entry (λ value. Some value)) own =
    sym (append-nil (map (with_entry referred) made)) ∙ ap (λ xs. map (with_entry referred) made ++ map (with_entry (λ value. Some value)) (clock_entries xs)) (sym none)
    ∙ c.loop-entry.invariant ∙ ap (λ xs. map (with_entry (λ value. Some value)) (clock_entries xs)) c.deref-entry-items.ensures in
    means-same referred (λ value. Some value) made own same
    ∙ ap (λ held. with_values (λ value. Some value) held.meaning) c.self.view_is

pub loop-entry-preserved : goal.loop-entry-preserved
loop-entry-preserved g c =
    let own = c.deref-entry-items.result.now in
    ap (λ items. map (with_entry referred) (clock_entries items) ++ map (with_entry (λ value. Some value)) (clock_entries (drop (c.loop-entry.entry-index + 1) own))) c.in_ok-push.ensures
    ∙ next-same referred (λ value. Some value) c.loop-entry.entries.items own c.loop-entry.entry-index c.in_ok-references.field-0 c.entry-item.result c.loop-entry-test.true
    (c.in_ok-references.ensures ∙ ap (λ entry. with_entry (λ value. Some value) (clock_entry entry)) c.entry-item.is)
    ∙ c.loop-entry.invariant
