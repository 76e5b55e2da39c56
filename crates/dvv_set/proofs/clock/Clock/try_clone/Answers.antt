use Rattle.std.proofs.Common.{◌≡◌, ◌∙◌, ◌++◌, ◌∷◌, [], sym, ap, drop, length, ◌+◌}
use Rattle.std.proofs.lemmas.List.{drop_more, drop_all, append-nil, append_assoc, map-append}
use Rattle.dvv_set.specs.ClockEntries.{dot_state_of}
use Rattle.dvv_set.specs.Stored.{clock_entry, clock_entries}
use Rattle.dvv_set.proofs.Rooms.{within_same}
use Rattle.dvv_set.proofs.Stored.{length-clock_entries}
use Rattle.dvv_set.proofs.clock.Clock.try_clone.Goals as goal

pub loop-entry-preserved : goal.loop-entry-preserved
loop-entry-preserved g c =
    let own = c.deref-entry-items.result.now in
    let made = c.loop-entry.entries.items in
    let copy = c.in_ok-try_clone.field-0 in
    let rest = clock_entries (drop (c.loop-entry.entry-index + 1) own) in
    ap (λ items. clock_entries items ++ rest) c.in_ok-push.ensures
    ∙ ap (λ es. es ++ rest) (map-append clock_entry made (copy ∷ []))
    ∙ append_assoc (clock_entries made) (clock_entry copy ∷ []) rest
    ∙ ap (λ e. clock_entries made ++ (e ∷ rest)) (c.in_ok-try_clone.ensures ∙ ap clock_entry c.entry-item.is)
    ∙ ap (λ es. clock_entries made ++ clock_entries es) (sym (drop_more own c.loop-entry.entry-index c.entry-item.result c.loop-entry-test.true))
    ∙ c.loop-entry.invariant

pub invariant_of-result : goal.invariant_of-result
invariant_of-result g c =
    let made = c.loop-entry.entries.items in
    let none = drop_all c.loop-entry.entry-index c.deref-entry-items.result.now c.loop-entry-test.false in
    let same : clock_entries made ≡ clock_entries c.self.inside.entries.items =
    sym (append-nil (clock_entries made)) ∙ ap (λ es. clock_entries made ++ clock_entries es) (sym none)
    ∙ c.loop-entry.invariant ∙ ap clock_entries c.deref-entry-items.ensures in
    record {
      entries = rw same c.self.invariant.entries;
      few = within_same _ _ _ (sym (length-clock_entries made) ∙ ap length same ∙ length-clock_entries c.self.inside.entries.items) c.self.invariant.few;
    }

pub returns : goal.returns
returns g c =
    let made = c.loop-entry.entries.items in
    let none = drop_all c.loop-entry.entry-index c.deref-entry-items.result.now c.loop-entry-test.false in
    let same : clock_entries made ≡ clock_entries c.self.inside.entries.items =
    sym (append-nil (clock_entries made)) ∙ ap (λ es. clock_entries made ++ clock_entries es) (sym none)
    ∙ c.loop-entry.invariant ∙ ap clock_entries c.deref-entry-items.ensures in
    ap dot_state_of same ∙ ap (λ held. held.meaning) c.self.view_is
