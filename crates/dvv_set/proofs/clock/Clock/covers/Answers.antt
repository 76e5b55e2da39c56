use Rattle.std.proofs.Common.{◌&&◌, ◌∙◌, sym, ap, arith}
use Rattle.std.specs.Prelude.{nat_le}
use Rattle.actor_epoch.specs.Dots.{covers}
use Rattle.dvv_set.specs.ClockEntries.{entry_for}
use Rattle.dvv_set.specs.Stored.{clock_entries}
use Rattle.dvv_set.proofs.Ready.{covers-entries, first_holds, first_fails}
use Rattle.dvv_set.proofs.clock.Clock.covers.Goals as goal

pub last_counter-counter-requires : goal.last_counter-counter-requires
last_counter-counter-requires g c = let fits = c.well_formed in (omega arith, rw c.deref.ensures c.self.invariant.entries.sorted)

pub returns-then-dot-ge1 : goal.returns-then-dot-ge1
returns-then-dot-ge1 g c =
    first_holds c.args.dot.now.counter _ c.if-dot-ge1.true
    ∙ ap (λ n. nat_le 1 c.args.dot.now.counter && nat_le c.args.dot.now.counter n) (c.last_counter-counter.ensures.counter ∙ ap (λ es. (entry_for c.args.dot.now.actor (clock_entries es)).0) c.deref.ensures)
    ∙ sym (covers-entries (clock_entries c.self.inside.entries.items) c.args.dot.now c.self.invariant.entries)
    ∙ ap (λ held. covers held.meaning.known c.args.dot.now) c.self.view_is

pub returns-else-dot-ge1 : goal.returns-else-dot-ge1
returns-else-dot-ge1 g c =
    first_fails c.args.dot.now.counter _ c.if-dot-ge1.false
    ∙ ap (λ n. nat_le 1 c.args.dot.now.counter && nat_le c.args.dot.now.counter n) (c.last_counter-counter.ensures.counter ∙ ap (λ es. (entry_for c.args.dot.now.actor (clock_entries es)).0) c.deref.ensures)
    ∙ sym (covers-entries (clock_entries c.self.inside.entries.items) c.args.dot.now c.self.invariant.entries)
    ∙ ap (λ held. covers held.meaning.known c.args.dot.now) c.self.view_is
