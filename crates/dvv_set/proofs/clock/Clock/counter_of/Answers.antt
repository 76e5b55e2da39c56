use Rattle.std.proofs.Common.{◌∙◌, sym, ap, arith}
use Rattle.actor_epoch.specs.Dots.{counter_in}
use Rattle.dvv_set.specs.ClockEntries.{entry_for}
use Rattle.dvv_set.specs.Stored.{clock_entries}
use Rattle.dvv_set.proofs.ClockEntries.{counter_in-known_of}
use Rattle.dvv_set.proofs.clock.Clock.counter_of.Goals as goal

pub last_counter-requires : goal.last_counter-requires
last_counter-requires g c = let fits = c.well_formed in (omega arith, rw c.deref.ensures c.self.invariant.entries.sorted)

pub returns : goal.returns
returns g c =
    c.last_counter.ensures.counter
    ∙ ap (λ es. (entry_for c.args.actor (clock_entries es)).0) c.deref.ensures
    ∙ sym (counter_in-known_of c.args.actor (clock_entries c.self.inside.entries.items) c.self.invariant.entries.sorted)
    ∙ ap (λ held. counter_in held.meaning.known c.args.actor) c.self.view_is
