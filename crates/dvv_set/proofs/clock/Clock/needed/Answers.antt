use Rattle.std.proofs.Common.{◌∙◌, ap, arith, length}
use Rattle.dvv_set.specs.Held.{pairs_of, actors_after, counter_before}
use Rattle.dvv_set.specs.ClockEntries.{known_of}
use Rattle.dvv_set.specs.Stored.{clock_entries}
use Rattle.dvv_set.proofs.Stored.{length-clock_entries}
use Rattle.dvv_set.proofs.Sound.{IsClock-dot_state_of}
use Rattle.dvv_set.proofs.clock.Clock.needed.Goals as goal

pub overflow_add-result : goal.overflow_add-result
overflow_add-result g c = let few = c.self.invariant.few in omega (arith, few, c.len.ensures, c.required_room-counter.ensures.few)

pub returns-clause-actors : goal.returns-clause-actors
returns-clause-actors g c =
    let pairs = pairs_of c.args.context in
    let total =
    c.required_room-counter.ensures.more
    ∙ ap (λ entries. actors_after (known_of (clock_entries entries)) pairs c.args.actor) c.deref.ensures
    ∙ ap (λ held. actors_after held.meaning.known pairs c.args.actor) c.self.view_is in
    omega (arith, total, c.len.ensures, ap length c.deref.ensures)

pub returns-clause-counter : goal.returns-clause-counter
returns-clause-counter g c =
    let pairs = pairs_of c.args.context in
    c.required_room-counter.ensures.counter
    ∙ ap (λ entries. counter_before (known_of (clock_entries entries)) pairs c.args.actor) c.deref.ensures
    ∙ ap (λ held. counter_before held.meaning.known pairs c.args.actor) c.self.view_is

pub returns-clause-clock : goal.returns-clause-clock
returns-clause-clock g c =
    let few = c.self.invariant.few in
    rw (← c.self.view_is) (IsClock-dot_state_of (clock_entries c.self.inside.entries.items) c.self.invariant.entries (omega (arith, length-clock_entries c.self.inside.entries.items)))

pub deref-requires : goal.deref-requires
deref-requires g c = omega arith

pub required_room-counter-requires : goal.required_room-counter-requires
required_room-counter-requires g c = (omega arith, rw c.deref.ensures c.self.invariant.entries)

pub len-requires : goal.len-requires
len-requires g c = omega arith
