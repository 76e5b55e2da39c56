use Rattle.std.proofs.Common.{◌≡◌, false, true, ap, arith}
use Rattle.std.proofs.lemmas.Bool.{ltb-true, ltb-false}
use Rattle.dvv_set.specs.Held.{pairs_of, actors_after}
use Rattle.dvv_set.specs.ClockEntries.{known_of}
use Rattle.dvv_set.specs.Stored.{clock_entries}
use Rattle.dvv_set.proofs.Stored.{length-clock_entries}
use Rattle.dvv_set.proofs.Sound.{IsClock-dot_state_of}
use Rattle.dvv_set.proofs.clock.Clock.is_actors_full.Goals as goal

pub returns-then-most_actors-le-MAX_ACTORS-clause-full : goal.returns-then-most_actors-le-MAX_ACTORS-clause-full
returns-then-most_actors-le-MAX_ACTORS-clause-full g c = λ e. let no : false ≡ true = e in cc

pub returns-then-most_actors-le-MAX_ACTORS-clause-fits : goal.returns-then-most_actors-le-MAX_ACTORS-clause-fits
returns-then-most_actors-le-MAX_ACTORS-clause-fits g c =
    let pairs = pairs_of c.args.context in
    let of_entries = ap (λ entries. actors_after (known_of (clock_entries entries)) pairs c.args.actor) c.deref.ensures in
    let of_clock = ap (λ held. actors_after held.meaning.known pairs c.args.actor) c.self.view_is in
    λ e. omega (arith, of_entries, of_clock, c.most_actors.ensures c.args.actor, c.if-most_actors-le-MAX_ACTORS.true)

pub returns-then-most_actors-le-MAX_ACTORS-clause-clock : goal.returns-then-most_actors-le-MAX_ACTORS-clause-clock
returns-then-most_actors-le-MAX_ACTORS-clause-clock g c =
    let few = c.self.invariant.few in
    rw (← c.self.view_is) (IsClock-dot_state_of (clock_entries c.self.inside.entries.items) c.self.invariant.entries (omega (arith, length-clock_entries c.self.inside.entries.items)))

pub returns-clause-full : goal.returns-clause-full
returns-clause-full g c = λ e. rw (← c.needed.ensures.actors) (ltb-true 64 c.needed.result.actors e)

pub returns-clause-fits : goal.returns-clause-fits
returns-clause-fits g c = λ e. rw (← c.needed.ensures.actors) (ltb-false 64 c.needed.result.actors e)

pub returns-clause-clock : goal.returns-clause-clock
returns-clause-clock g c = c.needed.ensures.clock

pub deref-requires : goal.deref-requires
deref-requires g c = omega arith

pub most_actors-requires : goal.most_actors-requires
most_actors-requires g c = (omega arith, (rw c.deref.ensures c.self.invariant.entries, rw c.deref.ensures c.self.invariant.few))

pub needed-requires : goal.needed-requires
needed-requires g c = omega arith
