use Rattle.std.proofs.Common.{◌≤◌, ◌<◌, ◌∙◌, refl, ap, arith}
use Rattle.std.specs.Prelude.{None}
use Rattle.actor_epoch.specs.Limits.{max_actors, max_counter}
use Rattle.dvv_set.specs.Clocks.{event}
use Rattle.dvv_set.specs.Held.{actors_after, counter_before}
use Rattle.dvv_set.proofs.clock.Clock.event.Goals as goal

pub returns-in-Err-clause-refused : goal.returns-in-Err-clause-refused
returns-in-Err-clause-refused g c = (refl, c.ready.ensures.unchanged)

pub returns-in-Err-clause-actors_full : goal.returns-in-Err-clause-actors_full
returns-in-Err-clause-actors_full g c = c.in-Err.ensures.actors_full

pub returns-in-Err-clause-counter_full : goal.returns-in-Err-clause-counter_full
returns-in-Err-clause-counter_full g c = c.in-Err.ensures.counter_full

pub put_ready-requires : goal.put_ready-requires
put_ready-requires g c = let fits = c.well_formed in (omega arith, c.in_default.ensures.ready)

pub returns-clause-put : goal.returns-clause-put
returns-clause-put g c = c.put_ready.ensures ∙ ap (event c.args.actor c.args.value) c.ready.ensures.unchanged

pub returns-clause-within : goal.returns-clause-within
returns-clause-within g c =
    let same = ap (λ meaning. actors_after meaning.known None c.args.actor) c.ready.ensures.unchanged in
    let few : actors_after c.args.self.now.meaning.known None c.args.actor ≤ max_actors = omega (arith, same, c.in_default.ensures.ready.few) in
    few

pub returns-clause-counter : goal.returns-clause-counter
returns-clause-counter g c =
    let same = ap (λ meaning. counter_before meaning.known None c.args.actor) c.ready.ensures.unchanged in
    let below : counter_before c.args.self.now.meaning.known None c.args.actor < max_counter = omega (arith, same, c.in_default.ensures.ready.counter) in
    below
