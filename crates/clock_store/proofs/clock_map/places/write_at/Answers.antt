use Rattle.std.proofs.Common.{◌≡◌, ◌+◌, ◌∙◌, true, sym, ap}
use Rattle.std.specs.Prelude.{Option, is_some}
use Rattle.std.specs.List.{list_any}
use Rattle.std.specs.Option.{option_map}
use Rattle.slab.proofs.SlabLemmas.{Updates-with_value}
use Rattle.riak_msgs.specs.Contents.{Content}
use Rattle.actor_epoch.specs.Dots.{counter_in}
use Rattle.actor_epoch.specs.declared.Actor.{Actor}
use Rattle.dvv_set.specs.Clocks.{DotState, event, show_cmp}
use Rattle.dvv_set.specs.Held.{without, pairs_of as seen_in}
use Rattle.clock_store.specs.Keys.{stored_of}
use Rattle.clock_store.specs.Places.{lives}
use Rattle.clock_store.proofs.Marks.{any_put}
use Rattle.clock_store.proofs.clock_map.places.write_at.Goals as goal

-- after the event of a content there is one
event_lives : (actor : Actor) (value : Option Content) (clock : DotState (Option Content)) → is_some value ≡ true → list_any (λ entry. is_some entry.1) (event actor value clock).live ≡ true
event_lives actor value clock h =
    any_put show_cmp (λ entry. is_some entry.1) (record { actor = actor; counter = counter_in clock.known actor + 1 }) value clock.live (λ k. h)

pub returns-then-is_content-clause-lives : goal.returns-then-is_content-clause-lives
returns-then-is_content-clause-lives c =
    let content = sym c.is_some-is_content.ensures ∙ c.if-is_content.true in
    let now = (Updates-with_value c.args.clocks.now c.args.place c.write.new.self (ap is_some c.requires.is)).changed in
    c.if-is_content.true
    ∙ sym (ap (λ o. lives (option_map stored_of o)) now
    ∙ ap (λ meaning. list_any (λ entry. is_some entry.1) meaning.live) c.write.ensures.clock
    ∙ event_lives c.args.actor c.args.value (without (seen_in c.args.seen) c.in-Some.stored.now.clock.meaning) content)
