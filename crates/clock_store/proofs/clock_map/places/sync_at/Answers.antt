use Rattle.std.proofs.Common.{◌∙◌, sym, ap}
use Rattle.std.specs.Prelude.{is_some}
use Rattle.std.specs.Option.{option_map}
use Rattle.slab.proofs.SlabLemmas.{Updates-with_value}
use Rattle.clock_store.specs.Keys.{stored_of}
use Rattle.clock_store.specs.Places.{lives}
use Rattle.clock_store.proofs.clock_map.places.sync_at.Goals as goal

pub returns-clause-lives : goal.returns-clause-lives
returns-clause-lives c =
    let now = (Updates-with_value c.args.clocks.now c.args.place c.sync.new.self (ap is_some c.requires.is)).changed in
    c.has_value.ensures ∙ sym (ap (λ o. lives (option_map stored_of o)) now)
