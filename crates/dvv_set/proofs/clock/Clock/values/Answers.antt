use Rattle.std.proofs.Common.{◌∙◌, sym, ap, map}
use Rattle.dvv_set.specs.Stored.{values_in}
use Rattle.dvv_set.proofs.ShownValues.{map-live_of}
use Rattle.dvv_set.proofs.clock.Clock.values.Goals as goal

pub returns : goal.returns
returns g c = ap values_in c.deref.ensures ∙ sym (map-live_of c.self.inside.entries.items) ∙ ap (λ held. map (λ entry. entry.1) held.meaning.live) c.self.view_is
