use Rattle.std.proofs.Common.{◌∙◌, sym, ap}
use Rattle.std.specs.Option.{option_copied}
use Rattle.sibling_register.specs.Index.{place_of, written_at}
use Rattle.sibling_register.proofs.Remembered.{value-none, value-some}
use Rattle.sibling_register.proofs.register.PlainRegister.value.Goals as goal

pub returns-in-None : goal.returns-in-None
returns-in-None g c = record {
  value = rw (← c.self.view_is) (value-none c.self.inside.entries.items c.self.inside.keys c.args.key.now c.args.number c.self.invariant (sym c.get.ensures.value ∙ ap option_copied c.in-None.is));
}

pub returns-in-Some : goal.returns-in-Some
returns-in-Some g c = record {
  value = rw (← c.self.view_is)
      (c.value_at.ensures.value ∙ ap (written_at c.as_slice.result.now) c.place_of.ensures.value
      ∙ ap (λ entries. written_at entries (place_of c.in-Some.index.now.places.items c.args.number)) c.as_slice.ensures.value
      ∙ value-some c.self.inside.entries.items c.self.inside.keys c.args.key.now c.args.number c.in-Some.index.now c.self.invariant (sym c.get.ensures.value ∙ ap option_copied c.in-Some.is));
}
