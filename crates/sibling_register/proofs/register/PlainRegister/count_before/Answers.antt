use Rattle.std.proofs.Common.{◌∙◌, sym, ap, Some, None}
use Rattle.std.specs.Option.{option_copied}
use Rattle.sibling_register.specs.Entries.{history_of}
use Rattle.sibling_register.proofs.Remembered.{below-found, rising-found}
use Rattle.sibling_register.proofs.register.PlainRegister.count_before.Goals as goal

pub count_before-requires : goal.count_before-requires
count_before-requires g c =
    rising-found (history_of c.self.inside.entries.items) c.self.inside.keys c.args.key.now c.in-Some.index.now c.self.invariant (sym c.get.ensures.value ∙ ap option_copied c.in-Some.is)

pub returns-in-None : goal.returns-in-None
returns-in-None g c = record {
  value = rw (← c.self.view_is) (below-found (history_of c.self.inside.entries.items) c.self.inside.keys c.args.key.now None c.args.position c.self.invariant (sym c.get.ensures.value ∙ ap option_copied c.in-None.is));
}

pub returns-in-Some : goal.returns-in-Some
returns-in-Some g c = record {
  value = rw (← c.self.view_is)
      (c.count_before.ensures.value
      ∙ below-found (history_of c.self.inside.entries.items) c.self.inside.keys c.args.key.now (Some c.in-Some.index.now) c.args.position c.self.invariant (sym c.get.ensures.value ∙ ap option_copied c.in-Some.is));
}
