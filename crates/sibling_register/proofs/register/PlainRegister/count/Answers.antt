use Rattle.std.proofs.Common.{◌∙◌, sym, ap, length, Some, None}
use Rattle.std.specs.Option.{option_copied}
use Rattle.sibling_register.specs.Entries.{history_of}
use Rattle.sibling_register.proofs.Remembered.{count-found}
use Rattle.sibling_register.proofs.register.PlainRegister.count.Goals as goal

pub returns-in-None-clause-value : goal.returns-in-None-clause-value
returns-in-None-clause-value g c =
    rw (← c.self.view_is) (count-found (history_of c.self.inside.entries.items) c.self.inside.keys c.args.key.now None c.self.invariant (sym c.get.ensures.value ∙ ap option_copied c.in-None.is))

pub returns-in-Some-clause-value : goal.returns-in-Some-clause-value
returns-in-Some-clause-value g c =
    rw (← c.self.view_is)
    (ap length c.as_slice.ensures.value ∙ count-found (history_of c.self.inside.entries.items) c.self.inside.keys c.args.key.now (Some c.in-Some.index.now) c.self.invariant (sym c.get.ensures.value ∙ ap option_copied c.in-Some.is))
