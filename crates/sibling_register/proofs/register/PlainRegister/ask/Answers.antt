use Rattle.sibling_register.specs.Plain.{answer_of}
use Rattle.sibling_register.proofs.Lawful.{gives}
use Rattle.sibling_register.proofs.register.PlainRegister.ask.Goals as goal

pub returns-clause-gives : goal.returns-clause-gives
returns-clause-gives g c =
    gives c.args.self.now c.args.command (answer_of c.in_ok-told.field-0.told) c.in_ok-told.field-0.entry _ c.in_ok-told.ensures.value c.in_ok-keep.ensures.ok
