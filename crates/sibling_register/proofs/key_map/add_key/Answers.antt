use Rattle.std.proofs.Common.{sym, ◌∙◌}
use Rattle.sibling_register.proofs.Remembered.{same-added}
use Rattle.sibling_register.proofs.key_map.add_key.Goals as goal

pub returns-in-Ok-clause-same : goal.returns-in-Ok-clause-same
returns-in-Ok-clause-same c =
    same-added c.args.keys.now c.insert.new.self c.args.key.now c.in_ok-own.own c.new.result c.in_ok-own.ensures (sym c.contains_key.ensures ∙ c.if-contains_key.false)
    c.new.ensures.siblings c.new.ensures.places c.in-Ok.ensures.updates.0
