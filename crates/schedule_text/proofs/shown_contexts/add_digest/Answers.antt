use Rattle.std.proofs.Common.{sym, ◌∙◌}
use Rattle.schedule_text.proofs.ShownIndexed.{digest-added}
use Rattle.schedule_text.proofs.shown_contexts.add_digest.Goals as goal

pub returns-in-Ok-clause-same : goal.returns-in-Ok-clause-same
returns-in-Ok-clause-same c =
    digest-added c.args.places.now c.insert.new.self c.args.digest c.new.result (sym c.contains_key.ensures ∙ c.if-contains_key.false) c.new.ensures.items c.in-Ok.ensures.updates.0
