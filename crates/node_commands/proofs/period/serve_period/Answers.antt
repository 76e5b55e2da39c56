use Rattle.std.proofs.Common.{◌≡◌, ◌∙◌, refl, ap}
use Rattle.std.proofs.lemmas.Result.{IfOk-weaker}
use Rattle.socket_streams.specs.Arriving.{ArrivalsView}
use Rattle.socket_streams.proofs.Resting.{made_for}
use Rattle.node_commands.specs.Periods.{rested_in}
use Rattle.node_commands.proofs.Periods.{has_served, is_ready, new_source, still_within}
use Rattle.node_commands.proofs.period.serve_period.Goals as goal

pub serve-requires-clause-sessions : goal.serve-requires-clause-sessions
serve-requires-clause-sessions g c κs within =
    let source : c.new-sessions.result.source ≡ new_source c.args.shared.now c.args.progress.connections c.left_of.result = c.new-sessions.ensures.source ∙ c.in-Ok-new.ensures in
    made_for c.args.shared.now (rested_in c.args.progress) c.new-sessions.result c.requires.ready.rested c.new-sessions.ensures.rested
    (ap (λ (s : ArrivalsView). s.gates) source)

pub returns-in-Ok-serve-clause-served : goal.returns-in-Ok-serve-clause-served
returns-in-Ok-serve-clause-served g c =
    IfOk-weaker c.lay_down.result _ _ (λ later adds.
    has_served c.args.shared.now c.args.progress later _ c.new-sessions.result c.serve.new.sessions c.in-Ok-serve.served c.serve.new.seen c.accepted-accepted.result c.refused-away.result refl
    c.new-sessions.ensures.rested c.left_of.result (c.new-sessions.ensures.source ∙ c.in-Ok-new.ensures)
    c.in-Ok-serve.ensures.served c.accepted-accepted.ensures.count c.refused-away.ensures adds) c.lay_down.ensures

pub returns-in-Ok-serve-clause-ready : goal.returns-in-Ok-serve-clause-ready
returns-in-Ok-serve-clause-ready g c =
    IfOk-weaker c.lay_down.result _ _ (λ later adds.
    is_ready c.args.shared.now c.new-sessions.result c.serve.new.sessions _ c.args.progress.seen c.in-Ok-serve.served c.serve.new.seen c.accepted-accepted.result c.refused-away.result later
    c.in-Ok-serve.ensures.served c.in-Ok-serve.ensures.passes adds) c.lay_down.ensures

pub returns-in-Ok-serve-clause-limit : goal.returns-in-Ok-serve-clause-limit
returns-in-Ok-serve-clause-limit g c =
    IfOk-weaker c.lay_down.result _ _ (λ later adds.
    still_within c.args.shared.now c.args.progress c.new-sessions.result c.serve.new.sessions c.in-Ok-serve.served c.serve.new.seen c.args.settings.now.options.connections c.left_of.result
    c.accepted-accepted.result later.connections (c.new-sessions.ensures.source ∙ c.in-Ok-new.ensures) c.in-Ok-serve.ensures.served c.left_of.ensures c.requires.limit
    c.accepted-accepted.ensures.most adds.connections) c.lay_down.ensures
