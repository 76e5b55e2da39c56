use Rattle.std.proofs.Common.{◌≤◌, ◌∙◌, ℕ, map, refl, ap, subst, sym, Some}
use Rattle.std.specs.Prelude.{IfSome}
use Rattle.std.proofs.lemmas.Result.{IfOk-weaker}
use Rattle.worker_pool.specs.Telling.{TellsSource}
use Rattle.socket_streams.specs.Arriving.{ArrivalsView}
use Rattle.socket_streams.specs.Sessions.{GivesSession, in_turn}
use Rattle.node_commands.specs.Runs.{ToldConnections, replies_of, requests_of}
use Rattle.node_commands.proofs.Begun.{all_begun, are_told, begun_may}
use Rattle.node_commands.proofs.Sources.{gave_all, within}
use Rattle.node_commands.proofs.until.serve_over.Goals as goal

pub serve-requires-clause-sessions : goal.serve-requires-clause-sessions
serve-requires-clause-sessions g c κs within =
    begun_may c.new-sessions.result c.args.shared.now (c.new-sessions.ensures.rested ∙ ap (λ l. in_turn (map (λ one. one.items) l)) c.new-3.ensures.items)
    (ap (λ (s : ArrivalsView). s.gates) (c.new-sessions.ensures.source ∙ c.in-Ok-new.ensures))

pub returns-in-Ok-serve-clause-served : goal.returns-in-Ok-serve-clause-served
returns-in-Ok-serve-clause-served g c =
    let first = c.new-sessions.result in
    let last = c.serve.new.sessions in
    let shared = c.args.shared.now in
    let none = c.new-sessions.ensures.rested ∙ ap (λ l. in_turn (map (λ one. one.items) l)) c.new-3.ensures.items in
    let source = c.new-sessions.ensures.source ∙ c.in-Ok-new.ensures in
    IfOk-weaker c.tally.result _ _ (λ outcome t.
    are_told first last shared c.in-Ok-new-2.seen c.serve.new.seen outcome none (ap (λ (s : ArrivalsView). s.gates) source) (ap (λ (s : ArrivalsView). s.before) source) (ap (λ (s : ArrivalsView). s.given) source) c.in-Ok-new-2.ensures.new c.in-Ok-serve.ensures.passes
    (subst (λ served. TellsSource ⊥ requests_of replies_of (λ (sink : ToldConnections). sink) shared GivesSession first c.in-Ok-new-2.seen served last c.serve.new.seen) (sym t.served_is) c.in-Ok-serve.ensures.served)
    (t.connections_are ∙ c.accepted-connections.ensures.count) (t.closed_are ∙ c.refused-closed.ensures)
    (record { served_is = refl; connections_are = refl; closed_are = refl; history = t.history })) c.tally.ensures

pub returns-in-Ok-serve-clause-most : goal.returns-in-Ok-serve-clause-most
returns-in-Ok-serve-clause-most g c =
    let first = c.new-sessions.result in
    let last = c.serve.new.sessions in
    let none = c.new-sessions.ensures.rested ∙ ap (λ l. in_turn (map (λ one. one.items) l)) c.new-3.ensures.items in
    let source = c.new-sessions.ensures.source ∙ c.in-Ok-new.ensures in
    let all = c.in-Ok-serve.ensures.served in
    let begun = all_begun first all.0 last none all.1 in
    let same = (gave_all first.source begun.0 last.source begun.2).0 in
    let few = within last.source.limit c.args.settings.options.connections (same.limit ∙ ap (λ (s : ArrivalsView). s.limit) source) c.accepted-connections.result c.accepted-connections.ensures.most in
    IfOk-weaker c.tally.result _ _ (λ outcome t. subst (λ (n : ℕ). IfSome c.args.settings.options.connections (λ limit. n ≤ limit)) (sym t.connections_are) few) c.tally.ensures

pub returns-in-Ok-serve-clause-all : goal.returns-in-Ok-serve-clause-all
returns-in-Ok-serve-clause-all g c unstopped =
    let first = c.new-sessions.result in
    let last = c.serve.new.sessions in
    let none = c.new-sessions.ensures.rested ∙ ap (λ l. in_turn (map (λ one. one.items) l)) c.new-3.ensures.items in
    let source = c.new-sessions.ensures.source ∙ c.in-Ok-new.ensures in
    let all = c.in-Ok-serve.ensures.served in
    let begun = all_begun first all.0 last none all.1 in
    let ended = (gave_all first.source begun.0 last.source begun.2).2 in
    let just = sym (ap (λ (s : ArrivalsView). s.limit) source) ∙ ended (ap (λ (s : ArrivalsView). s.can_stop) source ∙ unstopped) ∙ ap Some (sym c.accepted-connections.ensures.count) in
    IfOk-weaker c.tally.result _ _ (λ outcome t. just ∙ ap Some (sym t.connections_are)) c.tally.ensures
