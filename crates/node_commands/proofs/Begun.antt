-- The sessions of a source of which none rested: one for each connection.
use Rattle.std.proofs.Common.{◌≡◌, ◌∙◌, ◌+◌, List, [], ◌∷◌, ◌++◌, length, map, ap, sym, subst, arith}
use Rattle.std.proofs.lemmas.List.{length-map}
use Rattle.std.proofs.lemmas.List.Elements.{All-cons, All-head, All-nil}
use Rattle.std.specs.List.{AllZip}
use Rattle.job_pool.specs.Giving.{GaveAll, GivesOnly}
use Rattle.job_pool.specs.Lists.{Every}
use Rattle.gate_node.specs.Gates.{Gates}
use Rattle.gate_node.specs.OneHistory.{IsSeen}
use Rattle.gate_node.specs.Passes.{Sights, ArePassesOf, AreUnused}
use Rattle.gate_node.specs.Tallies.{GateHistory}
use Rattle.gate_node.proofs.Histories.{each_seen}
use Rattle.worker_pool.specs.PausedSessions.{PausedSessionView, CanGoOn}
use Rattle.worker_pool.specs.Telling.{ToldSession, IsToldSession, TellsAll, TellsSource}
use Rattle.worker_pool.proofs.Legal.{told_at}
use Rattle.worker_pool.specs.declared.job.Job.{Job}
use Rattle.socket_streams.specs.declared.halves.RequestHalf.{RequestHalf}
use Rattle.socket_streams.specs.declared.halves.ReplyHalf.{ReplyHalf}
use Rattle.socket_streams.specs.Arriving.{GivesConnection}
use Rattle.socket_streams.specs.Sessions.{SessionsView, GivesSession, begun_by}
use Rattle.socket_streams.proofs.Resting.{gave_sessions, gives_for}
use Rattle.node_commands.specs.Runs.{AreTold, IsAtPositions, IsTallied, ToldConnections, replies_of, requests_of}
use Rattle.node_commands.specs.declared.until.ServedUntil.{ServedUntil}
use Rattle.node_commands.proofs.Sources.{gave_all, new_for}

abbrev Session : Type 0
Session = PausedSessionView RequestHalf ReplyHalf

abbrev Connection : Type 0
Connection = Job RequestHalf ReplyHalf

-- all that a source gave of which no session rests: a session for each connection that came
pub all_begun : (first : SessionsView) (given : List Session) (last : SessionsView) → first.rested ≡ [] → GaveAll GivesSession first given last
    → (jobs : List Connection) × (given ≡ map (begun_by first.source.gates) jobs) × GaveAll GivesConnection first.source jobs last.source
all_begun first given last none h =
    let gave = gave_sessions first given last h in
    (gave.jobs, gave.are ∙ ap (λ (rested : List Session). rested ++ map (begun_by first.source.gates) gave.jobs) none, gave.gave)

-- what it gives may go on over its gates
pub begun_may : (first : SessionsView) (gates : Gates) → first.rested ≡ [] → first.source.gates ≡ gates → GivesOnly GivesSession (CanGoOn gates) first
begun_may first gates none same = gives_for gates first (subst (Every (CanGoOn gates)) (sym none) tt, same)

-- sessions that ended are by steps in histories of which these passes have seen beginnings
pub every_at : (histories : List GateHistory) (gates : Gates) (given : List Session) (seen : Sights) → AllZip IsSeen histories seen.primaries → (ended : List (ToldSession RequestHalf ReplyHalf))
    → Every (IsToldSession requests_of replies_of gates given seen) ended → Every (IsAtPositions histories gates) ended
every_at histories gates given seen saw [] h = tt
every_at histories gates given seen saw (one ∷ ended) h = (told_at requests_of replies_of histories gates given seen one saw h.0, every_at histories gates given seen saw ended h.1)

-- what a run that began with no session that rested told, with tallies of what its passes have seen
pub are_told : {T : Type 0} (first last : SessionsView) (gates : Gates) (unused seen : Sights) (outcome : ServedUntil T) → first.rested ≡ [] → first.source.gates ≡ gates → first.source.before ≡ 0 → first.source.given ≡ 0 → AreUnused unused → ArePassesOf gates seen
    → TellsSource ⊥ requests_of replies_of (λ (sink : ToldConnections). sink) gates GivesSession first unused outcome.served last seen
    → outcome.connections ≡ last.source.given + last.source.refused → outcome.closed ≡ last.source.refused
    → IsTallied gates outcome.served outcome.connections outcome.closed seen outcome
    → AreTold gates outcome.served outcome.tallies outcome.connections outcome.closed
are_told first last gates unused seen outcome none same before new nothing kept told connections closed tallied =
    let begun = all_begun first told.0 last none told.1 in
    let jobs = begun.0 in
    let given : told.0 ≡ map (begun_by gates) jobs = begun.1 ∙ ap (λ (g : Gates). map (begun_by g) jobs) same in
    let history = tallied.history in
    let histories = history.histories in
    let Kept : Sights → Type 0 = λ sights. ArePassesOf gates sights in
    let callers = All-cons Kept seen [] kept (All-nil Kept) in
    let saw = All-head (λ (sights : Sights). AllZip IsSeen histories sights.primaries) seen [] (each_seen (λ (s : Sights). s) gates histories history.of_gates (seen ∷ []) callers history.seen) in
    let all = told.2 in
    let tells = subst (λ (sessions : List Session). TellsAll ⊥ requests_of replies_of (λ (sink : ToldConnections). sink) gates sessions unused outcome.served seen) given all in
    let count = (gave_all first.source jobs last.source begun.2).1 in
    let many : length told.0 ≡ length jobs = ap length given ∙ length-map jobs (begun_by gates) in
    let accepted = all.accepted in
    record {
      jobs = jobs;
      new = new_for first.source gates 0 same before new jobs last.source begun.2;
      unused = unused;
      had_seen_nothing = nothing;
      seen = seen;
      told = tells;
      passes = kept;
      histories = histories;
      of_gates = history.of_gates;
      beginnings = saw;
      positions = every_at histories gates (map (begun_by gates) jobs) seen saw tells.ended tells.each;
      tallied = history.tallied;
      counts_all = history.counted;
      counted = omega (arith, connections, closed, count, many, accepted, new);
    }
