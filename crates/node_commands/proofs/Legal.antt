-- The sessions of a run over partitions that were never diverted are by the register's steps, where the tallies count all of the histories.
use Rattle.std.proofs.Common.{◌≡◌, ℕ, List, [], ◌∷◌, map, sym, subst}
use Rattle.std.proofs.lemmas.List.Elements.{All-cons, All-nil}
use Rattle.std.specs.List.{AllZip}
use Rattle.std.specs.Prelude.{Bool, true}
use Rattle.job_pool.specs.Lists.{Every}
use Rattle.gate_node.specs.Asked.{Sight}
use Rattle.gate_node.specs.Gates.{Gates, AreNone, AreOfNewRun}
use Rattle.gate_node.specs.Merging.{HaveSeenAllOf}
use Rattle.gate_node.specs.OneHistory.{AreOfGates, HaveSeen, IsSeen, ShareHistories}
use Rattle.gate_node.specs.Passes.{Sights, ArePassesOf}
use Rattle.gate_node.specs.Tallies.{GateHistory, Tally, IsTally, CountsAll}
use Rattle.gate_node.proofs.Plain.{tallies_plain}
use Rattle.worker_pool.specs.PausedSessions.{PausedSessionView}
use Rattle.worker_pool.specs.Telling.{ToldSession, IsToldSession}
use Rattle.worker_pool.proofs.EndReporters.{seen_through}
use Rattle.worker_pool.proofs.Legal.{told_is_legal}
use Rattle.worker_pool.specs.declared.closed.Closed.{Closed}
use Rattle.worker_pool.proofs.LegalRuns.{ends_legally}
use Rattle.socket_streams.specs.declared.halves.RequestHalf.{RequestHalf}
use Rattle.socket_streams.specs.declared.halves.ReplyHalf.{ReplyHalf}
use Rattle.socket_streams.specs.Sessions.{begun_by}
use Rattle.node_commands.specs.declared.options.ServerSettings.{ServerSettings}
use Rattle.node_commands.specs.declared.serving.Settings.{Settings}
use Rattle.node_commands.specs.declared.until.ServedUntil.{ServedUntil}
use Rattle.node_commands.specs.Runs.{AreConnectionsServed, AreServed, AreTold, IsByRegister, IsNewRun, IsServedUntil, replies_of, requests_of}

abbrev Session : Type 0
Session = PausedSessionView RequestHalf ReplyHalf

abbrev Ended : Type 0
Ended = List (ToldSession RequestHalf ReplyHalf)

abbrev AreEnds : Gates → List Session → Sights → Ended → Type 0
AreEnds gates given seen ended = Every (IsToldSession requests_of replies_of gates given seen) ended

-- the gates of a new run are those of their own number's run
pub of_new_run : (ring run sweep : ℕ) (gates : Gates) → IsNewRun ring run sweep gates → AreOfNewRun gates.run gates.gates
of_new_run ring run sweep gates new = subst (λ (n : ℕ). AreOfNewRun n gates.gates) (sym new.run_is) new.new_vnodes

-- what the passes of one caller have seen of histories of which they have seen beginnings
have_seen : (histories : List GateHistory) (passes : List Sight) → AllZip IsSeen histories passes → HaveSeen histories passes
have_seen [] passes h = tt
have_seen (history ∷ histories) [] h = absurd h
have_seen (history ∷ histories) (pass ∷ passes) h = (h.0.begins, have_seen histories passes h.1)

abbrev one_shares : (gates : Gates) (histories : List GateHistory) (tallies : List Tally) (count_all : Bool) (seen : Sights) → AreOfGates gates.gates histories → AllZip IsTally histories tallies
    → (count_all ≡ true → AllZip CountsAll histories tallies) → AllZip IsSeen histories seen.primaries → ShareHistories (λ (s : Sights). s) gates.gates (seen ∷ []) tallies count_all
one_shares gates histories tallies count_all seen of_gates tallied counted saw =
    let Saw : Sights → Type 0 = λ sights. HaveSeen histories sights.primaries in
    record {
      histories = histories;
      of_gates = of_gates;
      tallied = tallied;
      counted = counted;
      seen = All-cons Saw seen [] (have_seen histories seen.primaries saw) (All-nil Saw);
    }

-- sessions of whose ends passes have seen all that theirs had, these have too, which have seen more
pub ends_further : (gates : Gates) (given : List Session) (more less : Sights) → HaveSeenAllOf more less → (ended : Ended) → AreEnds gates given less ended → AreEnds gates given more ended
ends_further gates given more less mine [] h = tt
ends_further gates given more less mine (one ∷ ended) h = (
  record { given_as = h.0.given_as; ends = h.0.ends; covered = seen_through more.primaries less.primaries one.passes.primaries mine h.0.covered },
  ends_further gates given more less mine ended h.1,
)

-- so sessions of whose ends these passes have seen all are by the register's steps
pub are_by_register : (gates : Gates) (seen : Sights) (tallies : List Tally) (count_all : Bool) → AreOfNewRun gates.run gates.gates → AreNone gates.fallbacks → count_all ≡ true → ArePassesOf gates seen
    → (shares : ShareHistories (λ (s : Sights). s) gates.gates (seen ∷ []) tallies count_all) → (given : List Session) (ended : Ended) → AreEnds gates given seen ended → Every (IsByRegister shares.histories gates) ended
are_by_register gates seen tallies count_all new none all kept shares given [] h = tt
are_by_register gates seen tallies count_all new none all kept shares given (one ∷ ended) h = (
  (told_is_legal requests_of replies_of gates given seen one tallies count_all new none all kept shares h.0).ends,
  are_by_register gates seen tallies count_all new none all kept shares given ended h.1,
)

-- connections that were served by as many as are asked for
pub connections_served : (settings : Settings) (closed : Closed RequestHalf ReplyHalf) (gates : Gates) → IsNewRun settings.ring settings.run settings.sweep gates → AreServed gates settings.connections settings.workers closed
    → AreConnectionsServed settings closed
connections_served settings closed gates new served =
    let of_run = of_new_run settings.ring settings.run settings.sweep gates new in
    let all = served.served in
    record {
      gates = gates;
      of_run = new;
      served = served;
      legal = λ count_all.
          let plain = tallies_plain gates all.histories closed.tallies.items of_run new.undiverted all.of_gates all.tallies (all.counted count_all) in
          record { legal = plain.legal; by_register = ends_legally all.histories requests_of replies_of gates new.undiverted plain.commands served.jobs closed.ends.items all.ends };
    }

-- and those that were served until no more were to be
pub served_until : {T : Type 0} (settings : ServerSettings) (outcome : ServedUntil T) (gates : Gates) → IsNewRun settings.ring settings.options.run settings.options.sweep gates
    → AreTold gates outcome.served outcome.tallies outcome.connections outcome.closed → IsServedUntil settings outcome
served_until settings outcome gates new told =
    let of_run = of_new_run settings.ring settings.options.run settings.options.sweep gates new in
    let tallies = outcome.tallies.tallies.items in
    let shares = one_shares gates told.histories tallies outcome.tallies.count_all told.seen told.of_gates told.tallied told.counts_all told.beginnings in
    record {
      gates = gates;
      of_run = new;
      served = told;
      legal = λ count_all. record {
        legal = (tallies_plain gates told.histories tallies of_run new.undiverted told.of_gates told.tallied (told.counts_all count_all)).legal;
        by_register = are_by_register gates told.seen tallies outcome.tallies.count_all of_run new.undiverted count_all told.passes shares (map (begun_by gates) told.jobs) told.told.ended told.told.each;
      };
    }
