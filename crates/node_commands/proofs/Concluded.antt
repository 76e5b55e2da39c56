-- What a server comes to in the end that was paused and went on: of all periods.
use Rattle.std.proofs.Common.{◌≡◌, ◌∙◌, ℕ, true, Some, List, [], ◌∷◌, ◌++◌, map, ap, sym, subst, zero, suc}
use Rattle.std.proofs.lemmas.List.Elements.{All-cons, All-head, All-nil}
use Rattle.std.specs.List.{AllZip}
use Rattle.std.specs.Prelude.{Bool, Option, slice_get, slice_set}
use mathlib.Core.Logic.{inl, inr}
use Rattle.job_pool.specs.Lists.{Every}
use Rattle.gate_node.specs.Gates.{Gates, HandoffView, AreNone, AreOfNewRun, handoff_of}
use Rattle.gate_node.specs.Merging.{HaveSeenAllOf}
use Rattle.gate_node.specs.OneHistory.{IsSeen, ShareHistories}
use Rattle.gate_node.specs.Passes.{Sights, ArePassesOf}
use Rattle.gate_node.specs.Tallies.{GateHistory, Tally}
use Rattle.gate_node.proofs.Histories.{each_seen}
use Rattle.gate_node.proofs.Plain.{tallies_plain}
use Rattle.worker_pool.specs.PausedSessions.{PausedSessionView}
use Rattle.worker_pool.specs.Telling.{IsToldSession}
use Rattle.worker_pool.proofs.EndReporters.{seen_less, seen_same, seen_through}
use Rattle.socket_streams.specs.declared.halves.RequestHalf.{RequestHalf}
use Rattle.socket_streams.specs.declared.halves.ReplyHalf.{ReplyHalf}
use Rattle.socket_streams.specs.Sessions.{begun_by, in_turn}
use Rattle.handoff_tracks.specs.Tracks.{HaveTracks}
use Rattle.node_commands.specs.declared.controlled.Controlled.{Controlled}
use Rattle.node_commands.specs.declared.progress.Progress.{Progress}
use Rattle.node_commands.specs.declared.progress.Paused.{Paused}
use Rattle.node_commands.specs.declared.options.ServerSettings.{ServerSettings}
use Rattle.node_commands.specs.Runs.{IsAtPositions, IsByRegister, replies_of, requests_of}
use Rattle.node_commands.specs.Periods.{AllEnded, CanServe, GoesThrough, HasRun, IsControlled, NoneRests, PeriodsAreLegal, rested_in}
use Rattle.node_commands.proofs.Begun.{every_at}
use Rattle.node_commands.proofs.Ends.{all_are_over}
use Rattle.node_commands.proofs.Legal.{are_by_register, ends_further, of_new_run}

abbrev Session : Type 0
Session = PausedSessionView RequestHalf ReplyHalf

-- what a server had seen it has seen later on, and its passes are of the same gates
seen_on : (first : Paused) (path : List Paused) (last : Paused) → GoesThrough first path last → HaveSeenAllOf last.progress.seen first.progress.seen
seen_on first [] last same = subst (λ (p : Paused). HaveSeenAllOf p.progress.seen first.progress.seen) (sym same) (seen_same first.progress.seen.primaries)
seen_on first (next ∷ path) last (inl (same, served), goes) =
    seen_through last.progress.seen.primaries next.progress.seen.primaries first.progress.seen.primaries (seen_on next path last goes) served.told.seen_on
seen_on first (next ∷ path) last (inr (same, index, diverted), goes) =
    subst (λ (p : Progress). HaveSeenAllOf last.progress.seen p.seen) same (seen_on next path last goes)

-- so what ended in whatever period is by steps in histories of which the last passes have seen beginnings
all_tell : (histories : List GateHistory) (first : Paused) (path : List Paused) (last : Paused) (goes : GoesThrough first path last) → AllZip IsSeen histories last.progress.seen.primaries → AllEnded (IsAtPositions histories) first path last goes
all_tell histories first [] last goes saw = tt
all_tell histories first (next ∷ path) last (inl (same, served), goes) saw =
    let saw_then = seen_less histories last.progress.seen.primaries next.progress.seen.primaries saw (seen_on next path last goes) in
    (every_at histories first.shared (in_turn (rested_in first.progress) ++ map (begun_by first.shared) served.jobs) next.progress.seen saw_then served.told.ended served.told.each, all_tell histories next path last goes saw)
all_tell histories first (next ∷ path) last (inr (same, index, diverted), goes) saw = (tt, all_tell histories next path last goes saw)

none_set : {A : Type 0} (places : List (Option A)) (index : ℕ) (before : Option A) (x : A) → slice_get places index ≡ Some before → AreNone (slice_set places index (Some x)) → ⊥
none_set [] index before x is none = absurd (cc is)
none_set (place ∷ places) zero before x is none = absurd (cc none.0)
none_set (place ∷ places) (suc index) before x is none = none_set places index before x is none.1

-- where no partition of the last gates is diverted or was, none was on the way, and they are the first ones
never_diverted : (first : Paused) (path : List Paused) (last : Paused) → GoesThrough first path last → AreNone last.shared.fallbacks → last.shared ≡ first.shared
never_diverted first [] last same none = ap (λ (p : Paused). p.shared) same
never_diverted first (next ∷ path) last (inl (same, served), goes) none = never_diverted next path last goes none ∙ same
never_diverted first (next ∷ path) last (inr (same, index, diverted), goes) none =
    let here : AreNone next.shared.fallbacks = subst (λ (gates : Gates). AreNone gates.fallbacks) (never_diverted next path last goes none) none in
    let was = diverted.handoff in
    let set : next.shared.fallbacks ≡ slice_set first.shared.fallbacks index (Some was.fallback) = ap (λ (view : HandoffView). view.fallbacks) was.is in
    absurd (none_set first.shared.fallbacks index was.before was.fallback was.stood (subst AreNone set here))

-- then what ended in whatever period is by the register's steps, in histories of which the last passes have seen beginnings
all_by_register : (last : Paused) (tallies : List Tally) (count_all : Bool) → AreOfNewRun last.shared.run last.shared.gates → AreNone last.shared.fallbacks → count_all ≡ true → ArePassesOf last.shared last.progress.seen
    → (shares : ShareHistories (λ (s : Sights). s) last.shared.gates (last.progress.seen ∷ []) tallies count_all)
    → (first : Paused) (path : List Paused) (goes : GoesThrough first path last) → AllEnded (IsByRegister shares.histories) first path last goes
all_by_register last tallies count_all new none all kept shares first [] goes = tt
all_by_register last tallies count_all new none all kept shares first (next ∷ path) (inl (same, served), goes) =
    let here : last.shared ≡ first.shared = never_diverted next path last goes none ∙ same in
    let given : List Session = in_turn (rested_in first.progress) ++ map (begun_by first.shared) served.jobs in
    let ended = served.told.ended in
    let mine = seen_on next path last goes in
    let further = ends_further first.shared given last.progress.seen next.progress.seen mine ended served.told.each in
    let by_register = are_by_register last.shared last.progress.seen tallies count_all new none all kept shares given ended in (
      subst (λ (gates : Gates). Every (IsToldSession requests_of replies_of gates given last.progress.seen) ended → Every (IsByRegister shares.histories gates) ended) here by_register further,
      all_by_register last tallies count_all new none all kept shares next path goes,
    )
all_by_register last tallies count_all new none all kept shares first (next ∷ path) (inr (same, index, diverted), goes) = (tt, all_by_register last tallies count_all new none all kept shares next path goes)

periods_are_legal : (settings : ServerSettings) (last : Paused) (run : HasRun settings last) → ArePassesOf last.shared last.progress.seen → (tallies : List Tally) (count_all : Bool)
    → (shares : ShareHistories (λ (s : Sights). s) last.shared.gates (last.progress.seen ∷ []) tallies count_all)
    → AreNone last.shared.fallbacks → count_all ≡ true → PeriodsAreLegal shares.histories run.first run.path last run.goes
periods_are_legal settings last run kept tallies count_all shares none all =
    let first = run.first in
    let same : last.shared ≡ first.shared = never_diverted first run.path last run.goes none in
    let new_first = of_new_run settings.ring settings.options.run settings.options.sweep first.shared run.of_run in
    let new : AreOfNewRun last.shared.run last.shared.gates = subst (λ (gates : Gates). AreOfNewRun gates.run gates.gates) (sym same) new_first in
    record {
      same_gates = same;
      legal = (tallies_plain last.shared shares.histories tallies new none shares.of_gates shares.tallied (shares.counted all)).legal;
      by_register = all_by_register last tallies count_all new none all kept shares first run.path run.goes;
    }

-- what came of a server that ended so, with tallies of what its passes have seen
pub is_controlled : (settings : ServerSettings) (last : Paused) (outcome : Controlled) → CanServe settings last → NoneRests last.progress
    → ShareHistories (λ (s : Sights). s) last.shared.gates (last.progress.seen ∷ []) outcome.tallies.tallies.items outcome.tallies.count_all
    → outcome.totals ≡ last.progress.totals → outcome.connections ≡ last.progress.connections → outcome.closed ≡ last.progress.closed → HaveTracks (handoff_of last.shared) outcome.tracks → IsControlled settings outcome
is_controlled settings last outcome can none history totals connections closed tracks =
    let run = can.run in
    let seen = last.progress.seen in
    let Kept : Sights → Type 0 = λ sights. ArePassesOf last.shared sights in
    let callers = All-cons Kept seen [] can.ready.passes (All-nil Kept) in
    let saw = All-head (λ (sights : Sights). AllZip IsSeen history.histories sights.primaries) seen [] (each_seen (λ (s : Sights). s) last.shared history.histories history.of_gates (seen ∷ []) callers history.seen) in
    record {
      last = last;
      run = run;
      limit = can.limit;
      none_rests = none;
      all = all_are_over settings last run none ∙ sym connections;
      history = history;
      positions = all_tell history.histories run.first run.path last run.goes saw;
      legal = periods_are_legal settings last run can.ready.passes outcome.tallies.tallies.items outcome.tallies.count_all history;
      totals = totals;
      connections = connections;
      closed = closed;
      tracks = tracks;
    }
