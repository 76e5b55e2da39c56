-- A server that is paused and goes on.
use Rattle.std.proofs.Common.{◌≡◌, ◌∙◌, ℕ, ◌+◌, ◌-◌, ◌≤◌, true, None, Some, List, [], ◌∷◌, ◌++◌, length, map, refl, ap, sym, subst, arith}
use Rattle.std.specs.Prelude.{Option, IfSome}
use Rattle.std.specs.Option.{option_map}
use mathlib.Core.Logic.{inl, inr}
use Rattle.job_pool.specs.Lists.{Every, concat}
use Rattle.gate_node.specs.Gates.{Gates}
use Rattle.gate_node.specs.Passes.{Sights, ArePassesOf}
use Rattle.worker_pool.specs.declared.served_sessions.ServedSessions.{ServedSessions}
use Rattle.worker_pool.specs.Resuming.{IsLater, IsOnceDiverted}
use Rattle.worker_pool.specs.PausedSessions.{CanGoOn, PausedSessionView}
use Rattle.worker_pool.specs.Telling.{RestedSession, IsRestedSession, TellsAll, TellsSource, now_of}
use Rattle.worker_pool.proofs.Resuming.{later_on, later_to, passes_later}
use Rattle.socket_streams.specs.declared.halves.RequestHalf.{RequestHalf}
use Rattle.socket_streams.specs.declared.halves.ReplyHalf.{ReplyHalf}
use Rattle.socket_streams.specs.Arriving.{ArrivalsView}
use Rattle.socket_streams.specs.Sessions.{SessionsView, GivesSession, begun_by, in_turn}
use Rattle.socket_streams.proofs.Resting.{gave_sessions}
use Rattle.node_commands.specs.declared.period.Before.{Before}
use Rattle.node_commands.specs.declared.progress.Progress.{Progress}
use Rattle.node_commands.specs.declared.progress.Paused.{Paused}
use Rattle.node_commands.specs.declared.options.ServerSettings.{ServerSettings}
use Rattle.node_commands.specs.Runs.{IsNewRun, ToldConnections, replies_of, requests_of}
use Rattle.node_commands.specs.Periods.{AddsUp, CanServe, GoesThrough, HasRun, HasServed, IsNew, IsReady, Moves, rested_in}
use Rattle.node_commands.proofs.Sources.{gave_all, new_for}

abbrev Session : Type 0
Session = PausedSessionView RequestHalf ReplyHalf

-- a run of the pool over these gates, whose sessions may rest
abbrev Told : Gates → SessionsView → Sights → ServedSessions RequestHalf ReplyHalf ToldConnections → SessionsView → Sights → Type 0
Told gates first before served last seen = TellsSource (Unit {0}) requests_of replies_of (λ (sink : ToldConnections). sink) gates GivesSession first before served last seen

-- a listener's connections, of which none has come
abbrev pub new_source : Gates → ℕ → Option ℕ → ArrivalsView
new_source gates before limit = record { gates = gates; limit = limit; counts_refused = true; can_stop = true; before = before; given = 0; refused = 0 }

-- what a period came to: the sessions were those that rested and one for each of these connections
pub has_served : (gates : Gates) (old new : Progress) (before : Before) (first last : SessionsView) (served : ServedSessions RequestHalf ReplyHalf ToldConnections) (seen : Sights) (accepted away : ℕ)
    → before ≡ record { totals = old.totals; connections = old.connections; closed = old.closed }
    → first.rested ≡ in_turn (rested_in old) → (limit : Option ℕ) → first.source ≡ new_source gates old.connections limit
    → Told gates first old.seen served last seen → accepted ≡ last.source.given + last.source.refused → away ≡ last.source.refused
    → AddsUp before served accepted away seen new → HasServed gates old new
has_served gates old new before first last served seen accepted away was rested limit source told count closed adds =
    let same : first.source.gates ≡ gates = ap (λ (s : ArrivalsView). s.gates) source in
    let none : first.source.given ≡ 0 = ap (λ (s : ArrivalsView). s.given) source in
    let gave = gave_sessions first told.0 last told.1 in
    let jobs = gave.jobs in
    let sums = gave_all first.source jobs last.source gave.gave in
    let given : told.0 ≡ in_turn (rested_in old) ++ map (begun_by gates) jobs =
    gave.are ∙ ap (λ (sessions : List Session). sessions ++ map (begun_by first.source.gates) jobs) rested ∙ ap (λ (g : Gates). in_turn (rested_in old) ++ map (begun_by g) jobs) same in
    let all = subst (λ (sessions : List Session). TellsAll (Unit {0}) requests_of replies_of (λ (sink : ToldConnections). sink) gates sessions old.seen served seen) given told.2 in
    let many : last.source.given ≡ first.source.given + length jobs = sums.1 in
    let connections : new.connections ≡ before.connections + accepted = adds.connections in
    let from : before.connections ≡ old.connections = ap (λ (b : Before). b.connections) was in
    record {
      jobs = jobs;
      fresh = new_for first.source gates old.connections same (ap (λ (s : ArrivalsView). s.before) source) none jobs last.source gave.gave;
      served = served;
      told = subst (λ (sights : Sights). TellsAll (Unit {0}) requests_of replies_of (λ (sink : ToldConnections). sink) gates (in_turn (rested_in old) ++ map (begun_by gates) jobs) old.seen served sights) (sym adds.seen_is) all;
      rested = adds.rested;
      totals = subst (λ (b : Before). new.totals ≡ Rattle.stats_book.specs.Counting.both b.totals served.totals) was adds.totals;
      away = away;
      closed = adds.closed ∙ ap (λ (b : Before). b.closed + away) was;
      connections = omega (arith, many, connections, from, count, closed, none);
    }

-- those that rest behind a run of the pool may go on over its gates
each_may : (gates : Gates) (given : List Session) (rested : List (RestedSession RequestHalf ReplyHalf)) → Every (IsRestedSession requests_of replies_of gates given (Unit {0})) rested → Every (CanGoOn gates) (map now_of rested)
each_may gates given [] h = tt
each_may gates given (one ∷ rested) h = (record { later = later_to one.now.over gates h.0.rests.over; room = h.0.rests.room refl }, each_may gates given rested h.1)

pub is_ready : (gates : Gates) (first last : SessionsView) (before : Before) (old : Sights) (served : ServedSessions RequestHalf ReplyHalf ToldConnections) (seen : Sights) (accepted away : ℕ) (new : Progress)
    → Told gates first old served last seen → ArePassesOf gates seen → AddsUp before served accepted away seen new → IsReady gates new
is_ready gates first last before old served seen accepted away new told passes adds = record {
  rested = subst (λ resting. Every (CanGoOn gates) (concat (map (λ one. one.items) resting.items))) (sym adds.rested) (subst (Every (CanGoOn gates)) told.2.rests (each_may gates told.0 told.2.rested told.2.each_rests));
  passes = subst (ArePassesOf gates) (sym adds.seen_is) passes;
}

-- no more than are to be were accepted, where no more came than were left
within_left : (limit left : Option ℕ) (old accepted new : ℕ) → left ≡ option_map (λ most. most - old) limit → IfSome limit (λ most. old ≤ most) → IfSome left (λ most. accepted ≤ most) → new ≡ old + accepted → IfSome limit (λ most. new ≤ most)
within_left None left old accepted new is before few sum = tt
within_left (Some most) left old accepted new is before few sum =
    let few' : accepted ≤ most - old = subst (λ o. IfSome o (λ n. accepted ≤ n)) is few in
    omega (arith, before, few', sum)

-- so behind a run of the pool
pub still_within : (gates : Gates) (old : Progress) (first last : SessionsView) (served : ServedSessions RequestHalf ReplyHalf ToldConnections) (seen : Sights) (limit left : Option ℕ) (accepted new : ℕ)
    → first.source ≡ new_source gates old.connections left → Told gates first old.seen served last seen → left ≡ option_map (λ most. most - old.connections) limit → IfSome limit (λ most. old.connections ≤ most)
    → IfSome last.source.limit (λ most. accepted ≤ most) → new ≡ old.connections + accepted → IfSome limit (λ most. new ≤ most)
still_within gates old first last served seen limit left accepted new source told is before few sum =
    let gave = gave_sessions first told.0 last told.1 in
    let same = (gave_all first.source gave.jobs last.source gave.gave).0 in
    within_left limit last.source.limit old.connections accepted new (same.limit ∙ ap (λ (s : ArrivalsView). s.limit) source ∙ is) before few sum

-- one move further
goes_on : (first : Paused) (path : List Paused) (last next : Paused) → GoesThrough first path last → Moves last next → GoesThrough first (path ++ next ∷ []) next
goes_on first [] last next same move = (subst (λ (from : Paused). Moves from next) same move, refl)
goes_on first (one ∷ path) last next goes move = (goes.0, goes_on one path last next goes.1 move)

run_on : (settings : ServerSettings) (last next : Paused) → HasRun settings last → Moves last next → HasRun settings next
run_on settings last next run move = record {
  first = run.first;
  of_run = run.of_run;
  begins = run.begins;
  path = run.path ++ next ∷ [];
  goes = goes_on run.first run.path last next run.goes move;
}

-- behind a period a server may go on
pub serves_on : (settings : ServerSettings) (last next : Paused) → CanServe settings last → next.shared ≡ last.shared → HasServed last.shared last.progress next.progress → IsReady next.shared next.progress
    → IfSome settings.options.connections (λ limit. next.progress.connections ≤ limit) → CanServe settings next
serves_on settings last next can same served ready limit = record {
  run = run_on settings last next can.run (inl (same, served));
  ready = ready;
  budget = can.budget ∙ sym (ap (λ (g : Gates). g.budget) same);
  limit = limit;
}

-- what may go on over gates may go on once a partition was diverted
go_later : (old new : Gates) → IsLater old new → (sessions : List Session) → Every (CanGoOn old) sessions → Every (CanGoOn new) sessions
go_later old new later [] may = tt
go_later old new later (session ∷ sessions) may =
    (record { later = later_on session.over old new may.0.later later; room = may.0.room }, go_later old new later sessions may.1)

pub diverts : (settings : ServerSettings) (last next : Paused) (index : ℕ) → CanServe settings last → IsOnceDiverted index last.shared next.shared → next.progress ≡ last.progress → CanServe settings next
diverts settings last next index can diverted same =
    let later : IsLater last.shared next.shared = (index ∷ [], (next.shared, diverted, refl)) in
    record {
      run = run_on settings last next can.run (inr (same, index, diverted));
      ready = record {
        rested = subst (λ (p : Progress). Every (CanGoOn next.shared) (concat (rested_in p))) (sym same) (go_later last.shared next.shared later (concat (rested_in last.progress)) can.ready.rested);
        passes = subst (λ (p : Progress). ArePassesOf next.shared p.seen) (sym same) (passes_later last.shared next.shared last.progress.seen later can.ready.passes);
      };
      budget = can.budget ∙ sym diverted.budget;
      limit = subst (λ (p : Progress). IfSome settings.options.connections (λ limit. p.connections ≤ limit)) (sym same) can.limit;
    }

none_more : (limit : Option ℕ) (n : ℕ) → n ≡ 0 → IfSome limit (λ most. n ≤ most)
none_more None n none = tt
none_more (Some most) n none = omega (arith, none)

-- a server whose workers haven't begun may
pub begins : (settings : ServerSettings) (first : Paused) → IsNewRun settings.ring settings.options.run settings.options.sweep first.shared → IsNew first.shared first.progress → CanServe settings first
begins settings first of_run is = record {
  run = record { first = first; of_run = of_run; begins = is; path = []; goes = refl };
  ready = record { rested = subst (λ lists. Every (CanGoOn first.shared) (concat (map (λ one. one.items) lists))) (sym is.none) tt; passes = is.passes };
  budget = sym of_run.budget;
  limit = none_more settings.options.connections first.progress.connections is.unaccepted;
}

-- a server that wasn't changed may go on as before
pub stays : (settings : ServerSettings) (last next : Paused) → CanServe settings last → next.shared ≡ last.shared → next.progress ≡ last.progress → CanServe settings next
stays settings last next can same progress =
    subst (λ (gates : Gates). CanServe settings (record { shared = gates; progress = next.progress })) (sym same)
    (subst (λ (p : Progress). CanServe settings (record { shared = last.shared; progress = p })) (sym progress) can)
