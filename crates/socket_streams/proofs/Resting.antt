-- What a source of sessions over sockets gives over many calls.
use Rattle.std.proofs.Common.{◌≡◌, ◌∙◌, List, [], ◌∷◌, ◌++◌, map, ap, refl, sym, subst}
use Rattle.std.specs.Prelude.{Option, Some, None, Result, Ok, Err}
use Rattle.job_pool.specs.Giving.{Gave, GaveAll, GivesOnly}
use Rattle.job_pool.specs.Lists.{Every, concat}
use Rattle.job_pool.specs.declared.jobs.JobFault.{JobFault}
use Rattle.worker_pool.specs.JobEnds.{Gates}
use Rattle.worker_pool.specs.PausedSessions.{PausedSessionView, CanGoOn}
use Rattle.worker_pool.specs.declared.job.Job.{Job}
use Rattle.socket_streams.specs.declared.halves.RequestHalf.{RequestHalf}
use Rattle.socket_streams.specs.declared.halves.ReplyHalf.{ReplyHalf}
use Rattle.socket_streams.specs.Arriving.{ArrivalsView, GivesConnection}
use Rattle.socket_streams.specs.Sessions.{SessionsView, GivesSession, GivesBegun, GivesFirst, begun_by, in_turn}
use Rattle.socket_streams.proofs.InTurn.{all_in_turn}

abbrev Session : Type 0
Session = PausedSessionView RequestHalf ReplyHalf

abbrev Connection : Type 0
Connection = Job RequestHalf ReplyHalf

-- what rests may go on over these gates, and the connections are for these
abbrev pub AreFor : Gates → SessionsView → Type 0
AreFor gates sessions = Every (CanGoOn gates) sessions.rested × (sessions.source.gates ≡ gates)

begun_stays : (gates : Gates) (source : ArrivalsView) (given : Result (Option Session) JobFault) (last : ArrivalsView) → source.gates ≡ gates → GivesBegun source given last → last.gates ≡ gates
begun_stays gates source (Ok (Some session)) last same gives = gives.1.0.gates ∙ same
begun_stays gates source (Ok None) last same gives = gives.0.gates ∙ same
begun_stays gates source (Err fault) last same gives = gives.0.gates ∙ same

stays : (gates : Gates) (rested : List Session) (source : ArrivalsView) (given : Result (Option Session) JobFault) (last : SessionsView)
    → Every (CanGoOn gates) rested → source.gates ≡ gates → GivesFirst rested source given last → AreFor gates last
stays gates [] source given last may same gives = (subst (Every (CanGoOn gates)) (sym gives.0) tt, begun_stays gates source given last.source same gives.1)
stays gates (session ∷ rest) source given last may same gives =
    (subst (Every (CanGoOn gates)) (sym gives.1) may.1, ap (λ (s : ArrivalsView). s.gates) gives.2 ∙ same)

gave_stays : (gates : Gates) (first : SessionsView) (given : List Session) (last : SessionsView) → AreFor gates first → Gave GivesSession first given last → AreFor gates last
gave_stays gates first [] last are gave = subst (AreFor gates) (sym gave) are
gave_stays gates first (session ∷ given) last are gave =
    gave_stays gates gave.0 given last (stays gates first.rested first.source (Ok (Some session)) gave.0 are.0 are.1 gave.1) gave.2

-- a session that begins over these gates may go on over them
begun_may : (gates : Gates) (job : Connection) → CanGoOn gates (begun_by gates job)
begun_may gates job = record { later = ([], refl); room = refl }

-- the value of what is given
abbrev session_in : Session → Result (Option Session) JobFault → Session
session_in other (Ok (Some session)) = session
session_in other (Ok None) = other
session_in other (Err fault) = other

may : (gates : Gates) (rested : List Session) (source : ArrivalsView) (session : Session) (last : SessionsView)
    → Every (CanGoOn gates) rested → source.gates ≡ gates → GivesFirst rested source (Ok (Some session)) last → CanGoOn gates session
may gates [] source session last all same gives =
    subst (CanGoOn gates) (sym gives.1.2) (subst (λ g. CanGoOn gates (begun_by g gives.1.0)) (sym same) (begun_may gates gives.1.0))
may gates (first ∷ rest) source session last all same gives = subst (CanGoOn gates) (sym (ap (session_in first) gives.0)) all.0

-- What it gives may go on over these gates, where what rests may, and the connections are for these.
pub gives_for : (gates : Gates) (first : SessionsView) → AreFor gates first → GivesOnly GivesSession (CanGoOn gates) first
gives_for gates first are given next last session gave gives =
    let there = gave_stays gates first given next are gave in
    may gates next.rested next.source session last there.0 there.1 gives

-- Where the lists that it was made of have only such sessions.
pub made_for : (gates : Gates) (lists : List (List Session)) (first : SessionsView) → Every (CanGoOn gates) (concat lists) → first.rested ≡ in_turn lists → first.source.gates ≡ gates → GivesOnly GivesSession (CanGoOn gates) first
made_for gates lists first all rested same =
    gives_for gates first (subst (Every (CanGoOn gates)) (sym rested) (all_in_turn (CanGoOn gates) lists all), same)

-- what is no session
abbrev IsNoSession : Result (Option Session) JobFault → Type 0
IsNoSession (Ok (Some session)) = ⊥
IsNoSession (Ok None) = Unit {0}
IsNoSession (Err fault) = Unit {0}

at : (rested : List Session) (source : ArrivalsView) (first : SessionsView) (given : Result (Option Session) JobFault) (last : SessionsView)
    → first.rested ≡ rested → first.source ≡ source → GivesSession first given last → GivesFirst rested source given last
at rested source first given last is from h =
    subst (λ (s : ArrivalsView). GivesFirst rested s given last) from (subst (λ (r : List Session). GivesFirst r first.source given last) is h)

-- those that rested were given, and then a session for each of these connections, and then none
pub record GaveInTurn (rested : List Session) (source : ArrivalsView) (given : List Session) (last : SessionsView) : Type 0 where
  pub jobs : List Connection
  pub are : given ≡ rested ++ map (begun_by source.gates) jobs
  pub gave : GaveAll GivesConnection source jobs last.source
  pub none : last.rested ≡ []

gave_in_turn : (rested : List Session) (source : ArrivalsView) (given : List Session) (first last : SessionsView)
    → first.rested ≡ rested → first.source ≡ source → GaveAll GivesSession first given last → GaveInTurn rested source given last
gave_in_turn [] source [] first last is from h =
    let end = at [] source h.0 (Ok None) last (ap (λ (s : SessionsView). s.rested) h.1 ∙ is) (ap (λ (s : SessionsView). s.source) h.1 ∙ from) h.2 in
    record { jobs = []; are = refl; gave = (source, refl, end.1); none = end.0 }
gave_in_turn (one ∷ rest) source [] first last is from h =
    let end = at (one ∷ rest) source h.0 (Ok None) last (ap (λ (s : SessionsView). s.rested) h.1 ∙ is) (ap (λ (s : SessionsView). s.source) h.1 ∙ from) h.2 in
    absurd (subst IsNoSession end.0 tt)
gave_in_turn [] source (session ∷ given) first last is from h =
    let next = h.1.0 in
    let here = at [] source first (Ok (Some session)) next is from h.1.1 in
    let more = gave_in_turn [] next.source given next last here.0 refl (h.0, h.1.2, h.2) in
    let same : next.source.gates ≡ source.gates = here.1.1.0.gates in
    record {
      jobs = here.1.0 ∷ more.jobs;
      are = cc (here.1.2, subst (λ (gates : Gates). given ≡ map (begun_by gates) more.jobs) same more.are);
      gave = (more.gave.0, (next.source, here.1.1, more.gave.1), more.gave.2);
      none = more.none;
    }
gave_in_turn (one ∷ rest) source (session ∷ given) first last is from h =
    let next = h.1.0 in
    let here = at (one ∷ rest) source first (Ok (Some session)) next is from h.1.1 in
    let more = gave_in_turn rest source given next last here.1 here.2 (h.0, h.1.2, h.2) in
    let same : session ≡ one = ap (session_in one) here.0 in
    record {
      jobs = more.jobs;
      are = cc (same, more.are);
      gave = more.gave;
      none = more.none;
    }

-- All that a source gave until there was none: each session that rested, and then one for each connection that came, which is to begin.
pub gave_sessions : (first : SessionsView) (given : List Session) (last : SessionsView) → GaveAll GivesSession first given last → GaveInTurn first.rested first.source given last
gave_sessions first given last h = gave_in_turn first.rested first.source given first last refl refl h
