-- What a listener gives as a source of connections, over many calls.
use Rattle.std.proofs.Common.{◌≡◌, ◌∙◌, ℕ, ◌+◌, ◌≤◌, false, None, Some, List, [], ◌∷◌, length, ap, sym, subst, arith}
use Rattle.std.specs.Prelude.{IfSome, Option}
use Rattle.job_pool.specs.Giving.{Gave, GaveAll, GivesOnly}
use Rattle.gate_node.specs.Gates.{Gates}
use Rattle.worker_pool.specs.declared.job.Job.{Job}
use Rattle.worker_pool.specs.JobEnds.{IsForGates}
use Rattle.socket_streams.specs.declared.halves.RequestHalf.{RequestHalf}
use Rattle.socket_streams.specs.declared.halves.ReplyHalf.{ReplyHalf}
use Rattle.socket_streams.specs.Arriving.{ArrivalsView, IsSameSource, AreNewConnections, GivesConnection}

pub same_twice : (first next last : ArrivalsView) → IsSameSource first next → IsSameSource next last → IsSameSource first last
same_twice first next last one two = record {
  gates = two.gates ∙ one.gates;
  limit = two.limit ∙ one.limit;
  counts_refused = two.counts_refused ∙ one.counts_refused;
  can_stop = two.can_stop ∙ one.can_stop;
  before = two.before ∙ one.before;
}

-- the number of a limit that is one
abbrev number_of : Option ℕ → ℕ
number_of None = 0
number_of (Some n) = n

pub keeps_source : (first : ArrivalsView) (jobs : List (Job RequestHalf ReplyHalf)) (next : ArrivalsView) → Gave GivesConnection first jobs next → IsSameSource first next × (next.given ≡ first.given + length jobs)
keeps_source first [] next is =
    let same : next.given ≡ first.given = ap (λ v. v.given) is in (
      record {
        gates = ap (λ v. v.gates) is;
        limit = ap (λ v. v.limit) is;
        counts_refused = ap (λ v. v.counts_refused) is;
        can_stop = ap (λ v. v.can_stop) is;
        before = ap (λ v. v.before) is;
      },
      omega arith,
    )
keeps_source first (job ∷ jobs) next h =
    let rest = keeps_source h.0 jobs next h.2 in
    let one : h.0.given ≡ first.given + 1 = h.1.1.1 in
    let more : next.given ≡ h.0.given + length jobs = rest.1 in
    (same_twice first h.0 next h.1.0 rest.0, omega arith)

pub all_connections : (first : ArrivalsView) (jobs : List (Job RequestHalf ReplyHalf)) (next : ArrivalsView) → Gave GivesConnection first jobs next → AreNewConnections first.gates (first.before + first.given) jobs
all_connections first [] next is = tt
all_connections first (job ∷ jobs) next h =
    let before : h.0.before ≡ first.before = h.1.0.before in
    let one : h.0.given ≡ first.given + 1 = h.1.1.1 in
    let number : h.0.before + h.0.given ≡ first.before + first.given + 1 = omega (arith, before, one) in
    (h.1.1.0, subst (λ n. AreNewConnections first.gates n jobs) number (subst (λ g. AreNewConnections g (h.0.before + h.0.given) jobs) h.1.0.gates (all_connections h.0 jobs next h.2)))

-- what it gives is for its gates
pub gives_for : (first : ArrivalsView) (gates : Gates) → first.gates ≡ gates → GivesOnly GivesConnection (IsForGates gates) first
gives_for first gates same jobs next last job gave given = subst (λ g. IsForGates g job) ((keeps_source first jobs next gave).0.gates ∙ same) (given.1.0.of_gates)

-- and all that it gave is new
pub new_for : (first : ArrivalsView) (gates : Gates) (number : ℕ) → first.gates ≡ gates → first.before ≡ number → first.given ≡ 0 → (jobs : List (Job RequestHalf ReplyHalf)) (last : ArrivalsView) → GaveAll GivesConnection first jobs last
    → AreNewConnections gates number jobs
new_for first gates number same before none jobs last gave =
    let from : first.before + first.given ≡ number = omega (arith, before, none) in
    subst (λ n. AreNewConnections gates n jobs) from (subst (λ g. AreNewConnections g (first.before + first.given) jobs) same (all_connections first jobs gave.0 gave.1))

-- where it gave no more, as many were accepted as were to be, or it might have been stopped
pub gave_all : (first : ArrivalsView) (jobs : List (Job RequestHalf ReplyHalf)) (last : ArrivalsView) → GaveAll GivesConnection first jobs last
    → IsSameSource first last × (last.given ≡ first.given + length jobs) × (first.can_stop ≡ false → first.limit ≡ Some (last.given + last.refused))
    × (first.counts_refused ≡ false → last.refused ≡ 0)
gave_all first jobs last gave =
    let kept = keeps_source first jobs gave.0 gave.1 in
    let end = gave.2 in (
      same_twice first gave.0 last kept.0 end.0,
      end.1.0 ∙ kept.1,
      λ unstopped. sym kept.0.limit ∙ end.1.1 (kept.0.can_stop ∙ unstopped),
      λ uncounted. end.1.2 (kept.0.counts_refused ∙ uncounted),
    )

-- where it could not be stopped and none counts that was closed, it gave as many as were to be
pub gave_just : (first : ArrivalsView) (jobs : List (Job RequestHalf ReplyHalf)) (last : ArrivalsView) (n : ℕ)
    → first.limit ≡ Some n → first.counts_refused ≡ false → first.can_stop ≡ false → first.given ≡ 0 → GaveAll GivesConnection first jobs last → length jobs ≡ n
gave_just first jobs last n limit uncounted unstopped none gave =
    let all = gave_all first jobs last gave in
    let given : last.given ≡ first.given + length jobs = all.1 in
    let closed : last.refused ≡ 0 = all.3 uncounted in
    let count : n ≡ last.given + last.refused = ap number_of (sym limit ∙ all.2 unstopped) in
    omega arith

-- at most so many, where the limit is another one's
pub within : (limit other : Option ℕ) → limit ≡ other → (n : ℕ) → IfSome limit (λ most. n ≤ most) → IfSome other (λ most. n ≤ most)
within limit other same n few = subst (λ o. IfSome o (λ most. n ≤ most)) same few
