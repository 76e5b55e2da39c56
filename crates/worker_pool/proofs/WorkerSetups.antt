-- What workers are started with, and what is taken apart of what they leave.
use Rattle.std.proofs.Common.{◌≡◌, ◌≤◌, ◌<◌, ◌∙◌, ◌+◌, ℕ, Bool, List, [], ◌∷◌, ◌++◌, length, arith, sym, ap, subst}
use Rattle.std.proofs.lemmas.List.{map-append, length-append}
use Rattle.std.specs.Prelude.{◌||◌}
use Rattle.job_pool.specs.Lists.{Every}
use Rattle.job_pool.specs.declared.worker.NumberedEnd.{NumberedEnd}
use Rattle.gate_node.specs.Gates.{Gates}
use Rattle.gate_node.specs.Merging.{HaveSeenAllOf}
use Rattle.gate_node.specs.Passes.{Sights}
use Rattle.worker_pool.specs.declared.end_sink.SessionEnd.{SessionEnd}
use Rattle.worker_pool.specs.PausedSessions.{PausedSessionView}
use Rattle.worker_pool.specs.EndReporters.{EndReporterView, EndReporterStands, IsCovered, AreApart, sink_of, resting_of, are_full}
use Rattle.worker_pool.proofs.EndReporters.{every_more, every_by, gates_kept, or_assoc, or_none, seen_through}

module _ {U T : Type 0} (N : U → Type 0) (P Q : T → Type 0) where
  -- so many worker setups stand, and these serving setups are left
  abbrev pub AreStarted : List U → List T → ℕ → Type 0
  AreStarted serving_setups worker_setups count = Every N serving_setups × Every P worker_setups × Every Q worker_setups × (length worker_setups + length serving_setups ≡ count)

  pub started_more : (serving_setups serving_setups' : List U) (serving_setup : U) (worker_setups worker_setups' : List T) (worker_setup : T) (count : ℕ)
      → serving_setups ≡ serving_setup ∷ serving_setups' → worker_setups' ≡ worker_setups ++ worker_setup ∷ [] → AreStarted serving_setups worker_setups count → P worker_setup → Q worker_setup → AreStarted serving_setups' worker_setups' count
  started_more serving_setups serving_setups' serving_setup worker_setups worker_setups' worker_setup count next more h new worker =
      let rest = subst (Every N) next h.0 in
      let sizes : length worker_setups' ≡ length worker_setups + 1 = ap length more ∙ length-append worker_setups (worker_setup ∷ []) in
      let before : length serving_setups ≡ length (serving_setup ∷ serving_setups') = ap length next in (
        rest.1,
        subst (Every P) (sym more) (every_more P worker_setups worker_setup h.1 new),
        subst (Every Q) (sym more) (every_more Q worker_setups worker_setup h.2 worker),
        omega (arith, sizes, before, h.3),
      )

-- room for one of a list that isn't at its end
pub room_left : {A : Type 0} (done left rest all : List A) (one : A) (n cap : ℕ) → done ++ left ≡ all → left ≡ one ∷ rest → n ≡ length done → length all ≤ cap → n < cap
room_left done left rest all one n cap is next many room =
    let sizes : length all ≡ length done + length (one ∷ rest) = sym (ap length is) ∙ ap (λ l. length (done ++ l)) next ∙ length-append done (one ∷ rest) in
    omega (arith, sizes, many, room)

pub one_longer : {A B : Type 0} (xs xs' : List A) (x : A) (ys : List B) (y : B) → xs' ≡ xs ++ x ∷ [] → length xs ≡ length ys → length xs' ≡ length (ys ++ y ∷ [])
one_longer xs xs' x ys y is same =
    let here : length xs' ≡ length xs + 1 = ap length is ∙ length-append xs (x ∷ []) in
    let there = length-append ys (y ∷ []) in
    omega (arith, here, there, same)

module _ {R W K : Type 0} (told : K → List (NumberedEnd (SessionEnd R W))) (gates : Gates) where
  full_behind : (end_reporters : List (EndReporterView R W K)) (end_reporter : EndReporterView R W K) → are_full (end_reporters ++ end_reporter ∷ []) ≡ (are_full end_reporters || end_reporter.book_full)
  full_behind [] end_reporter = or_none end_reporter.book_full
  full_behind (other ∷ end_reporters) end_reporter = ap (λ b. other.book_full || b) (full_behind end_reporters end_reporter) ∙ or_assoc other.book_full (are_full end_reporters) end_reporter.book_full

  covered_on : (more less : Sights) (end_reporter : EndReporterView R W K) → HaveSeenAllOf more less → IsCovered told gates less end_reporter → IsCovered told gates more end_reporter
  covered_on more less end_reporter mine h = record { stands = h.stands; covers = seen_through more.primaries less.primaries end_reporter.seen.primaries mine h.covers }

  pub apart_more : (done : List (EndReporterView R W K)) (end_reporter : EndReporterView R W K) (sinks sinks' : List K) (sink : K) (resting resting' : List (List (PausedSessionView R W))) (rest : List (PausedSessionView R W)) (full full' its : Bool) (first seen seen' passes : Sights)
      → AreApart told gates done sinks resting full first seen
      → EndReporterStands told gates end_reporter → sinks' ≡ sinks ++ sink ∷ [] → sink ≡ end_reporter.sink → resting' ≡ resting ++ rest ∷ [] → rest ≡ end_reporter.resting → full' ≡ (full || its) → its ≡ end_reporter.book_full
      → passes ≡ end_reporter.seen → HaveSeenAllOf seen' seen → HaveSeenAllOf seen' passes → seen'.fallbacks ≡ seen.fallbacks
      → AreApart told gates (done ++ end_reporter ∷ []) sinks' resting' full' first seen'
  apart_more done end_reporter sinks sinks' sink resting resting' rest full full' its first seen seen' passes h stands more is rests rest_is full_is its_is seen_is mine theirs same = record {
    stand = every_more (IsCovered told gates seen') done end_reporter (every_by (IsCovered told gates seen) (IsCovered told gates seen') (λ one was. covered_on seen' seen one mine was) done h.stand)
        (record { stands = stands; covers = subst (λ (ps : Sights). HaveSeenAllOf seen' ps) seen_is theirs });
    sinks_are = more ∙ ap (λ (k : K). sinks ++ k ∷ []) is ∙ ap (λ (l : List K). l ++ end_reporter.sink ∷ []) h.sinks_are ∙ sym (map-append sink_of done (end_reporter ∷ []));
    resting_are = rests ∙ ap (λ (l : List (PausedSessionView R W)). resting ++ l ∷ []) rest_is ∙ ap (λ (l : List (List (PausedSessionView R W))). l ++ end_reporter.resting ∷ []) h.resting_are ∙ sym (map-append resting_of done (end_reporter ∷ []));
    full_is = full_is ∙ ap (λ (b : Bool). full || b) its_is ∙ ap (λ (b : Bool). b || end_reporter.book_full) h.full_is ∙ sym (full_behind done end_reporter);
    more = seen_through seen'.primaries seen.primaries first.primaries mine h.more;
    kept = gates_kept gates seen seen' h.kept mine same;
  }
