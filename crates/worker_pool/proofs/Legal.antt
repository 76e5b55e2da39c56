-- The sessions of a run whose passes have seen beginnings of histories are by steps in these; and where no partition has a fallback, by the register's.
use Rattle.std.proofs.Common.{◌≡◌, ℕ, List, [], ◌∷◌, sym, ap, subst}
use Rattle.std.proofs.lemmas.List.Elements.{All-cons, All-head, All-nil}
use Rattle.std.specs.Prelude.{false, Option, Some, Result, Ok, Err, slice_get, slice_set, zero, suc}
use Rattle.std.specs.List.{AllZip}
use Rattle.riak_msgs.specs.declared.Request.{Request}
use Rattle.riak_msgs.specs.declared.Reply.{Reply}
use Rattle.node_session.specs.Streams.{SourceView, TargetView, input_of}
use Rattle.node_session.specs.Stages.{IsOverBy}
use Rattle.node_session.specs.declared.ended.Ended.{Ended}
use Rattle.node_session.specs.declared.fault.SessionFault.{SessionFault}
use Rattle.node_session.proofs.Streaming.{given_as}
use Rattle.gate_node.specs.Gates.{Gates, HandoffView, AreNone}
use Rattle.gate_node.specs.GateStep.{NodeOverGates}
use Rattle.gate_node.specs.OneHistory.{IsSeen}
use Rattle.gate_node.specs.Passes.{Sights, ArePassesOf}
use Rattle.gate_node.specs.Plain.{AnswersAsRegister, AreOfCommands}
use Rattle.gate_node.specs.Tallies.{GateHistory}
use Rattle.gate_node.proofs.Plain.{plain_step, tallies_plain}
use Rattle.gate_node.proofs.Histories.{each_seen}
use Rattle.worker_pool.specs.declared.left.EndedSession.{EndedSession}
use Rattle.worker_pool.specs.Leaving.{EndsOver, IsEndOf}
use Rattle.worker_pool.specs.Legal.{ToldSessionIsLegal}
use Rattle.worker_pool.specs.Resuming.{AreDiverted, IsLater, RunStep, RunStepIn}
use Rattle.worker_pool.specs.PausedSessions.{Origin, PausedSessionView, first_node}
use Rattle.worker_pool.specs.Telling.{ToldSession, IsToldSession, with_passes}
use Rattle.worker_pool.proofs.Mapping.{over_by}
use Rattle.worker_pool.proofs.Resuming.{end_at, stop_at}
use Rattle.worker_pool.proofs.EndReporters.{seen_less}

none_set : {A : Type 0} (xs : List (Option A)) (i : ℕ) (place : Option A) (x : A) → slice_get xs i ≡ Some place → AreNone (slice_set xs i (Some x)) → ⊥
none_set [] i place x is none = absurd (cc is)
none_set (y ∷ xs) zero place x is none = absurd (cc none.0)
none_set (y ∷ xs) (suc i) place x is none = none_set xs i place x is none.1

none_through : (indices : List ℕ) (old new : Gates) → AreDiverted indices old new → AreNone new.fallbacks → new ≡ old
none_through [] old new same none = same
none_through (index ∷ indices) old new h none =
    let mid = h.0 in
    let later = none_through indices mid new h.2 none in
    let here : AreNone mid.fallbacks = subst (λ (gates : Gates). AreNone gates.fallbacks) later none in
    let diverted = h.1.handoff in
    let set : mid.fallbacks ≡ slice_set old.fallbacks index (Some diverted.fallback) = ap (λ (view : HandoffView). view.fallbacks) diverted.is in
    absurd (none_set old.fallbacks index diverted.before diverted.fallback diverted.stood (subst AreNone set here))

-- where no partition has a fallback, none was diverted
none_later : (old new : Gates) → IsLater old new → AreNone new.fallbacks → new ≡ old
none_later old new later = none_through later.0 old new later.1

module _ (histories : List GateHistory) (shared : Gates) (none : AreNone shared.fallbacks) (are : AreOfCommands histories) where
  step_as : (old : NodeOverGates) (request : Request) (reply : Reply) (new : NodeOverGates) → RunStepIn histories shared old request reply new → AnswersAsRegister shared histories old request reply new
  step_as old request reply new h =
      let on = h.0 in
      let goes = h.1 in
      let there : shared ≡ on.shared = none_later on.shared shared h.2 none in
      let here : on.shared ≡ old.shared = none_later old.shared on.shared goes.later (subst (λ (gates : Gates). AreNone gates.fallbacks) there none) in
      let same : on ≡ old = λ i. record { shared = here i; passes = goes.passes i; count = goes.count i } in
      subst (λ (node : NodeOverGates). AnswersAsRegister shared histories node request reply new) same (plain_step shared histories on request reply new none are (sym there) h.3)

module _ {R W : Type 0} (source : R → SourceView) (target : W → TargetView) (histories : List GateHistory) (shared : Gates) where
  over_at : (origin : Origin) (after : NodeOverGates) (u u' : SourceView) (h h' : TargetView) (most : ℕ) (result : Result Ended SessionFault) → AllZip IsSeen histories after.passes.primaries × IsLater after.shared shared
      → IsOverBy RunStep (first_node origin) after u u' h h' most result → IsOverBy (RunStepIn histories shared) (first_node origin) after u u' h h' most result
  over_at origin after u u' h h' most (Ok e) reaches p =
      (given_as u u' most _ _ (λ noted served. (end_at histories shared (first_node origin) after (input_of noted) h.contents h'.contents e.replies e.rest served.0 reaches, served.1)) p.0, p.1, p.2, p.3)
  over_at origin after u u' h h' most (Err fault) reaches p =
      (given_as u u' most _ _ (λ noted served. (stop_at histories shared (first_node origin) after (input_of noted) h.contents h'.contents fault served.0 reaches, served.1)) p.0, p.1)

  -- a session whose passes have seen beginnings of histories is by steps in these
  pub ends_at : (origin : Origin) (ended : EndedSession R W) (after : NodeOverGates) → AllZip IsSeen histories ended.passes.primaries → EndsOver source target shared RunStep origin ended after → EndsOver source target shared (RunStepIn histories shared) origin ended after
  ends_at origin ended after saw h =
      let reaches : AllZip IsSeen histories after.passes.primaries × IsLater after.shared shared = (subst (λ (ps : Sights). AllZip IsSeen histories ps.primaries) (sym h.left) saw, h.reaches) in
      record {
        from = h.from;
        later = h.later;
        reaches = h.reaches;
        left = h.left;
        kept = h.kept;
        session = over_at origin after origin.source (source ended.reader) origin.target (target ended.writer) origin.gates.reads ended.result reaches h.session;
      }

  pub told_at : (given : List (PausedSessionView R W)) (seen : Sights) (one : ToldSession R W) → AllZip IsSeen histories seen.primaries → IsToldSession source target shared given seen one
      → IsEndOf source target shared (RunStepIn histories shared) one.session one.counted false (with_passes one.end one.passes one.session.origin)
  told_at given seen one saw h = record {
    after = h.ends.after;
    ends = ends_at one.session.origin (with_passes one.end one.passes one.session.origin) h.ends.after (seen_less histories seen.primaries one.passes.primaries saw h.covered) h.ends.ends;
    counts = h.ends.counts;
    room = h.ends.room;
  }

pub told_is_legal : {R W : Type 0} (source : R → SourceView) (target : W → TargetView) (shared : Gates) (given : List (PausedSessionView R W)) (seen : Sights) (one : ToldSession R W) → ToldSessionIsLegal source target shared given seen one
told_is_legal source target shared given seen one tallies count_all new none all kept shares h =
    let histories = shares.histories in
    let plain = tallies_plain shared histories tallies new none shares.of_gates shares.tallied (shares.counted all) in
    let Kept : Sights → Type 0 = λ sights. ArePassesOf shared sights in
    let callers = All-cons Kept seen [] kept (All-nil Kept) in
    let saw = All-head (λ (sights : Sights). AllZip IsSeen histories sights.primaries) seen [] (each_seen (λ (s : Sights). s) shared histories shares.of_gates (seen ∷ []) callers shares.seen) in
    let at = told_at source target histories shared given seen one saw h in
    let ended = with_passes one.end one.passes one.session.origin in
    record {
      legal = plain.legal;
      ends = record {
        after = at.after;
        ends = record {
          from = at.ends.from;
          later = at.ends.later;
          reaches = at.ends.reaches;
          left = at.ends.left;
          kept = at.ends.kept;
          session = over_by (RunStepIn histories shared) (AnswersAsRegister shared histories) (λ node. node) (step_as histories shared none plain.commands) (first_node one.session.origin) at.after one.session.origin.source (source one.end.reader) one.session.origin.target (target one.end.writer) one.session.origin.gates.reads one.end.result at.ends.session;
        };
        counts = at.counts;
        room = at.room;
      };
    }
