-- What holds of a session that rests, and goes on over later gates.
use Rattle.std.proofs.Common.{◌≡◌, ◌∙◌, ◌++◌, ℕ, List, [], ◌∷◌, Option, refl, sym, subst, inl, inr}
use Rattle.std.specs.Prelude.{Result, Ok, Err}
use Rattle.std.specs.List.{AllZip}
use Rattle.node_session.specs.SessionLaws.{CodedMessage}
use Rattle.riak_msgs.specs.declared.fault.MsgFault.{MsgFault}
use Rattle.riak_msgs.specs.declared.Request.{Request}
use Rattle.riak_msgs.specs.declared.Reply.{Reply}
use Rattle.node_session.specs.Answers.{AnswersRead, AnswersInTurn}
use Rattle.node_session.specs.Answered.{AnsweredInput}
use Rattle.node_session.specs.Session.{IsInputEnd, Stops}
use Rattle.node_session.specs.declared.fault.SessionFault.{SessionFault}
use Rattle.node_session.proofs.HandingBack.{Held, end_in, stops_in}
use Rattle.gate_node.specs.Gates.{Gates}
use Rattle.gate_node.specs.GateStep.{NodeOverGates, GateNodeStep}
use Rattle.gate_node.specs.OneHistory.{IsSeen}
use Rattle.gate_node.specs.Passes.{Sights, ArePassesOf}
use Rattle.gate_node.specs.Tallies.{GateHistory}
use Rattle.gate_node.proofs.Fitting.{outlive_diversion}
use Rattle.gate_node.proofs.InHistories.{AreSeen, seen_before_step, step_answers}
use Rattle.gate_node.proofs.Keeping.{step-keeps}
use Rattle.stats_book.specs.declared.totals.Totals.{Totals}
use Rattle.worker_pool.specs.Resuming.{AreDiverted, IsLater, RunStep, RunStepIn, RunNodeStep, standing}
use Rattle.worker_pool.proofs.Mapping.{end_by, stops_by}
use Rattle.worker_pool.proofs.Shifting.{more, step_on}

passes_through : (indices : List ℕ) (old new : Gates) (passes : Sights) → AreDiverted indices old new → ArePassesOf old passes → ArePassesOf new passes
passes_through [] old new passes same are = subst (λ (gates : Gates). ArePassesOf gates passes) (sym same) are
passes_through (index ∷ indices) old new passes diverted are =
    passes_through indices diverted.0 new passes diverted.2 (outlive_diversion index old diverted.0 passes diverted.1.handoff are)

pub passes_later : (old new : Gates) (passes : Sights) → IsLater old new → ArePassesOf old passes → ArePassesOf new passes
passes_later old new passes later are = passes_through later.0 old new passes later.1 are

diverted_on : (first second : List ℕ) (a b c : Gates) → AreDiverted first a b → AreDiverted second b c → AreDiverted (first ++ second) a c
diverted_on [] second a b c same h = subst (λ (gates : Gates). AreDiverted second gates c) same h
diverted_on (index ∷ first) second a b c h k = (h.0, h.1, diverted_on first second h.0 b c h.2 k)

pub later_same : (a : Gates) → IsLater a a
later_same a = ([], refl)

pub later_on : (a b c : Gates) → IsLater a b → IsLater b c → IsLater a c
later_on a b c h k = (h.0 ++ k.0, diverted_on h.0 k.0 a b c h.1 k.1)

step_later : (old : NodeOverGates) (request : Request) (reply : Reply) (new : NodeOverGates) → RunStep old request reply new → IsLater old.shared new.shared
step_later old request reply new h = subst (λ (gates : Gates). IsLater old.shared gates) (sym (step-keeps h.0 request reply new h.2)) h.1.later

same_later : (old new : NodeOverGates) → new ≡ old → IsLater old.shared new.shared
same_later old new is = subst (λ (node : NodeOverGates). IsLater old.shared node.shared) (sym is) (later_same old.shared)

read_later : (old : NodeOverGates) (said : Result Request MsgFault) (reply : Reply) (new : NodeOverGates) → AnswersRead RunStep old said reply new → IsLater old.shared new.shared
read_later old (Ok request) reply new (inl step) = step_later old request reply new step
read_later old (Ok request) reply new (inr stays) = same_later old new stays.1
read_later old (Err fault) reply new stays = same_later old new stays.1

-- a node of a run steps as the one that it is made of, over the gates that this is over
pub node_steps : (before : Totals) (at over now : Gates) (old : NodeOverGates) (request : Request) (reply : Reply) (new : NodeOverGates) → old.shared ≡ over → now ≡ over → IsLater at over → GateNodeStep old request reply new
    → RunNodeStep (standing over before (record (more before old) { shared = at })) request reply (standing over before (record (more before new) { shared = now }))
node_steps before at over now old request reply new here there later made =
    let same : new.shared ≡ now = step-keeps old request reply new made ∙ here ∙ sym there in
    let on : NodeOverGates = record (more before old) { shared = over } in
    let moved = subst (λ (gates : Gates). GateNodeStep (more before old) request reply (record (more before new) { shared = gates })) same (step_on before old request reply new made) in
    record {
      step = (on, record { later = later; passes = refl; count = refl }, subst (λ (gates : Gates). GateNodeStep (record (more before old) { shared = gates }) request reply (record (more before new) { shared = now })) here moved);
      over = refl;
      before = refl;
    }

pub later_to : (at over : Gates) → at ≡ over → IsLater at over
later_to at over is = subst (λ (gates : Gates). IsLater at gates) is (later_same at)

pub run_later : (old : NodeOverGates) (messages : List CodedMessage) (replies : List Reply) (new : NodeOverGates) → AnswersInTurn RunStep old messages replies new → IsLater old.shared new.shared
run_later old [] [] new run = same_later old new run
run_later old [] (reply ∷ replies) new run = absurd run
run_later old (message ∷ messages) [] new run = absurd run
run_later old (message ∷ messages) (reply ∷ replies) new run =
    later_on old.shared run.0.shared new.shared (read_later old run.1.said reply run.0 run.1.answers) (run_later run.0 messages replies new run.2)

module _ (histories : List GateHistory) (shared : Gates) where
  -- its passes have seen beginnings of the histories, and its gates became these
  abbrev pub Reaches : NodeOverGates → Type 0
  Reaches node = AreSeen histories node × IsLater node.shared shared

  reached_before : (old : NodeOverGates) (request : Request) (reply : Reply) (new : NodeOverGates) → RunStep old request reply new → Reaches new → Reaches old
  reached_before old request reply new h reaches = (
    subst (λ (passes : Sights). AllZip IsSeen histories passes.primaries) h.1.passes (seen_before_step histories h.0 request reply new h.2 reaches.0),
    later_on old.shared new.shared shared (step_later old request reply new h) reaches.1,
  )

  abbrev HeldStep : NodeOverGates → Request → Reply → NodeOverGates → Type 0
  HeldStep = Held RunStep Reaches reached_before

  step_in : (old : NodeOverGates) (request : Request) (reply : Reply) (new : NodeOverGates) → HeldStep old request reply new → RunStepIn histories shared old request reply new
  step_in old request reply new h =
      let on = h.0.0 in
      let later = subst (λ (gates : Gates). IsLater gates shared) (step-keeps on request reply new h.0.2) h.1.1 in
      (on, h.0.1, later, (h.0.2, h.1.0), step_answers histories on request reply new (h.0.2, h.1.0))

  module _ (old new : NodeOverGates) (input : List ℕ) (held held' : Option (List ℕ)) where
    pub end_at : (count len : ℕ) → AnsweredInput RunStep old input held held' count (IsInputEnd new len) → Reaches new → AnsweredInput (RunStepIn histories shared) old input held held' count (IsInputEnd new len)
    end_at count len h reaches =
        end_by HeldStep (RunStepIn histories shared) (λ node. node) step_in old new held held' input count len
        (end_in RunStep Reaches reached_before old new input held held' count len h reaches)

    pub stop_at : (fault : SessionFault) → Stops RunStep old new input held held' fault → Reaches new → Stops (RunStepIn histories shared) old new input held held' fault
    stop_at fault h reaches =
        stops_by HeldStep (RunStepIn histories shared) (λ node. node) step_in old new held held' input fault
        (stops_in RunStep Reaches reached_before old new input held held' fault h reaches)
