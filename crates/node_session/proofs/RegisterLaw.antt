-- A plain node answers as the sibling register does.
use Rattle.std.proofs.Common.{◌≡◌, ◌≢◌, ◌<◌, ◌≤◌, ◌^◌, ℕ, List, [], ◌∷◌, None, Result, Ok, Err, refl, sym, ap, subst, ◌∙◌, inl, inr, arith, length, length-set, get_or-set_same}
use Rattle.std.proofs.lemmas.List.{get_or-set_other}
use Rattle.std.specs.List.{All}
use Rattle.std.proofs.lemmas.Option.{slice_get_within, get_or_from_slice_get}
use Rattle.ring_map.specs.Ring.{id_of}
use Rattle.riak_msgs.specs.Contents.{Content}
use Rattle.riak_msgs.specs.declared.Request.{Request}
use Rattle.riak_msgs.specs.declared.Request.TheVariants as requests
use Rattle.riak_msgs.specs.declared.Reply.{Reply}
use Rattle.sibling_register.specs.Answers.{RegisterAsk, AskGet, AskPut, AskDel}
use Rattle.sibling_register.specs.Refusals.{no_memory}
use Rattle.vnode_machine.specs.Machine.{State, opening}
use Rattle.vnode_machine.specs.Replay.{History, IsAfter}
use Rattle.vnode_machine.specs.Asks.{Context, get_command, put_command, del_command}
use Rattle.vnode_machine.specs.Step.{Response, MachineOutcome, Refused, Answered, Accepted, outcome}
use Rattle.vnode_machine.specs.Registers.{key_of}
use Rattle.vnode_machine.specs.Dead.{swept}
use Rattle.vnode_machine.proofs.RunLaw.{run_is_played}
use Rattle.vnode_machine.specs.Runs.{Turn, TakesTurn, TakesEach, AnswersTurn, reply_of as result_of, state_after_step}
use Rattle.node_session.specs.Answers.{AnswersInTurn}
use Rattle.node_session.specs.Answered.{AnsweredInput as Output}
use Rattle.node_session.specs.Session.{IsInputEnd, Stops}
use Rattle.node_session.specs.PlainStep.{StepsBy, reply_of}
use Rattle.node_session.specs.PlainNodes.{NodeState, PlainStep, AnswersAt, AnswersByKey, IsNewNode, partition_of, vnode_at}
use Rattle.node_session.specs.ByIndex.{IsReap, AnswersAsk}
use Rattle.node_session.specs.Registers.{Histories, no_events}
use Rattle.node_session.specs.SessionLaws.{IsRunNumber, RingRegister, OfHistories, RunsAreRegisters, EndsAreRegisters, StopsAreRegisters}
use Rattle.node_session.proofs.Histories.{EachAfter, each_legal, ask_followed, limits}
use Rattle.node_session.proofs.Sweeping.{sweep_taken}
use Rattle.node_session.proofs.Simulating.{run_like, end_like, stops_like}

-- a step by what comes of an ask is a turn that the vnode takes
record IsTurn (old : State Content) (ask : RegisterAsk Content Context) (reply : Reply) (new : State Content) : Type 0 where
  result : Result Response ℕ
  replied : reply ≡ reply_of result
  takes : TakesTurn old (record { ask = ask; reply = result }) new

turn_by : (old new : State Content) (ask : RegisterAsk Content Context) (reply : Reply) (came : MachineOutcome) → outcome old ask ≡ came → StepsBy old came reply new → IsTurn old ask reply new
turn_by old new ask reply (Refused number) e p =
    record { result = Err number; replied = p.0; takes = inl (ap result_of (sym e), subst (λ (o : MachineOutcome). new ≡ state_after_step old o) (sym e) p.1) }
turn_by old new ask reply (Answered response) e (inl p) =
    record { result = Ok response; replied = p.0; takes = inl (ap result_of (sym e), subst (λ (o : MachineOutcome). new ≡ state_after_step old o) (sym e) p.1) }
turn_by old new ask reply (Answered response) e (inr (takes, p)) = record { result = Err no_memory; replied = p.0; takes = inr (refl, p.1) }
turn_by old new ask reply (Accepted operation response next) e (inl p) =
    record { result = Ok response; replied = p.0; takes = inl (ap result_of (sym e), subst (λ (o : MachineOutcome). new ≡ state_after_step old o) (sym e) p.1) }
turn_by old new ask reply (Accepted operation response next) e (inr p) = record { result = Err no_memory; replied = p.0; takes = inr (refl, p.1) }

-- an ask and the reaps after it, as turns that a vnode takes
record AreTurns (budget : ℕ) (old : State Content) (ask : RegisterAsk Content Context) (reply : Reply) (new : State Content) : Type 0 where
  result : Result Response ℕ
  replied : reply ≡ reply_of result
  reaps : List Turn
  few : length reaps ≤ budget
  only : All IsReap reaps
  takes : TakesEach TakesTurn old (record { ask = ask; reply = result } ∷ reaps) new

-- what an answer at an index leaves at each of them
module _ (run index : ℕ) (old new : NodeState) (ask : RegisterAsk Content Context) (reply : Reply) (step : AnswersAt index old ask reply new) where
  answered_inside : index < length old.vnodes
  answered_inside = slice_get_within old.vnodes index step.before step.stands

  answered_before : vnode_at run old index ≡ step.before
  answered_before = get_or_from_slice_get old.vnodes index step.before (opening (id_of run index) 0) step.stands

  answered_after : vnode_at run new index ≡ step.after
  answered_after =
      ap (λ (node : NodeState). vnode_at run node index) step.new
      ∙ get_or-set_same old.vnodes index step.after (opening (id_of run index) 0) answered_inside

  answered_others : (other : ℕ) → other ≢ index → vnode_at run new other ≡ vnode_at run old other
  answered_others other ne =
      ap (λ (node : NodeState). vnode_at run node other) step.new
      ∙ get_or-set_other old.vnodes index other step.after (opening (id_of run other) 0) ne

  answered_length : length new.vnodes ≡ length old.vnodes
  answered_length = ap (λ (node : NodeState). length node.vnodes) step.new ∙ length-set old.vnodes index step.after

  answered_budget : new.budget ≡ old.budget
  answered_budget = ap (λ (node : NodeState). node.budget) step.new

  answered_bits : new.index_bits ≡ old.index_bits
  answered_bits = ap (λ (node : NodeState). node.index_bits) step.new

module _ (run index_bits budget : ℕ) (is : IsRunNumber run) (bound : 2 ^ index_bits ≤ 1024) where
  -- the node is of the ring and has the budget, and its vnodes are after these histories
  record IsLike (node : NodeState) (histories : Histories) : Type 0 where
    bits : node.index_bits ≡ index_bits
    sweeps : node.budget ≡ budget
    size : length node.vnodes ≡ 2 ^ index_bits
    each : EachAfter run (vnode_at run node) histories

  opens : (first : NodeState) → IsNewNode run index_bits budget first → IsLike first no_events
  opens first new = record {
    bits = new.bits;
    sweeps = new.sweeps;
    size = new.vnodes.count;
    each = λ index. record { replays = tt; is = new.vnodes.each index };
  }

  record IsOf (node : NodeState) : Type 0 where
    bits : node.index_bits ≡ index_bits
    sweeps : node.budget ≡ budget

  -- an answer by a vnode, and its sweep, are turns that the vnode takes
  turns_at : (index : ℕ) (old new : NodeState) (ask : RegisterAsk Content Context) (reply : Reply) (history : History) → index < 65536
      → IsAfter (id_of run index) 0 history (vnode_at run old index) → AnswersAt index old ask reply new
      → AreTurns old.budget (vnode_at run old index) ask reply (vnode_at run new index)
  turns_at index old new ask reply history small after step =
      let id = id_of run index in
      let limits = limits run is index small in
      let before = answered_before run index old new ask reply step in
      let turn = turn_by step.before step.steps.answered ask reply (outcome step.before ask) refl step.steps.steps in
      let one = run_is_played id 0 history limits (record { ask = ask; reply = turn.result } ∷ []) step.before step.steps.answered
      (subst (λ (state : State Content). IsAfter id 0 history state) before after) (step.steps.answered, turn.takes, refl) in
      let sweep = sweep_taken id 0 limits old.budget one.history step.steps.answered one.after in
      let end : vnode_at run new index ≡ swept step.steps.answered None old.budget = answered_after run index old new ask reply step ∙ step.steps.sweeps in
      record {
        result = turn.result;
        replied = turn.replied;
        reaps = sweep.reaps;
        few = sweep.few;
        only = sweep.only;
        takes = (
          step.steps.answered,
          subst (λ (state : State Content). TakesTurn state (record { ask = ask; reply = turn.result }) step.steps.answered) (sym before) turn.takes,
          subst (λ (state : State Content). TakesEach TakesTurn step.steps.answered sweep.reaps state) (sym end) sweep.takes,
        );
      }

  -- an answer by the vnode of the key is one by index
  ask_taken : (old new : NodeState) (ask : RegisterAsk Content Context) (reply : Reply) → IsOf old → AnswersByKey old ask reply new
      → AreTurns old.budget (vnode_at run old (partition_of old.index_bits (key_of ask))) ask reply (vnode_at run new (partition_of old.index_bits (key_of ask)))
      → AnswersAsk (λ index. TakesTurn) (partition_of index_bits) budget (vnode_at run old) ask reply (vnode_at run new)
  ask_taken old new ask reply of step turns =
      let index = partition_of old.index_bits (key_of ask) in
      subst (λ (n : ℕ). AnswersAsk (λ index. TakesTurn) (partition_of n) budget (vnode_at run old) ask reply (vnode_at run new)) of.bits
      (subst (λ (n : ℕ). AnswersAsk (λ index. TakesTurn) (partition_of old.index_bits) n (vnode_at run old) ask reply (vnode_at run new)) of.sweeps
      (record {
        result = turns.result;
        replied = turns.replied;
        reaps = turns.reaps;
        few = turns.few;
        only = turns.only;
        takes = record { each = turns.takes; others = answered_others run index old new ask reply step };
      }))

  ask_like : (old new : NodeState) (histories : Histories) (ask : RegisterAsk Content Context) (reply : Reply) → IsLike old histories → AnswersByKey old ask reply new
      → (after : Histories) × IsLike new after × AnswersAsk (λ index. AnswersTurn (id_of run index) 0) (partition_of index_bits) budget histories ask reply after
  ask_like old new histories ask reply like step =
      let index = partition_of old.index_bits (key_of ask) in
      let inside = answered_inside run index old new ask reply step in
      let same : index ≡ partition_of index_bits (key_of ask) = ap (λ (n : ℕ). partition_of n (key_of ask)) like.bits in
      let small : index < 65536 = omega (arith, inside, like.size, bound) in
      let turns = turns_at index old new ask reply (histories index) small (like.each index) step in
      let one = ask_followed run is (partition_of index_bits) budget (vnode_at run old) (vnode_at run new) histories ask reply (subst (λ (n : ℕ). n < 65536) same small) like.each
      (ask_taken old new ask reply (record { bits = like.bits; sweeps = like.sweeps }) step turns) in (
        one.0,
        record {
          bits = answered_bits run index old new ask reply step ∙ like.bits;
          sweeps = answered_budget run index old new ask reply step ∙ like.sweeps;
          size = answered_length run index old new ask reply step ∙ like.size;
          each = one.1;
        },
        one.2,
      )

  node_like : (old new : NodeState) (histories : Histories) (request : Request) (reply : Reply) → IsLike old histories → PlainStep old request reply new
      → (after : Histories) × IsLike new after × RingRegister run index_bits budget histories request reply after
  node_like old new histories requests.Ping reply like step =
      (histories, subst (λ (node : NodeState). IsLike node histories) (sym step.1) like, (step.0, refl))
  node_like old new histories (requests.Get get) reply like step = ask_like old new histories (AskGet (get_command get)) reply like step
  node_like old new histories (requests.Put put) reply like step = ask_like old new histories (AskPut (put_command put)) reply like step
  node_like old new histories (requests.Del del) reply like step = ask_like old new histories (AskDel (del_command del)) reply like step

  of_histories : (node : NodeState) (Holds : Histories → Type 0) → (histories : Histories) × IsLike node histories × Holds histories → OfHistories run index_bits budget node Holds
  of_histories node Holds (histories, like, holds) =
      record { histories = histories; are = each_legal run (vnode_at run node) histories like.each; holds = holds }

module _ (run index_bits budget : ℕ) (is : IsRunNumber run) where
  pub runs_are_registers : RunsAreRegisters run index_bits budget
  runs_are_registers first node new messages replies answered =
      of_histories run index_bits budget is new.bound node (λ histories. AnswersInTurn (RingRegister run index_bits budget) no_events messages replies histories)
      (run_like PlainStep (RingRegister run index_bits budget) (IsLike run index_bits budget is new.bound) (node_like run index_bits budget is new.bound) first node no_events messages replies
      (opens run index_bits budget is new.bound first new) answered)

  pub ends_are_registers : EndsAreRegisters run index_bits budget
  ends_are_registers first node new input held held' count len answered =
      of_histories run index_bits budget is new.bound node (λ histories. Output (RingRegister run index_bits budget) no_events input held held' count (IsInputEnd histories len))
      (end_like PlainStep (RingRegister run index_bits budget) (IsLike run index_bits budget is new.bound) (node_like run index_bits budget is new.bound) first node no_events input held held' count len
      (opens run index_bits budget is new.bound first new) answered)

  pub stops_are_registers : StopsAreRegisters run index_bits budget
  stops_are_registers first node new input held held' fault answered =
      of_histories run index_bits budget is new.bound node (λ histories. Stops (RingRegister run index_bits budget) no_events histories input held held' fault)
      (stops_like PlainStep (RingRegister run index_bits budget) (IsLike run index_bits budget is new.bound) (node_like run index_bits budget is new.bound) first node no_events input held held' fault
      (opens run index_bits budget is new.bound first new) answered)
