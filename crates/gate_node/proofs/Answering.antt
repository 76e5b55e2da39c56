-- What is answered at one vnode, as the sibling register answers it, by the commands that were seen of it.
use Rattle.std.proofs.Common.{◌≡◌, ◌∙◌, ℕ, List, [], ◌∷◌, ◌++◌, refl, sym, ap, subst, inl, inr}
use Rattle.std.proofs.lemmas.List.{append-nil}
use Rattle.std.specs.Prelude.{◌⊎◌, Option, Result, Ok, Err}
use mathlib.Core.List.{IsPrefix}
use Rattle.rw_gate.specs.Histories.{RunFrom}
use Rattle.riak_msgs.specs.Contents.{Content}
use Rattle.riak_msgs.specs.declared.GetAsk.{GetAsk}
use Rattle.riak_msgs.specs.declared.PutAsk.{PutAsk}
use Rattle.riak_msgs.specs.declared.DelAsk.{DelAsk}
use Rattle.riak_msgs.specs.declared.Reply.{Reply}
use Rattle.sibling_register.specs.Answers.{RegisterAsk as Command, AskGet, AskPut, AskDel, Answers as Gives, Accepts, Refused as ToldRefused}
use Rattle.sibling_register.specs.Refusals.{no_memory}
use Rattle.sibling_register.specs.History.{Operation}
use Rattle.sibling_register.specs.Legal.{IsLegal}
use Rattle.vnode_machine.specs.Asks.{Context, get_command, put_command, del_command}
use Rattle.vnode_machine.specs.Machine.{State}
use Rattle.vnode_machine.specs.Registers.{IsRegisters, IsTold, IsNext, next_event}
use Rattle.vnode_machine.specs.Replay.{History, naming, IsWithinLimits, IsAfter}
use Rattle.vnode_machine.specs.Runs.{AnswersTurn}
use Rattle.vnode_machine.specs.Step.{Response, GetDone, DelDone, Answered, Refused, outcome}
use Rattle.vnode_machine.specs.Replies.{get_reply}
use Rattle.vnode_machine.proofs.StepLaw.{registers-after}
use Rattle.rw_gate.proofs.Prefixes.{prefix_trans}
use Rattle.vnode_core.specs.declared.ask.Ask.{Ask}
use Rattle.vnode_core.specs.declared.ask.Ask.TheVariants as asks
use Rattle.vnode_core.specs.declared.ask.Answer.{Answer}
use Rattle.vnode_core.specs.declared.event.VnodeEvent.{VnodeEvent}
use Rattle.vnode_core.specs.declared.event.VnodeEvent.TheVariants as events
use Rattle.vnode_core.specs.declared.entry.Entry.{Entry}
use Rattle.vnode_core.specs.declared.entry.Entry.TheVariants.{Command as Commanded, Copied, Closed}
use Rattle.vnode_core.specs.declared.refusal.Refusal.{Refusal}
use Rattle.vnode_core.specs.declared.refusal.Refusal.TheVariants as refusals
use Rattle.vnode_core.specs.Events.{EntryAsks, AnsweredBy, AsksEvent, AnswersEvent, Makes, IsMadeNew, commands_of, all_commands, GoesOnTo, AreNext, event_command, event_deed, event_response, history_after, register_event}
use Rattle.vnode_core.specs.Plans.{IsAnsweredUnchanged, IsWrite, Refuses}
use Rattle.vnode_core.specs.Refusals.{number_of}
use Rattle.vnode_core.proofs.Entries.{all_commands-commands_of, commands_before, commands_begin, commands_of-all_commands, commands_of-append}
use Rattle.rw_gate.specs.declared.asking.AskOutcome.{AskOutcome}
use Rattle.rw_gate.specs.declared.asking.AskOutcome.TheVariants as Outcomes
use Rattle.vnode_core.specs.Replies.{answer_reply}
use Rattle.node_session.specs.PlainStep.{reply_of}
use Rattle.stats_book.specs.declared.quantity.Quantity.{Quantity}
use Rattle.gate_node.specs.Asked.{Sight, state_of, Gets, ComesOf, IsMadeBy, IsSaidOf, RepliesToGet, outcome_reply}
use Rattle.gate_node.specs.Registers.{VnodeId, Commands, history_of, AnswersAmongOthers, IsGateError}
use Rattle.gate_node.proofs.Legal.{position-is-legal}

module _ (v e : ℕ) where
  after_one : (before : History) (commands : List VnodeEvent) (event : VnodeEvent)
      → history_after v e before (commands ++ event ∷ []) ≡ register_event v e (history_after v e before commands) event ∷ history_after v e before commands
  after_one before [] event = refl
  after_one before (first ∷ commands) event = after_one (register_event v e before first ∷ before) commands event

  next_behind : (before : History) (commands : List VnodeEvent) (event : VnodeEvent) → AreNext v e before commands
      → ((next : State Content) × IsNext v e (history_after v e before commands) (event_command event) (event_deed event) (event_response event) next)
      → AreNext v e before (commands ++ event ∷ [])
  next_behind before [] event all one = (one, tt)
  next_behind before (first ∷ commands) event all one = (all.0, next_behind (register_event v e before first ∷ before) commands event all.1 one)

  -- a legal history goes on by an event that the machine makes
  goes_on_by : (commands : List VnodeEvent) (event : VnodeEvent) (state next : State Content) → GoesOnTo v e [] commands state
      → IsNext v e (history_after v e [] commands) (event_command event) (event_deed event) (event_response event) next
      → GoesOnTo v e [] (commands ++ event ∷ []) next
  goes_on_by commands event state next goes is = record {
    answered = next_behind [] commands event goes.answered (next, is);
    after = subst (λ h. IsAfter v e h next) (sym (after_one [] commands event)) is.leads;
    legal = subst (λ h. IsLegal (naming v e) h) (sym (after_one [] commands event)) is.legal;
  }

  module _ (limits : IsWithinLimits v e) where
    -- what the machine answers at a history, and accepts nothing, the register does
    turn_told : (history : History) (state : State Content) (command : Command Content Context) (response : Response) → IsAfter v e history state
        → outcome state command ≡ Answered response → AnswersTurn v e history (record { ask = command; reply = Ok response }) history
    turn_told history state command response after is =
        let told : IsTold v e history command response = subst (IsRegisters v e history command) is (registers-after v e limits history state command after) in
        inl (record { given = Gives told.told; may = told.given; leads = refl; shown = told.shown })

    turn_refused : (history : History) (state : State Content) (command : Command Content Context) (number : ℕ) → IsAfter v e history state
        → outcome state command ≡ Refused number → AnswersTurn v e history (record { ask = command; reply = Err number }) history
    turn_refused history state command number after is =
        inl (record {
          given = Gives (ToldRefused number);
          may = subst (IsRegisters v e history command) is (registers-after v e limits history state command after);
          leads = refl;
          shown = refl;
        })

    -- and what it accepts, the register accepts
    turn_made : (history : History) (command : Command Content Context) (operation : Operation Content) (response : Response) (next : State Content)
        → IsNext v e history command operation response next
        → AnswersTurn v e history (record { ask = command; reply = Ok response }) (next_event v e history command operation ∷ history)
    turn_made history command operation response next is =
        inl (record { given = Accepts (next_event v e history command operation) is.told; may = is.given; leads = refl; shown = is.shown })

    put_refused : (history : History) (state : State Content) (put : PutAsk) (refusal : Refusal) → IsAfter v e history state → Refuses state (asks.Put put) refusal
        → AnswersTurn v e history (record { ask = AskPut (put_command put); reply = Err (number_of refusal) }) history
    put_refused history state put refusals.NoMemory after r = inr (refl, refl)
    put_refused history state put refusal after r = turn_refused history state (AskPut (put_command put)) (number_of refusal) after r.1

    del_refused : (history : History) (state : State Content) (del : DelAsk) (refusal : Refusal) → IsAfter v e history state → Refuses state (asks.Del del) refusal
        → AnswersTurn v e history (record { ask = AskDel (del_command del); reply = Err (number_of refusal) }) history
    del_refused history state del refusals.NoMemory after r = inr (refl, refl)
    del_refused history state del refusal after r = turn_refused history state (AskDel (del_command del)) (number_of refusal) after r.1

-- an event that was asked by a put or a delete is of its command
put_asked : (put : PutAsk) (event : VnodeEvent) → AsksEvent event (asks.Put put) → event_command event ≡ AskPut (put_command put)
put_asked put (events.Put other reply) h = let same : other ≡ put = cc (h) in ap (λ p. AskPut (put_command p)) same
put_asked put (events.Del del) h = cc (h)
put_asked put (events.Reap key) h = absurd h

del_asked : (del : DelAsk) (event : VnodeEvent) → AsksEvent event (asks.Del del) → event_command event ≡ AskDel (del_command del)
del_asked del (events.Put put reply) h = cc (h)
del_asked del (events.Del other) h = let same : other ≡ del = cc (h) in ap (λ d. AskDel (del_command d)) same
del_asked del (events.Reap key) h = absurd h

-- its answer is replied to as its response is
response_had : (event : VnodeEvent) (answer : Answer) → AnswersEvent event answer → answer_reply answer ≡ reply_of (Ok (event_response event))
response_had (events.Put put reply) answer h = ap answer_reply h
response_had (events.Del del) answer h = ap answer_reply h
response_had (events.Reap key) answer h = ap answer_reply h

-- what a caller has seen, which begins a log of these commands alone
module _ (id : VnodeId) (limits : IsWithinLimits id.vnode id.last_epoch) (old new : Sight) (last : Commands) (made_new : IsMadeNew id.vnode id.last_epoch old.gate)
    (begins : IsPrefix old.prefix new.prefix) (more : IsPrefix new.prefix (all_commands last)) (reply : Reply) where
  -- the answer to a command, by the register or by the gate
  abbrev Answer_to : Command Content Context → Type 0
  Answer_to command = AnswersAmongOthers id command (commands_of old.prefix) reply last ⊎ (IsGateError reply × IsPrefix (commands_of old.prefix) last)

  -- what begins what was seen is commands alone, and they begin the last ones
  is_commands : (entries : List Entry) → IsPrefix entries new.prefix → entries ≡ all_commands (commands_of entries)
  is_commands entries first = all_commands-commands_of entries (commands_before entries (all_commands last) (prefix_trans entries new.prefix (all_commands last) first more) (last, refl))

  begins_last : (entries : List Entry) → IsPrefix entries new.prefix → IsPrefix (commands_of entries) last
  begins_last entries first =
      subst (λ l. IsPrefix (commands_of entries) l) (commands_of-all_commands last) (commands_begin entries (all_commands last) (prefix_trans entries new.prefix (all_commands last) first more))

  all_seen : IsPrefix new.prefix new.prefix
  all_seen = ([], append-nil new.prefix)

  -- the commands up to a position are a legal history
  goes_to : (entries : List Entry) (state : State Content) → IsPrefix entries new.prefix → RunFrom state_of Makes old.gate.opening entries state → GoesOnTo id.vnode id.last_epoch [] (commands_of entries) state
  goes_to entries state first leads =
      position-is-legal id.vnode id.last_epoch old.gate (commands_of entries) state limits made_new (subst (λ es. RunFrom state_of Makes old.gate.opening es state) (is_commands entries first) leads)

  said_answers : (command : Command Content Context) (result : Result Response ℕ) (Says : State Content → Type 0) (said : IsSaidOf Says old new)
      → ((history : History) → IsAfter id.vnode id.last_epoch history said.state → AnswersTurn id.vnode id.last_epoch history (record { ask = command; reply = result }) history)
      → reply ≡ reply_of result → Answer_to command
  said_answers command result Says said turn replied =
      let goes = goes_to new.prefix said.state all_seen said.leads in
      inl (record {
        position = commands_of new.prefix;
        after = commands_of new.prefix;
        result = result;
        begins = commands_begin old.prefix new.prefix begins;
        legal = (said.state, goes);
        answers = turn (history_of id (commands_of new.prefix)) goes.after;
        replied = replied;
        more = begins_last new.prefix all_seen;
      })

  made_by : (command : Command Content Context) (answer : Answer) (event : VnodeEvent) (position : List Entry) (state after : State Content) → IsPrefix old.prefix position
      → RunFrom state_of Makes old.gate.opening position state → Makes state (Commanded event) after → AnswersEvent event answer → new.prefix ≡ position ++ Commanded event ∷ []
      → event_command event ≡ command → reply ≡ answer_reply answer → Answer_to command
  made_by command answer event position state after first leads makes answered seen asked replied =
      let v = id.vnode in
      let e = id.last_epoch in
      let commands = commands_of position in
      let here : IsPrefix position new.prefix = (Commanded event ∷ [], sym seen) in
      let there : commands_of new.prefix ≡ commands ++ event ∷ [] = ap commands_of seen ∙ commands_of-append position (Commanded event ∷ []) in
      let goes = goes_to position state here leads in
      let history = history_of id commands in
      let is : IsNext v e history (event_command event) (event_deed event) (event_response event) after
      = subst (IsRegisters v e history (event_command event)) makes.1 (registers-after v e limits history state (event_command event) goes.after) in
      let turn = turn_made v e limits history (event_command event) (event_deed event) (event_response event) after is in
      let stands = subst (λ h. AnswersTurn v e history (record { ask = event_command event; reply = Ok (event_response event) }) h) (sym (after_one v e [] commands event)) turn in
      inl (record {
        position = commands;
        after = commands ++ event ∷ [];
        result = Ok (event_response event);
        begins = commands_begin old.prefix position first;
        legal = (after, goes_on_by v e commands event state after goes is);
        answers = subst (λ c. AnswersTurn v e history (record { ask = c; reply = Ok (event_response event) }) (history_of id (commands ++ event ∷ []))) asked stands;
        replied = replied ∙ response_had event answer answered;
        more = subst (λ l. IsPrefix l last) there (begins_last new.prefix all_seen);
      })

  made_answers : (ask : Ask) → IsWrite ask → (command : Command Content Context) (answer : Answer) → IsMadeBy ask old new answer
      → ((event : VnodeEvent) → AsksEvent event ask → event_command event ≡ command) → reply ≡ answer_reply answer → Answer_to command
  made_answers ask write command answer made of_command replied = by made.event made.asked made.answered made.step made.seen where
    by : (entry : Entry) → EntryAsks entry ask → AnsweredBy entry answer → Makes made.state entry made.after → new.prefix ≡ made.position ++ entry ∷ [] → Answer_to command
    by (Commanded event) asked answered step seen =
        made_by command answer event made.position made.state made.after made.begins made.leads step answered seen (of_command event asked) replied
    by (Copied copy) asked answered step seen = absurd (subst IsWrite asked write)
    by (Closed number) asked answered step seen = absurd (subst IsWrite asked write)

  -- an error of the gate, which is no command
  of_gate : (command : Command Content Context) → IsGateError reply → Answer_to command
  of_gate command is = inr (is, begins_last old.prefix begins)

  -- a closed vnode says so, and a delete without context may have nothing to delete
  put_told : (put : PutAsk) (answer : Answer) → IsSaidOf (λ s. IsAnsweredUnchanged s (asks.Put put) answer) old new → reply ≡ answer_reply answer → Answer_to (AskPut (put_command put))
  put_told put answer said replied = elim said.says [
    | inl told ↦ absurd told.1
    | inr closed ↦ of_gate (AskPut (put_command put)) (inl (replied ∙ ap answer_reply closed.1))
  ]

  del_told : (del : DelAsk) (answer : Answer) → IsSaidOf (λ s. IsAnsweredUnchanged s (asks.Del del) answer) old new → reply ≡ answer_reply answer → Answer_to (AskDel (del_command del))
  del_told del answer said replied = elim said.says [
    | inl told ↦ said_answers (AskDel (del_command del)) (Ok DelDone) (λ s. IsAnsweredUnchanged s (asks.Del del) answer) said
        (λ history after. turn_told id.vnode id.last_epoch limits history said.state (AskDel (del_command del)) DelDone after told.1.1) (replied ∙ ap answer_reply told.1.0)
    | inr closed ↦ of_gate (AskDel (del_command del)) (inl (replied ∙ ap answer_reply closed.1))
  ]

  pub put_answers : (put : PutAsk) (came : AskOutcome Answer Refusal) → ComesOf (asks.Put put) old new came → reply ≡ outcome_reply came → Answer_to (AskPut (put_command put))
  put_answers put (Outcomes.Made answer) made replied = made_answers (asks.Put put) tt (AskPut (put_command put)) answer made (put_asked put) replied
  put_answers put (Outcomes.Told answer) said replied = put_told put answer said replied
  put_answers put (Outcomes.Refused refusal) said replied =
      said_answers (AskPut (put_command put)) (Err (number_of refusal)) _ said (λ history after. put_refused id.vnode id.last_epoch limits history said.state put refusal after said.says) replied
  put_answers put Outcomes.Moved moved replied = of_gate (AskPut (put_command put)) (inl replied)
  put_answers put Outcomes.Full full replied = of_gate (AskPut (put_command put)) (inr replied)

  pub del_answers : (del : DelAsk) (came : AskOutcome Answer Refusal) → ComesOf (asks.Del del) old new came → reply ≡ outcome_reply came → Answer_to (AskDel (del_command del))
  del_answers del (Outcomes.Made answer) made replied = made_answers (asks.Del del) tt (AskDel (del_command del)) answer made (del_asked del) replied
  del_answers del (Outcomes.Told answer) said replied = del_told del answer said replied
  del_answers del (Outcomes.Refused refusal) said replied =
      said_answers (AskDel (del_command del)) (Err (number_of refusal)) _ said (λ history after. del_refused id.vnode id.last_epoch limits history said.state del refusal after said.says) replied
  del_answers del Outcomes.Moved moved replied = of_gate (AskDel (del_command del)) (inl replied)
  del_answers del Outcomes.Full full replied = of_gate (AskDel (del_command del)) (inr replied)

  pub get_answers : (get : GetAsk) (quantity : Option Quantity) → Gets get old new reply quantity → Answer_to (AskGet (get_command get))
  get_answers get quantity (inl said, counted) = elim said.says [
    | inl shown ↦ said_answers (AskGet (get_command get)) (Ok (GetDone (get_reply said.state (get_command get)))) (RepliesToGet get reply) said
        (λ history after. turn_told id.vnode id.last_epoch limits history said.state (AskGet (get_command get)) (GetDone (get_reply said.state (get_command get))) after refl) shown.0
    | inr refused ↦ said_answers (AskGet (get_command get)) (Err no_memory) (RepliesToGet get reply) said (λ history after. inr (refl, refl)) refused.1.0
  ]
  get_answers get quantity (inr moved, counted) = of_gate (AskGet (get_command get)) (inl moved.0)
