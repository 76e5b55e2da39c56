-- The contexts that are shown: each is the name of the position where it is shown.
use Rattle.std.proofs.Common.{◌≡◌, ◌⊎◌, inl, inr, ℕ, Bool, true, false, not, ◌&&◌, ◌||◌, cond, List, [], ◌∷◌, refl, sym, ◌∙◌, ap}
use Rattle.std.specs.Prelude.{Option, Some, None, is_none, is_some}
use Rattle.riak_msgs.specs.declared.Key.{Key}
use Rattle.riak_msgs.specs.Contents.{Content}
use Rattle.riak_msgs.specs.KeyOrder.{key_eq}
use Rattle.riak_msgs.specs.declared.Shown.{Shown}
use Rattle.riak_msgs.specs.declared.GetReply.{GetReply}
use Rattle.riak_msgs.specs.declared.PutReply.{PutReply}
use Rattle.sibling_register.specs.History.{Event, Write, Tombstone, Reap, is_update}
use Rattle.sibling_register.specs.Siblings.{is_defined}
use Rattle.sibling_register.specs.Answers.{RegisterAsk, AskGet, AskPut, AskDel, AskReap, PutCommand, DelCommand}
use Rattle.actor_epoch.specs.Given.{Context, context_of}
use Rattle.vnode_machine.specs.Machine.{State, is_held, holds_dead, matches_clock, put_check, del_check, apply_operation, stored}
use Rattle.vnode_machine.specs.Replay.{History, replay, naming, HasReplay, IsWithinLimits}
use Rattle.vnode_machine.specs.Replies.{contents_in, context_in, put_reply}
use Rattle.vnode_machine.specs.Contexts.{WasShown, GivesShown, SawPosition}
use Rattle.vnode_machine.specs.Step.{Response, DelDone, PutDone, ReapDone, ReapKept, MachineOutcome, Refused, Answered, Accepted, unless_refused, outcome}
use Rattle.vnode_machine.specs.Registers.{key_of}
use Rattle.vnode_machine.proofs.Keys.{find_stored, key_eq-refl}
use Rattle.vnode_machine.proofs.Steps.{known}
use Rattle.vnode_machine.proofs.Mirrors.{held-same}
use Rattle.vnode_machine.proofs.Formed.{shown_context}
use Rattle.vnode_machine.proofs.Showing.{shown_name_positions}
use Rattle.node_steps.specs.Steps.{is_reap}
use Rattle.node_steps.specs.Contexts.{context_bytes}
use Rattle.node_steps.specs.Schedules.{Begins}
use Rattle.node_steps.proofs.Beginnings.{begins-itself, begins-trans}
use Rattle.std.proofs.lemmas.Option.{same_Some as same_context}

-- the context is the name of a position of the key
pub record IsName (id epoch : ℕ) (history : History) (key : Key) (context : Context) : Type 0 where
  pub position : History
  pub earlier : Begins position history
  pub defined : is_defined position key ≡ true
  pub is : context ≡ (naming {V = Content} id epoch).name position key

pub name-later : (id epoch : ℕ) (history later : History) (key : Key) (context : Context) → Begins history later → IsName id epoch history key context → IsName id epoch later key context
name-later id epoch history later key context p n = record { position = n.position; earlier = begins-trans n.position history later n.earlier p; defined = n.defined; is = n.is }

-- the bytes are none, or those of the context of a held key
abbrev pub AreHeld : State Content → Key → List ℕ → Type 0
AreHeld state key bytes = (bytes ≡ []) ⊎ ((is_held state key ≡ true) × (bytes ≡ context_in state key))

held_by : (held dead with_context current : Bool) (whole : GetReply) (context : List ℕ) → whole.context ≡ context
    → let reply : GetReply =
    cond (not held) (record { contents = []; context = []; unchanged = false })
    (cond dead (record { contents = []; context = cond with_context context []; unchanged = false })
    (cond current (record { contents = []; context = []; unchanged = true }) whole)) in
    (reply.context ≡ []) ⊎ ((held ≡ true) × (reply.context ≡ context))
held_by false dead with_context current whole context h = inl refl
held_by true true true current whole context h = inr (refl, refl)
held_by true true false current whole context h = inl refl
held_by true false with_context true whole context h = inl refl
held_by true false with_context false whole context h = inr (refl, h)

-- a key is held after a write of it
held_after : (state : State Content) (key : Key) (given : Option Context) (content : Content) → is_held (apply_operation state key given (Write content)) key ≡ true
held_after state key given content =
    ap is_some (find_stored key key _ state.keys) ∙ chosen (key_eq key key) _ (stored state key) (key_eq-refl key)
  where
    chosen : {X : Type 0} (b : Bool) (x : X) (o : Option X) → b ≡ true → is_some (cond b (Some x) o) ≡ true
    chosen true x o h = refl
    chosen false x o h = cc

-- what a response shows: of an answer in the state itself, of an accepted command in the state after it
abbrev pub ShowsHeld : State Content → RegisterAsk Content Context → MachineOutcome → Type 0
ShowsHeld state ask (Refused number) = Unit {0}
ShowsHeld state ask (Answered response) = AreHeld state (key_of ask) (context_bytes response)
ShowsHeld state ask (Accepted operation response next) = AreHeld next (key_of ask) (context_bytes response)

module _ (state : State Content) where
  put_shows : (put : PutCommand Content Context) (check : Option ℕ)
      → let next : State Content = apply_operation state put.key put.context (Write put.value) in
      ShowsHeld state (AskPut put) (unless_refused check (Accepted (Write put.value) (PutDone (put_reply next put)) next))
  put_shows put (Some number) = tt
  put_shows put None =
      let next : State Content = apply_operation state put.key put.context (Write put.value) in
      by (put.return_body || put.return_head) next (held_after state put.key put.context put.value) (contents_in next put.key (not put.return_body))
    where
      by : (b : Bool) (next : State Content) → is_held next put.key ≡ true → (contents : List Shown)
          → let reply : PutReply = cond b (record { contents = contents; context = context_in next put.key }) (record { contents = []; context = [] }) in
          AreHeld next put.key reply.context
      by true next h contents = inr (h, refl)
      by false next h contents = inl refl

  del_shows : (del : DelCommand Context) (b : Bool) (check : Option ℕ)
      → ShowsHeld state (AskDel del) (cond b (Answered DelDone) (unless_refused check (Accepted Tombstone DelDone (apply_operation state del.key del.context Tombstone))))
  del_shows del true check = inl refl
  del_shows del false (Some number) = tt
  del_shows del false None = inl refl

  reap_shows : (key : Key) (b : Bool) → ShowsHeld state (AskReap key) (cond b (Accepted Reap ReapDone (apply_operation state key None Reap)) (Answered ReapKept))
  reap_shows key true = inl refl
  reap_shows key false = inl refl

  pub outcome_shows : (ask : RegisterAsk Content Context) → ShowsHeld state ask (outcome state ask)
  outcome_shows (AskGet get) =
      held_by (is_held state get.key) (holds_dead state get.key) get.deletedvclock (matches_clock state get.key get.if_modified)
      (record { contents = contents_in state get.key get.head; context = context_in state get.key; unchanged = false }) (context_in state get.key) refl
  outcome_shows (AskPut put) = put_shows put (put_check state put)
  outcome_shows (AskDel del) = del_shows del (is_none del.context && not (is_held state del.key)) (del_check state del)
  outcome_shows (AskReap key) = reap_shows key (holds_dead state key)

-- what is accepted of a put or a delete is a write or a tombstone
abbrev pub updates : MachineOutcome → Bool
updates (Refused number) = true
updates (Answered response) = true
updates (Accepted operation response next) = is_update operation

pub accepts_update : (state : State Content) (ask : RegisterAsk Content Context) → is_reap ask ≡ false → updates (outcome state ask) ≡ true
accepts_update state (AskGet get) h = refl
accepts_update state (AskPut put) h =
    let next : State Content = apply_operation state put.key put.context (Write put.value) in by (put_check state put) (PutDone (put_reply next put)) next
  where
    by : (o : Option ℕ) (response : Response) (next : State Content) → updates (unless_refused o (Accepted (Write put.value) response next)) ≡ true
    by None response next = refl
    by (Some number) response next = refl
accepts_update state (AskDel del) h =
    by (is_none del.context && not (is_held state del.key)) (del_check state del) (apply_operation state del.key del.context Tombstone)
  where
    by : (b : Bool) (o : Option ℕ) (next : State Content) → updates (cond b (Answered DelDone) (unless_refused o (Accepted Tombstone DelDone next))) ≡ true
    by true o next = refl
    by false None next = refl
    by false (Some number) next = refl
accepts_update state (AskReap key) h = cc

none_given : (context : Context) → context_of [] ≡ Some context → ⊥
unfolding context_of
none_given context h = cc

-- what is shown of a held key is the name of the whole history
pub held_shows : (id epoch : ℕ) (history : History) (key : Key) (bytes : List ℕ) (context : Context) → IsWithinLimits id epoch → HasReplay id epoch history
    → AreHeld (replay id epoch history) key bytes → context_of bytes ≡ Some context → context ≡ (naming {V = Content} id epoch).name history key
held_shows id epoch history key bytes context limits replays (inl e) decodes = absurd (none_given context (ap context_of (sym e) ∙ decodes))
held_shows id epoch history key bytes context limits replays (inr h) decodes =
    let defined : is_defined history key ≡ true = sym (held-same id epoch history (known id epoch history replays) key) ∙ h.0 in
    same_context context ((naming {V = Content} id epoch).name history key)
    (sym decodes ∙ ap context_of h.1 ∙ shown_context id epoch history limits replays key defined)

-- and of a position
pub held_is_name : (id epoch : ℕ) (history : History) (key : Key) (bytes : List ℕ) (context : Context) → IsWithinLimits id epoch → HasReplay id epoch history
    → AreHeld (replay id epoch history) key bytes → context_of bytes ≡ Some context → IsName id epoch history key context
held_is_name id epoch history key bytes context limits replays (inl e) decodes = absurd (none_given context (ap context_of (sym e) ∙ decodes))
held_is_name id epoch history key bytes context limits replays (inr h) decodes =
    let defined : is_defined history key ≡ true = sym (held-same id epoch history (known id epoch history replays) key) ∙ h.0 in
    record {
      position = history;
      earlier = begins-itself history;
      defined = defined;
      is = held_shows id epoch history key bytes context limits replays (inr h) decodes;
    }

-- so it was shown there, as the machine has it
was_shown : (id epoch : ℕ) (history : History) (key : Key) (context : Context) → IsName id epoch history key context → WasShown id epoch history key context
was_shown id epoch history key context n = record { later = n.earlier.0; position = n.position; is = n.earlier.1; defined = n.defined; shown = n.is }

module _ (id epoch : ℕ) (key : Key) where
  -- each context that an event of the key in this history gave is the name of a position before it
  abbrev pub NamesEach : History → Type 0
  NamesEach history =
      (before : History) (event : Event Content Context) (context : Context) → Begins (event ∷ before) history
      → event.key ≡ key → event.context ≡ Some context → IsName id epoch before key context

  gives_shown : (history whole : History) → Begins history whole → NamesEach whole → GivesShown id epoch history key
  gives_shown [] whole p names = tt
  gives_shown (event ∷ before) whole p names = (
    gives_shown before whole (begins-trans before (event ∷ before) whole (event ∷ [], refl) p) names,
    λ k context e. was_shown id epoch before key context (names before event context p k e),
  )

  -- and its event saw what was there
  pub saw_position : (history before : History) (event : Event Content Context) (context : Context) → HasReplay id epoch history → NamesEach history
      → Begins (event ∷ before) history → event.key ≡ key → event.context ≡ Some context → SawPosition id epoch before event context
  saw_position history before event context replays names p k e =
      shown_name_positions id epoch history replays key (gives_shown history history (begins-itself history) names) p.0 before event context p.1 k e
