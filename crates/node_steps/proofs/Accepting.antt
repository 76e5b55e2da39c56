-- What the machine accepts, whatever had led to the state: its checks hold, and it makes the state after the operation.
use Rattle.std.proofs.Common.{◌≡◌, ℕ, Bool, true, false, cond, not, ◌&&◌, refl, ◌∙◌, ap, subst}
use Rattle.std.proofs.lemmas.Bool.{not-false}
use Rattle.std.specs.Prelude.{Option, Some, None, is_none}
use Rattle.riak_msgs.specs.declared.Key.{Key}
use Rattle.riak_msgs.specs.Contents.{Content}
use Rattle.sibling_register.specs.History.{Operation, Write, Tombstone, Reap}
use Rattle.sibling_register.specs.Refusals.{bad_context, match_found, not_found, modified}
use Rattle.sibling_register.specs.Answers.{RegisterAsk, AskGet, AskPut, AskDel, AskReap}
use Rattle.actor_epoch.specs.Given.{Context}
use Rattle.vnode_machine.specs.Machine.{State, has_value, is_held, holds_dead, is_bad_context, matches_clock, room_checks, pairs_of, del_pairs, update_check, put_check, del_check, apply_operation}
use Rattle.vnode_machine.specs.Replay.{AcceptsEvent}
use Rattle.vnode_machine.specs.Replies.{put_reply}
use Rattle.vnode_machine.specs.Step.{Response, PutDone, DelDone, ReapDone, ReapKept, Answered, Accepted, unless_refused, outcome as outcome_of_ask}
use Rattle.vnode_machine.specs.Registers.{key_of, context_in_ask}
use Rattle.vnode_machine.proofs.Formed.{without_options}

-- by the first check that holds
accepted_by : (state : State Content) (key : Key) (given : Option Context) (made operation : Operation Content) (said response : Response) (next : State Content) (check : Option ℕ)
    → unless_refused check (Accepted made said (apply_operation state key given made)) ≡ Accepted operation response next → next ≡ apply_operation state key given operation
accepted_by state key given made operation said response next None h =
    let same : made ≡ operation = cc in
    let later : next ≡ apply_operation state key given made = cc in
    later ∙ ap (λ o. apply_operation state key given o) same
accepted_by state key given made operation said response next (Some number) h = cc

pub accepted_is : (state : State Content) (ask : RegisterAsk Content Context) (operation : Operation Content) (response : Response) (next : State Content)
    → outcome_of_ask state ask ≡ Accepted operation response next → next ≡ apply_operation state (key_of ask) (context_in_ask ask) operation
accepted_is state (AskGet get) operation response next h = cc
accepted_is state (AskPut put) operation response next h =
    accepted_by state put.key put.context (Write put.value) operation (PutDone (put_reply (apply_operation state put.key put.context (Write put.value)) put)) response next (put_check state put) h
accepted_is state (AskDel del) operation response next h = by (is_none del.context && not (is_held state del.key)) h
  where
    by : (b : Bool) → cond b (Answered DelDone) (unless_refused (del_check state del) (Accepted Tombstone DelDone (apply_operation state del.key del.context Tombstone)))
        ≡ Accepted operation response next → next ≡ apply_operation state del.key del.context operation
    by true h = cc
    by false h = accepted_by state del.key del.context Tombstone operation DelDone response next (del_check state del) h
accepted_is state (AskReap key) operation response next h = by (holds_dead state key) h
  where
    by : (b : Bool) → cond b (Accepted Reap ReapDone (apply_operation state key None Reap)) (Answered ReapKept) ≡ Accepted operation response next
        → next ≡ apply_operation state key None operation
    by true h = accepted_by state key None Reap operation ReapDone response next None h
    by false h = cc

refused_none : (check : Option ℕ) (made operation : Operation Content) (said response : Response) (then next : State Content)
    → unless_refused check (Accepted made said then) ≡ Accepted operation response next → (check ≡ None) × (made ≡ operation)
refused_none None made operation said response then next h = (refl, cc)
refused_none (Some number) made operation said response then next h = cc

-- what comes of a command that is accepted was to be accepted
pub was_accepted : (state : State Content) (ask : RegisterAsk Content Context) (operation : Operation Content) (response : Response) (next : State Content)
    → outcome_of_ask state ask ≡ Accepted operation response next → AcceptsEvent state (key_of ask) (context_in_ask ask) operation
was_accepted state (AskGet get) operation response next h = cc
was_accepted state (AskPut put) operation response next h =
    let made = apply_operation state put.key put.context (Write put.value) in
    let both = refused_none (put_check state put) (Write put.value) operation (PutDone (put_reply made put)) response made next h in
    subst (λ o. AcceptsEvent state put.key put.context o) both.1 (without_options (is_bad_context state put.key put.context)
    (put.if_none_match && has_value state put.key)
    ((put.if_not_modified && not put.if_none_match) && not (has_value state put.key))
    ((put.if_not_modified && not put.if_none_match) && not (matches_clock state put.key put.context))
    bad_context match_found not_found modified (room_checks state put.key (pairs_of put.context)) both.0)
was_accepted state (AskDel del) operation response next h = by_test (is_none del.context && not (is_held state del.key)) refl h
  where
    made : State Content
    made = apply_operation state del.key del.context Tombstone

    by_context : (given : Option Context) → (is_none given && not (is_held state del.key)) ≡ false → update_check state del.key given (del_pairs state del.key given) ≡ None
        → AcceptsEvent state del.key given Tombstone
    by_context None e check = (not-false (is_held state del.key) e, check)
    by_context (Some context) e check = check

    by_test : (b : Bool) → (is_none del.context && not (is_held state del.key)) ≡ b
        → cond b (Answered DelDone) (unless_refused (del_check state del) (Accepted Tombstone DelDone made)) ≡ Accepted operation response next → AcceptsEvent state del.key del.context operation
    by_test true e h = cc
    by_test false e h =
        let both = refused_none (del_check state del) Tombstone operation DelDone response made next h in
        subst (λ o. AcceptsEvent state del.key del.context o) both.1 (by_context del.context e both.0)
was_accepted state (AskReap key) operation response next h = by_test (holds_dead state key) refl h
  where
    by_test : (b : Bool) → holds_dead state key ≡ b → cond b (Accepted Reap ReapDone (apply_operation state key None Reap)) (Answered ReapKept) ≡ Accepted operation response next
        → AcceptsEvent state key None operation
    by_test true e h =
        let both = refused_none None Reap operation ReapDone response (apply_operation state key None Reap) next h in
        subst (λ o. AcceptsEvent state key None o) both.1 e
    by_test false e h = cc
