-- A put that the machine accepts: what it writes, and what it is answered.
use Rattle.std.proofs.Common.{◌≡◌, true, cond, refl, sym, ◌∙◌, ap, subst}
use Rattle.std.specs.Prelude.{List, Option, Some, None, option_map}
use Rattle.std.specs.FinMap.Entries.{find, put as insert_key}
use Rattle.riak_msgs.specs.declared.Key.{Key}
use Rattle.riak_msgs.specs.Contents.{Content}
use Rattle.riak_msgs.specs.declared.PutAsk.{PutAsk}
use Rattle.riak_msgs.specs.KeyOrder.{key_cmp}
use Rattle.sibling_register.specs.History.{Write}
use Rattle.sibling_register.specs.Answers.{AskPut}
use Rattle.actor_epoch.specs.declared.Actor.{Actor}
use Rattle.actor_epoch.specs.declared.Dot.{Dot}
use Rattle.actor_epoch.specs.Contexts.{is_well_formed}
use Rattle.actor_epoch.specs.Given.{Context, Malformed, Pairs, context_of, pairs_read}
use Rattle.dvv_set.specs.Clocks.{DotState, discard, event}
use Rattle.dvv_set.specs.Held.{IsWithin, known_after, known_with, without}
use Rattle.vnode_machine.specs.Asks.{put_command}
use Rattle.vnode_machine.specs.Machine.{State, Stored, stored, clock_of, actor_for, pairs_of, put_check, apply_operation, updated}
use Rattle.vnode_machine.specs.Step.{Accepted, PutDone, outcome, unless_refused}
use Rattle.vnode_machine.specs.Replies.{put_reply}
use Rattle.vnode_machine.proofs.Forms.{form-whole}
use Rattle.vnode_machine.proofs.Formed.{sound-next}
use Rattle.vnode_machine.proofs.Invariants.{clock_in}
use Rattle.vnode_machine.proofs.Keys.{find_stored, key_eq-refl}
use Rattle.vnode_machine.proofs.Seen.{form-within, without-pairs}
use Rattle.clock_store.specs.Keys.{Keys, written}
use Rattle.vnode_machine.specs.Sound.{IsForm, IsFormed, IsSound}
use Rattle.vnode_core.proofs.Sound.{known-at}
use Rattle.vnode_core.specs.Checks.{pairs_in}
use Rattle.vnode_core.specs.Replies.{reply_after}
use Rattle.vnode_core.proofs.Options.{pairs-given}
use Rattle.vnode_core.proofs.Previews.{known-event}

-- what is stored of a key is found
pub find-next : (key : Key) (s : Stored Content) (keys : Keys) → find key_cmp key (insert_key key_cmp key s keys) ≡ Some s
find-next key s keys = find_stored key key s keys ∙ ap (λ b. cond b (Some s) (find key_cmp key keys)) (key_eq-refl key)

pairs-read : (given : Option Context) → pairs_of given ≡ pairs_in (pairs_read given)
pairs-read None = refl
pairs-read (Some Malformed) = refl
pairs-read (Some (Pairs pairs)) = refl

-- a put is written as the machine has it
pub written-put : (state : State Content) → IsSound state → (put : PutAsk)
    → written state.keys put.key (pairs_read (context_of put.context)) (actor_for state put.key) (Some put.content) ≡ updated state put.key (pairs_of (context_of put.context)) (Some put.content)
written-put state is put =
    let own : Actor = actor_for state put.key in
    let clock : DotState (Option Content) = clock_of state put.key in
    ap (λ (m : DotState (Option Content)). insert_key key_cmp put.key (let s : Stored Content = record { own = Some own; clock = event own (Some put.content) m } in s) state.keys)
    (without-pairs (pairs_read (context_of put.context)) clock (known-at state is put.key).rising ∙ ap (λ ps. discard ps clock) (sym (pairs-read (context_of put.context))))

-- a put that the machine accepts
module _ (state : State Content) (is : IsSound state) (put : PutAsk) (accepted : put_check state (put_command put) ≡ None) where
  abbrev next : State Content
  next = apply_operation state put.key (context_of put.context) (Write put.content)

  pub steps-put : outcome state (AskPut (put_command put)) ≡ Accepted (Write put.content) (PutDone (put_reply next (put_command put))) next
  steps-put = ap (λ check. unless_refused check (Accepted (Write put.content) (PutDone (put_reply next (put_command put))) next)) accepted

  abbrev own : Actor
  own = actor_for state put.key

  abbrev clock : DotState (Option Content)
  clock = clock_of state put.key

  -- it is stored next
  abbrev next_stored : Stored Content
  next_stored = record { own = Some own; clock = event own (Some put.content) (discard (pairs_of (context_of put.context)) clock) }

  stored-next : stored next put.key ≡ Some next_stored
  stored-next = find-next put.key next_stored state.keys

  -- in the form
  form-put : IsForm next_stored
  form-put = subst IsFormed stored-next ((sound-next state is (AskPut (put_command put)) (Write put.content) (PutDone (put_reply next (put_command put))) next steps-put).keys put.key)

  -- so it is within the limits of its clock
  pub within-put : (seen : Option (List Dot)) → context_of put.context ≡ option_map Pairs seen → IsWithin clock.known seen own
  within-put seen given =
      form-within own (Some put.content) clock seen (known-at state is put.key).rising
      (subst (λ ps. IsForm (record { own = Some own; clock = event own (Some put.content) (discard ps clock) })) (ap pairs_of given ∙ pairs-given seen) form-put)

  module _ (seen : Option (List Dot)) (given : context_of put.context ≡ option_map Pairs seen) where
    after-is : event own (Some put.content) (without seen clock) ≡ next_stored.clock
    after-is =
        ap (λ (m : DotState (Option Content)). event own (Some put.content) m)
        (without-pairs seen clock (known-at state is put.key).rising ∙ ap (λ ps. discard ps clock) (sym (ap pairs_of given ∙ pairs-given seen)))

    -- what is known next is of the form
    pub form-after : is_well_formed (known_after own (known_with seen clock.known)) ≡ true
    form-after = ap is_well_formed (sym (known-event own (Some put.content) seen clock) ∙ ap (λ (m : DotState (Option Content)). m.known) after-is) ∙ form-whole next_stored form-put

    -- and the reply shows it
    pub reply-put : reply_after (event own (Some put.content) (without seen clock)) put ≡ put_reply next (put_command put)
    reply-put =
        ap (λ (m : DotState (Option Content)). reply_after m put) after-is
        ∙ ap (λ o. reply_after (clock_in o) put) (sym stored-next)
