-- Each step keeps a state sound, so every replay is: what is known of each key is of the form of a context.
use Rattle.std.proofs.Common.{◌≡◌, ℕ, ◌≤◌, Bool, true, false, not, ◌&&◌, cond, List, [], ◌∷◌, refl, sym, ◌∙◌, arith, subst}
use Rattle.std.specs.Prelude.{Option, Some, None, is_some, is_none, if◌then◌else◌}
use Rattle.std.specs.List.{list_any}
use Rattle.riak_msgs.specs.declared.Key.{Key}
use Rattle.riak_msgs.specs.Contents.{Content}
use Rattle.riak_msgs.specs.KeyOrder.{key_eq}
use Rattle.sibling_register.specs.History.{Operation, Write, Tombstone, Reap}
use Rattle.sibling_register.specs.Answers.{PutCommand, DelCommand, RegisterAsk, AskGet, AskPut, AskDel, AskReap}
use Rattle.sibling_register.specs.Refusals.{first_of}
use Rattle.sibling_register.specs.Siblings.{is_defined}
use Rattle.actor_epoch.specs.declared.Actor.{Actor}
use Rattle.actor_epoch.specs.declared.Dot.{Dot}
use Rattle.actor_epoch.specs.Limits.{max_epoch}
use Rattle.actor_epoch.specs.Contexts.{is_well_formed}
use Rattle.actor_epoch.specs.Given.{Context, Malformed, Pairs}
use Rattle.actor_epoch.proofs.Given.{context_of-encoding}
use Rattle.vnode_machine.specs.Machine.{Stored, State, opening, stored, clock_of, is_held, holds_dead, next_actor, is_bad_context, names_unissued_dot, has_too_many_siblings, has_too_many_actors, is_out_of_epochs, is_out_of_counters, room_checks, update_check, put_check, del_check, pairs_of, del_pairs, apply_operation}
use Rattle.vnode_machine.specs.Replay.{replay, AcceptsEvent, HasReplay, IsWithinLimits}
use Rattle.vnode_machine.specs.Sound.{ArePairs, IsForm, IsFormed, IsSound}
use Rattle.vnode_machine.specs.Step.{Response, DelDone, ReapDone, ReapKept, MachineOutcome, Answered, Accepted, unless_refused, outcome}
use Rattle.vnode_machine.specs.Laws.{ShownContextIsName}
use Rattle.vnode_machine.proofs.Keys.{find_stored, find_reaped, sorted-step}
use Rattle.vnode_machine.proofs.Invariants.{H, clock_in}
use Rattle.vnode_machine.proofs.Bases.{own_in, last_in}
use Rattle.vnode_machine.proofs.Updates.{next_in}
use Rattle.vnode_machine.proofs.Sights.{behind-next}
use Rattle.vnode_machine.proofs.Steps.{known}
use Rattle.vnode_machine.proofs.Mirrors.{held-same}
use Rattle.vnode_machine.proofs.Forms.{form-whole, form-parts, form-chosen, AreFit, room_left}
use Rattle.vnode_machine.proofs.Tests.{or_left, or_right}
use Rattle.std.proofs.lemmas.Bool.{not-false}

rooms : (bad crowded full epochs counters : Bool)
    → cond {A = Option ℕ} bad (Some 4) (cond crowded (Some 5) (cond full (Some 6) (cond epochs (Some 7) (cond counters (Some 8) None)))) ≡ None
    → (bad ≡ false) × (full ≡ false) × (epochs ≡ false) × (counters ≡ false)
rooms true crowded full epochs counters h = cc
rooms false true full epochs counters h = cc
rooms false false true epochs counters h = cc
rooms false false false true counters h = cc
rooms false false false false true h = cc
rooms false false false false false h = (refl, refl, refl, refl)

-- what is known of a stored key, or of an absent one, rises within its limits
pub known-pairs : (o : Option (Stored Content)) → IsFormed o → ArePairs (clock_in o).known
known-pairs None h = record { rising = refl; within = refl }
known-pairs (Some s) h = h.clock.pairs

-- a put that no check refuses is an accepted write
pub without_options : (bad a b c : Bool) (m i j k : ℕ) (rest : List (Bool × ℕ)) → first_of ((bad, m) ∷ (a, i) ∷ (b, j) ∷ (c, k) ∷ rest) ≡ None → first_of ((bad, m) ∷ rest) ≡ None
without_options true a b c m i j k rest h = cc
without_options false true b c m i j k rest h = cc
without_options false false true c m i j k rest h = cc
without_options false false false true m i j k rest h = cc
without_options false false false false m i j k rest h = h

-- each opening within limits is sound
pub sound-opening : (vnode last_epoch : ℕ) → IsWithinLimits vnode last_epoch → IsSound (opening vnode last_epoch)
sound-opening vnode last_epoch within = record { limits = within; keys = λ key. tt; sorted = refl }

module _ (state : State Content) (sound : IsSound state) where
  -- so is what an accepted event leads to
  module _ (at : Key) where
    abbrev before : Option (Stored Content)
    before = stored state at

    abbrev own : Actor
    own = own_in (next_actor state) before

    fit_put : (given : Option Context) → is_bad_context state at given ≡ false → AreFit own before (pairs_of given)
    fit_put None h = record { behind = omega arith; are = record { rising = refl; within = refl } }
    fit_put (Some Malformed) h = cc
    fit_put (Some (Pairs pairs)) h = record {
      behind = behind-next state at pairs (or_right (not (is_well_formed pairs)) (list_any (names_unissued_dot state at) pairs) h);
      are = form-parts pairs (not-false (is_well_formed pairs) (or_left (not (is_well_formed pairs)) (list_any (names_unissued_dot state at) pairs) h));
    }

    fit_del : (given : Option Context) → is_bad_context state at given ≡ false → AreFit own before (del_pairs state at given)
    fit_del None h = record { behind = omega arith; are = known-pairs before (sound.keys at) }
    fit_del (Some Malformed) h = cc
    fit_del (Some (Pairs pairs)) h = fit_put (Some (Pairs pairs)) h

    abbrev next : List Dot → Option Content → Stored Content
    next pairs value = next_in own pairs value before

    next_fits : (given : Option Context) (pairs : List Dot) (value : Option Content) → (is_bad_context state at given ≡ false → AreFit own before pairs)
        → update_check state at given pairs ≡ None → IsForm (next pairs value) × (last_in state.last_epoch before ≤ max_epoch)
    next_fits given pairs value fit h =
        let r = rooms (is_bad_context state at given) (has_too_many_siblings state at pairs) (has_too_many_actors state at pairs) (is_out_of_epochs state at) (is_out_of_counters state at) h in
        room_left state.vnode state.last_epoch sound.limits pairs value before (sound.keys at) (fit r.0) r.1 r.2 r.3

    updated : (pairs : List Dot) (value : Option Content) (look : Key → Option (Stored Content)) → ((key : Key) → look key ≡ cond (key_eq at key) (Some (next pairs value)) (stored state key))
        → IsForm (next pairs value) → (key : Key) → IsFormed (look key)
    updated pairs value look found h key = subst IsFormed (sym (found key)) (form-chosen (key_eq at key) (next pairs value) (stored state key) h (sound.keys key))

    left : (b : Bool) (o : Option (Stored Content)) → IsFormed o → IsFormed (cond b None o)
    left true o h = tt
    left false o h = h

    pub sound-step : (given : Option Context) (operation : Operation Content) → AcceptsEvent state at given operation → IsSound (apply_operation state at given operation)
    sound-step given (Write content) h =
        let fits = next_fits given (pairs_of given) (Some content) (fit_put given) h in
        record {
          limits = (sound.limits.0, fits.1);
          keys = updated (pairs_of given) (Some content) (stored (apply_operation state at given (Write content))) (λ key. find_stored key at _ state.keys) fits.0;
          sorted = sorted-step state at given (Write content) sound.sorted;
        }
    sound-step None Tombstone h =
        let fits = next_fits None (del_pairs state at None) None (fit_del None) h.1 in
        record {
          limits = (sound.limits.0, fits.1);
          keys = updated (del_pairs state at None) None (stored (apply_operation state at None Tombstone)) (λ key. find_stored key at _ state.keys) fits.0;
          sorted = sorted-step state at None Tombstone sound.sorted;
        }
    sound-step (Some context) Tombstone h =
        let fits = next_fits (Some context) (pairs_of (Some context)) None (fit_del (Some context)) h in
        record {
          limits = (sound.limits.0, fits.1);
          keys = updated (pairs_of (Some context)) None (stored (apply_operation state at (Some context) Tombstone)) (λ key. find_stored key at _ state.keys) fits.0;
          sorted = sorted-step state at (Some context) Tombstone sound.sorted;
        }
    sound-step None Reap h = record {
      limits = sound.limits;
      keys = λ key. subst IsFormed (sym (find_reaped at key state.keys)) (left (key_eq at key) (stored state key) (sound.keys key));
      sorted = sorted-step state at None Reap sound.sorted;
    }
    sound-step (Some context) Reap h = absurd h

  -- and so each command that is accepted
  pub sound-put : (put : PutCommand Content Context) → put_check state put ≡ None → IsSound (apply_operation state put.key put.context (Write put.value))
  sound-put put h = sound-step put.key put.context (Write put.value) (without_options (is_bad_context state put.key put.context) _ _ _ 4 1 3 2 (room_checks state put.key (pairs_of put.context)) h)

  pub sound-del : (del : DelCommand Context) → (is_none del.context && not (is_held state del.key)) ≡ false → del_check state del ≡ None
      → IsSound (apply_operation state del.key del.context Tombstone)
  sound-del del does h = sound-step del.key del.context Tombstone (accepts del.context does h)
    where
      held : (b : Bool) → (true && not b) ≡ false → b ≡ true
      held true h = refl
      held false h = cc

      accepts : (given : Option Context) → (is_none given && not (is_held state del.key)) ≡ false → update_check state del.key given (del_pairs state del.key given) ≡ None
          → AcceptsEvent state del.key given Tombstone
      accepts None does h = (held (is_held state del.key) does, h)
      accepts (Some context) does h = h

  pub sound-reap : (key : Key) → holds_dead state key ≡ true → IsSound (apply_operation state key None Reap)
  sound-reap key dead = sound-step key None Reap dead

  pub sound-next : (command : RegisterAsk Content Context) (operation : Operation Content) (response : Response) (after : State Content)
      → outcome state command ≡ Accepted operation response after → IsSound after
  sound-next (AskGet get) operation response after h = cc
  sound-next (AskPut put) operation response after h = by (put_check state put) _ _ (sound-put put) h
    where
      by : (o : Option ℕ) (reply : Response) (made : State Content) → (o ≡ None → IsSound made)
          → unless_refused o (Accepted (Write put.value) reply made) ≡ Accepted operation response after → IsSound after
      by None reply made sound h = let same : made ≡ after = cc in subst IsSound same (sound refl)
      by (Some number) reply made sound h = cc
  sound-next (AskDel del) operation response after h = by (is_none del.context && not (is_held state del.key)) (del_check state del) _ (sound-del del) h
    where
      by : (idle : Bool) (o : Option ℕ) (made : State Content) → (idle ≡ false → o ≡ None → IsSound made)
          → (let r : MachineOutcome = if idle then Answered DelDone else unless_refused o (Accepted Tombstone DelDone made) in r) ≡ Accepted operation response after → IsSound after
      by true o made sound h = cc
      by false None made sound h = let same : made ≡ after = cc in subst IsSound same (sound refl refl)
      by false (Some number) made sound h = cc
  sound-next (AskReap key) operation response after h = by (holds_dead state key) _ (sound-reap key) h
    where
      by : (dead : Bool) (made : State Content) → (dead ≡ true → IsSound made)
          → (let r : MachineOutcome = if dead then Accepted Reap ReapDone made else Answered ReapKept in r) ≡ Accepted operation response after → IsSound after
      by true made sound h = let same : made ≡ after = cc in subst IsSound same (sound refl)
      by false made sound h = cc

-- each state that comes after some history is sound
pub sound_after : (v l : ℕ) → IsWithinLimits v l → (history : H) → HasReplay v l history → IsSound (replay v l history)
sound_after v l within [] replays = sound-opening v l within
sound_after v l within (event ∷ before) replays =
    sound-step (replay v l before) (sound_after v l within before replays.0) event.key event.context event.operation replays.1

module _ (v l : ℕ) where
  -- where a key is defined, what is known of it is of the form
  pub known-of-form : IsWithinLimits v l → (history : H) → HasReplay v l history → (key : Key) → is_defined history key ≡ true
      → is_well_formed (clock_of (replay v l history) key).known ≡ true
  known-of-form within history replays key defined =
      by (stored (replay v l history) key) (held-same v l history (known v l history replays) key ∙ defined) ((sound_after v l within history replays).keys key)
    where
      by : (o : Option (Stored Content)) → is_some o ≡ true → IsFormed o → is_well_formed (clock_in o).known ≡ true
      by None h f = cc
      by (Some s) h f = form-whole s f

pub shown_context : (v l : ℕ) (history : H) → ShownContextIsName v l history
shown_context v l history limits replays key defined = context_of-encoding (clock_of (replay v l history) key).known (known-of-form v l limits history replays key defined)
