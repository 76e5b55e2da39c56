-- What a reap leaves of a vnode, and that it is the register's.
use Rattle.std.proofs.Common.{◌≡◌, ℕ, Bool, true, false, refl, sym, ◌∙◌, ap, subst, drop}
use Rattle.std.specs.Prelude.{Option, Some, None, is_some, if◌then◌else◌}
use Rattle.std.specs.Option.{option_map_or}
use Rattle.riak_msgs.specs.declared.Key.{Key}
use Rattle.riak_msgs.specs.Contents.{Content}
use Rattle.sibling_register.specs.History.{Reap}
use Rattle.sibling_register.specs.Answers.{AskReap}
use Rattle.vnode_machine.specs.Dead.{dead_keys, first_dead, has_dead, is_from, reaped}
use Rattle.vnode_machine.specs.Machine.{State, counted, holds_dead, has_value}
use Rattle.vnode_machine.specs.Runs.{state_after_step}
use Rattle.vnode_machine.specs.Step.{ReapDone, ReapKept, MachineOutcome, Answered, Accepted, outcome}
use Rattle.vnode_machine.proofs.DeadKeys.{dead_left, first_is_dead}
use Rattle.vnode_machine.proofs.Tests.{and_right}
use denote.Enum.Bare.{sameb}
use Rattle.clock_store.specs.contracts.store.Reaped.{the_type}
use Rattle.clock_store.specs.declared.store.Reaped.{Reaped}
use Rattle.clock_store.specs.declared.store.Reaped.TheVariants.{Gone, Kept, Absent}
use Rattle.vnode_core.specs.declared.ask.Ask.TheVariants.{Reap as ReapAsk}
use Rattle.vnode_machine.specs.Sound.{IsSound}
use Rattle.vnode_machine.proofs.Formed.{sound-next}
use Rattle.vnode_core.specs.declared.ask.Answer.TheVariants as answers
use Rattle.vnode_core.specs.Plans.{IsAcceptedStep, AcceptsAsk, Registers, Steps, first_reap}
use Rattle.clock_store.specs.Forgetting.{holding, reap_result, after_reap, after_first_reap}
use Rattle.vnode_core.specs.Reaping.{reap_outcome}
use Rattle.clock_store.specs.Keys.{Keys}
use Rattle.vnode_core.specs.Vnodes.{state_of, VnodeFields}
use Rattle.vnode_core.proofs.Sound.{registers-view}

-- a reap, by its result and the state after it
module _ (state : State Content) (key : Key) (result : Reaped) (after : State Content) (exact : result ≡ reap_result state key) (leads : after ≡ after_reap state key) where
  outcome-is : outcome state (AskReap key) ≡ reap_outcome result after
  outcome-is = by (holds_dead state key) (has_value state key) (reaped state key) ∙ (λ i. reap_outcome (sym exact i) (sym leads i))
    where
      by : (dead value : Bool) (next : State Content)
          → (let o : MachineOutcome = if dead then Accepted Reap ReapDone next else Answered ReapKept in o)
          ≡ reap_outcome (if dead then Gone else if value then Kept else Absent) (state_after_step state (if dead then Accepted Reap ReapDone next else Answered ReapKept))
      by true value next = refl
      by false true next = refl
      by false false next = refl

  pub register-reap : IsSound state → (seen : State Content) → state ≡ seen → Registers seen (AskReap key) (reap_outcome result after)
  register-reap is seen same = registers-view state seen same is (AskReap key) (reap_outcome result after) outcome-is

  pub sound-reap : IsSound state → IsSound after
  sound-reap is = subst IsSound (sym leads) (by (holds_dead state key) refl)
    where
      by : (dead : Bool) → holds_dead state key ≡ dead → IsSound (state_after_step state (if dead then Accepted Reap ReapDone (reaped state key) else Answered ReapKept))
      by true h = sound-next state is (AskReap key) Reap ReapDone (reaped state key) (ap (λ b. if b then Accepted Reap ReapDone (reaped state key) else Answered ReapKept) h)
      by false h = is

-- the fields of a vnode that has forgotten a key
pub gone-is : (v : VnodeFields) (key : Key) (reaps : ℕ) (keys : Keys) → reaps ≡ counted v.reaps → Gone ≡ reap_result (holding v.store.keys) key
    → keys ≡ (after_reap (holding v.store.keys) key).keys → record (state_of v) { reaps = reaps; keys = keys } ≡ after_reap (state_of v) key
gone-is v key reaps keys n gone k = by (holds_dead (state_of v) key) (has_value (state_of v) key) gone k
  where
    by : (dead value : Bool) → Gone ≡ (if dead then Gone else if value then Kept else Absent)
        → keys ≡ (state_after_step (holding v.store.keys) (if dead then Accepted Reap ReapDone (reaped (holding v.store.keys) key) else Answered ReapKept)).keys
        → record (state_of v) { reaps = reaps; keys = keys } ≡ state_after_step (state_of v) (if dead then Accepted Reap ReapDone (reaped (state_of v) key) else Answered ReapKept)
    by true value gone k = λ i. record (state_of v) { reaps = n i; keys = k i }
    by false true gone k = cc
    by false false gone k = cc

-- and of one that has forgotten none
pub kept-is : (v : VnodeFields) (key : Key) (keys : Keys) (result : Reaped) → (result ≡ Gone → ⊥) → result ≡ reap_result (holding v.store.keys) key
    → keys ≡ (after_reap (holding v.store.keys) key).keys → record (state_of v) { keys = keys } ≡ after_reap (state_of v) key
kept-is v key keys result not_gone exact k = by (holds_dead (state_of v) key) (has_value (state_of v) key) exact k
  where
    by : (dead value : Bool) → result ≡ (if dead then Gone else if value then Kept else Absent)
        → keys ≡ (state_after_step (holding v.store.keys) (if dead then Accepted Reap ReapDone (reaped (holding v.store.keys) key) else Answered ReapKept)).keys
        → record (state_of v) { keys = keys } ≡ state_after_step (state_of v) (if dead then Accepted Reap ReapDone (reaped (state_of v) key) else Answered ReapKept)
    by true value e k = absurd (not_gone e)
    by false value e k = λ i. record (state_of v) { keys = k i }

-- a reap of the least dead key
module _ (state : State Content) (is : IsSound state) (from : Option Key) (key : Key) (first : first_dead state from ≡ Some key) where
  dead-now : holds_dead state key ≡ true
  dead-now = and_right (is_from from key) (holds_dead state key) (first_is_dead state from key first)

  pub accepts-first : outcome state (AskReap key) ≡ Accepted Reap ReapDone (reaped state key)
  accepts-first = ap (λ b. if b then Accepted Reap ReapDone (reaped state key) else Answered ReapKept) dead-now

  pub sound-first : IsSound (reaped state key)
  sound-first = sound-next state is (AskReap key) Reap ReapDone (reaped state key) accepts-first

  pub left-first : dead_keys (reaped state key) from ≡ drop 1 (dead_keys state from)
  left-first = dead_left state key from is.sorted first

  pub register-first : (after : State Content) → after ≡ reaped state key → (seen : State Content) → state ≡ seen
      → (other : Key) → first_dead seen from ≡ Some other → Registers seen (AskReap other) (Accepted Reap ReapDone after)
  register-first after leads seen sees other h =
      let e : Some key ≡ Some other = sym first ∙ ap (λ state. first_dead state from) sees ∙ h in
      let same : key ≡ other = cc in
      subst (λ key. Registers seen (AskReap key) (Accepted Reap ReapDone after)) same
      (registers-view state seen sees is (AskReap key) (Accepted Reap ReapDone after) (accepts-first ∙ ap (λ next. Accepted Reap ReapDone next) (sym leads)))

-- the fields of a vnode that has forgotten the least dead key
pub record IsFirstGone (state : State Content) (from : Option Key) (after : State Content) : Type 0 where
  pub key : Key
  pub first : first_dead state from ≡ Some key
  pub is : after ≡ reaped state key

-- where none was found there is none
pub none-found : (v : VnodeFields) (from : Option Key) → false ≡ has_dead (holding v.store.keys) from → (seen : State Content) → state_of v ≡ seen → (key : Key) → first_dead seen from ≡ Some key → ⊥
none-found v from none seen sees key h =
    let some : is_some (first_dead (state_of v) from) ≡ true = ap (λ o. is_some o) (ap (λ state. first_dead state from) sees ∙ h) in
    let no : false ≡ true = none ∙ some in cc

pub first-gone : (v : VnodeFields) (from : Option Key) (reaps : ℕ) (keys : Keys) → reaps ≡ counted v.reaps → true ≡ has_dead (holding v.store.keys) from
    → keys ≡ (after_first_reap (holding v.store.keys) from).keys → IsFirstGone (state_of v) from (record (state_of v) { reaps = reaps; keys = keys })
first-gone v from reaps keys n found k = by (first_dead (state_of v) from) refl found k
  where
    by : (o : Option Key) → first_dead (state_of v) from ≡ o → true ≡ is_some o → keys ≡ (option_map_or (reaped (holding v.store.keys)) o (holding v.store.keys)).keys
        → IsFirstGone (state_of v) from (record (state_of v) { reaps = reaps; keys = keys })
    by None e found k = cc
    by (Some key) e found k = record { key = key; first = e; is = λ i. record (state_of v) { reaps = n i; keys = k i } }

-- a result that is compared with gone
pub gone-same : (result : Reaped) → sameb the_type result Gone ≡ true → result ≡ Gone
gone-same Gone h = refl
gone-same Kept h = cc
gone-same Absent h = cc

pub gone-not : (result : Reaped) → sameb the_type result Gone ≡ false → result ≡ Gone → ⊥
gone-not Gone h e = cc
gone-not Kept h e = cc
gone-not Absent h e = cc

-- a reap that is planned, by its result
module _ (state : State Content) (key : Key) where
  pub is-accepted : Gone ≡ reap_result state key → IsAcceptedStep (outcome state (AskReap key))
  is-accepted e = subst IsAcceptedStep (sym (outcome-is state key Gone (after_reap state key) e refl)) tt

  -- one that is accepted forgets its key
  pub steps-reap : (result : Reaped) (after : State Content) → AcceptsAsk state (ReapAsk key) → result ≡ reap_result state key → after ≡ after_reap state key
      → Steps state (ReapAsk key) (answers.Reaped result) after
  steps-reap Gone after accepted e leads = (accepted.0, (refl, outcome-is state key Gone after e leads))
  steps-reap Kept after accepted e leads = absurd (subst IsAcceptedStep (outcome-is state key Kept after e leads) accepted.1)
  steps-reap Absent after accepted e leads = absurd (subst IsAcceptedStep (outcome-is state key Absent after e leads) accepted.1)

-- a reap of the first dead key that is planned
module _ (state : State Content) (is : IsSound state) (from : Option Key) where
  pub some-first : has_dead state from ≡ true → first_reap state from ≡ Accepted Reap ReapDone (after_first_reap state from)
  some-first h = by (first_dead state from) refl h
    where
      by : (o : Option Key) → first_dead state from ≡ o → is_some o ≡ true
          → option_map_or (λ key. outcome state (AskReap key)) o (Answered ReapKept) ≡ Accepted Reap ReapDone (option_map_or (reaped state) o state)
      by None e h = cc
      by (Some key) e h = accepts-first state is from key e

  pub accepts-some : true ≡ has_dead state from → IsAcceptedStep (first_reap state from)
  accepts-some h = subst IsAcceptedStep (sym (some-first (sym h))) tt

  pub found-first : IsAcceptedStep (first_reap state from) → has_dead state from ≡ true
  found-first a = by (first_dead state from) a
    where
      by : (o : Option Key) → IsAcceptedStep (option_map_or (λ key. outcome state (AskReap key)) o (Answered ReapKept)) → is_some o ≡ true
      by None a = absurd a
      by (Some key) a = refl

-- there is no dead key where none is found
pub none-first : (state : State Content) (from : Option Key) → has_dead state from ≡ false → first_dead state from ≡ None
none-first state from h = by (first_dead state from) h
  where
    by : (o : Option Key) → is_some o ≡ false → o ≡ None
    by None h = refl
    by (Some key) h = cc
