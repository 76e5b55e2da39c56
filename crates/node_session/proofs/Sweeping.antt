-- A sweep is a list of reaps that a vnode takes, one after another.
use Rattle.std.proofs.Common.{◌≡◌, ℕ, zero, suc, ◌≤◌, Bool, true, if◌then◌else◌, List, [], ◌∷◌, length, take, drop, Some, None, Ok, refl, sym, ap, subst, ◌∙◌, inl, arith}
use Rattle.std.specs.Prelude.{slice_get}
use Rattle.std.specs.List.{All}
use Rattle.std.specs.FinMap.Entries.{is_sorted}
use Rattle.std.proofs.lemmas.List.Elements.{All-nil, All-cons}
use Rattle.riak_msgs.specs.declared.Key.{Key}
use Rattle.riak_msgs.specs.Contents.{Content}
use Rattle.riak_msgs.specs.KeyOrder.{key_cmp}
use Rattle.sibling_register.specs.Answers.{AskReap}
use Rattle.sibling_register.specs.History.{Reap}
use Rattle.vnode_machine.specs.Machine.{State, holds_dead}
use Rattle.vnode_machine.specs.Dead.{dead_keys, first_dead, reaped, reaped_each, swept}
use Rattle.vnode_machine.specs.Replay.{History, IsWithinLimits, IsAfter}
use Rattle.vnode_machine.specs.Step.{ReapDone, ReapKept, Answered, Accepted}
use Rattle.vnode_machine.specs.Runs.{Turn, TakesTurn, TakesEach, reply_of as result_of, state_after_step}
use Rattle.vnode_machine.proofs.DeadKeys.{keys_sorted, dead_left, first_is_dead}
use Rattle.vnode_machine.proofs.RunLaw.{run_is_played}
use Rattle.node_session.specs.ByIndex.{IsReap}

-- the reap of a dead key
abbrev reap_turn : Key → Turn
reap_turn key = record { ask = AskReap key; reply = Ok ReapDone }

reap_taken : (state : State Content) (key : Key) → holds_dead state key ≡ true → TakesTurn state (reap_turn key) (reaped state key)
reap_taken state key dead = inl (
  sym (ap (λ (b : Bool). result_of (if b then Accepted Reap ReapDone (reaped state key) else Answered ReapKept)) dead),
  sym (ap (λ (b : Bool). state_after_step state (if b then Accepted Reap ReapDone (reaped state key) else Answered ReapKept)) dead),
)

-- the reaps of a sweep
pub record IsSweep (state : State Content) (budget : ℕ) : Type 0 where
  pub reaps : List Turn
  pub few : length reaps ≤ budget
  pub only : All IsReap reaps
  pub takes : TakesEach TakesTurn state reaps (swept state None budget)

module _ (vnode last_epoch : ℕ) (limits : IsWithinLimits vnode last_epoch) where
  -- the first dead key is forgotten, and then the others
  one_more : (budget : ℕ) (history : History) (state : State Content) (key : Key) (keys : List Key) → IsAfter vnode last_epoch history state
      → dead_keys state None ≡ key ∷ keys → ((history : History) (state : State Content) → IsAfter vnode last_epoch history state → IsSweep state budget)
      → IsSweep state (suc budget)
  one_more budget history state key keys after e sweep =
      let first : first_dead state None ≡ Some key = ap (λ (ks : List Key). slice_get ks 0) e in
      let sorted = ap (λ (s : State Content). is_sorted key_cmp s.keys) after.is ∙ keys_sorted vnode last_epoch history in
      let taken = reap_taken state key (first_is_dead state None key first) in
      let next = run_is_played vnode last_epoch history limits (reap_turn key ∷ []) state (reaped state key) after (reaped state key, taken, refl) in
      let rest = sweep next.history (reaped state key) next.after in
      let left : dead_keys (reaped state key) None ≡ keys = dead_left state key None sorted first ∙ ap (drop 1) e in
      let same : swept state None (suc budget) ≡ swept (reaped state key) None budget =
      ap (λ (ks : List Key). reaped_each state (take (suc budget) ks)) e ∙ ap (λ (ks : List Key). reaped_each (reaped state key) (take budget ks)) (sym left) in
      record {
        reaps = reap_turn key ∷ rest.reaps;
        few = omega (arith, rest.few);
        only = All-cons IsReap (reap_turn key) rest.reaps (key, refl) rest.only;
        takes = (reaped state key, taken, subst (λ (s : State Content). TakesEach TakesTurn (reaped state key) rest.reaps s) (sym same) rest.takes);
      }

  pub sweep_taken : (budget : ℕ) (history : History) (state : State Content) → IsAfter vnode last_epoch history state → IsSweep state budget
  sweep_taken zero history state after = record { reaps = []; few = omega arith; only = All-nil IsReap; takes = refl }
  sweep_taken (suc budget) history state after = by (dead_keys state None) refl (sweep_taken budget)
    where
      by : (keys : List Key) → dead_keys state None ≡ keys → ((history : History) (state : State Content) → IsAfter vnode last_epoch history state → IsSweep state budget)
          → IsSweep state (suc budget)
      by [] e sweep = record {
        reaps = [];
        few = omega arith;
        only = All-nil IsReap;
        takes = ap (λ (ks : List Key). reaped_each state (take (suc budget) ks)) e;
      }
      by (key ∷ keys) e sweep = one_more budget history state key keys after e sweep
