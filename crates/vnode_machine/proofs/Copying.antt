-- A copy that isn't stuck keeps a state sound, and so does a close.
use Rattle.std.proofs.Common.{◌≡◌, ℕ, ◌≤◌, Bool, true, false, ◌||◌, length, refl, sym, arith, subst}
use Rattle.std.specs.Prelude.{nat_lt, Option}
use Rattle.std.proofs.lemmas.Bool.Decides.{nat_tests}
use Rattle.riak_msgs.specs.declared.Key.{Key}
use Rattle.riak_msgs.specs.Contents.{Content}
use Rattle.riak_msgs.specs.KeyOrder.{key_eq}
use Rattle.sibling_register.specs.Refusals.{max_siblings}
use Rattle.actor_epoch.specs.Limits.{max_actors}
use Rattle.actor_epoch.specs.Contexts.{is_within_limits}
use Rattle.dvv_set.specs.Clocks.{DotState, sync}
use Rattle.vnode_machine.specs.Machine.{Stored, State, stored, clock_of, own_of}
use Rattle.vnode_machine.specs.Sound.{ArePairs, IsStoredClock, IsForm, IsFormed, IsSound}
use Rattle.vnode_machine.specs.Copying.{is_stuck, apply_copy, apply_close}
use Rattle.vnode_machine.proofs.Keys.{find_stored, sorted-put}
use Rattle.vnode_machine.proofs.Counters.{all-union}
use Rattle.vnode_machine.proofs.Rising.{rising-union, length-union}
use Rattle.vnode_machine.proofs.Forms.{own-formed, form-chosen}
use Rattle.vnode_machine.proofs.Formed.{known-pairs}

-- with a clock of the form in that has room, a clock stays of the form
pub clock-sync : (own other : DotState (Option Content)) → ArePairs own.known → IsStoredClock other → length (sync own other).known ≤ max_actors → IsStoredClock (sync own other)
clock-sync own other are is most = record {
  pairs = record {
    rising = rising-union own.known other.known is.pairs.rising;
    within = all-union is_within_limits own.known other.known are.within is.pairs.within;
  };
  some = length-union own.known other.known is.some;
  most = most;
}

module _ (state : State Content) (sound : IsSound state) where
  pub sound-copy : (key : Key) (clock : DotState (Option Content)) → IsStoredClock clock → is_stuck state key clock ≡ false → IsSound (apply_copy state key clock)
  sound-copy key clock is unstuck =
      let synced : DotState (Option Content) = sync (clock_of state key) clock in
      let now : Stored Content = record { own = own_of state key; clock = synced } in
      let few = room (nat_lt max_siblings (length synced.live)) (length synced.known) max_actors unstuck in
      let form : IsForm now = record {
        own = own-formed (stored state key) (sound.keys key);
        clock = clock-sync (clock_of state key) clock (known-pairs (stored state key) (sound.keys key)) is few;
      } in
      record {
        limits = sound.limits;
        keys = λ other. subst IsFormed (sym (find_stored other key now state.keys)) (form-chosen (key_eq key other) now (stored state other) form (sound.keys other));
        sorted = sorted-put key now state.keys sound.sorted;
      }
    where
      room : (a : Bool) (n most : ℕ) → (a || nat_lt most n) ≡ false → n ≤ most
      room true n most h = cc
      room false n most h = grind (arith, nat_tests)

  pub sound-close : (number : ℕ) → IsSound (apply_close state number)
  sound-close number = record { limits = sound.limits; keys = λ key. tt; sorted = refl }
