-- Copies that are ready, and what making one leaves.
use Rattle.std.proofs.Common.{◌≡◌, ◌∙◌, ℕ, ◌≤◌, Bool, true, false, ◌||◌, length, refl, sym, ap, subst, arith}
use Rattle.std.specs.Prelude.{not, nat_lt, Option, Some, None, IsTrue, option_and_then}
use Rattle.std.specs.Option.{option_map_or}
use Rattle.std.specs.FinMap.Entries.{put}
use Rattle.std.proofs.lemmas.Bool.Decides.{nat_tests}
use Rattle.riak_msgs.specs.declared.Key.{Key}
use Rattle.riak_msgs.specs.Contents.{Content}
use Rattle.sibling_register.specs.Refusals.{max_siblings}
use Rattle.actor_epoch.specs.Limits.{max_actors}
use Rattle.dvv_set.specs.Clocks.{DotState, sync}
use Rattle.riak_msgs.specs.KeyOrder.{key_cmp}
use Rattle.actor_epoch.specs.declared.Actor.{Actor}
use Rattle.vnode_machine.specs.Machine.{State, Stored, stored, clock_of}
use Rattle.clock_store.specs.Keys.{Keys, synced}
use Rattle.vnode_machine.specs.Copying.{IsStoredClock, is_stuck, apply_copy}
use Rattle.vnode_machine.specs.Sound.{IsSound}
use Rattle.vnode_core.specs.declared.ask.Ask.TheVariants.{Copy}
use Rattle.vnode_core.specs.declared.ask.Answer.TheVariants.{Copied}
use Rattle.vnode_core.specs.KeyCopies.{KeyCopyView}
use Rattle.vnode_core.specs.Plans.{AcceptsAsk}
use Rattle.vnode_core.proofs.Sound.{sound-after}

-- a copy that isn't stuck leaves few enough actors
pub few-actors : (state : State Content) (key : Key) (clock : DotState (Option Content)) → is_stuck state key clock ≡ false → length (sync (clock_of state key) clock).known ≤ max_actors
few-actors state key clock h = few (nat_lt max_siblings (length (sync (clock_of state key) clock).live)) (length (sync (clock_of state key) clock).known) max_actors h
  where
    few : (a : Bool) (n most : ℕ) → (a || nat_lt most n) ≡ false → n ≤ most
    few true n most h = cc
    few false n most h = grind (arith, nat_tests)

not-stuck : (b : Bool) → b ≡ false → IsTrue (not b)
not-stuck true h = cc
not-stuck false h = refl

-- it is taken, by what its key and its clock were lent as, and by a vnode with the same keys
pub takes-copy : (state : State Content) (keys : Keys) (copy : KeyCopyView) (key : Key) (clock : DotState (Option Content))
    → key ≡ copy.key → clock ≡ copy.clock → IsStoredClock copy.clock → state.closed ≡ None → is_stuck state key clock ≡ false → keys ≡ state.keys
    → AcceptsAsk (record state { keys = keys }) (Copy copy)
takes-copy state keys copy key clock of-key of-clock form opened unstuck same =
    let free : is_stuck state copy.key copy.clock ≡ false = (λ i. is_stuck state (sym of-key i) (sym of-clock i)) ∙ unstuck in
    subst (λ (keys : Keys). AcceptsAsk (record state { keys = keys }) (Copy copy)) (sym same) (opened, (form, not-stuck (is_stuck state copy.key copy.clock) free))

-- a copy that is taken keeps the state sound
pub sound-copied : (state : State Content) → IsSound state → (copy : KeyCopyView) → AcceptsAsk state (Copy copy) → IsSound (apply_copy state copy.key copy.clock)
sound-copied state is copy accepted =
    sound-after state is (Copy copy) Copied (apply_copy state copy.key copy.clock) (accepted.0, (refl, accepted.1, refl))

own-alike : (o : Option (Stored Content)) → option_map_or (λ s. s.own) o None ≡ option_and_then (λ s. s.own) o
own-alike None = refl
own-alike (Some s) = refl

-- a store syncs a key as the machine does
pub synced-is : (state : State Content) (key : Key) (clock : DotState (Option Content)) → synced state.keys key clock ≡ (apply_copy state key clock).keys
synced-is state key clock =
    ap (λ (own : Option Actor). put key_cmp key (let s : Stored Content = record { own = own; clock = sync (clock_of state key) clock } in s) state.keys) (own-alike (stored state key))
