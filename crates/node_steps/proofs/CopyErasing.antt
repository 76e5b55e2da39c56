-- A copier's steps do not look at ids, epochs that vnodes were opened behind, histories and what workers have seen of them.
use Rattle.std.proofs.Common.{◌≡◌, ℕ, zero, suc, Bool, true, false, [], refl, ap}
use Rattle.std.specs.Prelude.{Option, Some, None, is_some, option_map}
use Rattle.riak_msgs.specs.declared.Key.{Key}
use Rattle.riak_msgs.specs.Contents.{Content}
use Rattle.dvv_set.specs.Clocks.{DotState}
use Rattle.vnode_machine.specs.Copying.{is_stuck}
use Rattle.vnode_machine.specs.Machine.{State, is_held}
use Rattle.copy_laws.specs.Joining.{Log}
use Rattle.node_steps.specs.World.{Word, Open, Taken, CopyStage, CopyAsked, CopyInside, CopyLooked, CopyTaken, CopyDone, Phase, Idle, Copying, Brought, nothing_brought}
use Rattle.node_steps.specs.Steps.{Action, CopiesFrom, Enters, Leaves, Takes, Puts, Looks, Publishes, WorkerTurn, finds_by, finds_open, syncs_by, turn_of}
use Rattle.node_steps.specs.Erased.{IsShown, erase_vnode}
use Rattle.node_steps.proofs.Inside.{vnode_in}

abbrev pub erase_turn : WorkerTurn → WorkerTurn
erase_turn turn = record { phase = turn.phase; seen = []; vnode = erase_vnode turn.vnode; outcome = turn.outcome }

module _ (id home epoch : ℕ) (seen : Log) (brought : Brought) (log : Log) (place : State Content) where
  -- the turn in the erased world is the erased turn
  abbrev pub IsErased : Word → Action → Phase → Type 0
  IsErased word action phase =
      option_map erase_turn (turn_of seen brought (vnode_in id home epoch log place word) action phase)
      ≡ option_map erase_turn (turn_of [] nothing_brought (erase_vnode (vnode_in id home epoch log place word)) action phase)

  pub copy_asks : (word : Word) (own site : ℕ) (key : Key) → IsErased word (CopiesFrom own site key) Idle
  copy_asks (Open n mark) own site key = refl
  copy_asks Taken own site key = refl

  pub copy_enters : (word : Word) (own site : ℕ) (key : Key) (stage : CopyStage) → IsErased word Enters (Copying own site key stage)
  copy_enters (Open n false) own site key CopyAsked = refl
  copy_enters (Open n true) own site key CopyAsked = refl
  copy_enters Taken own site key CopyAsked = refl
  copy_enters word own site key CopyInside = refl
  copy_enters word own site key (CopyLooked clock) = refl
  copy_enters word own site key (CopyTaken clock hand None) = refl
  copy_enters word own site key (CopyTaken clock hand (Some next)) = refl
  copy_enters word own site key (CopyDone None) = refl
  copy_enters word own site key (CopyDone (Some hand)) = refl

  pub copy_leaves : (word : Word) (own site : ℕ) (key : Key) (stage : CopyStage) → IsErased word Leaves (Copying own site key stage)
  copy_leaves word own site key CopyAsked = refl
  copy_leaves word own site key CopyInside = refl
  copy_leaves word own site key (CopyLooked clock) = refl
  copy_leaves word own site key (CopyTaken clock hand None) = refl
  copy_leaves word own site key (CopyTaken clock hand (Some next)) = refl
  copy_leaves (Open n mark) own site key (CopyDone None) = refl
  copy_leaves Taken own site key (CopyDone None) = refl
  copy_leaves word own site key (CopyDone (Some hand)) = refl

  pub copy_takes : (word : Word) (own site : ℕ) (key : Key) (stage : CopyStage) → IsErased word Takes (Copying own site key stage)
  copy_takes word own site key CopyAsked = refl
  copy_takes word own site key CopyInside = refl
  copy_takes (Open zero mark) own site key (CopyLooked clock) = refl
  copy_takes (Open (suc n) mark) own site key (CopyLooked clock) = refl
  copy_takes Taken own site key (CopyLooked clock) = refl
  copy_takes word own site key (CopyTaken clock hand None) = refl
  copy_takes word own site key (CopyTaken clock hand (Some next)) = refl
  copy_takes word own site key (CopyDone None) = refl
  copy_takes word own site key (CopyDone (Some hand)) = refl

  pub copy_puts : (word : Word) (own site : ℕ) (key : Key) (stage : CopyStage) → IsErased word Puts (Copying own site key stage)
  copy_puts word own site key CopyAsked = refl
  copy_puts word own site key CopyInside = refl
  copy_puts word own site key (CopyLooked clock) = refl
  copy_puts word own site key (CopyTaken clock hand None) = refl
  copy_puts word own site key (CopyTaken clock hand (Some next)) = refl
  copy_puts word own site key (CopyDone None) = refl
  copy_puts word own site key (CopyDone (Some hand)) = refl

  found : (n : ℕ) (mark : Bool) (own site : ℕ) (key : Key) (held : Bool)
      → erase_turn (finds_by seen brought (vnode_in id home epoch log place (Open n mark)) own site key held) ≡ erase_turn (finds_by [] nothing_brought (erase_vnode (vnode_in id home epoch log place (Open n mark))) own site key held)
  found n mark own site key true = refl
  found n mark own site key false = refl

  found_open : (n : ℕ) (mark : Bool) (own site : ℕ) (key : Key) (closed : Bool)
      → erase_turn (finds_open seen brought (vnode_in id home epoch log place (Open n mark)) own site key closed) ≡ erase_turn (finds_open [] nothing_brought (erase_vnode (vnode_in id home epoch log place (Open n mark))) own site key closed)
  found_open n mark own site key true = refl
  found_open n mark own site key false = found n mark own site key (is_held place key)

  synced : (word : Word) (own site : ℕ) (key : Key) (clock : DotState (Option Content)) (hand : State Content) (stuck : Bool)
      → erase_turn (syncs_by seen brought (vnode_in id home epoch log place word) own site key clock hand stuck) ≡ erase_turn (syncs_by [] nothing_brought (erase_vnode (vnode_in id home epoch log place word)) own site key clock hand stuck)
  synced (Open n mark) own site key clock hand true = refl
  synced (Open n mark) own site key clock hand false = refl
  synced Taken own site key clock hand true = refl
  synced Taken own site key clock hand false = refl

  pub copy_looks : (word : Word) (own site : ℕ) (key : Key) (stage : CopyStage) → IsShown word (Copying own site key stage) → IsErased word Looks (Copying own site key stage)
  copy_looks word own site key CopyAsked p = refl
  copy_looks (Open n mark) own site key CopyInside p = ap (λ t. Some t) (found_open n mark own site key (is_some place.closed))
  copy_looks Taken own site key CopyInside p = absurd p
  copy_looks word own site key (CopyLooked clock) p = refl
  copy_looks word own site key (CopyTaken clock hand None) p = ap (λ t. Some t) (synced word own site key clock hand (is_stuck hand key clock))
  copy_looks word own site key (CopyTaken clock hand (Some next)) p = refl
  copy_looks word own site key (CopyDone None) p = refl
  copy_looks word own site key (CopyDone (Some hand)) p = refl

  pub copy_publishes : (word : Word) (own site : ℕ) (key : Key) (stage : CopyStage) → IsErased word Publishes (Copying own site key stage)
  copy_publishes word own site key CopyAsked = refl
  copy_publishes word own site key CopyInside = refl
  copy_publishes word own site key (CopyLooked clock) = refl
  copy_publishes word own site key (CopyTaken clock hand None) = refl
  copy_publishes (Open n mark) own site key (CopyTaken clock hand (Some next)) = refl
  copy_publishes Taken own site key (CopyTaken clock hand (Some next)) = refl
  copy_publishes word own site key (CopyDone None) = refl
  copy_publishes word own site key (CopyDone (Some hand)) = refl
