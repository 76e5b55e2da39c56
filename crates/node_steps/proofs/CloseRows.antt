-- Schedules with closers that a reader can follow by hand: a whole hand-off, and a second one behind it; who is turned away from a
-- closed fallback; each line of a closer where it is possible and where it isn't.
use Rattle.std.proofs.Common.{◌≡◌, [], ◌∷◌, ◌++◌, List, false, refl}
use Rattle.std.specs.Prelude.{Ok}
use Rattle.vnode_machine.specs.Step.{GetDone}
use Rattle.node_steps.specs.World.{opening_world}
use Rattle.node_steps.specs.Steps.{Step, Diverts, Asks, Copies, Closes, ClosesFrom, Enters, Leaves, Marks, Takes, Puts, Looks, Publishes, Outcome, NotPossible, Happened, Replied, CopiedBack, Elsewhere, LeftThere}
use Rattle.node_steps.proofs.Rows.{outcomes, k, v, get, put, does, nothing, stored, shows}
use Rattle.node_steps.proofs.CopyRows.{writes, written}

-- "v" from both sides: of vnode 65536 by epoch 1, and of vnode 98304 by epoch 1
abbrev shows_both : Outcome
shows_both = Replied (Ok (GetDone (record {
  contents = record { content = v; deleted = false } ∷ record { content = v; deleted = false } ∷ [];
  context = 2 ∷ 0 ∷ 0 ∷ 0 ∷ 0 ∷ 0 ∷ 1 ∷ 0 ∷ 0 ∷ 0 ∷ 0 ∷ 0 ∷ 1 ∷ 0 ∷ 0 ∷ 0 ∷ 0 ∷ 0 ∷ 0 ∷ 0 ∷ 1
      ∷ 0 ∷ 0 ∷ 0 ∷ 0 ∷ 0 ∷ 1 ∷ 128 ∷ 0 ∷ 0 ∷ 0 ∷ 0 ∷ 1 ∷ 0 ∷ 0 ∷ 0 ∷ 0 ∷ 0 ∷ 0 ∷ 0 ∷ 1 ∷ [];
  unchanged = false;
})))

-- "v" of the second fallback: of vnode 98304 again, by epoch 2
abbrev shows_second : Outcome
shows_second = Replied (Ok (GetDone (record {
  contents = record { content = v; deleted = false } ∷ [];
  context = 2 ∷ 0 ∷ 0 ∷ 0 ∷ 0 ∷ 0 ∷ 1 ∷ 128 ∷ 0 ∷ 0 ∷ 0 ∷ 0 ∷ 2 ∷ 0 ∷ 0 ∷ 0 ∷ 0 ∷ 0 ∷ 0 ∷ 0 ∷ 1 ∷ [];
  unchanged = false;
})))

-- the second worker copies the key back, and closes
abbrev pub copies : List Step
copies = does 2 (Copies 0 k) ∷ does 2 Enters ∷ does 2 Looks ∷ does 2 Takes ∷ does 2 Looks ∷ does 2 Publishes ∷ does 2 Puts ∷ does 2 Leaves ∷ []

abbrev copied : List Outcome
copied = Happened ∷ Happened ∷ Happened ∷ Happened ∷ Happened ∷ CopiedBack ∷ Happened ∷ Happened ∷ []

abbrev pub closes : List Step
closes = does 2 (Closes 0) ∷ does 2 Takes ∷ does 2 Enters ∷ does 2 Looks ∷ does 2 Publishes ∷ does 2 Leaves ∷ does 2 Puts ∷ []

abbrev closed : List Outcome
closed = Happened ∷ Happened ∷ Happened ∷ Happened ∷ Happened ∷ Happened ∷ Happened ∷ []

-- both write, the fallback's comes back, and a get shows both; the next fallback goes on behind the epochs of the first
whole_hand_off : outcomes (opening_world 1 2 1)
    (writes ++ Diverts 0 ∷ writes ++ copies ++ closes
    ++ does 1 (Asks 0 get) ∷ does 1 Enters ∷ does 1 Looks ∷ does 1 Leaves
    ∷ Diverts 0 ∷ does 1 (Asks 0 get) ∷ does 1 Enters ∷ does 1 Looks ∷ does 1 Leaves ∷ writes
    ++ does 1 (Asks 0 get) ∷ does 1 Enters ∷ does 1 Looks ∷ does 1 Leaves ∷ [])
    ≡ written ++ Happened ∷ written ++ copied ++ closed
    ++ Happened ∷ Happened ∷ shows_both ∷ Happened
    ∷ Happened ∷ Happened ∷ Happened ∷ nothing ∷ Happened ∷ written
    ++ Happened ∷ Happened ∷ shows_second ∷ Happened ∷ []
whole_hand_off = refl

-- a closer's lines where a key isn't copied, and those that aren't possible between; nothing is closed where nothing is diverted, nor a
-- site that a schedule names
key_left : outcomes (opening_world 1 2 1)
    (does 2 (Closes 0) ∷ Diverts 0 ∷ writes ++ does 2 (ClosesFrom 0 1) ∷ does 2 (Closes 1)
    ∷ does 2 (Closes 0) ∷ does 2 (Closes 0) ∷ does 2 (Asks 0 get) ∷ does 2 Enters ∷ does 2 Looks ∷ does 2 Marks ∷ does 2 Puts ∷ does 2 Publishes ∷ does 2 Takes
    ∷ does 2 Takes ∷ does 2 Looks ∷ does 2 Puts ∷ does 2 Leaves ∷ does 2 Publishes ∷ does 2 Enters
    ∷ does 2 Enters ∷ does 2 Puts ∷ does 2 Leaves ∷ does 2 Publishes ∷ does 2 Looks
    ∷ does 2 Looks ∷ does 2 Publishes ∷ does 2 Puts ∷ does 2 Leaves
    ∷ does 2 Leaves ∷ does 2 Looks ∷ does 2 Puts ∷ does 2 Puts ∷ [])
    ≡ NotPossible ∷ Happened ∷ written ++ NotPossible ∷ NotPossible
    ∷ Happened ∷ NotPossible ∷ NotPossible ∷ NotPossible ∷ NotPossible ∷ NotPossible ∷ NotPossible ∷ NotPossible ∷ Happened
    ∷ NotPossible ∷ NotPossible ∷ NotPossible ∷ NotPossible ∷ NotPossible ∷ Happened
    ∷ NotPossible ∷ NotPossible ∷ NotPossible ∷ NotPossible ∷ LeftThere 1
    ∷ NotPossible ∷ NotPossible ∷ NotPossible ∷ Happened
    ∷ NotPossible ∷ NotPossible ∷ Happened ∷ NotPossible ∷ []
key_left = refl

-- a get and a put that were asked before the close: each finds the fallback closed, and goes to the primary; until then, and while the
-- closer is at work, nothing is diverted
turned_away : outcomes (opening_world 1 3 1)
    (Diverts 0 ∷ does 1 (Asks 0 get) ∷ does 3 (Asks 0 put)
    ∷ does 2 (Closes 0) ∷ does 2 Takes ∷ does 1 Enters ∷ does 3 Takes ∷ does 2 Enters ∷ does 2 Looks ∷ does 2 Publishes ∷ Diverts 0
    ∷ does 2 Leaves ∷ Diverts 0 ∷ does 2 Puts ∷ Diverts 0
    ∷ does 1 Enters ∷ does 1 Looks ∷ does 1 Looks ∷ does 1 Publishes ∷ Diverts 0 ∷ does 1 Leaves
    ∷ does 3 Takes ∷ does 3 Looks ∷ does 3 Looks ∷ does 3 Publishes ∷ does 3 Puts
    ∷ does 3 Takes ∷ does 3 Looks ∷ does 3 Publishes ∷ does 3 Puts ∷ does 1 Enters ∷ does 1 Looks ∷ Diverts 0 ∷ does 1 Leaves ∷ Diverts 0 ∷ [])
    ≡ Happened ∷ Happened ∷ Happened
    ∷ Happened ∷ Happened ∷ NotPossible ∷ NotPossible ∷ Happened ∷ Happened ∷ Happened ∷ NotPossible
    ∷ Happened ∷ NotPossible ∷ Happened ∷ NotPossible
    ∷ Happened ∷ Elsewhere ∷ NotPossible ∷ NotPossible ∷ NotPossible ∷ Happened
    ∷ Happened ∷ Elsewhere ∷ NotPossible ∷ NotPossible ∷ Happened
    ∷ Happened ∷ Happened ∷ stored ∷ Happened ∷ Happened ∷ shows ∷ NotPossible ∷ Happened ∷ Happened ∷ []
turned_away = refl

-- a copier and a second closer that were sent before the close find the fallback closed, and are done
found_closed : outcomes (opening_world 1 3 1)
    (Diverts 0 ∷ does 1 (Copies 0 k) ∷ does 3 (Closes 0) ∷ closes
    ++ does 1 Enters ∷ does 1 Looks ∷ does 1 Takes ∷ does 1 Leaves ∷ does 1 (Copies 0 k) ∷ does 1 (Closes 0)
    ∷ does 3 Takes ∷ does 3 Enters ∷ does 3 Looks ∷ does 3 Publishes ∷ Diverts 0 ∷ does 3 Leaves ∷ does 3 Puts ∷ Diverts 0 ∷ [])
    ≡ Happened ∷ Happened ∷ Happened ∷ closed
    ++ Happened ∷ Elsewhere ∷ NotPossible ∷ Happened ∷ NotPossible ∷ NotPossible
    ∷ Happened ∷ Happened ∷ Elsewhere ∷ NotPossible ∷ NotPossible ∷ Happened ∷ Happened ∷ Happened ∷ []
found_closed = refl

-- a closer beside a copier: it doesn't take the fallback's state while the copier is inside, nor look at the primary while another holds
-- the state there
closer_and_copier : outcomes (opening_world 1 3 1)
    (Diverts 0 ∷ writes ++ does 1 (Copies 0 k) ∷ does 2 (Closes 0) ∷ does 1 Enters ∷ does 2 Takes ∷ does 1 Looks ∷ does 1 Takes ∷ does 2 Takes ∷ does 1 Looks ∷ does 1 Publishes
    ∷ does 1 Puts ∷ does 2 Takes ∷ does 1 Leaves ∷ does 2 Takes ∷ does 3 (Copies 0 k) ∷ does 3 Enters ∷ does 2 Enters ∷ does 2 Looks ∷ does 3 Enters ∷ does 2 Publishes
    ∷ does 3 Enters ∷ does 2 Leaves ∷ does 2 Puts ∷ does 3 Enters ∷ does 3 Looks ∷ [])
    ≡ Happened ∷ written ++ Happened ∷ Happened ∷ Happened ∷ NotPossible ∷ Happened ∷ Happened ∷ NotPossible ∷ Happened ∷ CopiedBack
    ∷ Happened ∷ NotPossible ∷ Happened ∷ Happened ∷ Happened ∷ NotPossible ∷ Happened ∷ Happened ∷ NotPossible ∷ Happened
    ∷ NotPossible ∷ Happened ∷ Happened ∷ Happened ∷ Elsewhere ∷ []
closer_and_copier = refl
