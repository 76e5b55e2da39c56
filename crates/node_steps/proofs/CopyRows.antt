-- Schedules with copiers that a reader can follow by hand: each line of a copier where it is possible and where it isn't, a copier
-- beside a writer, and two copiers.
use Rattle.std.proofs.Common.{◌≡◌, [], ◌∷◌, ◌++◌, List, refl}
use Rattle.riak_msgs.specs.declared.Key.{Key}
use Rattle.node_steps.specs.World.{opening_world}
use Rattle.node_steps.specs.Steps.{Step, Diverts, Asks, Copies, CopiesFrom, Enters, Leaves, Marks, Takes, Puts, Looks, Publishes, Outcome, NotPossible, Happened, NotHeld, CopiedBack}
use Rattle.node_steps.proofs.Rows.{outcomes, k, get, put, does, stored}

-- a key that nobody wrote
abbrev j : Key
j = record { bucket_type = 100 ∷ []; bucket = 98 ∷ []; key = 106 ∷ [] }

-- the worker writes where the calls go
abbrev pub writes : List Step
writes = does 1 (Asks 0 put) ∷ does 1 Takes ∷ does 1 Looks ∷ does 1 Publishes ∷ does 1 Puts ∷ []

abbrev pub written : List Outcome
written = Happened ∷ Happened ∷ Happened ∷ stored ∷ Happened ∷ []

-- each line of a copier, and before and after it those that aren't possible; nothing is copied where nothing is diverted, nor from a
-- site that a schedule names
one_copy : outcomes (opening_world 1 2 1)
    (writes ++ does 1 (Copies 0 k) ∷ Diverts 0 ∷ does 1 (CopiesFrom 0 1 k) ∷ does 1 (Copies 1 k) ∷ writes
    ++ does 1 (Copies 0 k) ∷ does 1 (Copies 0 k) ∷ does 1 (Asks 0 get) ∷ does 1 Looks ∷ does 1 Takes ∷ does 1 Marks ∷ does 1 Leaves ∷ does 1 Enters
    ∷ does 1 Enters ∷ does 1 Takes ∷ does 1 Leaves ∷ does 1 Looks
    ∷ does 1 Looks ∷ does 1 Leaves ∷ does 1 Publishes ∷ does 1 Takes
    ∷ does 1 Publishes ∷ does 1 Puts ∷ does 1 Leaves ∷ does 1 Looks
    ∷ does 1 Looks ∷ does 1 Puts ∷ does 1 Publishes
    ∷ does 1 Publishes ∷ does 1 Leaves ∷ does 1 Puts
    ∷ does 1 Puts ∷ does 1 Takes ∷ does 1 Leaves ∷ does 1 Leaves ∷ [])
    ≡ written ++ NotPossible ∷ Happened ∷ NotPossible ∷ NotPossible ∷ written
    ++ Happened ∷ NotPossible ∷ NotPossible ∷ NotPossible ∷ NotPossible ∷ NotPossible ∷ NotPossible ∷ Happened
    ∷ NotPossible ∷ NotPossible ∷ NotPossible ∷ Happened
    ∷ NotPossible ∷ NotPossible ∷ NotPossible ∷ Happened
    ∷ NotPossible ∷ NotPossible ∷ NotPossible ∷ Happened
    ∷ NotPossible ∷ NotPossible ∷ CopiedBack
    ∷ NotPossible ∷ NotPossible ∷ Happened
    ∷ NotPossible ∷ NotPossible ∷ Happened ∷ NotPossible ∷ []
one_copy = refl

-- a key that the fallback doesn't hold: the copier is done, and only leaves
not_held : outcomes (opening_world 1 1 1)
    (writes ++ Diverts 0 ∷ does 1 (Copies 0 k) ∷ does 1 Enters ∷ does 1 Looks ∷ does 1 Looks ∷ does 1 Takes ∷ does 1 Publishes ∷ does 1 Puts ∷ does 1 Leaves ∷ does 1 Leaves ∷ [])
    ≡ written ++ Happened ∷ Happened ∷ Happened ∷ NotHeld ∷ NotPossible ∷ NotPossible ∷ NotPossible ∷ NotPossible ∷ Happened ∷ NotPossible ∷ []
not_held = refl

-- a copier beside a writer at the fallback: it doesn't enter while the writer has marked, nor while it holds the state; while it is inside the
-- writer doesn't take the state; and the writer is at the fallback again while the copier is at the primary, but doesn't take
copier_and_writer : outcomes (opening_world 1 2 1)
    (Diverts 0 ∷ writes
    ++ does 2 (Copies 0 k) ∷ does 1 (Asks 0 put) ∷ does 1 Marks ∷ does 2 Enters ∷ does 1 Takes ∷ does 2 Enters ∷ does 1 Looks ∷ does 1 Publishes ∷ does 1 Puts
    ∷ does 2 Enters ∷ does 1 (Asks 0 put) ∷ does 1 Takes ∷ does 2 Looks ∷ does 2 Takes ∷ does 1 Takes ∷ does 2 Looks ∷ does 2 Publishes ∷ does 1 Takes ∷ does 2 Puts
    ∷ does 1 Takes ∷ does 2 Leaves ∷ does 1 Takes ∷ [])
    ≡ Happened ∷ written
    ++ Happened ∷ Happened ∷ Happened ∷ NotPossible ∷ Happened ∷ NotPossible ∷ Happened ∷ stored ∷ Happened
    ∷ Happened ∷ Happened ∷ NotPossible ∷ Happened ∷ Happened ∷ NotPossible ∷ Happened ∷ CopiedBack ∷ NotPossible ∷ Happened
    ∷ NotPossible ∷ Happened ∷ Happened ∷ []
copier_and_writer = refl

-- two copiers are inside the fallback at once, and one after the other at the primary
two_copiers : outcomes (opening_world 1 2 1)
    (Diverts 0 ∷ writes
    ++ does 1 (Copies 0 k) ∷ does 2 (Copies 0 j) ∷ does 1 Enters ∷ does 2 Enters ∷ does 2 Looks ∷ does 1 Looks ∷ does 2 Leaves
    ∷ does 2 (Copies 0 k) ∷ does 2 Enters ∷ does 2 Looks ∷ does 1 Takes ∷ does 2 Takes ∷ does 1 Looks ∷ does 1 Publishes ∷ does 2 Takes ∷ does 1 Puts ∷ does 2 Takes
    ∷ does 1 Leaves ∷ does 2 Looks ∷ does 2 Publishes ∷ does 2 Puts ∷ does 2 Leaves ∷ [])
    ≡ Happened ∷ written
    ++ Happened ∷ Happened ∷ Happened ∷ Happened ∷ NotHeld ∷ Happened ∷ Happened
    ∷ Happened ∷ Happened ∷ Happened ∷ Happened ∷ NotPossible ∷ Happened ∷ CopiedBack ∷ NotPossible ∷ Happened ∷ Happened
    ∷ Happened ∷ Happened ∷ CopiedBack ∷ Happened ∷ Happened ∷ []
two_copiers = refl
