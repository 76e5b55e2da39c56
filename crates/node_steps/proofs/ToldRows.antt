-- A schedule with a return that a reader can follow by hand: behind it a put without context is asked at the primary.
use Rattle.std.proofs.Common.{◌≡◌, ℕ, List, [], ◌∷◌, ◌++◌, length, refl}
use Rattle.copy_laws.specs.Sides.{Partition, Number, siblings_at}
use Rattle.node_steps.specs.World.{World, opening_world, log_at, front_at}
use Rattle.node_steps.specs.Steps.{Step, Diverts, Asks, Takes, Looks, Publishes, after, outcome}
use Rattle.node_steps.proofs.Rows.{k, put, does, stored}
use Rattle.node_steps.proofs.CopyRows.{writes}
use Rattle.node_steps.proofs.CloseRows.{copies, closes}

-- the world after steps that are taken in this order
abbrev after_all : World → List Step → World
after_all w [] = w
after_all w (step ∷ steps) = after_all (after w step) steps

-- vnode 65536 and its fallbacks, diverted once
abbrev partition : Partition
partition = record { primary = 65536; last_epoch = 0; fallback = 98304; opened = λ n. 0; diversions = 1 }

abbrev on : ℕ → ℕ → Number
on side n = record { side = side; number = n }

-- the first worker writes "v" at the primary and at the fallback; the second copies it back, and closes
abbrev back : World
back = after_all (opening_world 1 2 1) (writes ++ Diverts 0 ∷ writes ++ copies ++ closes)

-- then the first is asked a put there, and looks
abbrev looked : World
looked = after_all back (does 1 (Asks 0 put) ∷ does 1 Takes ∷ does 1 Looks ∷ [])

-- the log has its write and the copy, and each side's write is a sibling
log_behind : length (log_at back 0) ≡ 2
log_behind = refl

siblings_behind : siblings_at partition (log_at back 0) k ≡ on 0 1 ∷ on 1 1 ∷ []
siblings_behind = refl

-- the worker had seen its write there, and has seen the copy since its look
seen_before : length (front_at back 1 0) ≡ 1
seen_before = refl

seen_since : length (front_at looked 1 0) ≡ 2
seen_since = refl

-- its publish is answered, and adds its own number to the siblings
told : outcome looked (does 1 Publishes) ≡ stored
told = refl

siblings_after : siblings_at partition (log_at (after looked (does 1 Publishes)) 0) k ≡ on 0 2 ∷ on 0 1 ∷ on 1 1 ∷ []
siblings_after = refl

-- the second worker has seen the fallback's write, and its own close
closer_seen : length (front_at back 2 1) ≡ 2
closer_seen = refl
