-- What comes of each ask is the register's.
use Rattle.std.proofs.Common.{◌≡◌, ℕ, ◌+◌, ◌≤◌, sym, subst, arith}
use Rattle.std.specs.Prelude.{◌<◌, ◌^◌}
use Rattle.riak_msgs.specs.Contents.{Content}
use Rattle.sibling_register.specs.Answers.{RegisterAsk, AskGet, AskPut, AskDel, AskReap}
use Rattle.actor_epoch.specs.Limits.{max_epoch}
use Rattle.actor_epoch.specs.Given.{Context}
use Rattle.vnode_machine.specs.Machine.{State}
use Rattle.vnode_machine.specs.Lives.{lives_begun}
use Rattle.vnode_machine.specs.Replay.{replay, HasReplay, IsWithinLimits, IsAfter}
use Rattle.vnode_machine.specs.Step.{outcome}
use Rattle.vnode_machine.specs.Registers.{IsRegisters, StepIsRegisters}
use Rattle.vnode_machine.proofs.Invariants.{H}
use Rattle.vnode_machine.proofs.Steps.{known}
use Rattle.vnode_machine.proofs.Gets.{get-registers}
use Rattle.vnode_machine.proofs.Puts.{put-registers}
use Rattle.vnode_machine.proofs.Dels.{del-registers, reap-registers}

-- a state within limits was so from its opening
pub limits-opening : (v l : ℕ) (history : H) → HasReplay v l history → IsWithinLimits (replay v l history).vnode (replay v l history).last_epoch → IsWithinLimits v l
limits-opening v l history replays limits =
    let k = known v l history replays in
    (subst (λ (n : ℕ). n < 2 ^ 64) k.vnode limits.0, less l (lives_begun history) (replay v l history).last_epoch k.epochs limits.1)
  where
    less : (l b last : ℕ) → last ≡ l + b → last ≤ max_epoch → l ≤ max_epoch
    less l b last e h = omega (arith, e, h)

registers-at : (v l : ℕ) (history : H) (ask : RegisterAsk Content Context) → IsWithinLimits v l → HasReplay v l history → IsRegisters v l history ask (outcome (replay v l history) ask)
registers-at v l history (AskGet get) limits replays = get-registers v l history get replays
registers-at v l history (AskPut put) limits replays = put-registers v l history put limits replays
registers-at v l history (AskDel del) limits replays = del-registers v l history del limits replays
registers-at v l history (AskReap key) limits replays = reap-registers v l history key replays

pub registers-after : (v l : ℕ) → IsWithinLimits v l → (history : H) (state : State Content) (ask : RegisterAsk Content Context) → IsAfter v l history state
    → IsRegisters v l history ask (outcome state ask)
registers-after v l limits history state ask h =
    subst (λ (s : State Content). IsRegisters v l history ask (outcome s ask)) (sym h.is) (registers-at v l history ask limits h.replays)

pub step_is_registers : (state : State Content) (ask : RegisterAsk Content Context) → StepIsRegisters state ask
step_is_registers state ask limits v l history h =
    registers-after v l (limits-opening v l history h.replays (subst (λ (s : State Content). IsWithinLimits s.vnode s.last_epoch) h.is limits)) history state ask h
