-- The turns that a vnode takes are those of a legal history.
use Rattle.std.proofs.Common.{◌≡◌, ℕ, List, [], ◌∷◌, refl, sym, ◌∙◌, subst, inl, inr}
use Rattle.riak_msgs.specs.Contents.{Content}
use Rattle.sibling_register.specs.Answers.{Refused as ToldRefused, Answers, Accepts}
use Rattle.vnode_machine.specs.Machine.{State, opening}
use Rattle.vnode_machine.specs.Replay.{History, IsWithinLimits, IsAfter}
use Rattle.vnode_machine.specs.Step.{MachineOutcome, Refused, Answered, Accepted, outcome}
use Rattle.vnode_machine.specs.Registers.{next_event, IsRegisters}
use Rattle.vnode_machine.specs.Runs.{Turn, TakesEach, reply_of, state_after_step, TakesTurn, AnswersTurn, PlaysTurns, RunIsPlayed, FirstRunIsPlayed}
use Rattle.vnode_machine.proofs.Legals.{replay_is_legal}
use Rattle.vnode_machine.proofs.StepLaw.{registers-after}

-- where each turn of one system is a turn of another, and leaves them tied, so it is of runs
module _ {S R T : Type 0} (Takes : S → T → S → Type 0) (Answers : R → T → R → Type 0) (IsTied : R → S → Type 0)
    (follow : (register : R) (state after : S) (turn : T) → IsTied register state → Takes state turn after → (next : R) × IsTied next after × Answers register turn next) where
  pub TakesEach-followed : (turns : List T) (register : R) (state after : S) → IsTied register state → TakesEach Takes state turns after
      → (next : R) × IsTied next after × TakesEach Answers register turns next
  TakesEach-followed [] register state after tied e = (register, subst (IsTied register) (sym e) tied, refl)
  TakesEach-followed (turn ∷ turns) register state after tied (mid, first, rest) =
      let one = follow register state mid turn tied first in
      let others = TakesEach-followed turns one.0 mid after one.1 rest in
      (others.0, others.1, (one.0, one.2, others.2))

module _ (v l : ℕ) (limits : IsWithinLimits v l) where
  abbrev IsFollowed : History → Turn → State Content → Type 0
  IsFollowed history turn after = (next : History) × IsAfter v l next after × AnswersTurn v l history turn next

  stays : (history : History) (state after : State Content) → IsAfter v l history state → after ≡ state → IsAfter v l history after
  stays history state after h e = record { replays = h.replays; is = e ∙ h.is }

  step : (history : History) (state after : State Content) (turn : Turn) (came : MachineOutcome) → IsAfter v l history state → IsRegisters v l history turn.ask came
      → turn.reply ≡ reply_of came → after ≡ state_after_step state came → IsFollowed history turn after
  step history state after turn (Refused number) h given reply e = (
    history,
    stays history state after h e,
    inl (record { given = Answers (ToldRefused number); may = given; leads = refl; shown = sym reply }),
  )
  step history state after turn (Answered response) h given reply e = (
    history,
    stays history state after h e,
    inl (record { given = Answers given.told; may = given.given; leads = refl; shown = given.shown ∙ sym reply }),
  )
  step history state after turn (Accepted operation response next) h given reply e =
      let event = next_event v l history turn.ask operation in (
        event ∷ history,
        stays (event ∷ history) next after given.leads e,
        inl (record { given = Accepts event given.told; may = given.given; leads = refl; shown = given.shown ∙ sym reply }),
      )

  pub turn-followed : (history : History) (state after : State Content) (turn : Turn) → IsAfter v l history state → TakesTurn state turn after → IsFollowed history turn after
  turn-followed history state after turn h (inl made) =
      step history state after turn (outcome state turn.ask) h (registers-after v l limits history state turn.ask h) made.0 made.1
  turn-followed history state after turn h (inr refused) = (history, stays history state after h refused.1, inr (refused.0, refl))

  played : (before : History) (turns : List Turn) (state after : State Content) → IsAfter v l before state → TakesEach TakesTurn state turns after → PlaysTurns v l before turns after
  played before turns state after h taken =
      let run = TakesEach-followed TakesTurn (AnswersTurn v l) (IsAfter v l) turn-followed turns before state after h taken in
      record { history = run.0; after = run.1; legal = replay_is_legal v l run.0 run.1.replays; answered = run.2 }

pub run_is_played : (vnode last_epoch : ℕ) (before : History) → RunIsPlayed vnode last_epoch before
run_is_played vnode last_epoch before limits turns state after = played vnode last_epoch limits before turns state after

pub first_run_is_played : (vnode last_epoch : ℕ) (turns : List Turn) (after : State Content) → FirstRunIsPlayed vnode last_epoch turns after
first_run_is_played vnode last_epoch turns after limits taken =
    played vnode last_epoch limits [] turns (opening vnode last_epoch) after (record { replays = tt; is = refl }) taken
