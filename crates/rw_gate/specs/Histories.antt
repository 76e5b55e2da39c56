-- What is kept of the histories of a gate.
use Rattle.std.specs.Prelude.{◌≡◌, ◌<◌, ◌-◌, ◌^◌, ℕ, List, [], ◌∷◌, ◌++◌, length, All, Option, Some, None}
use mathlib.Core.List.{IsPrefix}
use Rattle.logbook.specs.Pages.{Book}
use Rattle.rw_gate.specs.declared.log.GateEntry.{GateEntry}
use Rattle.rw_gate.specs.Machines.{MachineRun}
use Rattle.rw_gate.specs.Logs.{events, LeadsTo}
use Rattle.rw_gate.specs.Views.{GateId, gate_id, RightView}

-- each of the positions is below n
abbrev pub AreBelow : ℕ → List ℕ → Type 0
AreBelow n = All (λ k. k < n)

-- a history has room for an event more
abbrev pub HasRoom : {E : Type 0} → List E → Type 0
HasRoom history = length history < 2 ^ 64 - 1

-- the history was found to be longer than this, of so many events, and all of it has been seen
pub record IsLonger {E : Type 0} (history seen : List E) (count : ℕ) : Type 0 where
  pub counted : count ≡ length seen
  pub begins : IsPrefix history seen
  pub longer : length history < count

module _ {S E State : Type 0} (content : S → State) (accepts : State → E → State → Type 0) where
  -- the history leads the machine from the gate's opening state to the state t
  abbrev pub RunFrom : Option S → List E → State → Type 0
  RunFrom None history t = ⊥
  RunFrom (Some first) history t = MachineRun accepts (content first) history t

  -- the machine accepts the history, from the state that the gate was made with
  abbrev pub IsHistory : GateId S → List E → Type 0
  IsHistory gate history = (t : State) × RunFrom gate.opening history t

  -- the state is the replay of the history, from the state that the gate was made with
  abbrev pub IsReplay : GateId S → List E → S → Type 0
  IsReplay gate history state = RunFrom gate.opening history (content state)

  -- the state under a right is the replay of its history
  abbrev pub IsReplayed : RightView S E → Type 0
  IsReplayed right = IsReplay right.gate right.history right.state

  -- the history goes on by this one event, which the machine accepts from the one state to the other
  pub record GoesOnBy (e : E) (old new : RightView S E) : Type 0 where
    pub gate : new.gate ≡ old.gate
    pub history : new.history ≡ old.history ++ e ∷ []
    pub accepted : accepts (content old.state) e (content new.state)
    pub room : HasRoom old.history

  -- what lies in the slot of a gate: a state, the log that leads to it, and how many events that has
  pub record IsSlotValue (gate : GateId S) (book : Book) (log : List (GateEntry S E)) (count : ℕ) (state : S) : Type 0 where
    pub of_gate : gate_id book log ≡ gate
    pub counted : count ≡ length (events log)
    pub leads : LeadsTo content accepts log (content state)
