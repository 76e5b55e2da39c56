-- The log of a gate: the state that it was opened with, then the events.
use Rattle.std.specs.Prelude.{◌≡◌, List, [], ◌∷◌, Option, Some, None}
use Rattle.rw_gate.specs.declared.log.GateEntry.{GateEntry}
use Rattle.rw_gate.specs.declared.log.GateEntry.TheVariants.{Opened, Made}
use Rattle.rw_gate.specs.Machines.{MachineRun}

-- the events of a log, its history
abbrev pub events : {S E : Type 0} → List (GateEntry S E) → List E
events [] = []
events (Opened s ∷ log) = events log
events (Made e ∷ log) = e ∷ events log

-- the state that the log was opened with
abbrev pub opening : {S E : Type 0} → List (GateEntry S E) → Option S
opening [] = None
opening (Opened s ∷ log) = Some s
opening (Made e ∷ log) = None

-- each event as an entry
abbrev pub all_made : {S E : Type 0} → List E → List (GateEntry S E)
all_made [] = []
all_made (e ∷ es) = Made e ∷ all_made es

-- the log of a history
abbrev pub log_of : {S E : Type 0} → S → List E → List (GateEntry S E)
log_of s es = Opened s ∷ all_made es

-- the log has an opening state and no event
abbrev pub IsNew : {S E : Type 0} → List (GateEntry S E) → Type 0
IsNew {S} log = (s : S) × (log ≡ Opened s ∷ [])

module _ {S E State : Type 0} (content : S → State) (accepts : State → E → State → Type 0) where
  -- the log opens with a state, and its events lead the machine from there to the state t
  pub record LeadsTo (log : List (GateEntry S E)) (t : State) : Type 0 where
    pub first : S
    pub written : log ≡ log_of first (events log)
    pub run : MachineRun accepts (content first) (events log) t

  -- the log is a run of the machine
  abbrev pub IsRun : List (GateEntry S E) → Type 0
  IsRun log = (t : State) × LeadsTo log t
