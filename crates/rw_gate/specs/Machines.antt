-- Runs of a machine.
use Rattle.std.specs.Prelude.{◌≡◌, List, [], ◌∷◌}

-- the machine accepts the events one after the other, which lead it from the first state to the second
abbrev pub MachineRun : {State Event : Type 0} → (State → Event → State → Type 0)
    → State → List Event → State → Type 0
MachineRun accepts s [] t = s ≡ t
MachineRun {State} accepts s (e ∷ es) t = (m : State) × accepts s e m × MachineRun accepts m es t
