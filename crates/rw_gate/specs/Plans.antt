-- Facts for each plan.
use Rattle.rw_gate.specs.declared.kept.Plan.{Plan}
use Rattle.rw_gate.specs.declared.kept.Plan.TheVariants.{Change, Nothing}

-- where a change is planned, this holds of it
abbrev pub IfChange : {C R : Type 0} → Plan C R → (C → Type 0) → Type 0
IfChange (Change c) fact = fact c
IfChange (Nothing reply) fact = Unit {0}

-- where nothing changes, this holds of the answer
abbrev pub IfNothing : {C R : Type 0} → Plan C R → (R → Type 0) → Type 0
IfNothing (Change c) fact = Unit {0}
IfNothing (Nothing reply) fact = fact reply
