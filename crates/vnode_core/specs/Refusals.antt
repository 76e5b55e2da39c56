-- The numbers of refusals.
use Rattle.std.specs.Prelude.{◌≡◌, ℕ, Option, Some, None, Result, Ok, Err}
use Rattle.sibling_register.specs.Refusals.{match_found, modified, not_found, bad_context, too_many_siblings, clock_full, epochs_used_up, counter_used_up, no_memory}
use Rattle.vnode_core.specs.declared.refusal.Refusal.{Refusal}
use Rattle.vnode_core.specs.declared.refusal.Refusal.TheVariants.{MatchFound, Modified, NotFound, BadContext, TooManySiblings, ClockFull, EpochsUsedUp, CounterUsedUp, NoMemory}

-- the number of a refusal
abbrev pub number_of : Refusal → ℕ
number_of MatchFound = match_found
number_of Modified = modified
number_of NotFound = not_found
number_of BadContext = bad_context
number_of TooManySiblings = too_many_siblings
number_of ClockFull = clock_full
number_of EpochsUsedUp = epochs_used_up
number_of CounterUsedUp = counter_used_up
number_of NoMemory = no_memory

-- a check refuses by its number, and never for want of memory
abbrev pub RefusedBy : Refusal → Option ℕ → Type 0
RefusedBy NoMemory check = ⊥
RefusedBy refusal check = check ≡ Some (number_of refusal)

-- a check's result: refused by it, or not at all
abbrev pub GivenBy : {X : Type 0} → Result X Refusal → Option ℕ → Type 0
GivenBy (Ok x) check = check ≡ None
GivenBy (Err refusal) check = RefusedBy refusal check
