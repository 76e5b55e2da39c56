-- Bytes that are appended to an output, one after another.
use Rattle.std.proofs.Common.{ℕ, List}

-- what the rest ends from here, the whole ends from before
abbrev pub Leads : {A : Type 0} → (A → List ℕ → A → Type 0) → (before : A) (whole : List ℕ) (now : A) (rest : List ℕ) → Type 0
Leads {A = A} appends before whole now rest = (end : A) → appends now rest end → appends before whole end
