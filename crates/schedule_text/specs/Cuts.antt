-- A text cut at a byte: at its first one, and at each one.
use Rattle.std.specs.Prelude.{◌≡◌, ℕ, ◌==◌, not, List, [], ◌∷◌, ◌++◌, if◌then◌else◌, IsTrue, Option, Some, None}
use Rattle.std.specs.Borrow.{Bor}
use Rattle.std.specs.List.{list_all}

-- the byte doesn't occur
abbrev pub Lacks : ℕ → List ℕ → Type 0
Lacks byte text = IsTrue (list_all (λ b. not (b == byte)) text)

-- a text and what stands before and behind its first such byte
pub record IsCut (byte : ℕ) (text before behind : List ℕ) : Type 0 where
  pub whole : text ≡ before ++ byte ∷ behind
  pub first : Lacks byte before

-- what stands before and behind the first such byte, and none where there is none
abbrev pub CutsAt : ℕ → List ℕ → Option (Bor (List ℕ) × Bor (List ℕ)) → Type 0
CutsAt byte text (Some cut) = IsCut byte text cut.0.now cut.1.now
CutsAt byte text None = Lacks byte text

-- a byte in front of the first line
abbrev pub lengthen_first : ℕ → List (List ℕ) → List (List ℕ)
lengthen_first byte [] = (byte ∷ []) ∷ []
lengthen_first byte (line ∷ lines) = (byte ∷ line) ∷ lines

-- the lines of a text: each is ended by a line feed (0a), which the last may lack
abbrev pub lines_of : List ℕ → List (List ℕ)
lines_of [] = []
lines_of (byte ∷ text) = if byte == 10 then [] ∷ lines_of text else lengthen_first byte (lines_of text)
