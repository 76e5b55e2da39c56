-- Where a text is cut at its first byte of a kind is settled by the text.
use Rattle.std.proofs.Common.{◌≡◌, ℕ, ◌==◌, not, List, [], ◌∷◌, ◌++◌, ◌<◌, length, take, drop, true, if◌then◌else◌, sym, refl, ap, ◌∙◌, arith}
use Rattle.std.proofs.lemmas.Bool.{and_parts, not-true as is_false}
use Rattle.std.proofs.lemmas.List.{take_all, drop_all}
use Rattle.std.specs.List.{list_all}
use Rattle.schedule_text.specs.Cuts.{Lacks, IsCut, lines_of, lengthen_first}

-- a byte that a text lacks isn't its first
not_first : (byte x : ℕ) → not (x == byte) ≡ true → x ≡ byte → ⊥
not_first byte x other same = grind (arith)

-- the first of a list
abbrev pub head_or : ℕ → List ℕ → ℕ
head_or other [] = other
head_or other (x ∷ xs) = x

-- a list without its first
abbrev pub behind : List ℕ → List ℕ
behind [] = []
behind (x ∷ xs) = xs

pub cut_once : (byte : ℕ) (xs ys us vs : List ℕ) → Lacks byte xs → Lacks byte us
    → xs ++ byte ∷ ys ≡ us ++ byte ∷ vs → (xs ≡ us) × (ys ≡ vs)
cut_once byte [] ys [] vs lx lu e = (refl, ap behind e)
cut_once byte [] ys (u ∷ us) vs lx lu e =
    absurd (not_first byte u (and_parts (not (u == byte)) (list_all (λ b. not (b == byte)) us) lu).0 (sym (ap (head_or 0) e)))
cut_once byte (x ∷ xs) ys [] vs lx lu e =
    absurd (not_first byte x (and_parts (not (x == byte)) (list_all (λ b. not (b == byte)) xs) lx).0 (ap (head_or 0) e))
cut_once byte (x ∷ xs) ys (u ∷ us) vs lx lu e =
    let left = and_parts (not (x == byte)) (list_all (λ b. not (b == byte)) xs) lx in
    let right = and_parts (not (u == byte)) (list_all (λ b. not (b == byte)) us) lu in
    let rest = cut_once byte xs ys us vs left.1 right.1 (ap behind e) in
    let same : x ≡ u = ap (head_or 0) e in
    (rw (same, rest.0) refl, rest.1)

-- a text with a byte doesn't lack it
pub lacks_none : (byte : ℕ) (xs ys : List ℕ) → Lacks byte (xs ++ byte ∷ ys) → ⊥
lacks_none byte [] ys lacks =
    not_first byte byte (and_parts (not (byte == byte)) (list_all (λ b. not (b == byte)) ys) lacks).0 refl
lacks_none byte (x ∷ xs) ys lacks =
    lacks_none byte xs ys (and_parts (not (x == byte)) (list_all (λ b. not (b == byte)) (xs ++ byte ∷ ys)) lacks).1

-- the first line ends at the first line feed
pub lines_at : (before rest : List ℕ) → Lacks 10 before → lines_of (before ++ 10 ∷ rest) ≡ before ∷ lines_of rest
lines_at [] rest lacks = refl
lines_at (b ∷ before) rest lacks =
    let parts = and_parts (not (b == 10)) (list_all (λ c. not (c == 10)) before) lacks in
    rw (is_false (b == 10) parts.0, lines_at before rest parts.1) refl

pub lines_cut : (text before rest : List ℕ) → IsCut 10 text before rest → lines_of text ≡ before ∷ lines_of rest
lines_cut text before rest cut = ap lines_of cut.whole ∙ lines_at before rest cut.first

-- a text without line feed is one line
pub one_line : (b : ℕ) (text : List ℕ) → Lacks 10 (b ∷ text) → lines_of (b ∷ text) ≡ (b ∷ text) ∷ []
one_line b [] lacks =
    let parts = and_parts (not (b == 10)) true lacks in
    rw (is_false (b == 10) parts.0) refl
one_line b (c ∷ text) lacks =
    let parts = and_parts (not (b == 10)) (list_all (λ x. not (x == 10)) (c ∷ text)) lacks in
    ap (λ t. if t then [] ∷ lines_of (c ∷ text) else lengthen_first b (lines_of (c ∷ text))) (is_false (b == 10) parts.0)
    ∙ ap (lengthen_first b) (one_line c text parts.1)

pub lines_uncut : (text before rest : List ℕ) → 0 < length text → Lacks 10 text → before ≡ take (length text) text
    → rest ≡ drop (length text) text → lines_of text ≡ before ∷ lines_of rest
lines_uncut [] before rest some lacks is left = absurd (omega arith)
lines_uncut (b ∷ text) before rest some lacks is left =
    let all = take_all (length (b ∷ text)) (b ∷ text) (omega arith) in
    let none = drop_all (length (b ∷ text)) (b ∷ text) (omega arith) in
    one_line b text lacks ∙ rw (is, left, all, none) refl
