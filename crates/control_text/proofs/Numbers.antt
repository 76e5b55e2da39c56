-- The two numbers of a copy are told apart by their space, since no number has one.
use Rattle.std.proofs.Common.{◌≡◌, ℕ, ◌==◌, List, [], ◌∷◌, ◌++◌, Option, ◌<◌, false, length, get_or, refl, sym, ap, ◌∙◌, arith}
use Rattle.std.specs.Prelude.{◌≢◌, ◌^◌, decimal}
use Rattle.std.specs.Borrow.{Bor}
use Rattle.std.specs.List.{All, slice_split}
use Rattle.std.specs.Option.{MatchOption}
use Rattle.std.specs.Str.{IsUtf8}
use Rattle.std.proofs.lemmas.Fmt.{decimal_is_IsNumeral, decimal_injective, IsAscii-decimal}
use Rattle.std.proofs.lemmas.List.{append_cancel_left, append_assoc, get_or_default}
use Rattle.std.proofs.lemmas.List.Splits.{slice_split_at}
use Rattle.std.proofs.lemmas.Str.{IsAscii-append, IsUtf8-from_ascii}
use Rattle.std.proofs.lemmas.Str.Ascii.{IsAscii-push}
use Rattle.std.proofs.lemmas.Str.Parse.{digit_at}
use Rattle.std.proofs.lemmas.Str.Pattern.{IsSplitOnceResult, split_after}

-- the first part of a text that is cut at each space
abbrev first_part : List (List ℕ) → List ℕ
first_part [] = []
first_part (part ∷ parts) = part

-- no byte of a number is a space
pub not_space : (n : ℕ) → n < 2 ^ 64 → (i : ℕ) → i < length (decimal n) → get_or (decimal n) i 0 ≢ 32
not_space n small i below same =
    let range = digit_at (decimal n) i (decimal_is_IsNumeral n small).0.1 below in
    omega (arith, range)

no_space : (n : ℕ) → n < 2 ^ 64 → All (λ b. (b == 32) ≡ false) (decimal n)
no_space n small i d below =
    let other = not_space n small i below in
    rw (get_or_default (decimal n) i d 0 below) (grind (arith, other))

-- two texts of two numbers are of the same numbers
pub numbers_once : (p b q c : ℕ) → p < 2 ^ 64 → b < 2 ^ 64 → q < 2 ^ 64 → c < 2 ^ 64
    → decimal p ++ 32 ∷ decimal b ≡ decimal q ++ 32 ∷ decimal c → (p ≡ q) × (b ≡ c)
numbers_once p b q c sp sb sq sc e =
    let cut = sym (slice_split_at (λ x. x == 32) (decimal p) 32 (decimal b) (no_space p sp) refl) ∙ ap (slice_split (λ x. x == 32)) e
    ∙ slice_split_at (λ x. x == 32) (decimal q) 32 (decimal c) (no_space q sq) refl in
    let first : p ≡ q = decimal_injective p q sp sq (ap first_part cut) in
    let rest = append_cancel_left (decimal p) (32 ∷ decimal b) (32 ∷ decimal c) (e ∙ ap (λ n. decimal n ++ 32 ∷ decimal c) (sym first)) in
    (first, decimal_injective b c sb sc (append_cancel_left (32 ∷ []) (decimal b) (decimal c) rest))

-- and where they are cut at the first space, these are cut apart
pub numbers_cut : (text : List ℕ) (p b : ℕ) (r : Option (Bor (List ℕ) × Bor (List ℕ))) → p < 2 ^ 64 → IsSplitOnceResult 32 text r
    → text ≡ decimal p ++ 32 ∷ decimal b → MatchOption r ⊥ (λ cut. (cut.0.now ≡ decimal p) × (cut.1.now ≡ decimal b))
numbers_cut text p b r small cut e = split_after 32 text (decimal p) (decimal b) r cut (omega arith) e (not_space p small)

pub numbers-IsUtf8 : (text : List ℕ) (p b : ℕ) → p < 2 ^ 64 → b < 2 ^ 64 → text ≡ decimal p ++ 32 ∷ decimal b → IsUtf8 text
numbers-IsUtf8 text p b sp sb e =
    let front = IsAscii-push (decimal p) 32 (IsAscii-decimal p sp) (omega arith) in
    IsUtf8-from_ascii text (rw (e, ← append_assoc (decimal p) (32 ∷ []) (decimal b)) (IsAscii-append (decimal p ++ 32 ∷ []) (decimal b) front (IsAscii-decimal b sb)))
