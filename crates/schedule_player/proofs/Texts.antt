-- The lines of texts that are put together.
use Rattle.std.proofs.Common.{◌≡◌, ℕ, ◌<◌, ◌==◌, length, arith, not, List, [], ◌∷◌, ◌++◌, sym, ap, ◌∙◌, append_assoc, append-nil}
use Rattle.std.proofs.lemmas.Bool.{and_parts}
use Rattle.std.specs.List.{list_all}
use Rattle.schedule_text.specs.Cuts.{Lacks, lines_of}
use Rattle.schedule_text.proofs.Cutting.{lines_at, one_line}

-- a text without line feed is one line, where it is not empty
pub last_line : (text : List ℕ) → 0 < length text → Lacks 10 text → lines_of text ≡ text ∷ []
last_line [] some lacks = absurd (omega arith)
last_line (b ∷ text) some lacks = one_line b text lacks

pub lacks_both : (byte : ℕ) (xs ys : List ℕ) → Lacks byte xs → Lacks byte ys → Lacks byte (xs ++ ys)
lacks_both byte [] ys p q = q
lacks_both byte (x ∷ xs) ys p q =
    let parts = and_parts (not (x == byte)) (list_all (λ b. not (b == byte)) xs) p in
    rw (parts.0) (lacks_both byte xs ys parts.1 q)

-- whole lines, and one line more behind them
pub whole_more : (answered text : List ℕ) (texts : List (List ℕ)) → ((rest : List ℕ) → lines_of (answered ++ rest) ≡ texts ++ lines_of rest)
    → Lacks 10 text → (rest : List ℕ) → lines_of ((answered ++ (text ++ 10 ∷ [])) ++ rest) ≡ (texts ++ text ∷ []) ++ lines_of rest
whole_more answered text texts whole lacks rest =
    ap lines_of (append_assoc answered (text ++ 10 ∷ []) rest ∙ ap (λ x. answered ++ x) (append_assoc text (10 ∷ []) rest))
    ∙ whole (text ++ 10 ∷ rest) ∙ ap (λ x. texts ++ x) (lines_at text rest lacks)
    ∙ sym (append_assoc texts (text ∷ []) (lines_of rest))

-- whole lines alone
pub whole_alone : (answered : List ℕ) (texts : List (List ℕ)) → ((rest : List ℕ) → lines_of (answered ++ rest) ≡ texts ++ lines_of rest)
    → lines_of answered ≡ texts
whole_alone answered texts whole = ap lines_of (sym (append-nil answered)) ∙ whole [] ∙ append-nil texts
