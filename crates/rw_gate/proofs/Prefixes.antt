-- Prefixes of lists.
use Rattle.std.proofs.Common.{◌≡◌, ◌+◌, ◌≤◌, List, [], ◌∷◌, ◌++◌, length, refl, ap, sym, ◌∙◌, subst, arith, append_assoc, length-append}
use Rattle.std.proofs.lemmas.List.{append-nil, nil_from_length}
use mathlib.Core.List.{IsPrefix}

-- a prefix of a prefix
pub prefix_trans : {A : Type 0} (xs ys zs : List A) → IsPrefix xs ys → IsPrefix ys zs → IsPrefix xs zs
prefix_trans {A} xs ys zs p q =
    let behind : IsPrefix xs ((xs ++ p.0) ++ q.0) = (p.0 ++ q.0, sym (append_assoc xs p.0 q.0)) in subst (λ (l : List A). IsPrefix xs l) q.1 (subst (λ (l : List A). IsPrefix xs (l ++ q.0)) p.1 behind)

-- a prefix is no longer than the whole
pub prefix_length : {A : Type 0} (xs ys : List A) → IsPrefix xs ys → length xs ≤ length ys
prefix_length xs ys p = let sizes : length xs + length p.0 ≡ length ys = sym (length-append xs p.0) ∙ ap length p.1 in omega (arith, sizes)

-- a prefix that is as long as the whole is the whole
pub prefix_whole : {A : Type 0} (xs ys : List A) → IsPrefix xs ys → length ys ≤ length xs → xs ≡ ys
prefix_whole xs ys p le =
    let sizes : length xs + length p.0 ≡ length ys = sym (length-append xs p.0) ∙ ap length p.1 in
    let nothing : p.0 ≡ [] = nil_from_length p.0 (omega (arith, sizes, le)) in
    sym (ap (λ l. xs ++ l) nothing ∙ append-nil xs) ∙ p.1

-- of two prefixes of one list the shorter is a prefix of the longer
pub prefix_shorter : {A : Type 0} (xs ys zs : List A) → IsPrefix xs zs → IsPrefix ys zs → length xs ≤ length ys → IsPrefix xs ys
prefix_shorter [] ys zs p q le = (ys, refl)
prefix_shorter (x ∷ xs) [] zs p q le = absurd (omega arith)
prefix_shorter (x ∷ xs) (y ∷ ys) [] p q le = absurd (cc (p.1))
prefix_shorter (x ∷ xs) (y ∷ ys) (z ∷ zs) p q le =
    let heads : x ≡ y = cc (p.1, q.1) in
    let rest = prefix_shorter xs ys zs (p.0, cc (p.1)) (q.0, cc (q.1)) (omega arith) in
    (rest.0, cc (heads, rest.1))
