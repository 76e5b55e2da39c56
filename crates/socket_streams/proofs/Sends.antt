-- What is sent in pieces is all of it.
use Rattle.std.proofs.Common.{◌≡◌, ◌∙◌, ℕ, ◌+◌, ◌-◌, List, ◌++◌, take, drop, length, ap, sym}
use Rattle.std.proofs.lemmas.List.{append_assoc, take-append-drop, take_rest, drop-drop}

-- a further piece of what is left behind what was sent before
pub sends_on : (bytes sent sent' all : List ℕ) (at n : ℕ) → sent' ≡ sent ++ take n (take (length bytes - at) (drop at bytes)) → sent ++ drop at bytes ≡ all → sent' ++ drop (at + n) bytes ≡ all
sends_on bytes sent sent' all at n took is =
    let rest = drop at bytes in
    ap (λ xs. xs ++ drop (at + n) bytes) (took ∙ ap (λ xs. sent ++ take n xs) (take_rest bytes at))
    ∙ ap (λ xs. sent ++ take n rest ++ xs) (sym (drop-drop n at bytes))
    ∙ append_assoc sent (take n rest) (drop n rest)
    ∙ ap (λ xs. sent ++ xs) (take-append-drop n rest)
    ∙ is
