-- What was given as a context, by whether it is of the form.
use Rattle.std.proofs.Common.{◌≡◌, ◌≢◌, ℕ, false, IsTrue, List, length, refl, sym, ◌∙◌, ap}
use Rattle.std.specs.Prelude.{Option, Some, None, is_some, nat_eq}
use Rattle.std.proofs.lemmas.Bool.{true≢false}
use Rattle.actor_epoch.specs.Given.{Context, Malformed, Pairs, context_of, pairs_read}
use Rattle.actor_epoch.proofs.Given.{context_of-none}

-- bytes that are given and not malformed encode pairs
pub given-form : (bytes : List ℕ) → false ≡ nat_eq (length bytes) 0 → context_of bytes ≢ Some Malformed → IsTrue (is_some (pairs_read (context_of bytes)))
given-form bytes some sound = by (context_of bytes) refl
  where
    by : (found : Option Context) → context_of bytes ≡ found → IsTrue (is_some (pairs_read found))
    by None e = absurd (true≢false (sym (some ∙ ap (λ bs. nat_eq (length bs) 0) ((context_of-none bytes).0 e))))
    by (Some Malformed) e = absurd (sound e)
    by (Some (Pairs pairs)) e = refl
