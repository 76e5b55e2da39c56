-- The fields of a repeated message.
use Rattle.std.proofs.Common.{◌≡◌, ℕ, ◌+◌, ◌<◌, List, [], ◌∷◌, ◌++◌, length, take, get_or, refl, ap, sym, ◌∙◌, append_assoc}
use Rattle.std.proofs.lemmas.List.{take_more, append-nil}
use Rattle.pb_fields.specs.Encoding.{bytes_field, repeated_field}

-- the fields of two lists of messages
pub repeated_field-append : {A : Type 0} (encode : A → List ℕ) (field : ℕ) (xs ys : List A) →
    repeated_field encode field (xs ++ ys) ≡ repeated_field encode field xs ++ repeated_field encode field ys
repeated_field-append encode field [] ys = refl
repeated_field-append encode field (x ∷ xs) ys =
    ap (λ zs. bytes_field field (encode x) ++ zs) (repeated_field-append encode field xs ys)
    ∙ sym (append_assoc (bytes_field field (encode x)) (repeated_field encode field xs) (repeated_field encode field ys))

-- one more message adds its field
pub repeated_field-take_more : {A : Type 0} (encode : A → List ℕ) (field : ℕ) (xs : List A) (i : ℕ) (x : A) → i < length xs →
    repeated_field encode field (take (i + 1) xs) ≡ repeated_field encode field (take i xs) ++ bytes_field field (encode (get_or xs i x))
repeated_field-take_more encode field xs i x h =
    ap (repeated_field encode field) (take_more xs i x h)
    ∙ repeated_field-append encode field (take i xs) (get_or xs i x ∷ [])
    ∙ ap (λ zs. repeated_field encode field (take i xs) ++ zs) (append-nil (bytes_field field (encode (get_or xs i x))))
