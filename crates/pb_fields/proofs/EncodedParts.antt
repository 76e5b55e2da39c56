-- An encoding as a row of parts, and the fields that it stands for.
use Rattle.std.proofs.Common.{◌≡◌, ℕ, ◌+◌, ◌*◌, ◌^◌, ◌<◌, Bool, true, false, List, [], ◌∷◌, ◌++◌, length, map, Option, Some, None, option_to_list, refl, sym, subst, ◌∙◌, arith, append_assoc, length-append, if◌then◌else◌}
use Rattle.std.specs.List.{flat_map, AllByRecursion}
use Rattle.std.proofs.lemmas.List.{append-nil}
use Rattle.pb_fields.specs.Field.{WireField, varint, byte_string, IsNumber}
use Rattle.pb_fields.specs.Message.{Encodes}
use Rattle.pb_fields.specs.Encoding.{encoding, Fits}
use Rattle.pb_fields.proofs.Lists.{encoding_is_read}
use Rattle.wire_varint.specs.Varint.{encoding as varint_encoding}
use Rattle.pb_fields.specs.Encoding.{bytes_field, varint_field, optional_field, bool_field, repeated_field}

-- what a message has at one field number
pub data Part : Type 0 where
  string : ℕ → List ℕ → Part
  optional : ℕ → Option (List ℕ) → Part
  each : ℕ → List (List ℕ) → Part
  flag : ℕ → Bool → Part

abbrev pub number_of : Part → ℕ
number_of (string n bs) = n
number_of (optional n o) = n
number_of (each n xs) = n
number_of (flag n b) = n

abbrev pub part_encoding : Part → List ℕ
part_encoding (string n bs) = bytes_field n bs
part_encoding (optional n o) = optional_field n o
part_encoding (each n xs) = repeated_field (λ x. x) n xs
part_encoding (flag n b) = bool_field n b

-- its byte strings
abbrev pub strings_in : Part → List (List ℕ)
strings_in (string n bs) = bs ∷ []
strings_in (optional n o) = option_to_list o
strings_in (each n xs) = xs
strings_in (flag n b) = []

-- its varints
abbrev pub numbers_in : Part → List ℕ
numbers_in (string n bs) = []
numbers_in (optional n o) = []
numbers_in (each n xs) = []
numbers_in (flag n b) = if b then 1 ∷ [] else []

abbrev pub string_at : ℕ → List ℕ → WireField
string_at n bs = record { number = n; value = byte_string bs }

abbrev pub number_at : ℕ → ℕ → WireField
number_at n value = record { number = n; value = varint value }

abbrev pub part_fields : Part → List WireField
part_fields p = map (string_at (number_of p)) (strings_in p) ++ map (number_at (number_of p)) (numbers_in p)

abbrev pub encoded : List Part → List ℕ
encoded parts = flat_map part_encoding parts

abbrev pub fields_of : List Part → List WireField
fields_of parts = flat_map part_fields parts

-- an encoding is written part by part behind what is there
abbrev pub encoded_behind : List ℕ → List Part → List ℕ
encoded_behind bs [] = bs
encoded_behind bs (p ∷ ps) = encoded_behind (bs ++ part_encoding p) ps

pub encoded_behind-is : (bs : List ℕ) (ps : List Part) → encoded_behind bs ps ≡ bs ++ encoded ps
encoded_behind-is bs [] = sym (append-nil bs)
encoded_behind-is bs (p ∷ ps) = encoded_behind-is (bs ++ part_encoding p) ps ∙ append_assoc bs (part_encoding p) (encoded ps)

-- one field in front of a message
in_front : (field : WireField) (fields : List WireField) (rest : List ℕ) → Fits field → Encodes rest fields →
    Encodes (encoding field ++ rest) (field ∷ fields)
in_front field fields rest fits others = (rest, encoding_is_read field rest fits, others)

-- the bytes of a field are fewer than those of the field
pub bytes_field-shorter : (n : ℕ) (bs : List ℕ) → length (bytes_field n bs) < 2 ^ 64 → length bs < 2 ^ 64
bytes_field-shorter n bs short =
    let behind = varint_encoding (length bs) ++ bs in
    omega (arith, length-append (varint_encoding (n * 8 + 2)) behind, length-append (varint_encoding (length bs)) bs)

string_in_front : (n : ℕ) (bs : List ℕ) → IsNumber n → length (bytes_field n bs) < 2 ^ 64 → (rest : List ℕ) (fields : List WireField) →
    Encodes rest fields → Encodes (bytes_field n bs ++ rest) (string_at n bs ∷ fields)
string_in_front n bs number short rest fields others =
    in_front (string_at n bs) fields rest (record { number = number; value = bytes_field-shorter n bs short }) others

number_in_front : (n value : ℕ) → IsNumber n → value < 2 ^ 64 → (rest : List ℕ) (fields : List WireField) →
    Encodes rest fields → Encodes (varint_field n value ++ rest) (number_at n value ∷ fields)
number_in_front n value number fits rest fields others =
    in_front (number_at n value) fields rest (record { number = number; value = fits }) others

each_in_front : (n : ℕ) (xs : List (List ℕ)) → IsNumber n → length (repeated_field (λ x. x) n xs) < 2 ^ 64 → (rest : List ℕ) (fields : List WireField) →
    Encodes rest fields → Encodes (repeated_field (λ x. x) n xs ++ rest) (map (string_at n) xs ++ fields)
each_in_front n [] number short rest fields others = others
each_in_front n (x ∷ xs) number short rest fields others =
    let behind = repeated_field (λ y. y) n xs in
    let len : length (bytes_field n x ++ behind) ≡ length (bytes_field n x) + length behind = length-append (bytes_field n x) behind in
    subst (λ bs. Encodes bs (string_at n x ∷ map (string_at n) xs ++ fields)) (sym (append_assoc (bytes_field n x) behind rest))
    (string_in_front n x number (omega arith) (behind ++ rest) (map (string_at n) xs ++ fields)
    (each_in_front n xs number (omega arith) rest fields others))

-- a part in front of a message
part_in_front : (p : Part) → IsNumber (number_of p) → length (part_encoding p) < 2 ^ 64 → (rest : List ℕ) (fields : List WireField) →
    Encodes rest fields → Encodes (part_encoding p ++ rest) (part_fields p ++ fields)
part_in_front (string n bs) number short rest fields others = string_in_front n bs number short rest fields others
part_in_front (optional n None) number short rest fields others = others
part_in_front (optional n (Some bs)) number short rest fields others = string_in_front n bs number short rest fields others
part_in_front (each n xs) number short rest fields others =
    subst (λ fs. Encodes (repeated_field (λ x. x) n xs ++ rest) (fs ++ fields)) (sym (append-nil (map (string_at n) xs)))
    (each_in_front n xs number short rest fields others)
part_in_front (flag n true) number short rest fields others = number_in_front n 1 number (omega arith) rest fields others
part_in_front (flag n false) number short rest fields others = others

-- each part's number is one that a field may have
abbrev pub AreNumbered : List Part → Type 0
AreNumbered parts = AllByRecursion (λ p. IsNumber (number_of p)) parts

-- in a short message each part is short
pub parts_short : (ps : List Part) → length (encoded ps) < 2 ^ 64 → AllByRecursion (λ p. length (part_encoding p) < 2 ^ 64) ps
parts_short [] short = tt
parts_short (p ∷ ps) short =
    let len : length (part_encoding p ++ encoded ps) ≡ length (part_encoding p) + length (encoded ps) =
    length-append (part_encoding p) (encoded ps) in
    (omega arith, parts_short ps (omega arith))

parts_stand : (ps : List Part) → AreNumbered ps → length (encoded ps) < 2 ^ 64 → Encodes (encoded ps) (fields_of ps)
parts_stand [] numbered short = refl
parts_stand (p ∷ ps) numbered short =
    let len : length (part_encoding p ++ encoded ps) ≡ length (part_encoding p) + length (encoded ps) =
    length-append (part_encoding p) (encoded ps) in
    part_in_front p numbered.0 (omega arith) (encoded ps) (fields_of ps) (parts_stand ps numbered.1 (omega arith))

-- bytes that are encoded by parts stand for their fields
pub stands : (bs : List ℕ) (ps : List Part) → bs ≡ encoded ps → AreNumbered ps → length bs < 2 ^ 64 → Encodes bs (fields_of ps)
stands bs ps is numbered short =
    subst (λ cs. Encodes cs (fields_of ps)) (sym is) (parts_stand ps numbered (subst (λ cs. length cs < 2 ^ 64) is short))
