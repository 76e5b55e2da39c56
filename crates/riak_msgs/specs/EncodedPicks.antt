-- What is picked from the fields of an encoding: laws that the bytes which are kept of a content rest on. No clause names them.
use Rattle.std.proofs.Common.{◌≡◌, ℕ, ◌==◌, Bool, true, false, not, List, [], ◌∷◌, ◌++◌, map, Option, Some, None, option_to_list, refl, ap, ◌∙◌, if◌then◌else◌}
use Rattle.std.specs.List.{last_or, filter_map, cons_option, flat_map}
use Rattle.std.specs.Option.{option_map_or}
use Rattle.std.proofs.lemmas.List.{append-nil}
use Rattle.std.proofs.lemmas.List.Elements.{filter_map-append}
use Rattle.pb_fields.specs.Encoding.{bytes_field, repeated_field}
use Rattle.riak_msgs.specs.Picking.{each_bytes, last_bytes, last_varint, flag_of, bytes_at, varint_at}
use Rattle.pb_fields.proofs.EncodedParts.{Part, number_of, strings_in, numbers_in, string_at, number_at, part_fields, fields_of}

-- where a test takes each or none
filter_map-if : {X Y : Type 0} (taken : Bool) (f : X → Option Y) (g : Y → X) → ((y : Y) → f (g y) ≡ (if taken then Some y else None)) → (ys : List Y) →
    filter_map f (map g ys) ≡ (if taken then ys else [])
filter_map-if true f g is [] = refl
filter_map-if false f g is [] = refl
filter_map-if true f g is (y ∷ ys) =
    ap (λ o. cons_option o (filter_map f (map g ys))) (is y) ∙ ap (λ zs. y ∷ zs) (filter_map-if true f g is ys)
filter_map-if false f g is (y ∷ ys) = ap (λ o. cons_option o (filter_map f (map g ys))) (is y) ∙ filter_map-if false f g is ys

filter_map-none : {X Y Z : Type 0} (f : X → Option Z) (g : Y → X) → ((y : Y) → f (g y) ≡ None) → (ys : List Y) → filter_map f (map g ys) ≡ []
filter_map-none f g is [] = refl
filter_map-none f g is (y ∷ ys) = ap (λ o. cons_option o (filter_map f (map g ys))) (is y) ∙ filter_map-none f g is ys

none_either : {A : Type 0} (b : Bool) → ◌≡◌ {A = Option A} (if b then None else None) None
none_either true = refl
none_either false = refl

append_both : {A : Type 0} (a b c d : List A) → a ≡ c → b ≡ d → a ++ b ≡ c ++ d
append_both a b c d e f = ap (λ x. x ++ b) e ∙ ap (λ y. c ++ y) f

-- the byte strings of a part at a number, and the varints
abbrev pub strings_at : ℕ → Part → List (List ℕ)
strings_at n p = if number_of p == n then strings_in p else []

abbrev pub numbers_at : ℕ → Part → List ℕ
numbers_at n p = if number_of p == n then numbers_in p else []

each_bytes-part : (n : ℕ) (p : Part) → each_bytes n (part_fields p) ≡ strings_at n p
each_bytes-part n p =
    let m = number_of p in
    filter_map-append (bytes_at n) (map (string_at m) (strings_in p)) (map (number_at m) (numbers_in p))
    ∙ append_both _ _ _ _
    (filter_map-if (m == n) (bytes_at n) (string_at m) (λ y. refl) (strings_in p))
    (filter_map-none (bytes_at n) (number_at m) (λ y. none_either (m == n)) (numbers_in p))
    ∙ append-nil (strings_at n p)

each_varint-part : (n : ℕ) (p : Part) → filter_map (varint_at n) (part_fields p) ≡ numbers_at n p
each_varint-part n p =
    let m = number_of p in
    filter_map-append (varint_at n) (map (string_at m) (strings_in p)) (map (number_at m) (numbers_in p))
    ∙ append_both _ _ _ _
    (filter_map-none (varint_at n) (string_at m) (λ y. none_either (m == n)) (strings_in p))
    (filter_map-if (m == n) (varint_at n) (number_at m) (λ y. refl) (numbers_in p))

-- those of all parts
abbrev pub strings_of : ℕ → List Part → List (List ℕ)
strings_of n parts = flat_map (strings_at n) parts

abbrev pub numbers_of : ℕ → List Part → List ℕ
numbers_of n parts = flat_map (numbers_at n) parts

pub each_bytes-fields_of : (n : ℕ) (ps : List Part) → each_bytes n (fields_of ps) ≡ strings_of n ps
each_bytes-fields_of n [] = refl
each_bytes-fields_of n (p ∷ ps) =
    filter_map-append (bytes_at n) (part_fields p) (fields_of ps)
    ∙ append_both _ _ _ _ (each_bytes-part n p) (each_bytes-fields_of n ps)

each_varint-fields_of : (n : ℕ) (ps : List Part) → filter_map (varint_at n) (fields_of ps) ≡ numbers_of n ps
each_varint-fields_of n [] = refl
each_varint-fields_of n (p ∷ ps) =
    filter_map-append (varint_at n) (part_fields p) (fields_of ps)
    ∙ append_both _ _ _ _ (each_varint-part n p) (each_varint-fields_of n ps)

pub last_bytes-fields_of : (n : ℕ) (ps : List Part) → last_bytes n (fields_of ps) ≡ last_or None (strings_of n ps)
last_bytes-fields_of n ps = ap (last_or None) (each_bytes-fields_of n ps)

pub last_varint-fields_of : (n : ℕ) (ps : List Part) → last_varint n (fields_of ps) ≡ last_or None (numbers_of n ps)
last_varint-fields_of n ps = ap (last_or None) (each_varint-fields_of n ps)

-- of what may be absent, with nothing behind it
pub last_or-only : {A : Type 0} (o : Option A) → last_or None (option_to_list o ++ []) ≡ o
last_or-only None = refl
last_or-only (Some x) = refl

-- of a bool
flag_back : (b : Bool) → option_map_or (λ n. not (n == 0)) (last_or None ((if b then 1 ∷ [] else []) ++ [])) false ≡ b
flag_back true = refl
flag_back false = refl

pub flag_of-fields_of : (n : ℕ) (ps : List Part) (b : Bool) → numbers_of n ps ≡ (if b then 1 ∷ [] else []) ++ [] → flag_of n (fields_of ps) ≡ b
flag_of-fields_of n ps b is =
    ap (λ o. option_map_or (λ v. not (v == 0)) o false) (last_varint-fields_of n ps ∙ ap (last_or None) is) ∙ flag_back b

-- each message as its bytes
pub repeated_field-map : {A : Type 0} (encode : A → List ℕ) (n : ℕ) (xs : List A) → repeated_field encode n xs ≡ repeated_field (λ x. x) n (map encode xs)
repeated_field-map encode n [] = refl
repeated_field-map encode n (x ∷ xs) = ap (λ bs. bytes_field n (encode x) ++ bs) (repeated_field-map encode n xs)
