use Rattle.std.proofs.Common.{◌≡◌, ℕ, ◌+◌, ◌*◌, ◌/◌, ◌%◌, ◌<◌, ◌≤◌, List, ◌++◌, length, take, drop, refl, sym, ap, subst, arith, ◌∙◌}
use Rattle.std.proofs.lemmas.List.{append_assoc, length-append, take_at, drop_at}
use Rattle.wire_varint.specs.Varint.{IsVarint}
use Rattle.wire_varint.proofs.Encoding.{IsVarint-unique}
use Rattle.pb_fields.specs.Field.{WireValue, varint, eight_bytes, byte_string, four_bytes, WireField, wire_type, IsValue, IsNumber, BeginsWithField}
use Rattle.pb_fields.specs.Faults.{BeginsWithVarint}

-- bytes begin with one varint at most
pub key_once : (bs : List ℕ) (m n : ℕ) (x y : List ℕ) → BeginsWithVarint bs m x → BeginsWithVarint bs n y → (m ≡ n) × (x ≡ y)
key_once bs m n x y (a, va, ea) (b, vb, eb) =
    let one = IsVarint-unique a b x y m n va vb (sym ea ∙ eb) in
    (one.1, one.2)

-- two lists of one length at the front of the same bytes
same_front : (a b x y : List ℕ) (n : ℕ) → length a ≡ n → length b ≡ n → a ++ x ≡ b ++ y → (a ≡ b) × (x ≡ y)
same_front a b x y n la lb e =
    (sym (take_at a x n la) ∙ ap (λ bs. take n bs) e ∙ take_at b y n lb, sym (drop_at a x n la) ∙ ap (λ bs. drop n bs) e ∙ drop_at b y n lb)

-- bytes begin with one value of a wire type at most
pub value_once : (v w : WireValue) (a b x y : List ℕ) → wire_type v ≡ wire_type w → IsValue a v → IsValue b w → a ++ x ≡ b ++ y → (v ≡ w) × (x ≡ y)
value_once (varint m) (varint n) a b x y t va vb e =
    let one = IsVarint-unique a b x y m n va vb e in
    (ap varint one.1, one.2)
value_once (eight_bytes s) (eight_bytes u) a b x y t (ea, la) (eb, lb) e =
    let one = same_front s u x y 8 la lb (rw (ea, eb) at e) in
    (ap eight_bytes one.0, one.1)
value_once (byte_string s) (byte_string u) a b x y t (k, vk, ea) (l, vl, eb) e =
    let e' : k ++ (s ++ x) ≡ l ++ (u ++ y) = sym (append_assoc k s x) ∙ sym (ap (λ cs. cs ++ x) ea) ∙ e ∙ ap (λ cs. cs ++ y) eb ∙ append_assoc l u y in
    let one = IsVarint-unique k l (s ++ x) (u ++ y) (length s) (length u) vk vl e' in
    let both = same_front s u x y (length s) refl (sym one.1) one.2 in
    (ap byte_string both.0, both.1)
value_once (four_bytes s) (four_bytes u) a b x y t (ea, la) (eb, lb) e =
    let one = same_front s u x y 4 la lb (rw (ea, eb) at e) in
    (ap four_bytes one.0, one.1)
value_once v w a b x y t va vb e = absurd (omega arith)

-- a value behind its key
pub field_from : (bs : List ℕ) (key : ℕ) (behind rest : List ℕ) (field : WireField) → BeginsWithVarint bs key behind →
    IsNumber field.number → field.number ≡ key / 8 → wire_type field.value ≡ key % 8 →
    ((w : List ℕ) × IsValue w field.value × (behind ≡ w ++ rest)) → BeginsWithField bs field rest
field_from bs key behind rest field (k, vk, ek) is n t (w, vw, ew) =
    let whole : key ≡ field.number * 8 + wire_type field.value = omega arith in
    let P : ℕ → Type 0 = λ m. IsVarint k m in
    (k ++ w, record { key = k; value = w; number = is; key_is = subst P whole vk; value_is = vw; parts = refl }, rw (ek, ew) (sym (append_assoc k w rest)))

-- the key of a field
pub key_of : (bs rest : List ℕ) (field : WireField) (begins : BeginsWithField bs field rest) →
    BeginsWithVarint bs (field.number * 8 + wire_type field.value) (begins.1.value ++ rest)
key_of bs rest field (w, is, e) = (is.key, is.key_is, rw (e, is.parts) (append_assoc is.key is.value rest))

-- the wire type of a value is one of four, all below 8
pub wire_type-lt : (value : WireValue) → wire_type value < 6
wire_type-lt (varint n) = omega arith
wire_type-lt (eight_bytes s) = omega arith
wire_type-lt (byte_string s) = omega arith
wire_type-lt (four_bytes s) = omega arith

field_of : ℕ → WireValue → WireField
field_of number value = record { number = number; value = value }

same_field : (f g : WireField) → f.number ≡ g.number → f.value ≡ g.value → f ≡ g
unfolding field_of
same_field f g n v =
    let parts : field_of f.number f.value ≡ field_of g.number g.value = rw (n, v) refl in
    parts

-- bytes begin with one field at most
pub field_once : (bs x y : List ℕ) (f g : WireField) → BeginsWithField bs f x → BeginsWithField bs g y → (f ≡ g) × (x ≡ y)
field_once bs x y f g a b =
    let keys = key_once bs (f.number * 8 + wire_type f.value) (g.number * 8 + wire_type g.value) (a.1.value ++ x) (b.1.value ++ y) (key_of bs x f a) (key_of bs y g b) in
    let small_f = wire_type-lt f.value in
    let small_g = wire_type-lt g.value in
    let type : wire_type f.value ≡ wire_type g.value = omega (arith, keys.0) in
    let number : f.number ≡ g.number = omega (arith, keys.0) in
    let values = value_once f.value g.value a.1.value b.1.value x y type a.1.value_is b.1.value_is keys.1 in
    (same_field f g number values.0, values.1)

-- a field has a byte at least
pub field_some : (bs rest : List ℕ) (field : WireField) → BeginsWithField bs field rest → 1 ≤ length bs
field_some bs rest field a =
    let key = key_of bs rest field a in
    let len : length bs ≡ length key.0 + length (a.1.value ++ rest) = ap length key.2 ∙ length-append key.0 (a.1.value ++ rest) in
    omega (arith, key.1.not_empty)
