use Rattle.std.proofs.Common.{◌≡◌, ℕ, ◌+◌, ◌*◌, ◌/◌, ◌%◌, ◌≤◌, List, ◌++◌, Result, Ok, Err, IfOk, IfErr, length, refl, sym, ap, subst, arith, ◌∙◌, inl, inr}
use Rattle.std.proofs.lemmas.List.{append_assoc, length-append}
use Rattle.wire_varint.specs.Varint.{IsTruncated, IsOverlong}
use Rattle.wire_varint.proofs.Encoding.{IsVarint-ends_not_within, IsVarint-runs_not_on}
use Rattle.pb_fields.specs.Field.{WireValue, value_seen, varint, eight_bytes, byte_string, four_bytes, WireField, wire_type, IsValue, IsNumber, BeginsWithField}
use Rattle.pb_fields.specs.Faults.{BeginsWithVarint, WantsVarint, IsWireType, HasNoNumber, IsPastEnd, HasBadVarint, HasBadKey, HasBadWire, HasShortValue, FirstFault, ValueFails, BeginsNoField}
use Rattle.pb_fields.specs.declared.value.Value.{Value}
use Rattle.pb_fields.specs.declared.fault.FieldFault.{FieldFault}
use Rattle.pb_fields.specs.declared.fault.FieldFault.TheVariants.{Short, BadVarint, BadKey, BadWire}
use Rattle.pb_fields.proofs.Parts.{key_once, key_of, wire_type-lt}

-- bytes that begin with a varint neither end within one nor run on
runs_not : (bs behind : List ℕ) (n : ℕ) → BeginsWithVarint bs n behind → IsOverlong bs → ⊥
runs_not bs behind n (w, v, e) r = let P : List ℕ → Type 0 = IsOverlong in IsVarint-runs_not_on w behind n v (subst P e r)

ends_not : (bs behind : List ℕ) (n : ℕ) → BeginsWithVarint bs n behind → IsTruncated bs → ⊥
ends_not bs behind n (w, v, e) r = let P : List ℕ → Type 0 = IsTruncated in IsVarint-ends_not_within w behind n v (subst P e r)

no_bad_varint : (bs behind : List ℕ) (key : ℕ) → BeginsWithVarint bs key behind →
    (WantsVarint (key % 8) × IsOverlong behind → ⊥) → HasBadVarint bs → ⊥
no_bad_varint bs behind key begins not (inl runs) = runs_not bs behind key begins runs
no_bad_varint bs behind key begins not (inr (k, b, other, wants, runs)) =
    let one = key_once bs k key b behind other begins in
    let P : ℕ → Type 0 = λ n. WantsVarint (n % 8) in
    let Q : List ℕ → Type 0 = IsOverlong in
    not (subst P one.0 wants, subst Q one.1 runs)

no_bad_key : (bs behind : List ℕ) (key : ℕ) → BeginsWithVarint bs key behind → (HasNoNumber key → ⊥) → HasBadKey bs → ⊥
no_bad_key bs behind key begins not (k, b, other, bad) =
    let one = key_once bs k key b behind other begins in
    let P : ℕ → Type 0 = HasNoNumber in
    not (subst P one.0 bad)

no_bad_wire : (bs behind : List ℕ) (key : ℕ) → BeginsWithVarint bs key behind → IsWireType (key % 8) → HasBadWire bs → ⊥
no_bad_wire bs behind key begins is (k, b, other, bad) =
    let one = key_once bs k key b behind other begins in
    let P : ℕ → Type 0 = λ n. IsWireType (n % 8) in
    bad (subst P (sym one.0) is)

-- where a value goes past the end no varint of its own runs on, and the wire type is known
past_runs_not : (wire : ℕ) (bs : List ℕ) → IsPastEnd wire bs → WantsVarint wire → IsOverlong bs → ⊥
past_runs_not wire bs (inl (wants, ends)) _ runs = omega (arith, ends.few, runs.many)
past_runs_not wire bs (inr (inl (one, less))) (inl zero) runs = omega arith
past_runs_not wire bs (inr (inl (one, less))) (inr two) runs = omega arith
past_runs_not wire bs (inr (inr (inl (two, len, behind, begins, less)))) _ runs = runs_not bs behind len begins runs
past_runs_not wire bs (inr (inr (inr (five, less)))) (inl zero) runs = omega arith
past_runs_not wire bs (inr (inr (inr (five, less)))) (inr two) runs = omega arith

past_wire : (wire : ℕ) (bs : List ℕ) → IsPastEnd wire bs → IsWireType wire
past_wire wire bs (inl (wants, ends)) = inl wants
past_wire wire bs (inr (inl (one, less))) = inr (inl one)
past_wire wire bs (inr (inr (inl (two, len, behind, begins, less)))) = inl (inr two)
past_wire wire bs (inr (inr (inr (five, less)))) = inr (inr five)

-- a whole value runs not on
pub value_runs_not : (value : WireValue) (w bs rest : List ℕ) → IsValue w value → bs ≡ w ++ rest →
    WantsVarint (wire_type value) × IsOverlong bs → ⊥
value_runs_not (varint n) w bs rest v e (wants, runs) = runs_not bs rest n (w, v, e) runs
value_runs_not (eight_bytes s) w bs rest v e (inl t, runs) = omega arith
value_runs_not (eight_bytes s) w bs rest v e (inr t, runs) = omega arith
value_runs_not (byte_string s) w bs rest (len, v, parts) e (wants, runs) =
    runs_not bs (s ++ rest) (length s) (len, v, e ∙ ap (λ cs. cs ++ rest) parts ∙ append_assoc len s rest) runs
value_runs_not (four_bytes s) w bs rest v e (inl t, runs) = omega arith
value_runs_not (four_bytes s) w bs rest v e (inr t, runs) = omega arith

-- a whole value goes not past the end
value_not_past : (value : WireValue) (w bs rest : List ℕ) → IsValue w value → bs ≡ w ++ rest → IsPastEnd (wire_type value) bs → ⊥
value_not_past (varint n) w bs rest v e (inl (wants, ends)) = ends_not bs rest n (w, v, e) ends
value_not_past (varint n) w bs rest v e (inr (inl (t, less))) = omega arith
value_not_past (varint n) w bs rest v e (inr (inr (inl (t, len', behind, begins, less)))) = omega arith
value_not_past (varint n) w bs rest v e (inr (inr (inr (t, less)))) = omega arith
value_not_past (eight_bytes s) w bs rest v e (inl (inl t, ends)) = omega arith
value_not_past (eight_bytes s) w bs rest v e (inl (inr t, ends)) = omega arith
value_not_past (eight_bytes s) w bs rest (parts, eight) e (inr (inl (t, less))) =
    let len : length bs ≡ length s + length rest = ap length (e ∙ ap (λ cs. cs ++ rest) parts) ∙ length-append s rest in omega arith
value_not_past (eight_bytes s) w bs rest v e (inr (inr (inl (t, len', behind, begins, less)))) = omega arith
value_not_past (eight_bytes s) w bs rest v e (inr (inr (inr (t, less)))) = omega arith
value_not_past (byte_string s) w bs rest (len, v, parts) e past =
    string past
  where
    begins : BeginsWithVarint bs (length s) (s ++ rest)
    begins = (len, v, e ∙ ap (λ cs. cs ++ rest) parts ∙ append_assoc len s rest)

    string : IsPastEnd 2 bs → ⊥
    string (inl (wants, ends)) = ends_not bs (s ++ rest) (length s) begins ends
    string (inr (inl (t, less))) = omega arith
    string (inr (inr (inl (t, n, behind, other, less)))) =
        let one = key_once bs n (length s) behind (s ++ rest) other begins in
        let both : length behind ≡ length s + length rest = ap length one.1 ∙ length-append s rest in
        omega (arith, one.0)
    string (inr (inr (inr (t, less)))) = omega arith
value_not_past (four_bytes s) w bs rest v e (inl (inl t, ends)) = omega arith
value_not_past (four_bytes s) w bs rest v e (inl (inr t, ends)) = omega arith
value_not_past (four_bytes s) w bs rest v e (inr (inl (t, less))) = omega arith
value_not_past (four_bytes s) w bs rest v e (inr (inr (inl (t, len', behind, begins, less)))) = omega arith
value_not_past (four_bytes s) w bs rest (parts, four) e (inr (inr (inr (t, less)))) =
    let len : length bs ≡ length s + length rest = ap length (e ∙ ap (λ cs. cs ++ rest) parts) ∙ length-append s rest in omega arith

-- a number from 1 to 2 ^ 29 - 1 has a key
pub number_has_key : (key number : ℕ) → IsNumber number → number ≡ key / 8 → HasNoNumber key → ⊥
number_has_key key number is e (inl great) = omega (arith, is.0, is.1)
number_has_key key number is e (inr small) = omega (arith, is.0, is.1)

-- a bad key is the first fault where no varint behind it runs on
pub bad_key_first : (bs behind : List ℕ) (key : ℕ) → BeginsWithVarint bs key behind → HasNoNumber key →
    (WantsVarint (key % 8) × IsOverlong behind → ⊥) → FirstFault bs BadKey
bad_key_first bs behind key begins bad not =
    inr (no_bad_varint bs behind key begins not, inr (ends_not bs behind key begins, inl ((key, behind, begins, bad), refl)))

-- what fails behind a good key is the first fault
pub value_fails_first : (bs behind : List ℕ) (key : ℕ) (fault : FieldFault) → BeginsWithVarint bs key behind →
    (HasNoNumber key → ⊥) → ValueFails (key % 8) behind fault → FirstFault bs fault
value_fails_first bs behind key Short begins good past =
    inr (
      no_bad_varint bs behind key begins (λ both. past_runs_not (key % 8) behind past both.0 both.1),
      inr (
        ends_not bs behind key begins,
        inr (
          no_bad_key bs behind key begins good,
          inr (no_bad_wire bs behind key begins (past_wire (key % 8) behind past), inl ((key, behind, begins, past), refl)),
        ),
      ),
    )
value_fails_first bs behind key BadVarint begins good (wants, runs) = inl (inr (key, behind, begins, wants, runs), refl)
value_fails_first bs behind key BadKey begins good none = absurd none
value_fails_first bs behind key BadWire begins good bad =
    inr (
      no_bad_varint bs behind key begins (λ both. bad (inl both.0)),
      inr (
        ends_not bs behind key begins,
        inr (no_bad_key bs behind key begins good, inl ((key, behind, begins, bad), refl)),
      ),
    )

-- no value fails and runs on, but by a bad varint
pub fails_runs_not : (wire : ℕ) (bs : List ℕ) (fault : FieldFault) → (fault ≡ BadVarint → ⊥) → ValueFails wire bs fault →
    WantsVarint wire × IsOverlong bs → ⊥
fails_runs_not wire bs Short other past (wants, runs) = past_runs_not wire bs past wants runs
fails_runs_not wire bs BadVarint other fails both = other refl
fails_runs_not wire bs BadKey other none both = none
fails_runs_not wire bs BadWire other bad (wants, runs) = bad (inl wants)

-- the wire type is the key's lowest three bits
wire_of_key : (value : WireValue) (number : ℕ) → (number * 8 + wire_type value) % 8 ≡ wire_type value
wire_of_key value number = let small = wire_type-lt value in omega arith

known_wire : (value : WireValue) → IsWireType (wire_type value)
known_wire (varint n) = inl (inl refl)
known_wire (eight_bytes s) = inr (inl refl)
known_wire (byte_string s) = inl (inr refl)
known_wire (four_bytes s) = inr (inr refl)

-- bytes with a fault begin with no field
pub fault_no_field : (bs rest : List ℕ) (fault : FieldFault) (field : WireField) → FirstFault bs fault → BeginsWithField bs field rest → ⊥
fault_no_field bs rest fault field first begins = refuted first
  where
    whole : BeginsWithVarint bs (field.number * 8 + wire_type field.value) (begins.1.value ++ rest)
    whole = key_of bs rest field begins

    wire : (field.number * 8 + wire_type field.value) % 8 ≡ wire_type field.value
    wire = wire_of_key field.value field.number

    not_runs : WantsVarint ((field.number * 8 + wire_type field.value) % 8) × IsOverlong (begins.1.value ++ rest) → ⊥
    not_runs (wants, runs) =
        let P : ℕ → Type 0 = WantsVarint in
        value_runs_not field.value begins.1.value (begins.1.value ++ rest) rest begins.1.value_is refl (subst P wire wants, runs)

    known : IsWireType ((field.number * 8 + wire_type field.value) % 8)
    known = let P : ℕ → Type 0 = IsWireType in subst P (sym wire) (known_wire field.value)

    has_number : HasNoNumber (field.number * 8 + wire_type field.value) → ⊥
    has_number none =
        let small = wire_type-lt field.value in
        number_has_key (field.number * 8 + wire_type field.value) field.number begins.1.number (omega arith) none

    short : HasShortValue bs → ⊥
    short (k, b, other, past) =
        let one = key_once bs k (field.number * 8 + wire_type field.value) b (begins.1.value ++ rest) other whole in
        let P : ℕ → Type 0 = λ n. IsPastEnd (n % 8) b in
        let Q : ℕ → Type 0 = λ n. IsPastEnd n b in
        let R : List ℕ → Type 0 = λ cs. IsPastEnd (wire_type field.value) cs in
        value_not_past field.value begins.1.value (begins.1.value ++ rest) rest begins.1.value_is refl (subst R one.1 (subst Q wire (subst P one.0 past)))

    refuted : FirstFault bs fault → ⊥
    refuted (inl (bad, _)) = no_bad_varint bs (begins.1.value ++ rest) (field.number * 8 + wire_type field.value) whole not_runs bad
    refuted (inr (_, inl (ends, _))) = ends_not bs (begins.1.value ++ rest) (field.number * 8 + wire_type field.value) whole ends
    refuted (inr (_, inr (_, inl (bad, _)))) = no_bad_key bs (begins.1.value ++ rest) (field.number * 8 + wire_type field.value) whole has_number bad
    refuted (inr (_, inr (_, inr (_, inl (bad, _))))) = no_bad_wire bs (begins.1.value ++ rest) (field.number * 8 + wire_type field.value) whole known bad
    refuted (inr (_, inr (_, inr (_, inr (_, inl (past, _)))))) = short past
    refuted (inr (_, inr (_, inr (_, inr (_, inr (_, none)))))) = none

-- behind a key whose value is read or fails otherwise no varint runs on
pub found_runs_not : {B : Type 0} (now : B → List ℕ) (wire : ℕ) (bs : List ℕ) (found : Result (Value × B) FieldFault) →
    (found ≡ Err BadVarint → ⊥) → IfOk found (λ r. wire_type (value_seen r.0) ≡ wire) →
    IfOk found (λ r. (w : List ℕ) × IsValue w (value_seen r.0) × (bs ≡ w ++ now r.1)) →
    IfErr found (λ fault. ValueFails wire bs fault) → WantsVarint wire × IsOverlong bs → ⊥
found_runs_not now wire bs (Ok (value, rest)) other type (w, is, e) none (wants, runs) =
    let P : ℕ → Type 0 = WantsVarint in
    value_runs_not (value_seen value) w bs (now rest) is e (subst P (sym type) wants, runs)
found_runs_not now wire bs (Err fault) other type value fails both =
    fails_runs_not wire bs fault (λ e. other (ap Err e)) fails both

-- bytes with a fault, if there are any, begin with no field
pub no_field : (bs : List ℕ) (fault : FieldFault) → 1 ≤ length bs → FirstFault bs fault → BeginsNoField bs
no_field bs fault some first = record { some = some; none = λ field rest begins. fault_no_field bs rest fault field first begins }
