-- The shortest encoding of a value.
use Rattle.std.proofs.Common.{◌≡◌, ℕ, suc, zero, ◌+◌, ◌*◌, ◌-◌, ◌/◌, ◌%◌, ◌^◌, ◌<◌, ◌≤◌, List, [], ◌∷◌, ◌++◌, length, get_or, take, drop, set, refl, sym, ap, subst, arith, ◌∙◌, nat_lt, lit<, inl, inr, add-zero, zero-add, add-one}
use native.Mathlib.Numerals.{unary_clauses}
use Rattle.std.proofs.lemmas.Bool.{cases_lt, cond-true, cond-false, lt-ltb, le-ltb}
use Rattle.std.proofs.lemmas.Grind.{common_steps}
use Rattle.std.proofs.lemmas.List.{append_assoc, length-append, length-take-le, take_more_set, drop-drop, drop-set-lt, set_split, get_or-take, get_or_append_left, take_at, drop_at}
use Rattle.std.proofs.Math.Nat.{div-add-mod, div-lt_iff_lt-mul, pow-le-pow_right, le-div_iff_mul-le, mul-le-mul_right, mod-le}
use Rattle.wire_varint.specs.Varint.{groups_from, value_of, GoesOn, IsVarint, HasGroups, IsTruncated, IsOverlong, encoded, encoding}

-- a value below 128 is its own byte
pub encoded-small : (n value : ℕ) → value < 128 → encoded n value ≡ value ∷ []
unfolding encoded
encoded-small zero value h = refl
encoded-small (suc n) value h = cond-true (nat_lt value 128) _ _ (lt-ltb value 128 h)

-- any other has its lowest group first
pub encoded-more : (n value : ℕ) → 128 ≤ value → encoded (suc n) value ≡ (value % 128 + 128) ∷ encoded n (value / 128)
unfolding encoded
encoded-more n value h = cond-false (nat_lt value 128) _ _ (le-ltb value 128 h)

-- a quotient has one group less
pub fits_less : (n value : ℕ) → value < 128 ^ (suc n + 1) → value / 128 < 128 ^ (n + 1)
fits_less n value h =
    let power : 128 ^ (suc n + 1) ≡ 128 ^ (n + 1) * 128 = simp unary_clauses (grind arith) in
    (div-lt_iff_lt-mul {k = 128} (lit< tt)).1 (subst (λ m. value < m) power h)

-- what the bytes of a value are
record Shape (n value : ℕ) (bs : List ℕ) : Type 0 where
  bounded : length bs ≤ n + 1
  groups : HasGroups value (length bs)
  goes_on : GoesOn bs (length bs - 1)
  ends : get_or bs (length bs - 1) 0 < 128
  sum : (i : ℕ) → groups_from i bs ≡ value * 128 ^ i

shape_small : (n value : ℕ) → value < 128 → Shape n value (value ∷ [])
shape_small n value h = record {
  bounded = omega arith;
  groups = record { not_empty = omega arith; enough = omega arith; least = λ more. absurd (omega arith) };
  goes_on = λ k below. absurd (omega arith);
  ends = h;
  sum = λ i. grind arith;
}

sum_again : (i q r n : ℕ) → 128 * q + r ≡ n → r * 128 ^ i + q * 128 ^ (i + 1) ≡ n * 128 ^ i
sum_again i q r n e = rw (← e) (simp unary_clauses (grind arith))

-- one group more than the quotient has
groups_more : (value n : ℕ) → 128 ≤ value → HasGroups (value / 128) n → HasGroups value (suc n)
groups_more value n h g = record {
  not_empty = omega arith;
  enough = power_below n ((div-lt_iff_lt-mul {k = 128} (lit< tt)).0 g.enough);
  least = λ more. elim (cases_lt 1 n) [ inl many ↦ least_many n many (g.least many) | inr one ↦ least_one n one g.not_empty ];
}
  where
    power_below : (n : ℕ) → value < 128 ^ n * 128 → value < 128 ^ suc n
    power_below n below = let power : 128 ^ suc n ≡ 128 ^ n * 128 = simp unary_clauses (grind arith) in omega arith

    least_many : (n : ℕ) → 1 < n → 128 ^ (n - 1) ≤ value / 128 → 128 ^ (suc n - 1) ≤ value
    least_many n many least =
        let up : 128 ^ (n - 1) * 128 ≤ value = (le-div_iff_mul-le {k = 128} (lit< tt)).0 least in
        let one_more : suc n - 1 ≡ suc (n - 1) = omega arith in
        let power : 128 ^ suc (n - 1) ≡ 128 ^ (n - 1) * 128 = simp unary_clauses (grind arith) in
        rw (one_more, power) up

    least_one : (n : ℕ) → n ≤ 1 → 1 ≤ n → 128 ^ (suc n - 1) ≤ value
    least_one n one some = let single : n ≡ 1 = omega arith in rw single h

-- the value is its lowest group and 128 times the rest
shape_more : (n value : ℕ) (bs : List ℕ) → 128 ≤ value → Shape n (value / 128) bs →
    Shape (suc n) value ((value % 128 + 128) ∷ bs)
shape_more n value bs h s = record {
  bounded = omega (arith, s.bounded);
  groups = groups_more value (length bs) h s.groups;
  goes_on = λ k below. goes k below;
  ends = last bs s.groups.not_empty s.ends;
  sum = λ i. summed i;
}
  where
    goes : (k : ℕ) → k < suc (length bs) - 1 → 128 ≤ get_or ((value % 128 + 128) ∷ bs) k 0
    goes zero below = omega arith
    goes (suc k) below = s.goes_on k (omega arith)

    last : (bs : List ℕ) → 1 ≤ length bs → get_or bs (length bs - 1) 0 < 128 →
        get_or ((value % 128 + 128) ∷ bs) (suc (length bs) - 1) 0 < 128
    last [] some ends = absurd (omega arith)
    last (b ∷ bs) some ends = grind (arith, common_steps)

    summed : (i : ℕ) → groups_from i ((value % 128 + 128) ∷ bs) ≡ value * 128 ^ i
    summed i =
        let rest : groups_from (i + 1) bs ≡ value / 128 * 128 ^ (i + 1) = s.sum (i + 1) in
        let group : (value % 128 + 128) % 128 ≡ value % 128 = omega arith in
        rw (rest, group) (sum_again i (value / 128) (value % 128) value (div-add-mod value 128))

-- the bytes of a value that fits
shape : (n value : ℕ) → value < 128 ^ (n + 1) → Shape n value (encoded n value)
shape zero value h = rw (encoded-small zero value h) (shape_small zero value h)
shape (suc n) value h =
    elim (cases_lt value 128) [
      | inl small ↦ rw (encoded-small (suc n) value small) (shape_small (suc n) value small)
      | inr more ↦ rw (encoded-more n value more) (shape_more n value _ more (shape n (value / 128) (fits_less n value h)))
    ]

encoding-shape : (value : ℕ) → value < 2 ^ 64 → Shape 9 value (encoding value)
unfolding encoding
encoding-shape value h = shape 9 value (omega arith)

-- a encoding is a varint of its value
pub encoding-is_varint : (value : ℕ) → value < 2 ^ 64 → IsVarint (encoding value) value
encoding-is_varint value h =
    let s = encoding-shape value h in
    record {
      not_empty = s.groups.not_empty;
      bounded = s.bounded;
      goes_on = s.goes_on;
      ends = s.ends;
      value_is = rw (s.sum 0) (grind arith);
    }

pub length-encoding_le : (value : ℕ) → value < 2 ^ 64 → length (encoding value) ≤ 10
length-encoding_le value h = (encoding-shape value h).bounded

-- only one number is a value's number of groups
groups_le : (value m n : ℕ) → HasGroups value m → HasGroups value n → m ≤ n
groups_le value m n a b =
    elim (cases_lt n m) [
      | inl more ↦
          let least : 128 ^ (m - 1) ≤ value = a.least (omega (arith, b.not_empty)) in
          let grows : 128 ^ n ≤ 128 ^ (m - 1) = pow-le-pow_right (lit< tt) (omega arith) in
          absurd (omega (arith, b.enough))
      | inr le ↦ le
    ]

pub length-encoding : (value n : ℕ) → value < 2 ^ 64 → HasGroups value n → n ≡ length (encoding value)
length-encoding value n h g =
    let s = encoding-shape value h in
    let up = groups_le value n (length (encoding value)) g s.groups in
    let down = groups_le value (length (encoding value)) n s.groups g in
    omega arith

-- so many groups make no more
groups_from-lt : (i : ℕ) (bs : List ℕ) → groups_from i bs + 128 ^ i ≤ 128 ^ (i + length bs)
groups_from-lt i [] = rw add-zero (omega arith)
groups_from-lt i (b ∷ bs) =
    let rest : groups_from (i + 1) bs + 128 ^ (i + 1) ≤ 128 ^ (i + 1 + length bs) = groups_from-lt (i + 1) bs in
    let group : b % 128 * 128 ^ i ≤ 127 * 128 ^ i = mul-le-mul_right (128 ^ i) (omega arith) in
    let power : 128 ^ (i + 1) ≡ 128 ^ i * 128 = simp unary_clauses (grind arith) in
    let same : i + 1 + length bs ≡ i + suc (length bs) = omega arith in
    let rest' : groups_from (i + 1) bs + 128 ^ (i + 1) ≤ 128 ^ (i + suc (length bs)) = subst (λ n. groups_from (i + 1) bs + 128 ^ (i + 1) ≤ 128 ^ n) same rest in
    omega arith

-- no varint of a value is shorter than its encoding
pub encoding-shortest : (value : ℕ) (bs : List ℕ) → value < 2 ^ 64 → IsVarint bs value → length (encoding value) ≤ length bs
encoding-shortest value bs h v =
    let s = encoding-shape value h in
    elim (cases_lt (length bs) (length (encoding value))) [
      | inl more ↦
          let least : 128 ^ (length (encoding value) - 1) ≤ value = s.groups.least (omega (arith, v.not_empty)) in
          let grows : 128 ^ length bs ≤ 128 ^ (length (encoding value) - 1) = pow-le-pow_right (lit< tt) (omega arith) in
          let within : groups_from 0 bs + 128 ^ 0 ≤ 128 ^ (0 + length bs) = groups_from-lt 0 bs in
          let within' : groups_from 0 bs + 128 ^ 0 ≤ 128 ^ length bs = rw zero-add at within in
          let wrapped : groups_from 0 bs % 2 ^ 64 ≤ groups_from 0 bs = mod-le (groups_from 0 bs) (2 ^ 64) in
          absurd (omega (arith, v.value_is))
      | inr le ↦ le
    ]

-- what is written so far, and what is left, makes the encoding
pub Completes : (value used rest : ℕ) → List ℕ → Type 0
Completes value used rest out = encoding value ≡ take used out ++ encoded (9 - used) rest

-- a byte is left to write, so there is room for it
pub Completes-room : (value used rest : ℕ) (out : List ℕ) → used ≤ length out → rest < 128 ^ (9 - used + 1) →
    length (encoding value) ≤ length out → Completes value used rest out → used < length out
unfolding Completes
Completes-room value used rest out within fits room e =
    let s = shape (9 - used) rest fits in
    let len : length (encoding value) ≡ length (take used out) + length (encoded (9 - used) rest) = ap length e ∙ length-append (take used out) (encoded (9 - used) rest) in
    let front : length (take used out) ≡ used = length-take-le used out within in
    omega (arith, s.groups.not_empty)

few_more : (used rest : ℕ) → 128 ≤ rest → used ≤ 9 → rest < 128 ^ (9 - used + 1) → used + 1 ≤ 9
few_more used rest more few fits =
    elim (cases_lt used 9) [
      | inl lt ↦ omega arith
      | inr ge ↦ let last : 9 - used + 1 ≡ 1 = omega arith in let small : rest < 128 ^ 1 = subst (λ n. rest < 128 ^ n) last fits in absurd (omega arith)
    ]

-- the step of the loop
pub Completes-more : (value used rest : ℕ) (out : List ℕ) → used < length out → 128 ≤ rest → used ≤ 9 →
    rest < 128 ^ (9 - used + 1) → Completes value used rest out →
    (used + 1 ≤ 9) × (rest / 128 < 128 ^ (9 - (used + 1) + 1)) × Completes value (used + 1) (rest / 128) (set out used (rest % 128 + 128))
unfolding Completes
Completes-more value used rest out below more few fits e =
    let few' : used + 1 ≤ 9 = few_more used rest more few fits in
    let left : 9 - used ≡ suc (9 - (used + 1)) = omega arith in
    let fits' : rest < 128 ^ (suc (9 - (used + 1)) + 1) = subst (λ n. rest < 128 ^ (n + 1)) left fits in
    let split : encoded (9 - used) rest ≡ (rest % 128 + 128) ∷ encoded (9 - (used + 1)) (rest / 128) = rw left (encoded-more (9 - (used + 1)) rest more) in
    (few', fits_less (9 - (used + 1)) rest fits', rw (e, split, take_more_set out used (rest % 128 + 128) below, append_assoc) refl)

-- its end
pub Completes-last : (value used rest : ℕ) (out old : List ℕ) → used < length out → rest < 128 → drop used out ≡ drop used old →
    Completes value used rest out →
    (used + 1 ≡ length (encoding value)) × (set out used rest ≡ encoding value ++ drop (used + 1) old)
unfolding Completes
Completes-last value used rest out old below small kept e =
    let e' : encoding value ≡ take used out ++ rest ∷ [] = e ∙ ap (λ bs. take used out ++ bs) (encoded-small (9 - used) rest small) in
    let front : length (take used out) ≡ used = length-take-le used out (omega arith) in
    let len : length (encoding value) ≡ length (take used out) + 1 = ap length e' ∙ length-append (take used out) (rest ∷ []) in
    let behind : drop (suc used) out ≡ drop (used + 1) old =
    ap (λ n. drop n out) (sym (add-one used)) ∙ sym (drop-drop 1 used out) ∙ ap (λ bs. drop 1 bs) kept ∙ drop-drop 1 used old in
    let split : set out used rest ≡ take used out ++ rest ∷ drop (suc used) out = set_split out used rest below in
    (omega arith, rw (split, behind, e', append_assoc) refl)

-- the first bytes of a list, as far as they have the high bit
GoesOn-take : (bs : List ℕ) (n m : ℕ) → m ≤ n → GoesOn bs m → GoesOn (take n bs) m
GoesOn-take bs n m h g k below = rw (get_or-take n bs k 0 (omega arith)) (g k below)

-- a varint stands where the first byte without the high bit comes
pub IsVarint-take : (bs : List ℕ) (i value : ℕ) → i < length bs → i < 10 → GoesOn bs i → get_or bs i 0 < 128 →
    value ≡ value_of (take (i + 1) bs) → IsVarint (take (i + 1) bs) value
IsVarint-take bs i value below few goes ends e =
    let len : length (take (i + 1) bs) ≡ i + 1 = length-take-le (i + 1) bs (omega arith) in
    let last : length (take (i + 1) bs) - 1 ≡ i = omega arith in
    record {
      not_empty = omega arith;
      bounded = omega arith;
      goes_on = rw last (GoesOn-take bs (i + 1) i (omega arith) goes);
      ends = rw (last, get_or-take (i + 1) bs i 0 (omega arith)) ends;
      value_is = e;
    }

-- its start
pub Completes-start : (value : ℕ) (out : List ℕ) → Completes value 0 value out
unfolding Completes encoding
Completes-start value out = refl

-- a byte behind the first ones is written, and what lies behind it stays
pub drop-set_more : (n x : ℕ) (bs old : List ℕ) → drop n bs ≡ drop n old → drop (n + 1) (set bs n x) ≡ drop (n + 1) old
drop-set_more n x bs old e =
    drop-set-lt (n + 1) bs n x (omega arith) ∙ sym (drop-drop 1 n bs) ∙ ap (λ cs. drop 1 cs) e ∙ drop-drop 1 n old

-- a varint's last byte tells where it ends
IsVarint-le : (a b x y : List ℕ) (m n : ℕ) → IsVarint a m → IsVarint b n → a ++ x ≡ b ++ y → length a ≤ length b
IsVarint-le a b x y m n va vb e =
    elim (cases_lt (length b) (length a)) [
      | inl more ↦
          let last = length b - 1 in
          let within : last < length a - 1 = omega (arith, vb.not_empty) in
          let below_a : last < length a = omega arith in
          let below_b : last < length b = omega (arith, vb.not_empty) in
          let same : get_or a last 0 ≡ get_or b last 0 =
          sym (get_or_append_left a x 0 last below_a) ∙ ap (λ bs. get_or bs last 0) e ∙ get_or_append_left b y 0 last below_b in
          absurd (omega (arith, va.goes_on last within, vb.ends))
      | inr le ↦ le
    ]

-- no varint begins another one
pub IsVarint-unique : (a b x y : List ℕ) (m n : ℕ) → IsVarint a m → IsVarint b n → a ++ x ≡ b ++ y → (a ≡ b) × (m ≡ n) × (x ≡ y)
IsVarint-unique a b x y m n va vb e =
    let le : length a ≤ length b = IsVarint-le a b x y m n va vb e in
    let ge : length b ≤ length a = IsVarint-le b a y x n m vb va (sym e) in
    let len : length a ≡ length b = omega arith in
    let same : a ≡ b = sym (take_at a x (length a) refl) ∙ ap (λ bs. take (length a) bs) e ∙ take_at b y (length a) (sym len) in
    let behind : x ≡ y = sym (drop_at a x (length a) refl) ∙ ap (λ bs. drop (length a) bs) e ∙ drop_at b y (length a) (sym len) in
    (same, va.value_is ∙ ap value_of same ∙ sym vb.value_is, behind)

-- bytes that begin with a varint don't end within one
pub IsVarint-ends_not_within : (a x : List ℕ) (m : ℕ) → IsVarint a m → IsTruncated (a ++ x) → ⊥
IsVarint-ends_not_within a x m v w =
    let last = length a - 1 in
    let below : last < length a = omega (arith, v.not_empty) in
    let high : 128 ≤ get_or (a ++ x) last 0 = w.goes_on last (rw length-append (omega arith)) in
    let same : get_or (a ++ x) last 0 ≡ get_or a last 0 = get_or_append_left a x 0 last below in
    omega (arith, v.ends)

-- nor do they run on
pub IsVarint-runs_not_on : (a x : List ℕ) (m : ℕ) → IsVarint a m → IsOverlong (a ++ x) → ⊥
IsVarint-runs_not_on a x m v r =
    let last = length a - 1 in
    let below : last < length a = omega (arith, v.not_empty) in
    let high : 128 ≤ get_or (a ++ x) last 0 = r.goes_on last (omega (arith, v.bounded)) in
    let same : get_or (a ++ x) last 0 ≡ get_or a last 0 = get_or_append_left a x 0 last below in
    omega (arith, v.ends)
