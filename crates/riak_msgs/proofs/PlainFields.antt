-- Fields of bytes in their one encoding.
use Rattle.std.proofs.Common.{◌≡◌, ◌≢◌, ◌⊎◌, ◌==◌, true, false, ℕ, ◌+◌, ◌*◌, ◌-◌, ◌/◌, ◌%◌, ◌<◌, ◌≤◌, List, [], ◌∷◌, ◌++◌, length, get_or, take, drop, refl, ap, sym, subst, ◌∙◌, arith, nat_lt, inl, inr, length-append, append_assoc}
use Rattle.std.proofs.Math.Seq.{drop-append_seam, take-append_seam}
use Rattle.std.proofs.lemmas.Bool.{cases_lt, cond-true, cond-false, lt-ltb, le-ltb}
use Rattle.std.proofs.lemmas.Grind.{common_steps}
use Rattle.pb_fields.specs.Encoding as fields
use Rattle.pb_fields.specs.Encoding.{bytes_field, bool_field, optional_field}
use Rattle.riak_msgs.specs.PlainFields.{BeginsPlainly, BeginsWithLen, BeginsWithNames}

-- a number below 128 is its own byte
pub len_one : (n : ℕ) → n < 128 → fields.varint_encoding n ≡ n ∷ []
unfolding fields.varint_encoding fields.varint_encoded
len_one n h = cond-true (nat_lt n 128) _ _ (lt-ltb n 128 h)

-- one of two bytes
pub len_two : (n : ℕ) → 128 ≤ n → n < 16384 → fields.varint_encoding n ≡ (n % 128 + 128) ∷ (n / 128) ∷ []
unfolding fields.varint_encoding fields.varint_encoded
len_two n h short =
    let high : n / 128 < 128 = omega arith in
    cond-false (nat_lt n 128) _ _ (le-ltb n 128 h) ∙ ap (λ bs. (n % 128 + 128) ∷ bs) (cond-true (nat_lt (n / 128) 128) _ _ (lt-ltb (n / 128) 128 high))

-- the first of two rows of bytes that are one
pub first_same : (x y : ℕ) (xs ys : List ℕ) → x ∷ xs ≡ y ∷ ys → x ≡ y
first_same x y xs ys e = ap (λ bs. get_or bs 0 0) e

-- what is behind it
pub behind_same : (x y : ℕ) (xs ys : List ℕ) → x ∷ xs ≡ y ∷ ys → xs ≡ ys
behind_same x y xs ys e = ap (drop 1) e

-- one byte at the front
pub len_begins_one : (bs rest : List ℕ) (low : ℕ) → bs ≡ low ∷ rest → low < 128 → BeginsWithLen bs low rest
len_begins_one bs rest low is small = (is ∙ sym (ap (λ w. w ++ rest) (len_one low small)), omega arith)

-- two bytes at the front
pub len_begins_two : (bs rest behind : List ℕ) (low high : ℕ) → bs ≡ low ∷ rest → rest ≡ high ∷ behind → 128 ≤ low → low < 256 → 1 ≤ high → high < 128 →
    BeginsWithLen bs (low - 128 + 128 * high) behind
len_begins_two bs rest behind low high is next l m n o =
    let len = low - 128 + 128 * high in
    let large : 128 ≤ len = omega arith in
    let short : len < 16384 = omega arith in
    let first : len % 128 + 128 ≡ low = omega arith in
    let second : len / 128 ≡ high = omega arith in
    let bytes : fields.varint_encoding len ≡ low ∷ high ∷ [] = len_two len large short ∙ ap (λ b. b ∷ (len / 128) ∷ []) first ∙ ap (λ b. low ∷ b ∷ []) second in
    (is ∙ ap (λ bs. low ∷ bs) next ∙ sym (ap (λ w. w ++ behind) bytes), short)

-- a length at the front has one byte or two
pub len_shapes : (bs : List ℕ) (len : ℕ) (behind : List ℕ) → BeginsWithLen bs len behind →
    ((len < 128) × (bs ≡ len ∷ behind)) ⊎ ((128 ≤ len) × (bs ≡ (len % 128 + 128) ∷ (len / 128) ∷ behind))
len_shapes bs len behind b = elim (cases_lt len 128) [
  | inl small ↦ inl (small, b.0 ∙ ap (λ w. w ++ behind) (len_one len small))
  | inr large ↦ inr (large, b.0 ∙ ap (λ w. w ++ behind) (len_two len large b.1))
]

-- no bytes begin with none
pub no_len-nil : (bs : List ℕ) → length bs ≡ 0 → (len : ℕ) (behind : List ℕ) → BeginsWithLen bs len behind → ⊥
no_len-nil bs none len behind b =
    elim (len_shapes bs len behind b) [
      | inl one ↦ let some = ap length one.1 in omega arith
      | inr two ↦ let some = ap length two.1 in omega arith
    ]

-- nor do those that end behind the first of two
pub no_len-short : (bs rest : List ℕ) (low : ℕ) → bs ≡ low ∷ rest → 128 ≤ low → length rest ≡ 0 → (len : ℕ) (behind : List ℕ) →
    BeginsWithLen bs len behind → ⊥
no_len-short bs rest low is large none len behind b =
    let whole = ap length is in
    elim (len_shapes bs len behind b) [
      | inl one ↦ let same = first_same low len rest behind (sym is ∙ one.1) in let small = one.0 in omega arith
      | inr two ↦ let some = ap length two.1 in omega arith
    ]

-- nor those of which the second byte is 0 or goes on
pub no_len-second : (bs rest others : List ℕ) (low high : ℕ) → bs ≡ low ∷ rest → 128 ≤ low → rest ≡ high ∷ others → (high ≡ 0) ⊎ (128 ≤ high) →
    (len : ℕ) (behind : List ℕ) → BeginsWithLen bs len behind → ⊥
no_len-second bs rest others low high is large next odd len behind b = elim (len_shapes bs len behind b) [
  | inl one ↦ let same = first_same low len rest behind (sym is ∙ one.1) in let small = one.0 in omega arith
  | inr two ↦
      let second : len / 128 ≡ high =
      first_same (len / 128) high behind others (sym (behind_same low (len % 128 + 128) rest ((len / 128) ∷ behind) (sym is ∙ two.1)) ∙ next) in
      let at_least = two.0 in
      let short = b.1 in
      elim odd [ inl zero ↦ omega arith | inr goes_on ↦ omega arith ]
]

-- bytes begin with one length at most
len_once : (bs : List ℕ) (len other : ℕ) (behind others : List ℕ) → BeginsWithLen bs len behind → BeginsWithLen bs other others →
    (len ≡ other) × (behind ≡ others)
len_once bs len other behind others a b = elim (len_shapes bs len behind a) [
  | inl one ↦ elim (len_shapes bs other others b) [
    | inl one′ ↦
        (first_same len other behind others (sym one.1 ∙ one′.1), behind_same len other behind others (sym one.1 ∙ one′.1))
    | inr two ↦
        let same = first_same len (other % 128 + 128) behind ((other / 128) ∷ others) (sym one.1 ∙ two.1) in
        let small = one.0 in
        absurd (omega arith)
  ]
  | inr two ↦ elim (len_shapes bs other others b) [
    | inl one ↦
        let same = first_same (len % 128 + 128) other ((len / 128) ∷ behind) others (sym two.1 ∙ one.1) in
        let small = one.0 in
        absurd (omega arith)
    | inr two′ ↦
        let whole = sym two.1 ∙ two′.1 in
        let low = first_same (len % 128 + 128) (other % 128 + 128) ((len / 128) ∷ behind) ((other / 128) ∷ others) whole in
        let next = behind_same (len % 128 + 128) (other % 128 + 128) ((len / 128) ∷ behind) ((other / 128) ∷ others) whole in
        let high = first_same (len / 128) (other / 128) behind others next in
        (omega arith, behind_same (len / 128) (other / 128) behind others next)
  ]
]

-- a field of a number below 16 has a key of one byte
pub field_is : (number : ℕ) (content : List ℕ) → number < 16 →
    bytes_field number content ≡ (number * 8 + 2) ∷ (fields.varint_encoding (length content) ++ content)
field_is number content low =
    let small : number * 8 + 2 < 128 = omega arith in
    ap (λ w. w ++ (fields.varint_encoding (length content) ++ content)) (len_one (number * 8 + 2) small)

-- such a field at the front
pub plain_is : (number : ℕ) (bs content behind : List ℕ) → number < 16 → BeginsPlainly number bs content behind →
    bs ≡ (number * 8 + 2) ∷ (fields.varint_encoding (length content) ++ (content ++ behind))
plain_is number bs content behind low b =
    b.0 ∙ ap (λ w. w ++ behind) (field_is number content low)
    ∙ ap (λ w. (number * 8 + 2) ∷ w) (append_assoc (fields.varint_encoding (length content)) content behind)

-- the key, the length, and so many bytes
pub begins_plainly : (number key len : ℕ) (bs rest others content behind : List ℕ) → number < 16 → bs ≡ key ∷ rest → key ≡ number * 8 + 2 →
    BeginsWithLen rest len others → others ≡ content ++ behind → length content ≡ len → BeginsPlainly number bs content behind
begins_plainly number key len bs rest others content behind low is same b parts counted =
    let encoded = fields.varint_encoding (length content) in
    let inner : rest ≡ encoded ++ (content ++ behind) = b.0 ∙ ap (λ n. fields.varint_encoding n ++ others) (sym counted) ∙ ap (λ w. encoded ++ w) parts in
    let below = b.1 in (
      is ∙ ap (λ k. k ∷ rest) same ∙ ap (λ w. (number * 8 + 2) ∷ w) (inner ∙ sym (append_assoc encoded content behind))
          ∙ ap (λ w. w ++ behind) (sym (field_is number content low)),
      omega arith,
    )

-- no bytes begin with no field
pub no_plain-nil : (number : ℕ) (bs : List ℕ) → number < 16 → length bs ≡ 0 → (content behind : List ℕ) → BeginsPlainly number bs content behind → ⊥
no_plain-nil number bs low none content behind b =
    let some = ap length (plain_is number bs content behind low b) in
    omega arith

-- another key is that of another field
pub no_plain-key : (number key : ℕ) (bs rest : List ℕ) → number < 16 → bs ≡ key ∷ rest → key ≢ number * 8 + 2 → (content behind : List ℕ) →
    BeginsPlainly number bs content behind → ⊥
no_plain-key number key bs rest low is other content behind b =
    other (first_same key (number * 8 + 2) rest (fields.varint_encoding (length content) ++ (content ++ behind))
    (sym is ∙ plain_is number bs content behind low b))

-- what is behind the key of a plain field
plain_len : (number key : ℕ) (bs rest content behind : List ℕ) → number < 16 → bs ≡ key ∷ rest → BeginsPlainly number bs content behind →
    BeginsWithLen rest (length content) (content ++ behind)
plain_len number key bs rest content behind low is b = (
  behind_same key (number * 8 + 2) rest (fields.varint_encoding (length content) ++ (content ++ behind))
      (sym is ∙ plain_is number bs content behind low b),
  b.1,
)

-- where no length is, no field is
pub no_plain-len : (number key : ℕ) (bs rest : List ℕ) → number < 16 → bs ≡ key ∷ rest → ((len : ℕ) (others : List ℕ) → BeginsWithLen rest len others → ⊥) →
    (content behind : List ℕ) → BeginsPlainly number bs content behind → ⊥
no_plain-len number key bs rest low is none content behind b =
    none (length content) (content ++ behind) (plain_len number key bs rest content behind low is b)

-- nor where the bytes are too few
pub no_plain-short : (number key len : ℕ) (bs rest others : List ℕ) → number < 16 → bs ≡ key ∷ rest → BeginsWithLen rest len others → length others < len →
    (content behind : List ℕ) → BeginsPlainly number bs content behind → ⊥
no_plain-short number key len bs rest others low is begins few content behind b =
    let (same, parts) = len_once rest len (length content) others (content ++ behind) begins (plain_len number key bs rest content behind low is b) in
    let counted = ap length parts in
    let sum = length-append content behind in
    omega arith

-- bytes begin with one plain field of a number at most
pub plain_once : (number : ℕ) (bs content other behind others : List ℕ) → number < 16 → BeginsPlainly number bs content behind →
    BeginsPlainly number bs other others → (content ≡ other) × (behind ≡ others)
plain_once number bs content other behind others low a b =
    let inner : List ℕ → List ℕ → List ℕ = λ c d. fields.varint_encoding (length c) ++ (c ++ d) in
    let is = plain_is number bs content behind low a in
    let also = plain_is number bs other others low b in
    let rest = behind_same (number * 8 + 2) (number * 8 + 2) (inner content behind) (inner other others) (sym is ∙ also) in
    let (same, parts) = len_once (inner content behind) (length content) (length other) (content ++ behind) (other ++ others) (refl, a.1) (rest, b.1) in
    let content_is : content ≡ other =
    sym (take-append_seam content behind) ∙ ap (λ n. take n (content ++ behind)) same ∙ ap (λ bs. take (length other) bs) parts ∙ take-append_seam other others in
    (content_is, sym (drop-append_seam content behind) ∙ ap (λ n. drop n (content ++ behind)) same ∙ ap (λ bs. drop (length other) bs) parts ∙ drop-append_seam other others)

-- no names where no plain bucket is
pub no_names-bucket : (body : List ℕ) → ((content behind : List ℕ) → BeginsPlainly 1 body content behind → ⊥) → (bucket key behind : List ℕ) →
    BeginsWithNames body bucket key behind → ⊥
no_names-bucket body none bucket key behind b = none bucket b.rest b.first

-- nor where no plain key is behind it
pub no_names-key : (body found rest : List ℕ) → BeginsPlainly 1 body found rest → ((content behind : List ℕ) → BeginsPlainly 2 rest content behind → ⊥) →
    (bucket key behind : List ℕ) → BeginsWithNames body bucket key behind → ⊥
no_names-key body found rest is none bucket key behind b =
    let P : List ℕ → Type 0 = λ bs. BeginsPlainly 2 bs key behind in
    none key behind (subst P (sym (plain_once 1 body found bucket rest b.rest (omega arith) is b.first).1) b.second)

-- nor where one has no bytes
pub no_names-empty : (body found named rest last : List ℕ) → BeginsPlainly 1 body found rest → BeginsPlainly 2 rest named last →
    (length found ≡ 0) ⊎ (length named ≡ 0) → (bucket key behind : List ℕ) → BeginsWithNames body bucket key behind → ⊥
no_names-empty body found named rest last is next empty bucket key behind b =
    let (same, behind_is) = plain_once 1 body found bucket rest b.rest (omega arith) is b.first in
    let P : List ℕ → Type 0 = λ bs. BeginsPlainly 2 bs key behind in
    let (key_is, _) = plain_once 2 rest named key last behind (omega arith) next (subst P (sym behind_is) b.second) in
    let some_bucket = b.some_bucket in
    let some_key = b.some_key in
    let one = ap length same in
    let other = ap length key_is in
    elim empty [ inl bucket_is ↦ omega arith | inr last_is ↦ omega arith ]

-- an answer to whether there are bytes
pub no_bytes : (bs : List ℕ) → true ≡ (length bs == 0) → length bs ≡ 0
no_bytes [] is = refl
no_bytes (b ∷ bs) is = grind (arith, common_steps)

pub some_bytes : (bs : List ℕ) → false ≡ (length bs == 0) → 1 ≤ length bs
some_bytes [] is = grind (arith, common_steps)
some_bytes (b ∷ bs) is = omega arith

pub empty_is : (bs : List ℕ) → length bs ≡ 0 → true ≡ (length bs == 0)
empty_is [] none = refl
empty_is (b ∷ bs) none = absurd (omega arith)
