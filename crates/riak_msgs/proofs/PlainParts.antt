-- Contexts, flags, optional fields and details of bytes in their one encoding.
use Rattle.std.proofs.Common.{◌≡◌, ◌≢◌, Bool, true, false, ℕ, suc, ◌+◌, ◌*◌, ◌<◌, ◌≤◌, List, [], ◌∷◌, ◌++◌, length, refl, ap, sym, subst, ◌∙◌, arith, Option, Some, None, inl, inr, length-append, append_assoc}
use Rattle.std.proofs.lemmas.List.{append-nil}
use Rattle.pb_fields.specs.Encoding as fields
use Rattle.pb_fields.specs.Encoding.{bytes_field, bool_field, optional_field}
use Rattle.riak_msgs.specs.Content.{Content}
use Rattle.pb_fields.specs.Field.{BeginsWithField}
use Rattle.pb_fields.proofs.Lists.{encoding_is_read}
use Rattle.riak_msgs.specs.PlainFields.{string_at, ArePlainDetails, BeginsPlainly, BeginsWithContext, BeginsWithFlag, BeginsWithNames, BeginsWithOptional, IsContentMessage, IsPlainContent}
use Rattle.riak_msgs.proofs.ValueAndDetails.{behind_value, content_message-value}
use Rattle.riak_msgs.proofs.PlainFields.{len_one, first_same, behind_same, len_shapes, plain_is, plain_once}

-- a plain field is a context that has bytes
pub begins_with_context : (number : ℕ) (bs context behind : List ℕ) → BeginsPlainly number bs context behind → 1 ≤ length context →
    BeginsWithContext number bs context behind
begins_with_context number bs [] behind b some = absurd (omega arith)
begins_with_context number bs (c ∷ cs) behind b some = b

-- a true of a number below 16 has two bytes
flag_is : (number : ℕ) → number < 16 → bool_field number true ≡ (number * 8) ∷ 1 ∷ []
flag_is number low =
    let small : number * 8 + 0 < 128 = omega arith in
    let same : number * 8 + 0 ≡ number * 8 = omega arith in
    ap (λ w. w ++ fields.varint_encoding 1) (len_one (number * 8 + 0) small ∙ ap (λ n. n ∷ []) same)
    ∙ ap (λ w. (number * 8) ∷ w) (len_one 1 (omega arith))

pub begins_with_true : (number key value : ℕ) (bs rest behind : List ℕ) → number < 16 → bs ≡ key ∷ rest → key ≡ number * 8 → rest ≡ value ∷ behind → value ≡ 1 →
    BeginsWithFlag number bs true behind
begins_with_true number key value bs rest behind low is same next one =
    is ∙ ap (λ k. k ∷ rest) same ∙ ap (λ w. (number * 8) ∷ w) (next ∙ ap (λ v. v ∷ behind) one) ∙ sym (ap (λ w. w ++ behind) (flag_is number low))

-- how many bytes there are at most
pub plain_counted : (number : ℕ) (bs content behind : List ℕ) → number < 16 → BeginsPlainly number bs content behind →
    length bs ≤ 3 + length content + length behind
plain_counted number bs content behind low b =
    let inner = fields.varint_encoding (length content) ++ (content ++ behind) in
    let whole : length bs ≡ suc (length inner) = ap length (plain_is number bs content behind low b) in
    let sum = length-append content behind in
    elim (len_shapes inner (length content) (content ++ behind) (refl, b.1)) [
      | inl one ↦ let counted : length inner ≡ suc (length (content ++ behind)) = ap length one.1 in omega arith
      | inr two ↦ let counted : length inner ≡ suc (suc (length (content ++ behind))) = ap length two.1 in omega arith
    ]

pub context_counted : (number : ℕ) (bs context behind : List ℕ) → number < 16 → BeginsWithContext number bs context behind →
    length bs ≤ 16387 + length behind
context_counted number bs [] behind low b = let same = ap length b.0 in omega arith
context_counted number bs (c ∷ cs) behind low b =
    let few = b.1 in let counted = plain_counted number bs (c ∷ cs) behind low b in omega arith

pub flag_counted : (number : ℕ) (bs : List ℕ) (flag : Bool) (behind : List ℕ) → number < 16 → BeginsWithFlag number bs flag behind →
    length bs ≤ 2 + length behind
flag_counted number bs false behind low b = let same = ap length b in omega arith
flag_counted number bs true behind low b =
    let same : length bs ≡ suc (suc (length behind)) = ap length (b ∙ ap (λ w. w ++ behind) (flag_is number low)) in omega arith

pub names_counted : (bs bucket key behind : List ℕ) → BeginsWithNames bs bucket key behind → length bs ≤ 40000 + length behind
names_counted bs bucket key behind b =
    let few = b.first.1 in
    let fewer = b.second.1 in
    let one = plain_counted 1 bs bucket b.rest (omega arith) b.first in
    let other = plain_counted 2 b.rest key behind (omega arith) b.second in
    omega arith

-- no bytes
pub is_nil : (bs : List ℕ) → length bs ≡ 0 → bs ≡ []
is_nil [] none = refl
is_nil (b ∷ bs) none = absurd (omega arith)

-- the bytes don't begin with this one
abbrev pub NotFirst : ℕ → List ℕ → Type 0
NotFirst k bs = (rest : List ℕ) → bs ≡ k ∷ rest → ⊥

pub not_first-nil : (k : ℕ) → NotFirst k []
not_first-nil k rest e = let none = ap length e in omega arith

pub not_first-plain : (k number : ℕ) (bs content behind : List ℕ) → number < 16 → k ≢ number * 8 + 2 → BeginsPlainly number bs content behind →
    NotFirst k bs
not_first-plain k number bs content behind low other b rest e =
    other (first_same k (number * 8 + 2) rest (fields.varint_encoding (length content) ++ (content ++ behind)) (sym e ∙ plain_is number bs content behind low b))

pub not_first-flag : (k number : ℕ) (bs : List ℕ) (flag : Bool) (behind : List ℕ) → number < 16 → k ≢ number * 8 → BeginsWithFlag number bs flag behind →
    NotFirst k behind → NotFirst k bs
not_first-flag k number bs false behind low other b not rest e = not rest (sym b ∙ e)
not_first-flag k number bs true behind low other b not rest e =
    other (first_same k (number * 8) rest (1 ∷ behind) (sym e ∙ b ∙ ap (λ w. w ++ behind) (flag_is number low)))

pub not_first-optional : (k number : ℕ) (bs : List ℕ) (content : Option (List ℕ)) (behind : List ℕ) → number < 16 → k ≢ number * 8 + 2 →
    BeginsWithOptional number bs content behind → NotFirst k behind → NotFirst k bs
not_first-optional k number bs None behind low other b not rest e = not rest (sym b.0 ∙ e)
not_first-optional k number bs (Some content) behind low other b not rest e =
    not_first-plain k number bs content behind low other b rest e

abbrev number_of_truth : Bool → ℕ
number_of_truth true = 1
number_of_truth false = 0

-- a false is no true
pub no_truth : false ≡ true → ⊥
no_truth e = let same = ap number_of_truth e in omega arith

-- what a reader of a flag finds
abbrev pub FindsFlag : ℕ → List ℕ → Bool → List ℕ → Type 0
FindsFlag number bs found rest = BeginsWithFlag number bs found rest × ((others : List ℕ) → BeginsWithFlag number bs true others → found ≡ true)

-- it leaves what is behind the flag
pub flag_next : (number : ℕ) (bs : List ℕ) (flag : Bool) (behind : List ℕ) (found : Bool) (rest : List ℕ) → number < 16 →
    BeginsWithFlag number bs flag behind → NotFirst (number * 8) behind → FindsFlag number bs found rest → rest ≡ behind
flag_next number bs false behind false rest low b not finds = sym finds.0 ∙ b
flag_next number bs false behind true rest low b not finds =
    absurd (not (1 ∷ rest) (sym b ∙ finds.0 ∙ ap (λ w. w ++ rest) (flag_is number low)))
flag_next number bs true behind false rest low b not finds = absurd (no_truth (finds.1 behind b))
flag_next number bs true behind true rest low b not finds =
    behind_same 1 1 rest behind (behind_same (number * 8) (number * 8) (1 ∷ rest) (1 ∷ behind)
    (sym (finds.0 ∙ ap (λ w. w ++ rest) (flag_is number low)) ∙ b ∙ ap (λ w. w ++ behind) (flag_is number low)))

-- what a reader of an optional field leaves
abbrev pub PassesOptional : ℕ → List ℕ → List ℕ → Type 0
PassesOptional number bs rest = (content others : List ℕ) → BeginsPlainly number bs content others → rest ≡ others

pub optional_next : (number : ℕ) (bs : List ℕ) (content found : Option (List ℕ)) (behind rest : List ℕ) → number < 16 →
    BeginsWithOptional number bs content behind → NotFirst (number * 8 + 2) behind → BeginsWithOptional number bs found rest →
    PassesOptional number bs rest → rest ≡ behind
optional_next number bs (Some content) found behind rest low b not is passes = passes content behind b
optional_next number bs None None behind rest low b not is passes = sym is.0 ∙ b.0
optional_next number bs None (Some found) behind rest low b not is passes =
    absurd (not (fields.varint_encoding (length found) ++ (found ++ rest)) (sym b.0 ∙ plain_is number bs found rest low is))

-- what a reader of a context finds
abbrev pub FindsContext : ℕ → List ℕ → List ℕ → List ℕ → Type 0
FindsContext number bs found rest =
    BeginsWithContext number bs found rest
    × ((content others : List ℕ) → BeginsPlainly number bs content others → 1 ≤ length content → (found ≡ content) × (rest ≡ others))

pub context_next : (number : ℕ) (bs context behind found rest : List ℕ) → number < 16 → BeginsWithContext number bs context behind →
    NotFirst (number * 8 + 2) behind → FindsContext number bs found rest → rest ≡ behind
context_next number bs (c ∷ cs) behind found rest low b not finds = (finds.1 (c ∷ cs) behind b (omega arith)).1
context_next number bs [] behind [] rest low b not finds = sym finds.0.0 ∙ b.0
context_next number bs [] behind (f ∷ fs) rest low b not finds =
    absurd (not (fields.varint_encoding (length (f ∷ fs)) ++ ((f ∷ fs) ++ rest)) (sym b.0 ∙ plain_is number bs (f ∷ fs) rest low finds.0))

-- names at the front are one
pub names_once : (body bucket key behind other named others : List ℕ) → BeginsWithNames body bucket key behind → BeginsWithNames body other named others →
    behind ≡ others
names_once body bucket key behind other named others a b =
    let P : List ℕ → Type 0 = λ bs. BeginsPlainly 2 bs named others in
    let rest = (plain_once 1 body bucket other a.rest b.rest (omega arith) a.first b.first).1 in
    (plain_once 2 a.rest key named behind others (omega arith) a.second (subst P (sym rest) b.second)).1

-- no details
pub no_details : (bs : List ℕ) → length bs ≡ 0 → ArePlainDetails bs
no_details bs none = record {
  content_type = None;
  charset = None;
  content_encoding = None;
  behind_type = bs;
  behind_charset = bs;
  first = (refl, tt);
  second = (refl, tt);
  third = (is_nil bs none, tt);
}

-- the details that were passed
pub details_are : (bs behind_type behind_charset rest : List ℕ) (o p q : Option (List ℕ)) → BeginsWithOptional 2 bs o behind_type →
    BeginsWithOptional 3 behind_type p behind_charset → BeginsWithOptional 4 behind_charset q rest → length rest ≡ 0 → ArePlainDetails bs
details_are bs behind_type behind_charset rest o p q first second third none =
    let P : List ℕ → Type 0 = λ cs. BeginsWithOptional 4 behind_charset q cs in
    record {
      content_type = o;
      charset = p;
      content_encoding = q;
      behind_type = behind_type;
      behind_charset = behind_charset;
      first = first;
      second = second;
      third = subst P (is_nil rest none) third;
    }

-- nothing is behind details
pub details_end : (bs behind_type behind_charset rest : List ℕ) (o p q : Option (List ℕ)) → BeginsWithOptional 2 bs o behind_type →
    PassesOptional 2 bs behind_type → BeginsWithOptional 3 behind_type p behind_charset → PassesOptional 3 behind_type behind_charset →
    BeginsWithOptional 4 behind_charset q rest → PassesOptional 4 behind_charset rest → ArePlainDetails bs → length rest ≡ 0
details_end bs behind_type behind_charset rest o p q first past_first second past_second third past_third d =
    let last = not_first-nil 34 in
    let not_26 = not_first-optional 26 4 d.behind_charset d.content_encoding [] (omega arith) (λ e. omega arith) d.third (not_first-nil 26) in
    let not_18 = not_first-optional 18 3 d.behind_type d.charset d.behind_charset (omega arith) (λ e. omega arith) d.second
    (not_first-optional 18 4 d.behind_charset d.content_encoding [] (omega arith) (λ e. omega arith) d.third (not_first-nil 18)) in
    let one : behind_type ≡ d.behind_type = optional_next 2 bs d.content_type o d.behind_type behind_type (omega arith) d.first not_18 first past_first in
    let P : List ℕ → Type 0 = λ cs. BeginsWithOptional 3 cs d.charset d.behind_charset in
    let two : behind_charset ≡ d.behind_charset =
    optional_next 3 behind_type d.charset p d.behind_charset behind_charset (omega arith) (subst P (sym one) d.second) not_26 second past_second in
    let Q : List ℕ → Type 0 = λ cs. BeginsWithOptional 4 cs d.content_encoding [] in
    let three : rest ≡ [] =
    optional_next 4 behind_charset d.content_encoding q [] rest (omega arith) (subst Q (sym two) d.third) last third past_third in
    ap length three

-- a value, and these details behind it
pub content_of_plain : (bs : List ℕ) → IsPlainContent bs → IsContentMessage bs
content_of_plain bs plain =
    let d = plain.are in
    let c : Content = record {
      value = plain.value;
      content_type = d.content_type;
      charset = d.charset;
      content_encoding = d.content_encoding;
      links = [];
      usermeta = [];
      indexes = [];
    } in
    let o = optional_field 2 d.content_type in
    let p = optional_field 3 d.charset in
    let q = optional_field 4 d.content_encoding in
    let is : plain.details ≡ o ++ (p ++ q) = d.first.0 ∙ ap (λ w. o ++ w) (d.second.0 ∙ ap (λ w. p ++ w) (d.third.0 ∙ append-nil q)) in
    let last : behind_value c ≡ o ++ (p ++ q) = append-nil (o ++ p ++ q ++ [] ++ []) ∙ append-nil (o ++ p ++ q ++ []) ∙ append-nil (o ++ p ++ q) ∙ append_assoc o p q in
    (c, plain.begins.0 ∙ ap (λ w. bytes_field 1 plain.value ++ w) (is ∙ sym last) ∙ sym (content_message-value c))

-- the details behind the value that was found
pub plain_details : (bs value details : List ℕ) → BeginsPlainly 1 bs value details → IsPlainContent bs → ArePlainDetails details
plain_details bs value details b plain =
    subst ArePlainDetails (sym (plain_once 1 bs value plain.value details plain.details (omega arith) b plain.begins).1) plain.are

-- a plain field is a field
pub plain_field : (number : ℕ) (bs content behind : List ℕ) → (1 ≤ number) × (number < 16) → BeginsPlainly number bs content behind →
    BeginsWithField bs (string_at number content) behind
plain_field number bs content behind low b =
    let some = low.0 in
    let few = low.1 in
    let short = b.1 in
    let P : List ℕ → Type 0 = λ cs. BeginsWithField cs (string_at number content) behind in
    subst P (sym b.0) (encoding_is_read (string_at number content) behind (record { number = (some, omega arith); value = omega arith }))

-- what is found is the field that has bytes
pub context_found : (number : ℕ) (bs found rest content behind : List ℕ) → (1 ≤ number) × (number < 16) → BeginsPlainly number bs found rest →
    BeginsPlainly number bs content behind → (found ≡ content) × (rest ≡ behind)
context_found number bs found rest content behind low is b = plain_once number bs found content rest behind low.1 is b

pub context_empty : (number : ℕ) (bs found rest content behind given all : List ℕ) → (1 ≤ number) × (number < 16) → BeginsPlainly number bs found rest →
    length found ≡ 0 → BeginsPlainly number bs content behind → 1 ≤ length content → (given ≡ content) × (all ≡ behind)
context_empty number bs found rest content behind given all low is none b some =
    let same = ap length (plain_once number bs found content rest behind low.1 is b).0 in
    absurd (omega arith)

-- where no true is at the front
pub no_true-nil : (number : ℕ) (bs behind : List ℕ) → number < 16 → length bs ≡ 0 → BeginsWithFlag number bs true behind → ⊥
no_true-nil number bs behind low none b =
    let counted : length bs ≡ suc (suc (length behind)) = ap length (b ∙ ap (λ w. w ++ behind) (flag_is number low)) in
    omega arith

pub no_true-key : (number key : ℕ) (bs rest behind : List ℕ) → number < 16 → bs ≡ key ∷ rest → key ≢ number * 8 → BeginsWithFlag number bs true behind → ⊥
no_true-key number key bs rest behind low is other b =
    other (first_same key (number * 8) rest (1 ∷ behind) (sym is ∙ b ∙ ap (λ w. w ++ behind) (flag_is number low)))

pub no_true-short : (number key : ℕ) (bs rest behind : List ℕ) → number < 16 → bs ≡ key ∷ rest → length rest ≡ 0 → BeginsWithFlag number bs true behind → ⊥
no_true-short number key bs rest behind low is none b =
    let whole = ap length is in
    let counted : length bs ≡ suc (suc (length behind)) = ap length (b ∙ ap (λ w. w ++ behind) (flag_is number low)) in
    omega arith

pub no_true-value : (number key value : ℕ) (bs rest others behind : List ℕ) → number < 16 → bs ≡ key ∷ rest → rest ≡ value ∷ others → value ≢ 1 →
    BeginsWithFlag number bs true behind → ⊥
no_true-value number key value bs rest others behind low is next other b =
    other (first_same value 1 others behind (sym next ∙ behind_same key (number * 8) rest (1 ∷ behind) (sym is ∙ b ∙ ap (λ w. w ++ behind) (flag_is number low))))
