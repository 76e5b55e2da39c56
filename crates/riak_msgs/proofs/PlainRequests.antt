-- What a body in the plain form says.
use Rattle.std.proofs.Common.{◌≡◌, ℕ, ◌^◌, ◌<◌, ◌≤◌, Bool, false, List, [], ◌∷◌, ◌++◌, length, Ok, refl, ap, sym, subst, ◌∙◌, arith, append_assoc}
use Rattle.std.proofs.lemmas.List.{append-nil}
use Rattle.pb_fields.specs.Encoding.{bytes_field, bool_field}
use Rattle.riak_msgs.specs.Encoding.{context_field}
use Rattle.riak_msgs.specs.declared.get.GetAsk.{GetAsk}
use Rattle.riak_msgs.specs.declared.request.Request.TheVariants as requests
use Rattle.riak_msgs.specs.declared.read_put.PutFlags.{PutFlags}
use Rattle.riak_msgs.specs.declared.plain_put.PlainPut.{PlainPut}
use Rattle.riak_msgs.specs.Content.{Content}
use Rattle.riak_msgs.specs.ContentEncoding.{content_message}
use Rattle.riak_msgs.specs.Requests.{default_key, plain_get, get_body, put_body, put_options, del_body, IsNamed}
use Rattle.riak_msgs.specs.Reading.{Decodes}
use Rattle.riak_msgs.specs.PlainFields.{BeginsPlainly, BeginsWithContext, BeginsWithFlag, BeginsWithNames, IsPlainContent}
use Rattle.riak_msgs.specs.PlainDeletes.{plain_del}
use Rattle.riak_msgs.specs.PlainPuts.{ArePlainFlags, IsPlainPutOf, plainly_asked}
use Rattle.riak_msgs.proofs.EncodedRequests.{request_says}
use Rattle.riak_msgs.proofs.PlainFields.{plain_once}
use Rattle.riak_msgs.proofs.PlainParts.{FindsContext, FindsFlag, context_counted, context_next, flag_counted, flag_next, is_nil, names_counted, names_once, not_first-flag, not_first-nil, not_first-plain, plain_counted}

-- names that have bytes are those of a key of the default type
named : (bucket key : List ℕ) → 1 ≤ length bucket → 1 ≤ length key → IsNamed (default_key bucket key)
named bucket key some_bucket some_key = (
  λ none. let zero = ap length none in omega arith,
  λ none. let zero = ap length none in omega arith,
  λ none. let zero = ap length none in omega arith,
)

-- the names at the front
names_are : (body bucket key behind : List ℕ) → BeginsWithNames body bucket key behind → body ≡ bytes_field 1 bucket ++ bytes_field 2 key ++ behind
names_are body bucket key behind b =
    b.first.0 ∙ ap (λ w. bytes_field 1 bucket ++ w) b.second.0 ∙ sym (append_assoc (bytes_field 1 bucket) (bytes_field 2 key) behind)

-- three behind another, one after the other
three_behind : (x a b c : List ℕ) → x ++ (a ++ (b ++ c)) ≡ x ++ a ++ b ++ c
three_behind x a b c = sym (append_assoc x a (b ++ c)) ∙ sym (append_assoc (x ++ a) b c)

-- a get of the default type with these options
abbrev pub optional_get : List ℕ → List ℕ → List ℕ → Bool → Bool → GetAsk
optional_get bucket key if_modified head deletedvclock = record {
  key = default_key bucket key;
  if_modified = if_modified;
  head = head;
  deletedvclock = deletedvclock;
}

pub says_optional_get : (body bucket key options flags behind rest if_modified : List ℕ) (head deletedvclock : Bool) →
    BeginsWithNames body bucket key options → BeginsWithContext 7 options if_modified flags → BeginsWithFlag 8 flags head behind →
    BeginsWithFlag 9 behind deletedvclock rest → length rest ≡ 0 → Decodes 9 body (Ok (requests.Get (optional_get bucket key if_modified head deletedvclock)))
says_optional_get body bucket key options flags behind rest if_modified head deletedvclock names context first second none =
    let g = optional_get bucket key if_modified head deletedvclock in
    let front = bytes_field 1 bucket ++ bytes_field 2 key in
    let c = context_field 7 if_modified in
    let h = bool_field 8 head in
    let d = bool_field 9 deletedvclock in
    let one = names_counted body bucket key options names in
    let two = context_counted 7 options if_modified flags (omega arith) context in
    let three = flag_counted 8 flags head behind (omega arith) first in
    let four = flag_counted 9 behind deletedvclock rest (omega arith) second in
    let short : length body < 2 ^ 64 = omega arith in
    let last : behind ≡ d = second ∙ ap (λ w. d ++ w) (is_nil rest none) ∙ append-nil d in
    let is : body ≡ get_body g =
    names_are body bucket key options names ∙ ap (λ w. front ++ w) (context.0 ∙ ap (λ w. c ++ w) (first ∙ ap (λ w. h ++ w) last))
    ∙ three_behind front c h d ∙ sym (append-nil (front ++ c ++ h ++ d)) in
    let P : List ℕ → Type 0 = λ bs. Decodes 9 bs (Ok (requests.Get g)) in
    let Short : List ℕ → Type 0 = λ bs. length bs < 2 ^ 64 in
    subst P (sym is) (request_says (requests.Get g) (named bucket key names.some_bucket names.some_key) (subst Short is short))

-- a get without options
pub says_plain_get : (body bucket key behind : List ℕ) → BeginsWithNames body bucket key behind → length behind ≡ 0 →
    Decodes 9 body (Ok (requests.Get (plain_get bucket key)))
says_plain_get body bucket key [] names none =
    says_optional_get body bucket key [] [] [] [] [] false false names (refl, omega arith) refl refl refl
says_plain_get body bucket key (b ∷ bs) names none = absurd (omega arith)

-- the options of a put, one behind the other
flags_message : (bs : List ℕ) (f : PutFlags) → ArePlainFlags bs f →
    bs ≡ bool_field 7 f.return_body ++ bool_field 9 f.if_not_modified ++ bool_field 10 f.if_none_match ++ bool_field 11 f.return_head
flags_message bs f are =
    let a = bool_field 7 f.return_body in
    let b = bool_field 9 f.if_not_modified in
    let c = bool_field 10 f.if_none_match in
    let d = bool_field 11 f.return_head in
    are.first ∙ ap (λ w. a ++ w) (are.second ∙ ap (λ w. b ++ w) (are.third ∙ ap (λ w. c ++ w) (are.fourth ∙ append-nil d))) ∙ three_behind a b c d

flags_few : (bs : List ℕ) (f : PutFlags) → ArePlainFlags bs f → length bs ≤ 8
flags_few bs f are =
    let one = flag_counted 7 bs f.return_body are.behind_body (omega arith) are.first in
    let two = flag_counted 9 are.behind_body f.if_not_modified are.behind_modified (omega arith) are.second in
    let three = flag_counted 10 are.behind_modified f.if_none_match are.behind_match (omega arith) are.third in
    let four = flag_counted 11 are.behind_match f.return_head [] (omega arith) are.fourth in
    omega arith

pub flags_are : (bs behind_body behind_modified behind_match rest : List ℕ) (f : PutFlags) → BeginsWithFlag 7 bs f.return_body behind_body →
    BeginsWithFlag 9 behind_body f.if_not_modified behind_modified → BeginsWithFlag 10 behind_modified f.if_none_match behind_match →
    BeginsWithFlag 11 behind_match f.return_head rest → length rest ≡ 0 → ArePlainFlags bs f
flags_are bs behind_body behind_modified behind_match rest f first second third fourth none =
    let P : List ℕ → Type 0 = λ cs. BeginsWithFlag 11 behind_match f.return_head cs in
    record {
      behind_body = behind_body;
      behind_modified = behind_modified;
      behind_match = behind_match;
      first = first;
      second = second;
      third = third;
      fourth = subst P (is_nil rest none) fourth;
    }

-- where something is behind them, the bytes aren't options alone
pub no_flags : (bs behind_body behind_modified behind_match rest : List ℕ) (return_body if_not_modified if_none_match return_head : Bool) →
    FindsFlag 7 bs return_body behind_body → FindsFlag 9 behind_body if_not_modified behind_modified →
    FindsFlag 10 behind_modified if_none_match behind_match → FindsFlag 11 behind_match return_head rest → 1 ≤ length rest →
    (f : PutFlags) → ArePlainFlags bs f → ⊥
no_flags bs behind_body behind_modified behind_match rest return_body if_not_modified if_none_match return_head first second third fourth some f are =
    let not_80 = not_first-flag 80 11 are.behind_match f.return_head [] (omega arith) (λ e. omega arith) are.fourth (not_first-nil 80) in
    let not_72 = not_first-flag 72 10 are.behind_modified f.if_none_match are.behind_match (omega arith) (λ e. omega arith) are.third
    (not_first-flag 72 11 are.behind_match f.return_head [] (omega arith) (λ e. omega arith) are.fourth (not_first-nil 72)) in
    let not_56 = not_first-flag 56 9 are.behind_body f.if_not_modified are.behind_modified (omega arith) (λ e. omega arith) are.second
    (not_first-flag 56 10 are.behind_modified f.if_none_match are.behind_match (omega arith) (λ e. omega arith) are.third
    (not_first-flag 56 11 are.behind_match f.return_head [] (omega arith) (λ e. omega arith) are.fourth (not_first-nil 56))) in
    let one : behind_body ≡ are.behind_body = flag_next 7 bs f.return_body are.behind_body return_body behind_body (omega arith) are.first not_56 first in
    let P : List ℕ → Type 0 = λ cs. BeginsWithFlag 9 cs f.if_not_modified are.behind_modified in
    let two : behind_modified ≡ are.behind_modified =
    flag_next 9 behind_body f.if_not_modified are.behind_modified if_not_modified behind_modified (omega arith) (subst P (sym one) are.second) not_72 second in
    let Q : List ℕ → Type 0 = λ cs. BeginsWithFlag 10 cs f.if_none_match are.behind_match in
    let three : behind_match ≡ are.behind_match =
    flag_next 10 behind_modified f.if_none_match are.behind_match if_none_match behind_match (omega arith) (subst Q (sym two) are.third) not_80 third in
    let R : List ℕ → Type 0 = λ cs. BeginsWithFlag 11 cs f.return_head [] in
    let four : rest ≡ [] =
    flag_next 11 behind_match f.return_head [] return_head rest (omega arith) (subst R (sym three) are.fourth) (not_first-nil 88) fourth in
    let none = ap length four in
    omega arith

-- what is behind the names and the context of a plain put
pub put_content : (body bucket key behind_names context behind_context : List ℕ) → BeginsWithNames body bucket key behind_names →
    FindsContext 3 behind_names context behind_context → (put : PlainPut) (is : IsPlainPutOf body put) →
    BeginsPlainly 4 behind_context put.content.now is.options
put_content body bucket key behind_names context behind_context names finds put is =
    let one : behind_names ≡ is.behind_names =
    names_once body bucket key behind_names put.bucket.now put.key.now is.behind_names names is.names in
    let P : List ℕ → Type 0 = λ cs. BeginsWithContext 3 cs put.context.now is.behind_context in
    let not_26 = not_first-plain 26 4 is.behind_context put.content.now is.options (omega arith) (λ e. omega arith) is.content in
    let two : behind_context ≡ is.behind_context =
    context_next 3 behind_names put.context.now is.behind_context context behind_context (omega arith) (subst P (sym one) is.context) not_26 finds in
    let Q : List ℕ → Type 0 = λ cs. BeginsPlainly 4 cs put.content.now is.options in
    subst Q (sym two) is.content

-- no plain put has another content
pub no_put-content : (behind_context content options : List ℕ) → BeginsPlainly 4 behind_context content options → (IsPlainContent content → ⊥) →
    (body : List ℕ) (put : PlainPut) (is : IsPlainPutOf body put) → BeginsPlainly 4 behind_context put.content.now is.options → ⊥
no_put-content behind_context content options b not body put is also =
    not (subst IsPlainContent (sym (plain_once 4 behind_context content put.content.now options is.options (omega arith) b also).0) is.whole)

-- nor other options
pub no_put-flags : (behind_context content options : List ℕ) → BeginsPlainly 4 behind_context content options →
    ((f : PutFlags) → ArePlainFlags options f → ⊥) → (body : List ℕ) (put : PlainPut) (is : IsPlainPutOf body put) →
    BeginsPlainly 4 behind_context put.content.now is.options → ⊥
no_put-flags behind_context content options b not body put is also =
    let P : List ℕ → Type 0 = λ cs. ArePlainFlags cs put.flags in
    not put.flags (subst P (sym (plain_once 4 behind_context content put.content.now options is.options (omega arith) b also).1) is.flags)

-- a put in the plain form
pub says_plain_put : (body : List ℕ) (put : PlainPut) (content : Content) → IsPlainPutOf body put → put.content.now ≡ content_message content →
    Decodes 11 body (Ok (requests.Put (plainly_asked put content)))
says_plain_put body put content is same =
    let p = plainly_asked put content in
    let bucket = put.bucket.now in
    let key = put.key.now in
    let context = put.context.now in
    let front = bytes_field 1 bucket ++ bytes_field 2 key in
    let c = context_field 3 context in
    let v = bytes_field 4 (content_message content) in
    let o = put_options p in
    let one = names_counted body bucket key is.behind_names is.names in
    let two = context_counted 3 is.behind_names context is.behind_context (omega arith) is.context in
    let three = plain_counted 4 is.behind_context put.content.now is.options (omega arith) is.content in
    let below = is.content.1 in
    let few = flags_few is.options put.flags is.flags in
    let short : length body < 2 ^ 64 = omega arith in
    let whole : is.behind_context ≡ v ++ o = is.content.0 ∙ ap (λ bs. bytes_field 4 bs ++ is.options) same ∙ ap (λ w. v ++ w) (flags_message is.options put.flags is.flags) in
    let body_is : body ≡ put_body p =
    names_are body bucket key is.behind_names is.names ∙ ap (λ w. front ++ w) (is.context.0 ∙ ap (λ w. c ++ w) whole)
    ∙ three_behind front c v o ∙ sym (append-nil (front ++ c ++ v ++ o)) in
    let P : List ℕ → Type 0 = λ bs. Decodes 11 bs (Ok (requests.Put p)) in
    let Short : List ℕ → Type 0 = λ bs. length bs < 2 ^ 64 in
    subst P (sym body_is) (request_says (requests.Put p) (named bucket key is.names.some_bucket is.names.some_key) (subst Short body_is short))

-- a delete in the plain form
pub says_plain_del : (body bucket key behind context rest : List ℕ) → BeginsWithNames body bucket key behind → BeginsWithContext 4 behind context rest →
    length rest ≡ 0 → Decodes 13 body (Ok (requests.Del (plain_del bucket key context)))
says_plain_del body bucket key behind context rest names b none =
    let d = plain_del bucket key context in
    let front = bytes_field 1 bucket ++ bytes_field 2 key in
    let c = context_field 4 context in
    let one = names_counted body bucket key behind names in
    let two = context_counted 4 behind context rest (omega arith) b in
    let short : length body < 2 ^ 64 = omega arith in
    let last : behind ≡ c = b.0 ∙ ap (λ w. c ++ w) (is_nil rest none) ∙ append-nil c in
    let is : body ≡ del_body d =
    names_are body bucket key behind names ∙ ap (λ w. front ++ w) last ∙ sym (append-nil (front ++ c)) in
    let P : List ℕ → Type 0 = λ bs. Decodes 13 bs (Ok (requests.Del d)) in
    let Short : List ℕ → Type 0 = λ bs. length bs < 2 ^ 64 in
    subst P (sym is) (request_says (requests.Del d) (named bucket key names.some_bucket names.some_key) (subst Short is short))
