-- What a walk over a request's fields sees.
use Rattle.std.proofs.Common.{◌≡◌, ℕ, List, [], ◌∷◌, ◌++◌, Option, Some, None, Result, Ok, Err, IsErrAnd, Bor, option_copied, unwrap_or, refl, ap, sym, subst, ◌∙◌, inl, inr}
use Rattle.std.specs.List.{last_or, cons_option}
use Rattle.std.proofs.lemmas.List.{append-nil}
use Rattle.pb_fields.specs.Field.{WireField}
use Rattle.pb_fields.specs.Message.{Encodes}
use Rattle.riak_msgs.specs.declared.request.Request.{Request}
use Rattle.riak_msgs.specs.declared.request.Request.TheVariants.{Get, Put, Del}
use Rattle.riak_msgs.specs.declared.fault.MsgFault.{MsgFault}
use Rattle.riak_msgs.specs.declared.fault.MsgFault.TheVariants.{NoMemory}
use Rattle.riak_msgs.specs.Picking.{bytes_at, each_bytes, last_bytes}
use Rattle.riak_msgs.specs.Embedded.{ContentFields, StandForContent}
use Rattle.riak_msgs.specs.Reading.{PutFields, EncodesPut, Decodes, Reads, said_by, names_fault, get_of, put_fault, put_of, del_of}
use Rattle.riak_msgs.specs.Seen.{merged}
use Rattle.riak_msgs.proofs.Picking.{each_bytes-append, last_bytes-append}
use Rattle.riak_msgs.proofs.Contents.{StandForContent-more}

-- a borrowed name, or another in its place
pub unwrap_or-copied : (name : Option (Bor (List ℕ))) (other : Bor (List ℕ)) → (unwrap_or name other).now ≡ unwrap_or (option_copied name) other.now
unwrap_or-copied None other = refl
unwrap_or-copied (Some bytes) other = refl

-- an error that is another's
pub IsErrAnd-same : {A E : Type 0} (r : Result A E) (x y : E) → IsErrAnd r (λ e. e ≡ x) → x ≡ y → IsErrAnd r (λ e. e ≡ y)
IsErrAnd-same (Ok a) x y is same = is
IsErrAnd-same (Err e) x y is same = is ∙ same

-- one field more may be the last of its number
pub last_bytes-more : (number : ℕ) (fields : List WireField) (field : WireField) (before after : Option (List ℕ)) →
    before ≡ last_bytes number fields → after ≡ last_or before (each_bytes number (field ∷ [])) →
    after ≡ last_bytes number (fields ++ field ∷ [])
last_bytes-more number fields field before after is last =
    last ∙ ap (λ o. last_or o (each_bytes number (field ∷ []))) is ∙ sym (last_bytes-append number fields (field ∷ []))

-- the occurrences in a field and in those behind it
pub each_bytes-cons : (number : ℕ) (field : WireField) (fields : List WireField) (o : Option (List ℕ)) → bytes_at number field ≡ o →
    each_bytes number (field ∷ fields) ≡ cons_option o (each_bytes number fields)
each_bytes-cons number field fields o is = ap (λ p. cons_option p (each_bytes number fields)) is

-- the occurrences in fields and in one more
each_bytes-more : (number : ℕ) (fields : List WireField) (field : WireField) (o : Option (List ℕ)) → bytes_at number field ≡ o →
    each_bytes number (fields ++ field ∷ []) ≡ each_bytes number fields ++ cons_option o []
each_bytes-more number fields field o is =
    each_bytes-append number fields (field ∷ []) ∙ ap (λ bss. each_bytes number fields ++ bss) (each_bytes-cons number field [] o is)

-- an occurrence of the content more
pub content-more : (fields : List WireField) (field : WireField) (bytes : List ℕ) (c part : ContentFields) → bytes_at 4 field ≡ Some bytes →
    StandForContent (each_bytes 4 fields) c → StandForContent (bytes ∷ []) part → StandForContent (each_bytes 4 (fields ++ field ∷ [])) (merged c part)
content-more fields field bytes c part is all more =
    let P : List (List ℕ) → Type 0 = λ bss. StandForContent bss (merged c part) in
    subst P (sym (each_bytes-more 4 fields field (Some bytes) is)) (StandForContent-more (each_bytes 4 fields) bytes c part all more)

-- another field more
pub content-skip : (fields : List WireField) (field : WireField) (c : ContentFields) → bytes_at 4 field ≡ None →
    StandForContent (each_bytes 4 fields) c → StandForContent (each_bytes 4 (fields ++ field ∷ [])) c
content-skip fields field c is all =
    let P : List (List ℕ) → Type 0 = λ bss. StandForContent bss c in
    subst P (sym (each_bytes-more 4 fields field None is ∙ append-nil (each_bytes 4 fields))) all

-- what was refused for want of memory would have been this request
pub reads_no_memory : (code : ℕ) (body : List ℕ) (request : Request) (r : Result Request MsgFault) → IsErrAnd r (λ fault. fault ≡ NoMemory) →
    Decodes code body (Ok request) → Reads code body r
reads_no_memory code body request (Ok other) none says = absurd none
reads_no_memory code body request (Err fault) is says =
    let P : MsgFault → Type 0 = λ f. Reads code body (Err f) in
    subst P (sym is) (request, says)

-- a get that says this
pub says_get : (body : List ℕ) (fields : List WireField) → Encodes body fields → None ≡ names_fault fields →
    Decodes 9 body (Ok (Get (get_of fields)))
says_get body fields stands none = inr (inl (refl, inl (fields, stands, ap (λ fault. said_by fault (Get (get_of fields))) none)))

-- a put that says this
pub says_put : (body : List ℕ) (put : PutFields) → EncodesPut body put → None ≡ put_fault put →
    Decodes 11 body (Ok (Put (put_of put)))
says_put body put stands none = inr (inr (inl (refl, inl (put, stands, ap (λ fault. said_by fault (Put (put_of put))) none))))

-- a delete that says this
pub says_del : (body : List ℕ) (fields : List WireField) → Encodes body fields → None ≡ names_fault fields →
    Decodes 13 body (Ok (Del (del_of fields)))
says_del body fields stands none =
    inr (inr (inr (inl (refl, inl (fields, stands, ap (λ fault. said_by fault (Del (del_of fields))) none)))))
