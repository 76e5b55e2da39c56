-- A message says one thing.
use Rattle.std.proofs.Common.{◌≡◌, ℕ, List, Result, Ok, Err, refl, sym, subst, arith, ◌∙◌, inl, inr}
use Rattle.pb_fields.specs.Message.{Encodes}
use Rattle.pb_fields.proofs.Lists.{fields_once}
use Rattle.riak_msgs.specs.declared.request.Request.{Request}
use Rattle.riak_msgs.specs.declared.request.Request.TheVariants as requests
use Rattle.riak_msgs.specs.declared.fault.MsgFault.{MsgFault}
use Rattle.riak_msgs.specs.declared.fault.MsgFault.TheVariants as faults
use Rattle.pb_fields.specs.Field.{WireField}
use Rattle.riak_msgs.specs.Picking.{each_bytes}
use Rattle.riak_msgs.specs.Embedded.{StandForContent}
use Rattle.riak_msgs.specs.Reading.{PutFields, EncodesPut, DecodesBy, Decodes, IsRequestCode, said_by, names_fault, get_of, put_fault, put_of, del_of}
use Rattle.riak_msgs.specs.ContentOnce.{content_once}
use Rattle.riak_msgs.proofs.RepliesSaid.{DecodesBy-once}

-- bytes stand for one put at most
put_once : (bs : List ℕ) (p q : PutFields) → EncodesPut bs p → EncodesPut bs q → p ≡ q
put_once bs p q a b =
    let own : p.own ≡ q.own = fields_once bs p.own q.own a.own b.own in
    let P : List WireField → Type 0 = λ fields. StandForContent (each_bytes 4 fields) q.content in
    let content : p.content ≡ q.content =
    content_once (each_bytes 4 p.own) p.content q.content a.content (subst P (sym own) b.content) in
    rw (own, content) refl

-- what a message of each code says
says_ping : (code : ℕ) (body : List ℕ) (a : Result Request MsgFault) → code ≡ 1 → Decodes code body a → a ≡ Ok requests.Ping
says_ping code body a one (inl (e, p)) = p
says_ping code body a one (inr (inl (nine, says))) = absurd (omega arith)
says_ping code body a one (inr (inr (inl (eleven, says)))) = absurd (omega arith)
says_ping code body a one (inr (inr (inr (inl (thirteen, says))))) = absurd (omega arith)
says_ping code body a one (inr (inr (inr (inr (other, p))))) = absurd (other (inl one))

says_get : (code : ℕ) (body : List ℕ) (a : Result Request MsgFault) → code ≡ 9 → Decodes code body a →
    DecodesBy (Encodes body) (λ fields. said_by (names_fault fields) (requests.Get (get_of fields))) a
says_get code body a nine (inl (one, p)) = absurd (omega arith)
says_get code body a nine (inr (inl (e, says))) = says
says_get code body a nine (inr (inr (inl (eleven, says)))) = absurd (omega arith)
says_get code body a nine (inr (inr (inr (inl (thirteen, says))))) = absurd (omega arith)
says_get code body a nine (inr (inr (inr (inr (other, p))))) = absurd (other (inr (inl nine)))

says_put : (code : ℕ) (body : List ℕ) (a : Result Request MsgFault) → code ≡ 11 → Decodes code body a →
    DecodesBy (EncodesPut body) (λ put. said_by (put_fault put) (requests.Put (put_of put))) a
says_put code body a eleven (inl (one, p)) = absurd (omega arith)
says_put code body a eleven (inr (inl (nine, says))) = absurd (omega arith)
says_put code body a eleven (inr (inr (inl (e, says)))) = says
says_put code body a eleven (inr (inr (inr (inl (thirteen, says))))) = absurd (omega arith)
says_put code body a eleven (inr (inr (inr (inr (other, p))))) = absurd (other (inr (inr (inl eleven))))

says_del : (code : ℕ) (body : List ℕ) (a : Result Request MsgFault) → code ≡ 13 → Decodes code body a →
    DecodesBy (Encodes body) (λ fields. said_by (names_fault fields) (requests.Del (del_of fields))) a
says_del code body a thirteen (inl (one, p)) = absurd (omega arith)
says_del code body a thirteen (inr (inl (nine, says))) = absurd (omega arith)
says_del code body a thirteen (inr (inr (inl (eleven, says)))) = absurd (omega arith)
says_del code body a thirteen (inr (inr (inr (inl (e, says))))) = says
says_del code body a thirteen (inr (inr (inr (inr (other, p))))) = absurd (other (inr (inr (inr thirteen))))

says_other : (code : ℕ) (body : List ℕ) (a : Result Request MsgFault) → ¬ (IsRequestCode code) → Decodes code body a → a ≡ Err faults.UnknownCode
says_other code body a other (inl (one, p)) = absurd (other (inl one))
says_other code body a other (inr (inl (nine, says))) = absurd (other (inr (inl nine)))
says_other code body a other (inr (inr (inl (eleven, says)))) = absurd (other (inr (inr (inl eleven))))
says_other code body a other (inr (inr (inr (inl (thirteen, says))))) = absurd (other (inr (inr (inr thirteen))))
says_other code body a other (inr (inr (inr (inr (none, p))))) = p

pub says_once : (code : ℕ) (body : List ℕ) (a b : Result Request MsgFault) → Decodes code body a → Decodes code body b → a ≡ b
says_once code body a b (inl (one, p)) says = p ∙ sym (says_ping code body b one says)
says_once code body a b (inr (inl (nine, by))) says =
    DecodesBy-once (Encodes body) (λ fields. said_by (names_fault fields) (requests.Get (get_of fields))) a b (fields_once body) by
    (says_get code body b nine says)
says_once code body a b (inr (inr (inl (eleven, by)))) says =
    DecodesBy-once (EncodesPut body) (λ put. said_by (put_fault put) (requests.Put (put_of put))) a b (put_once body) by
    (says_put code body b eleven says)
says_once code body a b (inr (inr (inr (inl (thirteen, by))))) says =
    DecodesBy-once (Encodes body) (λ fields. said_by (names_fault fields) (requests.Del (del_of fields))) a b (fields_once body) by
    (says_del code body b thirteen says)
says_once code body a b (inr (inr (inr (inr (other, p))))) says = p ∙ sym (says_other code body b other says)
