-- What is said by a body, and by a reply.
use Rattle.std.proofs.Common.{◌≡◌, ℕ, Bool, true, false, cond, List, [], ◌∷◌, map, Option, Some, None, Result, Ok, Err, ◌⊎◌, inl, inr, refl, ap, sym, subst, ◌∙◌, arith, Bor}
use Rattle.std.specs.Prelude.{is_none, is_some, not, ◌&&◌, ◌||◌, unwrap_or, option_and_then, option_copied}
use Rattle.std.proofs.lemmas.Bool.{false≢true}
use Rattle.pb_fields.specs.Field.{WireField}
use Rattle.pb_fields.specs.Message.{Encodes}
use Rattle.pb_fields.proofs.Lists.{fields_once}
use Rattle.riak_msgs.specs.declared.get.GetReply.{GetReply}
use Rattle.riak_msgs.specs.declared.put.PutReply.{PutReply}
use Rattle.riak_msgs.specs.declared.shown.Shown.{Shown}
use Rattle.riak_msgs.specs.declared.reply.Reply.{Reply}
use Rattle.riak_msgs.specs.declared.reply.Reply.TheVariants as replies
use Rattle.riak_msgs.specs.declared.text.Text.{Text}
use Rattle.riak_msgs.specs.declared.text.Text.TheVariants as texts
use Rattle.riak_msgs.specs.declared.fault.MsgFault.{MsgFault}
use Rattle.riak_msgs.specs.declared.fault.MsgFault.TheVariants.{UnknownCode, BadMessage, MissingField, EmptyName, NoKey, NoMemory}
use Rattle.riak_msgs.specs.Picking.{last_bytes, last_varint, flag_of}
use Rattle.riak_msgs.specs.Reading.{first_fault, said_by, DecodesBy}
use Rattle.riak_msgs.specs.ReadingReplies.{ShownFields, EncodesShown, contents_of, shown_fault, get_reply_of, text_in, text_named, IsReplyCode, DecodesReply, ReadsReply}
use Rattle.riak_msgs.specs.SeenReplies.{DecodesError, DecodesShown, ReadsShown, whole_of}
use Rattle.riak_msgs.proofs.RepliesSteps.{shown_once, contents_of-whole}

-- a body says one thing at most
pub DecodesBy-once : {A F : Type 0} (Holds : F → Type 0) (decoded : F → Result A MsgFault) (a b : Result A MsgFault) →
    ((x y : F) → Holds x → Holds y → x ≡ y) → DecodesBy Holds decoded a → DecodesBy Holds decoded b → a ≡ b
DecodesBy-once Holds decoded a b once (inl (x, s, e)) (inl (y, t, f)) = e ∙ ap decoded (once x y s t) ∙ sym f
DecodesBy-once Holds decoded a b once (inl (x, s, e)) (inr (none, f)) = absurd (none x s)
DecodesBy-once Holds decoded a b once (inr (none, e)) (inl (y, t, f)) = absurd (none y t)
DecodesBy-once Holds decoded a b once (inr (none, e)) (inr (other, f)) = e ∙ sym f

-- what is said, as a part of something
pub mapped : {A B : Type 0} → (A → B) → Result A MsgFault → Result B MsgFault
mapped f (Ok a) = Ok (f a)
mapped f (Err fault) = Err fault

said_by-mapped : {A B : Type 0} (f : A → B) (fault : Option MsgFault) (a : A) → mapped f (said_by fault a) ≡ said_by fault (f a)
unfolding mapped
said_by-mapped f None a = refl
said_by-mapped f (Some fault) a = refl

DecodesBy-mapped : {A B F : Type 0} (f : A → B) (Holds : F → Type 0) (fault : F → Option MsgFault) (decoded : F → A) (said : Result A MsgFault) →
    DecodesBy Holds (λ x. said_by (fault x) (decoded x)) said → DecodesBy Holds (λ x. said_by (fault x) (f (decoded x))) (mapped f said)
unfolding mapped
DecodesBy-mapped f Holds fault decoded said (inl (x, s, e)) = inl (x, s, ap (mapped f) e ∙ said_by-mapped f (fault x) (decoded x))
DecodesBy-mapped f Holds fault decoded said (inr (none, e)) = inr (none, ap (mapped f) e)

-- a reply whose contents are whole is said
pub DecodesShown-whole : (body : List ℕ) (fields : ShownFields) → EncodesShown body fields → is_none (contents_of fields) ≡ false →
    DecodesShown body (Ok (get_reply_of fields))
DecodesShown-whole body fields stands whole =
    let P : Bool → Result GetReply MsgFault = λ b. said_by (cond b (Some MissingField) None) (get_reply_of fields) in
    inl (fields, stands, ap P (sym whole))

-- and where some content isn't, that is said
pub DecodesShown-missing : (body : List ℕ) (fields : ShownFields) → EncodesShown body fields → is_none (contents_of fields) ≡ true →
    DecodesShown body (Err MissingField)
DecodesShown-missing body fields stands missing =
    let P : Bool → Result GetReply MsgFault = λ b. said_by (cond b (Some MissingField) None) (get_reply_of fields) in
    inl (fields, stands, ap P (sym missing))

reply_made : List Shown → List ℕ → Bool → GetReply
reply_made contents context unchanged = record { contents = contents; context = context; unchanged = unchanged }

-- the reply that was copied is the one that is said
pub DecodesShown-copied : (body : List ℕ) (fields others : ShownFields) (contents : List Shown) (context : List ℕ) (unchanged : Bool) →
    EncodesShown body fields → EncodesShown body others → is_none (contents_of fields) ≡ false →
    contents ≡ map whole_of others.contents → context ≡ unwrap_or (last_bytes 2 fields.own) [] → unchanged ≡ flag_of 3 fields.own →
    DecodesShown body (Ok (record { contents = contents; context = context; unchanged = unchanged }))
unfolding reply_made
DecodesShown-copied body fields others contents context unchanged s t whole e f g =
    let shown : contents ≡ unwrap_or (contents_of fields) [] =
    e ∙ ap (λ (x : ShownFields). map whole_of x.contents) (shown_once body others fields t s)
    ∙ ap (λ o. unwrap_or o []) (sym (contents_of-whole fields whole)) in
    let P : GetReply → Type 0 = λ r. DecodesShown body (Ok r) in
    let same : get_reply_of fields ≡ reply_made contents context unchanged =
    ap (λ x. reply_made x (unwrap_or (last_bytes 2 fields.own) []) (flag_of 3 fields.own)) (sym shown)
    ∙ ap (λ x. reply_made contents x (flag_of 3 fields.own)) (sym f) ∙ ap (reply_made contents context) (sym g) in
    subst P same (DecodesShown-whole body fields s whole)

-- the bytes that were seen, or none
pub now-unwrap_or : (o : Option (Bor (List ℕ))) (d r : Bor (List ℕ)) → r ≡ unwrap_or o d → d.now ≡ [] → r.now ≡ unwrap_or (option_copied o) []
now-unwrap_or None d r e none = ap (λ (b : Bor (List ℕ)). b.now) e ∙ none
now-unwrap_or (Some b) d r e none = ap (λ (b : Bor (List ℕ)). b.now) e

abbrev pub as_put : GetReply → PutReply
as_put r = record { contents = r.contents; context = r.context }

-- a get's reply
pub DecodesReply-get : (code : ℕ) (body : List ℕ) (said : Result GetReply MsgFault) → code ≡ 10 → DecodesShown body said →
    DecodesReply code body (mapped replies.Get said)
DecodesReply-get code body said e decoded = inr (inr (inl (e, DecodesBy-mapped replies.Get (EncodesShown body) shown_fault get_reply_of said decoded)))

-- a put's
pub DecodesReply-put : (code : ℕ) (body : List ℕ) (said : Result GetReply MsgFault) → code ≡ 12 → DecodesShown body said →
    DecodesReply code body (mapped (λ r. replies.Put (as_put r)) said)
DecodesReply-put code body said e decoded =
    inr (inr (inr (inl (e, DecodesBy-mapped (λ r. replies.Put (as_put r)) (EncodesShown body) shown_fault get_reply_of said decoded))))

pub ReadsReply-get_fault : (code : ℕ) (body : List ℕ) (fault : MsgFault) → code ≡ 10 → ReadsShown body (Err fault) → ReadsReply code body (Err fault)
unfolding mapped
ReadsReply-get_fault code body UnknownCode e decoded = absurd decoded
ReadsReply-get_fault code body BadMessage e decoded = DecodesReply-get code body (Err BadMessage) e decoded
ReadsReply-get_fault code body MissingField e decoded = DecodesReply-get code body (Err MissingField) e decoded
ReadsReply-get_fault code body EmptyName e decoded = absurd decoded
ReadsReply-get_fault code body NoKey e decoded = absurd decoded
ReadsReply-get_fault code body NoMemory e (reply, decoded) = (replies.Get reply, DecodesReply-get code body (Ok reply) e decoded)

pub ReadsReply-put_fault : (code : ℕ) (body : List ℕ) (fault : MsgFault) → code ≡ 12 → ReadsShown body (Err fault) → ReadsReply code body (Err fault)
unfolding mapped
ReadsReply-put_fault code body UnknownCode e decoded = absurd decoded
ReadsReply-put_fault code body BadMessage e decoded = DecodesReply-put code body (Err BadMessage) e decoded
ReadsReply-put_fault code body MissingField e decoded = DecodesReply-put code body (Err MissingField) e decoded
ReadsReply-put_fault code body EmptyName e decoded = absurd decoded
ReadsReply-put_fault code body NoKey e decoded = absurd decoded
ReadsReply-put_fault code body NoMemory e (reply, decoded) = (replies.Put (as_put reply), DecodesReply-put code body (Ok reply) e decoded)

wants_memory : {A : Type 0} → Result A MsgFault → Bool
wants_memory (Ok a) = false
wants_memory (Err UnknownCode) = false
wants_memory (Err BadMessage) = false
wants_memory (Err MissingField) = false
wants_memory (Err EmptyName) = false
wants_memory (Err NoKey) = false
wants_memory (Err NoMemory) = true

-- no error wants memory
error_no_memory : (body : List ℕ) → DecodesError body (Err NoMemory) → ⊥
unfolding wants_memory
error_no_memory body (inr (none, e)) = false≢true (sym (ap wants_memory e))
error_no_memory body (inl (fields, s, e)) =
    none (is_some (last_bytes 1 fields) && is_none (text_in fields)) (is_none (last_bytes 1 fields) || is_none (last_varint 2 fields)) (replies.Error (unwrap_or (text_in fields) texts.BadMessage)) (ap wants_memory e)
  where
    none : (b d : Bool) (r : Reply) → true ≡ wants_memory (said_by (cond b (Some BadMessage) (cond d (Some MissingField) None)) r) → ⊥
    none true d r e = false≢true (sym e)
    none false true r e = false≢true (sym e)
    none false false r e = false≢true (sym e)

pub ReadsReply-error : (code : ℕ) (body : List ℕ) (said : Result Reply MsgFault) → code ≡ 0 → DecodesError body said → ReadsReply code body said
ReadsReply-error code body (Ok reply) e decoded = inl (e, decoded)
ReadsReply-error code body (Err UnknownCode) e decoded = inl (e, decoded)
ReadsReply-error code body (Err BadMessage) e decoded = inl (e, decoded)
ReadsReply-error code body (Err MissingField) e decoded = inl (e, decoded)
ReadsReply-error code body (Err EmptyName) e decoded = inl (e, decoded)
ReadsReply-error code body (Err NoKey) e decoded = inl (e, decoded)
ReadsReply-error code body (Err NoMemory) e decoded = absurd (error_no_memory body decoded)

-- another code's part
skip : {A R : Type 0} (code m n : ℕ) → (m ≡ n → ⊥) → code ≡ m → (R → ⊥) → ((code ≡ n) × A) ⊎ R → ⊥
skip code m n other e rest (inl (f, a)) = other (sym e ∙ f)
skip code m n other e rest (inr r) = rest r

-- two parts of one code, or none of it
both : {P A B R S C : Type 0} → (P × A) ⊎ R → (P × B) ⊎ S → (P → R → ⊥) → (P → S → ⊥) → (A → B → C) → (R → S → C) → C
both (inl (p, a)) (inl (q, b)) x y f g = f a b
both (inl (p, a)) (inr s) x y f g = absurd (y p s)
both (inr r) (inl (q, b)) x y f g = absurd (x q r)
both (inr r) (inr s) x y f g = g r s

-- a message says one reply at most
pub DecodesReply-once : (code : ℕ) (body : List ℕ) (a b : Result Reply MsgFault) → DecodesReply code body a → DecodesReply code body b → a ≡ b
DecodesReply-once code body a b s t =
    both s t not_error not_error (DecodesBy-once (Encodes body) _ a b (fields_once body)) (λ s t.
    both s t not_ping not_ping (λ e f. e ∙ sym f) (λ s t.
    both s t not_get not_get (DecodesBy-once (EncodesShown body) _ a b (shown_once body)) (λ s t.
    both s t not_put not_put (DecodesBy-once (EncodesShown body) _ a b (shown_once body)) (λ s t.
    both s t not_del not_del (λ e f. e ∙ sym f) (λ s t. s.1 ∙ sym t.1)))))
  where
    not_del : {N : Type 0} → code ≡ 14 → ¬ (IsReplyCode code) × N → ⊥
    not_del e r = r.0 (inr (inr (inr (inr e))))

    not_put : {A N : Type 0} → code ≡ 12 → ((code ≡ 14) × A) ⊎ (¬ (IsReplyCode code) × N) → ⊥
    not_put e = skip code 12 14 (λ f. omega arith) e (λ r. r.0 (inr (inr (inr (inl e)))))

    not_get : {A B N : Type 0} → code ≡ 10 → ((code ≡ 12) × A) ⊎ (((code ≡ 14) × B) ⊎ (¬ (IsReplyCode code) × N)) → ⊥
    not_get e = skip code 10 12 (λ f. omega arith) e (skip code 10 14 (λ f. omega arith) e (λ r. r.0 (inr (inr (inl e)))))

    not_ping : {A B D N : Type 0} → code ≡ 2 →
        ((code ≡ 10) × A) ⊎ (((code ≡ 12) × B) ⊎ (((code ≡ 14) × D) ⊎ (¬ (IsReplyCode code) × N))) → ⊥
    not_ping e = skip code 2 10 (λ f. omega arith) e (skip code 2 12 (λ f. omega arith) e (skip code 2 14 (λ f. omega arith) e (λ r. r.0 (inr (inl e)))))

    not_error : {A B D E N : Type 0} → code ≡ 0 →
        ((code ≡ 2) × A) ⊎ (((code ≡ 10) × B) ⊎ (((code ≡ 12) × D) ⊎ (((code ≡ 14) × E) ⊎ (¬ (IsReplyCode code) × N)))) → ⊥
    not_error e = skip code 0 2 (λ f. omega arith) e (skip code 0 10 (λ f. omega arith) e (skip code 0 12 (λ f. omega arith) e
        (skip code 0 14 (λ f. omega arith) e (λ r. r.0 (inl e)))))

-- what an error says, by its text and whether it has a number
abbrev pub error_said : Option (List ℕ) → Option Text → Bool → Result Reply MsgFault
error_said bytes text has_number =
    said_by (first_fault ((is_some bytes && is_none text, BadMessage) ∷ (is_none bytes || not has_number, MissingField) ∷ []))
    (replies.Error (unwrap_or text texts.BadMessage))

pub DecodesError-is : (body : List ℕ) (fields : List WireField) (bytes : Option (List ℕ)) (text : Option Text) (has_number : Bool)
    (said : Result Reply MsgFault) → Encodes body fields → bytes ≡ last_bytes 1 fields → text ≡ option_and_then text_named bytes →
    has_number ≡ is_some (last_varint 2 fields) → said ≡ error_said bytes text has_number → DecodesError body said
DecodesError-is body fields bytes text has_number said stands b t n is =
    inl (
      fields,
      stands,
      is ∙ ap (λ x. error_said x text has_number) b ∙ ap (λ x. error_said (last_bytes 1 fields) x has_number) (t ∙ ap (option_and_then text_named) b)
          ∙ number (last_varint 2 fields) n,
    )
  where
    number : (o : Option ℕ) → has_number ≡ is_some o →
        error_said (last_bytes 1 fields) (text_in fields) has_number
        ≡ said_by (first_fault ((is_some (last_bytes 1 fields) && is_none (text_in fields), BadMessage) ∷ (is_none (last_bytes 1 fields) || is_none o, MissingField) ∷ []))
        (replies.Error (unwrap_or (text_in fields) texts.BadMessage))
    number None e = ap (error_said (last_bytes 1 fields) (text_in fields)) e
    number (Some x) e = ap (error_said (last_bytes 1 fields) (text_in fields)) e
