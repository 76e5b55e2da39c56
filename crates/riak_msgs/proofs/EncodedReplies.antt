-- The encoding of a reply says this reply.
use Rattle.std.proofs.Common.{◌≡◌, ℕ, ◌^◌, ◌<◌, true, false, ◌||◌, ◌&&◌, List, [], ◌∷◌, ◌++◌, length, map, Some, None, Ok, is_none, is_some, option_and_then, refl, ap, sym, subst, ◌∙◌, arith, inl, inr, if◌then◌else◌}
use Rattle.std.specs.List.{AllZip}
use Rattle.std.specs.Option.{unwrap_or}
use Rattle.std.proofs.lemmas.List.{append-nil}
use Rattle.pb_fields.specs.Field.{WireField}
use Rattle.pb_fields.specs.Message.{Encodes}
use Rattle.riak_msgs.specs.declared.text.Text.{Text}
use Rattle.riak_msgs.specs.declared.text.Text.TheVariants.{UnknownCode, BadMessage, MissingField, EmptyName, NoKey, NoMemory, MatchFound, Modified, NotFound, BadContext, TooManySiblings, ClockFull, EpochsUsedUp, CounterUsedUp, Moved, HistoryFull, BadFrame, FrameTooLarge}
use Rattle.riak_msgs.specs.declared.get.GetReply.{GetReply}
use Rattle.riak_msgs.specs.declared.put.PutReply.{PutReply}
use Rattle.riak_msgs.specs.declared.reply.Reply.{Reply}
use Rattle.riak_msgs.specs.declared.reply.Reply.TheVariants as replies
use Rattle.riak_msgs.specs.declared.fault.MsgFault.TheVariants as faults
use Rattle.riak_msgs.specs.Text.{text_bytes}
use Rattle.pb_fields.specs.Encoding.{bytes_field, repeated_field}
use Rattle.riak_msgs.specs.Encoding.{shown_message}
use Rattle.riak_msgs.specs.Replies.{error_body, get_reply_body, put_reply_body, reply_code, reply_body}
use Rattle.riak_msgs.specs.Picking.{last_bytes, last_varint, flag_of}
use Rattle.riak_msgs.specs.Embedded.{ContentFields, StandForContent}
use Rattle.riak_msgs.specs.Reading.{first_fault, said_by}
use Rattle.riak_msgs.specs.ReadingReplies.{text_named, text_in, error_fault, ShownFields, EncodesShown, contents_of, shown_of, shown_fault, get_reply_of, put_reply_of, DecodesReply}
use Rattle.pb_fields.proofs.EncodedParts.{Part, string, optional, each, flag, encoded, encoded_behind-is, fields_of, parts_short, stands}
use Rattle.riak_msgs.specs.EncodedPicks.{each_bytes-fields_of, last_bytes-fields_of, last_varint-fields_of, flag_of-fields_of, last_or-only, repeated_field-map}
use Rattle.riak_msgs.specs.EncodedContents.{each_stands, all_of-back}
use Rattle.riak_msgs.proofs.EncodedOptions.{some_bytes, context_field-is, unwrap_or-some_bytes}
use Rattle.riak_msgs.proofs.EncodedShown.{shown_fields, shown_stands, shown_back}
use Rattle.riak_msgs.proofs.EncodedRequests.{said_ok}

-- each text names its error
text_named-text_bytes : (t : Text) → text_named (text_bytes t) ≡ Some t
text_named-text_bytes UnknownCode = refl
text_named-text_bytes BadMessage = refl
text_named-text_bytes MissingField = refl
text_named-text_bytes EmptyName = refl
text_named-text_bytes NoKey = refl
text_named-text_bytes NoMemory = refl
text_named-text_bytes MatchFound = refl
text_named-text_bytes Modified = refl
text_named-text_bytes NotFound = refl
text_named-text_bytes BadContext = refl
text_named-text_bytes TooManySiblings = refl
text_named-text_bytes ClockFull = refl
text_named-text_bytes EpochsUsedUp = refl
text_named-text_bytes CounterUsedUp = refl
text_named-text_bytes Moved = refl
text_named-text_bytes HistoryFull = refl
text_named-text_bytes BadFrame = refl
text_named-text_bytes FrameTooLarge = refl

error_parts : Text → List Part
error_parts t = string 1 (text_bytes t) ∷ flag 2 true ∷ []

error_stands : (t : Text) → length (error_body t) < 2 ^ 64 → Encodes (error_body t) (fields_of (error_parts t))
unfolding error_parts
error_stands t short =
    stands (error_body t) (error_parts t) (encoded_behind-is (bytes_field 1 (text_bytes t)) (flag 2 true ∷ [])) (search arith) short

error_text : (t : Text) → last_bytes 1 (fields_of (error_parts t)) ≡ Some (text_bytes t)
unfolding error_parts
error_text t = last_bytes-fields_of 1 (error_parts t)

error_number : (t : Text) → last_varint 2 (fields_of (error_parts t)) ≡ Some 1
unfolding error_parts
error_number t = last_varint-fields_of 2 (error_parts t)

error_said : (t : Text) (fields : List WireField) → last_bytes 1 fields ≡ Some (text_bytes t) → last_varint 2 fields ≡ Some 1 →
    Ok (replies.Error t) ≡ said_by (error_fault fields) (replies.Error (unwrap_or (text_in fields) BadMessage))
error_said t fields text number =
    let named : text_in fields ≡ Some t = ap (λ o. option_and_then text_named o) text ∙ text_named-text_bytes t in
    let known : is_some (last_bytes 1 fields) && is_none (text_in fields) ≡ false =
    ap (λ o. is_some (last_bytes 1 fields) && is_none o) named ∙ ap (λ o. is_some o && false) text in
    let whole : is_none (last_bytes 1 fields) || is_none (last_varint 2 fields) ≡ false =
    ap (λ o. is_none o || is_none (last_varint 2 fields)) text ∙ ap is_none number in
    let none : error_fault fields ≡ None =
    ap (λ b. if b then Some faults.BadMessage
    else first_fault ((is_none (last_bytes 1 fields) || is_none (last_varint 2 fields), faults.MissingField) ∷ [])) known
    ∙ ap (λ b. if b then Some faults.MissingField else None) whole in
    said_ok (error_fault fields) (replies.Error t) (replies.Error (unwrap_or (text_in fields) BadMessage)) none
    (ap (λ o. replies.Error (unwrap_or o BadMessage)) (sym named))

get_reply_parts : GetReply → List Part
get_reply_parts r =
    each 1 (map shown_message r.contents) ∷ optional 2 (some_bytes r.context) ∷ flag 3 r.unchanged ∷ []

get_reply_fields : GetReply → ShownFields
get_reply_fields r = record { own = fields_of (get_reply_parts r); contents = map shown_fields r.contents }

get_reply_encoded : (r : GetReply) → get_reply_body r ≡ encoded (get_reply_parts r)
unfolding get_reply_parts
get_reply_encoded r =
    rw (repeated_field-map shown_message 1 r.contents, context_field-is 2 r.context)
    (encoded_behind-is (repeated_field (λ x. x) 1 (map shown_message r.contents)) (optional 2 (some_bytes r.context) ∷ flag 3 r.unchanged ∷ []))

get_reply_stands : (r : GetReply) → length (get_reply_body r) < 2 ^ 64 → EncodesShown (get_reply_body r) (get_reply_fields r)
unfolding get_reply_parts get_reply_fields
get_reply_stands r short =
    let parts = get_reply_parts r in
    let R : List ℕ → ContentFields → Type 0 = λ content fields. StandForContent (content ∷ []) fields in
    let each_short = parts_short parts (subst (λ bs. length bs < 2 ^ 64) (get_reply_encoded r) short) in
    record {
      own = stands (get_reply_body r) parts (get_reply_encoded r) (search arith) short;
      contents = subst (λ bss. AllZip R bss (map shown_fields r.contents)) (sym (each_bytes-fields_of 1 parts ∙ append-nil (map shown_message r.contents)))
          (each_stands R shown_message shown_fields 1 shown_stands r.contents each_short.0);
    }

-- the fields of a reply are these
record ReplyIn (f : ShownFields) (r : GetReply) : Type 0 where
  pub contents : contents_of f ≡ Some r.contents
  pub context : last_bytes 2 f.own ≡ some_bytes r.context
  pub unchanged : flag_of 3 f.own ≡ r.unchanged

get_reply_in : (r : GetReply) → ReplyIn (get_reply_fields r) r
unfolding get_reply_parts get_reply_fields
get_reply_in r = record {
  contents = all_of-back shown_of shown_fields shown_back r.contents;
  context = last_bytes-fields_of 2 (get_reply_parts r) ∙ last_or-only (some_bytes r.context);
  unchanged = flag_of-fields_of 3 (get_reply_parts r) r.unchanged refl;
}

no_shown_fault : (f : ShownFields) (r : GetReply) → ReplyIn f r → shown_fault f ≡ None
no_shown_fault f r given = ap (λ o. if is_none o then Some faults.MissingField else None) given.contents

get_reply_of-is : (f : ShownFields) (r : GetReply) → ReplyIn f r → get_reply_of f ≡ r
get_reply_of-is f r given = rw (given.contents, given.context, given.unchanged, unwrap_or-some_bytes r.context) refl

put_reply_of-is : (f : ShownFields) (r : GetReply) → ReplyIn f r → put_reply_of f ≡ record { contents = r.contents; context = r.context }
put_reply_of-is f r given = rw (given.contents, given.context, unwrap_or-some_bytes r.context) refl

get_reply_said : (f : ShownFields) (r : GetReply) → ReplyIn f r → Ok (replies.Get r) ≡ said_by (shown_fault f) (replies.Get (get_reply_of f))
get_reply_said f r given =
    said_ok (shown_fault f) (replies.Get r) (replies.Get (get_reply_of f)) (no_shown_fault f r given) (ap replies.Get (sym (get_reply_of-is f r given)))

-- a reply to a put shows as one to a get
shows : PutReply → GetReply
shows r = record { contents = r.contents; context = r.context; unchanged = false }

put_reply_stands : (r : PutReply) → length (put_reply_body r) < 2 ^ 64 → EncodesShown (put_reply_body r) (get_reply_fields (shows r))
unfolding shows
put_reply_stands r short =
    let same : put_reply_body r ++ [] ≡ put_reply_body r = append-nil (put_reply_body r) in
    subst (λ bs. EncodesShown bs (get_reply_fields (shows r))) same
    (get_reply_stands (shows r) (subst (λ bs. length bs < 2 ^ 64) (sym same) short))

put_reply_said : (f : ShownFields) (r : PutReply) → ReplyIn f (shows r) → Ok (replies.Put r) ≡ said_by (shown_fault f) (replies.Put (put_reply_of f))
unfolding shows
put_reply_said f r given =
    said_ok (shown_fault f) (replies.Put r) (replies.Put (put_reply_of f)) (no_shown_fault f (shows r) given)
    (ap replies.Put (sym (put_reply_of-is f (shows r) given)))

pub reply_says : (r : Reply) → length (reply_body r) < 2 ^ 64 → DecodesReply (reply_code r) (reply_body r) (Ok r)
reply_says (replies.Error t) short =
    inl (refl, inl (fields_of (error_parts t), error_stands t short, error_said t (fields_of (error_parts t)) (error_text t) (error_number t)))
reply_says replies.Ping short = inr (inl (refl, refl))
reply_says (replies.Get r) short =
    inr (inr (inl (refl, inl (get_reply_fields r, get_reply_stands r short, get_reply_said (get_reply_fields r) r (get_reply_in r)))))
reply_says (replies.Put r) short =
    let shown = shows r in
    inr (inr (inr (inl (refl, inl (get_reply_fields shown, put_reply_stands r short, put_reply_said (get_reply_fields shown) r (get_reply_in shown))))))
reply_says replies.Del short = inr (inr (inr (inr (inl (refl, refl)))))
