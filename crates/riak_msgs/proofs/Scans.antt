-- What a scan over the fields of a message has done, in all.
use Rattle.std.proofs.Common.{◌≡◌, ℕ, List, [], ◌∷◌, ◌++◌, Option, refl, ap, sym, subst, ◌∙◌}
use Rattle.std.specs.List.{AllZip, cons_option}
use Rattle.pb_fields.specs.Field.{WireField}
use Rattle.pb_fields.specs.Merging.{MergesAll, RefusesOne, Tracks}
use Rattle.pb_fields.specs.Message.{Encodes}
use Rattle.pb_fields.proofs.Merging.{MergesAll-tracks}
use Rattle.riak_msgs.specs.Contents.{Content}
use Rattle.riak_msgs.specs.declared.content_view.ContentView.{ContentView}
use Rattle.riak_msgs.specs.declared.fault.MsgFault.{MsgFault}
use Rattle.riak_msgs.specs.declared.fault.MsgFault.TheVariants.{NoMemory}
use Rattle.riak_msgs.specs.Picking.{each_bytes}
use Rattle.riak_msgs.specs.Embedded.{ContentFields, StandForContent}
use Rattle.riak_msgs.specs.Seen.{Copies, HoldContent, HoldsNone, IsSeenOf, RefusesToCopy, Sees, no_fields, merged, with_parts}
use Rattle.riak_msgs.specs.SeenRequests.{HasBadContent, RefusesOccurrence}
use Rattle.riak_msgs.specs.declared.reply_view.ReplyView.{ReplyView}
use Rattle.riak_msgs.specs.ReadingReplies.{ShownFields, EncodesShown}
use Rattle.riak_msgs.specs.SeenReplies.{ContentsIn, HasSeenReply, IsSeenReply, RefusesContent, no_reply}
use Rattle.riak_msgs.proofs.Picking.{each_bytes-append, AllZip-append, AllZip-split}
use Rattle.riak_msgs.proofs.Contents.{StandForContent-split, with_parts-merged, with_parts-no_fields}
use Rattle.riak_msgs.proofs.ContentsWalked.{HoldContent-nil, HoldContent-append, HoldContent-split}
use Rattle.riak_msgs.proofs.ContentsCopied.{merged-merged, merged-no_fields}
use Rattle.riak_msgs.proofs.RepliesSteps.{EachContent}

-- the fields of a content were seen
pub content_seen : (before after : ContentView) (fields : List WireField) → MergesAll Sees before fields after →
    (part : ContentFields) × HoldContent fields part × ((c : ContentFields) → IsSeenOf before c → IsSeenOf after (merged c part))
content_seen before after [] e = (
  no_fields,
  HoldContent-nil,
  λ c is.
      let P : ContentFields → Type 0 = IsSeenOf after in
      let Q : ContentView → Type 0 = λ v. IsSeenOf v c in
      subst P (sym (merged-no_fields c)) (subst Q e is),
)
content_seen before after (f ∷ fs) (next, first, rest) =
    let tail = content_seen next after fs rest in
    let P : ContentFields → Type 0 = IsSeenOf after in (
      merged first.0 tail.0,
      HoldContent-append (f ∷ []) fs first.0 tail.0 first.1 tail.1,
      λ c is. subst P (merged-merged c first.0 tail.0) (tail.2 (merged c first.0) (first.2 c is)),
    )

-- one field of those that a content holds
one_held : (fields before : List WireField) (field : WireField) (behind : List WireField) (part : ContentFields) →
    fields ≡ before ++ field ∷ behind → HoldContent fields part → (one : ContentFields) × HoldContent (field ∷ []) one
one_held fields before field behind part e holds =
    let P : List WireField → Type 0 = λ fs. HoldContent fs part in
    let late = HoldContent-split before (field ∷ behind) part (subst P e holds) in
    let one = HoldContent-split (field ∷ []) behind late.1 late.3 in
    (one.0, one.2)

-- a message in some field of a content stands for no fields
pub content_not_seen : {F : Type 0} (fields : List WireField) (fault : F) (part : ContentFields) →
    RefusesOne (λ field _. HoldsNone field) fields fault → HoldContent fields part → ⊥
content_not_seen fields fault part (before, field, behind, e, none) holds =
    let one = one_held fields before field behind part e holds in none one.0 one.1

-- the messages in the fields of a content were copied
pub parts_copied : {A : Type 0} (content : A → Content) (before after : A) (fields : List WireField) →
    MergesAll (λ a f b. Copies (content a) f (content b)) before fields after →
    (part : ContentFields) × HoldContent fields part × (content after ≡ with_parts (content before) part)
parts_copied content before after [] e = (no_fields, HoldContent-nil, ap content (sym e) ∙ sym (with_parts-no_fields (content before)))
parts_copied content before after (f ∷ fs) (next, first, rest) =
    let tail = parts_copied content next after fs rest in (
      merged first.0 tail.0,
      HoldContent-append (f ∷ []) fs first.0 tail.0 first.1 tail.1,
      tail.2 ∙ ap (λ c. with_parts c tail.0) first.2 ∙ with_parts-merged (content before) first.0 tail.0,
    )

pub parts_not_copied : (fields : List WireField) (fault : MsgFault) (part : ContentFields) → RefusesOne RefusesToCopy fields fault →
    HoldContent fields part → fault ≡ NoMemory
parts_not_copied fields fault part (before, field, behind, e, refused) holds =
    let one = one_held fields before field behind part e holds in refused one.0 one.1

-- the occurrences in one field of a put
one_occurrence : (fields before : List WireField) (field : WireField) (behind : List WireField) (part : ContentFields) →
    fields ≡ before ++ field ∷ behind → StandForContent (each_bytes 4 fields) part →
    (one : ContentFields) × StandForContent (each_bytes 4 (field ∷ [])) one
one_occurrence fields before field behind part e stands =
    let P : List (List ℕ) → Type 0 = λ bss. StandForContent bss part in
    let late = StandForContent-split (each_bytes 4 before) (each_bytes 4 (field ∷ behind)) part
    (subst P (ap (each_bytes 4) e ∙ each_bytes-append 4 before (field ∷ behind)) stands) in
    let Q : List (List ℕ) → Type 0 = λ bss. StandForContent bss late.1 in
    let one = StandForContent-split (each_bytes 4 (field ∷ [])) (each_bytes 4 behind) late.1
    (subst Q (each_bytes-append 4 (field ∷ []) behind) late.4) in
    (one.0, one.3)

pub occurrences_not_copied : (fields : List WireField) (fault : MsgFault) (part : ContentFields) → RefusesOne RefusesOccurrence fields fault →
    StandForContent (each_bytes 4 fields) part → fault ≡ NoMemory
occurrences_not_copied fields fault part (before, field, behind, e, refused) stands =
    let one = one_occurrence fields before field behind part e stands in refused one.0 one.1

-- an occurrence of a put's content stands for none
pub put_not_seen : {F : Type 0} (fields : List WireField) (fault : F) (part : ContentFields) →
    RefusesOne (λ field _. HasBadContent field) fields fault → StandForContent (each_bytes 4 fields) part → ⊥
put_not_seen fields fault part (before, field, behind, e, bad) stands =
    let one = one_occurrence fields before field behind part e stands in
    let P : Option (List ℕ) → Type 0 = λ o. StandForContent (cons_option o []) one.0 in
    bad.none one.0 (subst P bad.is one.1)

-- a content of a reply stands for none
pub reply_not_seen : {F : Type 0} (fields : List WireField) (fault : F) (contents : List ContentFields) →
    RefusesOne (λ field _. RefusesContent field) fields fault → EachContent (each_bytes 1 fields) contents → ⊥
reply_not_seen fields fault contents (before, field, behind, e, none) stands =
    let R = λ (content : List ℕ) (c : ContentFields). StandForContent (content ∷ []) c in
    let P : List (List ℕ) → Type 0 = λ bss. AllZip R bss contents in
    let late = AllZip-split R (each_bytes 1 before) (each_bytes 1 (field ∷ behind)) contents
    (subst P (ap (each_bytes 1) e ∙ each_bytes-append 1 before (field ∷ behind)) stands) in
    let Q : List (List ℕ) → Type 0 = λ bss. AllZip R bss late.1 in
    let one = AllZip-split R (each_bytes 1 (field ∷ [])) (each_bytes 1 behind) late.1
    (subst Q (each_bytes-append 1 (field ∷ []) behind) late.4) in
    none one.0 one.3

-- one field more of a reply, and the contents in it
pub EachContent-more : (fields : List WireField) (field : WireField) (contents more : List ContentFields) →
    EachContent (each_bytes 1 fields) contents → ContentsIn field more → EachContent (each_bytes 1 (fields ++ field ∷ [])) (contents ++ more)
EachContent-more fields field contents more stands one =
    let P : List (List ℕ) → Type 0 = λ bss. EachContent bss (contents ++ more) in
    subst P (sym (each_bytes-append 1 fields (field ∷ [])))
    (AllZip-append (λ content c. StandForContent (content ∷ []) c) (each_bytes 1 fields) (each_bytes 1 (field ∷ [])) contents more stands one)

-- the reply whose fields were all seen
pub reply_seen : (body : List ℕ) (start view : ReplyView) (fields : List WireField) → IsSeenReply start no_reply → Encodes body fields →
    MergesAll (Tracks HasSeenReply) start fields view → (reply : ShownFields) × EncodesShown body reply × IsSeenReply view reply
reply_seen body start view fields none stands all =
    let (reply, own, each, is) = MergesAll-tracks HasSeenReply start view fields (no_reply, refl, tt, none) all in
    let P : List WireField → Type 0 = Encodes body in
    let Q : List WireField → Type 0 = λ fs. EachContent (each_bytes 1 fs) reply.contents in
    (reply, record { own = subst P (sym own) stands; contents = subst Q (sym own) each }, is)
