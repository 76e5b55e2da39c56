-- Walks over a content's fields that append the links and pairs in them.
use Rattle.std.proofs.Common.{◌≡◌, ◌⊎◌, inl, inr, ℕ, List, [], ◌∷◌, ◌++◌, Option, Some, None, map, refl, ap, sym, subst, ◌∙◌, append_assoc}
use Rattle.std.specs.Prelude.{filter_map, option_copied, option_map, unwrap_or, OnOk, Result, Ok, Err}
use Rattle.std.specs.List.{AllZip, cons_option}
use Rattle.std.proofs.lemmas.List.{append-nil}
use Rattle.std.proofs.lemmas.List.Elements.{filter_map-append}
use Rattle.pb_fields.specs.Encoding.{optional_field, bytes_field, repeated_field}
use Rattle.pb_fields.specs.Field.{WireField}
use Rattle.pb_fields.specs.Merging.{MergesAll}
use Rattle.pb_fields.specs.Message.{Encodes}
use Rattle.pb_fields.proofs.Lists.{fields_once}
use Rattle.pb_fields.proofs.Repeated.{repeated_field-append}
use Rattle.riak_msgs.specs.Content.{Link, Pair}
use Rattle.riak_msgs.specs.ContentEncoding.{link_message, pair_message, content_message}
use Rattle.riak_msgs.specs.ContentOnce.{EachStand, content_once}
use Rattle.riak_msgs.specs.Embedded.{ContentFields, StandForContent, link_of, pair_of}
use Rattle.riak_msgs.specs.EncodedPicks.{repeated_field-map}
use Rattle.riak_msgs.specs.Parts.{Appends, part_message, part_number, parts_in, parts_message}
use Rattle.riak_msgs.specs.Picking.{bytes_at, each_bytes}
use Rattle.riak_msgs.specs.declared.content_view.ContentView.{ContentView}
use Rattle.riak_msgs.specs.Seen.{HoldContent, IsSeenOf, merged, no_fields, scalars_of, with_parts}
use Rattle.riak_msgs.specs.SeenRequests.{AppendsOccurrence}
use Rattle.riak_msgs.specs.declared.parts_encoder.PartKind.{PartKind}
use Rattle.riak_msgs.specs.declared.parts_encoder.PartKind.TheVariants as kinds
use Rattle.riak_msgs.specs.declared.parts_encoder.PartsEncoder.{PartsEncoder}
use Rattle.riak_msgs.specs.declared.read_put.PutParts.{PutParts}
use Rattle.riak_msgs.proofs.Picking.{each_bytes-append}
use Rattle.riak_msgs.proofs.Contents.{StandForContent-nil, StandForContent-split, each-split}
use Rattle.riak_msgs.proofs.ContentsWalked.{HoldContent-one}

-- the fields of some messages, and of later ones
pub parts_message-append : (kind : PartKind) (xs ys : List (List WireField)) →
    parts_message kind (xs ++ ys) ≡ parts_message kind xs ++ parts_message kind ys
parts_message-append kind xs ys =
    ap (repeated_field (λ bytes. bytes) (part_number kind)) (filter_map-append (part_message kind) xs ys)
    ∙ repeated_field-append (λ bytes. bytes) (part_number kind) (filter_map (part_message kind) xs) (filter_map (part_message kind) ys)

-- each of a kind's messages stands for its fields
pub EachStand-kind : (kind : PartKind) (fields : List WireField) (c : ContentFields) → HoldContent fields c →
    EachStand (part_number kind) fields (parts_in kind c)
EachStand-kind kinds.Link fields c holds = holds.links
EachStand-kind kinds.Usermeta fields c holds = holds.usermeta
EachStand-kind kinds.Index fields c holds = holds.indexes

parts_in-no_fields : (kind : PartKind) → parts_in kind no_fields ≡ []
parts_in-no_fields kinds.Link = refl
parts_in-no_fields kinds.Usermeta = refl
parts_in-no_fields kinds.Index = refl

parts_in-merged : (kind : PartKind) (c part : ContentFields) → parts_in kind (merged c part) ≡ parts_in kind c ++ parts_in kind part
parts_in-merged kinds.Link c part = refl
parts_in-merged kinds.Usermeta c part = refl
parts_in-merged kinds.Index c part = refl

none_stand : (parts : List (List WireField)) → AllZip Encodes [] parts → parts ≡ []
none_stand [] all = refl
none_stand (p ∷ ps) all = absurd all

-- the messages that one field is, if it is of the number or not
pub one_stands : (number : ℕ) (field : WireField) (bytes : List ℕ) (fields : List WireField) (parts : List (List WireField)) →
    Some bytes ≡ bytes_at number field → Encodes bytes fields → EachStand number (field ∷ []) parts → parts ≡ fields ∷ []
one_stands number field bytes fields parts is stands all =
    let P : Option (List ℕ) → Type 0 = λ o. AllZip Encodes (cons_option o []) parts in
    one parts (subst P (sym is) all)
  where
    one : (ps : List (List WireField)) → AllZip Encodes (bytes ∷ []) ps → ps ≡ fields ∷ []
    one [] each = absurd each
    one (p ∷ []) each = ap (λ q. q ∷ []) (fields_once bytes p fields each.0 stands)
    one (p ∷ q ∷ more) each = absurd each.1

pub none_stands : (number : ℕ) (field : WireField) (parts : List (List WireField)) → None ≡ bytes_at number field →
    EachStand number (field ∷ []) parts → parts ≡ []
none_stands number field parts is all =
    let P : Option (List ℕ) → Type 0 = λ o. AllZip Encodes (cons_option o []) parts in
    none_stand parts (subst P (sym is) all)

-- the fields that the bytes of a message stand for
pub stands_here : (number : ℕ) (field : WireField) (bytes : List ℕ) (parts : List (List WireField)) → Some bytes ≡ bytes_at number field →
    EachStand number (field ∷ []) parts → (fields : List WireField) × Encodes bytes fields
stands_here number field bytes parts is all =
    let P : Option (List ℕ) → Type 0 = λ o. AllZip Encodes (cons_option o []) parts in
    one parts (subst P (sym is) all)
  where
    one : (ps : List (List WireField)) → AllZip Encodes (bytes ∷ []) ps → (fields : List WireField) × Encodes bytes fields
    one [] each = absurd each
    one (p ∷ ps) each = (p, each.0)

-- a link was appended, and a pair if it has its key
pub link_appended : (kind : PartKind) (old new : List ℕ) (link : Link) (fields others : List WireField) → kind ≡ kinds.Link →
    link ≡ link_of fields → fields ≡ others → new ≡ old ++ bytes_field 6 (link_message link) → new ≡ old ++ parts_message kind (others ∷ [])
link_appended kind old new link fields others is_link is same appended =
    appended
    ∙ ap (λ l. old ++ bytes_field 6 (link_message l)) (is ∙ ap link_of same)
    ∙ ap (λ bs. old ++ bs) (sym (append-nil (bytes_field 6 (link_message (link_of others)))))
    ∙ ap (λ k. old ++ parts_message k (others ∷ [])) (sym is_link)

pair_is : (kind : PartKind) (fields : List WireField) → (kind ≡ kinds.Usermeta) ⊎ (kind ≡ kinds.Index) →
    part_message kind fields ≡ option_map pair_message (pair_of fields)
pair_is kind fields (inl is) = ap (λ k. part_message k fields) is
pair_is kind fields (inr is) = ap (λ k. part_message k fields) is

pub pair_appended : (kind : PartKind) (number : ℕ) (old new : List ℕ) (pair : Pair) (fields others : List WireField) →
    (kind ≡ kinds.Usermeta) ⊎ (kind ≡ kinds.Index) → number ≡ part_number kind → Some pair ≡ pair_of fields → fields ≡ others →
    new ≡ old ++ bytes_field number (pair_message pair) → new ≡ old ++ parts_message kind (others ∷ [])
pair_appended kind number old new pair fields others is_pair numbered is same appended =
    let message : part_message kind others ≡ Some (pair_message pair) =
    pair_is kind others is_pair ∙ ap (option_map pair_message) (ap pair_of (sym same) ∙ sym is) in
    appended
    ∙ ap (λ n. old ++ bytes_field n (pair_message pair)) numbered
    ∙ ap (λ bs. old ++ bs) (sym (append-nil (bytes_field (part_number kind) (pair_message pair))))
    ∙ ap (λ o. old ++ repeated_field (λ bytes. bytes) (part_number kind) (cons_option o [])) (sym message)

pub pair_left_out : (kind : PartKind) (old : List ℕ) (fields others : List WireField) →
    (kind ≡ kinds.Usermeta) ⊎ (kind ≡ kinds.Index) → None ≡ pair_of fields → fields ≡ others → old ≡ old ++ parts_message kind (others ∷ [])
pair_left_out kind old fields others is_pair is same =
    let message : part_message kind others ≡ None =
    pair_is kind others is_pair ∙ ap (option_map pair_message) (ap pair_of (sym same) ∙ sym is) in
    sym (append-nil old) ∙ ap (λ o. old ++ repeated_field (λ bytes. bytes) (part_number kind) (cons_option o [])) (sym message)

-- the messages of the kind in a content's fields were appended
pub parts_appended : (before after : PartsEncoder) (fields : List WireField) → MergesAll Appends before fields after →
    (after.kind ≡ before.kind)
    × ((parts : List (List WireField)) → EachStand (part_number before.kind) fields parts →
    after.out.items ≡ before.out.items ++ parts_message before.kind parts)
parts_appended before after [] e = (
  ap (λ (p : PartsEncoder). p.kind) (sym e),
  λ parts all.
      ap (λ (p : PartsEncoder). p.out.items) (sym e)
      ∙ sym (append-nil before.out.items)
      ∙ ap (λ ps. before.out.items ++ parts_message before.kind ps) (sym (none_stand parts all)),
)
parts_appended before after (f ∷ fs) (next, first, rest) =
    let tail = parts_appended next after fs rest in
    let kind = before.kind in (
      tail.0 ∙ first.0,
      λ parts all.
          let split = each-split (part_number kind) (f ∷ fs) (f ∷ []) fs parts refl all in
          let us = split.0 in
          let vs = split.1 in
          let P : PartKind → Type 0 = λ k. EachStand (part_number k) fs vs in
          tail.1 vs (subst P (sym first.0) split.4)
          ∙ ap (λ k. next.out.items ++ parts_message k vs) first.0
          ∙ ap (λ bs. bs ++ parts_message kind vs) (first.1 us split.3)
          ∙ append_assoc before.out.items (parts_message kind us) (parts_message kind vs)
          ∙ ap (λ bs. before.out.items ++ bs) (sym (parts_message-append kind us vs))
          ∙ ap (λ ps. before.out.items ++ parts_message kind ps) (sym split.2),
    )

-- those in one occurrence of the content
pub occurrence_appended : (before after : PartsEncoder) (bytes : List ℕ) (fields : List WireField) (part : ContentFields) →
    Encodes bytes fields → MergesAll Appends before fields after → StandForContent (bytes ∷ []) part →
    after.out.items ≡ before.out.items ++ parts_message before.kind (parts_in before.kind part)
occurrence_appended before after bytes fields part stands all whole =
    let one = HoldContent-one bytes part whole in
    let P : List WireField → Type 0 = λ fs. EachStand (part_number before.kind) fs (parts_in before.kind part) in
    (parts_appended before after fields all).1 (parts_in before.kind part)
    (subst P (fields_once bytes part.own fields one.0 stands) (EachStand-kind before.kind part.own part one.1))

-- no occurrence
pub nothing_appended : (kind : PartKind) (out : List ℕ) (part : ContentFields) → StandForContent [] part →
    out ≡ out ++ parts_message kind (parts_in kind part)
nothing_appended kind out part stands =
    let none : [] ≡ parts_in kind part =
    sym (parts_in-no_fields kind) ∙ ap (parts_in kind) (sym (content_once [] part no_fields stands StandForContent-nil)) in
    sym (append-nil out) ∙ ap (λ ps. out ++ parts_message kind ps) none

-- those in each occurrence of a put's content
pub occurrences_appended : (before after : PutParts) (fields : List WireField) → MergesAll AppendsOccurrence before fields after →
    (after.parts.kind ≡ before.parts.kind)
    × ((c : ContentFields) → StandForContent (each_bytes 4 fields) c →
    after.parts.out.items ≡ before.parts.out.items ++ parts_message before.parts.kind (parts_in before.parts.kind c))
occurrences_appended before after [] e = (
  ap (λ (p : PutParts). p.parts.kind) (sym e),
  λ c stands.
      let kind = before.parts.kind in
      let out = before.parts.out.items in
      ap (λ (p : PutParts). p.parts.out.items) (sym e) ∙ nothing_appended kind out c stands,
)
occurrences_appended before after (f ∷ fs) (next, first, rest) =
    let tail = occurrences_appended next after fs rest in
    let kind = before.parts.kind in
    let out = before.parts.out.items in (
      tail.0 ∙ first.0,
      λ c stands.
          let P : List (List ℕ) → Type 0 = λ bss. StandForContent bss c in
          let split = StandForContent-split (each_bytes 4 (f ∷ [])) (each_bytes 4 fs) c (subst P (each_bytes-append 4 (f ∷ []) fs) stands) in
          let here = parts_in kind split.0 in
          let later = parts_in kind split.1 in
          tail.1 split.1 split.4
          ∙ ap (λ k. next.parts.out.items ++ parts_message k (parts_in k split.1)) first.0
          ∙ ap (λ bs. bs ++ parts_message kind later) (first.1 split.0 split.3)
          ∙ append_assoc out (parts_message kind here) (parts_message kind later)
          ∙ ap (λ bs. out ++ bs) (sym (parts_message-append kind here later))
          ∙ ap (λ ps. out ++ parts_message kind ps) (sym (parts_in-merged kind split.0 split.1) ∙ ap (parts_in kind) (sym split.2)),
    )

-- the messages of a kind are those of its list
links_message : (parts : List (List WireField)) → repeated_field link_message 6 (map link_of parts) ≡ parts_message kinds.Link parts
links_message parts =
    repeated_field-map link_message 6 (map link_of parts) ∙ ap (repeated_field (λ bytes. bytes) 6) (sym (each parts))
  where
    each : (ps : List (List WireField)) → filter_map (part_message kinds.Link) ps ≡ map link_message (map link_of ps)
    each [] = refl
    each (p ∷ ps) = ap (λ bss. link_message (link_of p) ∷ bss) (each ps)

pairs : (ps : List (List WireField)) → filter_map (λ fields. option_map pair_message (pair_of fields)) ps ≡ map pair_message (filter_map pair_of ps)
pairs [] = refl
pairs (p ∷ ps) = first pair_message (pair_of p) _ _ (pairs ps)
  where
    first : {A B : Type 0} (f : A → B) (o : Option A) (ys : List B) (xs : List A) → ys ≡ map f xs →
        cons_option (option_map f o) ys ≡ map f (cons_option o xs)
    first f None ys xs e = e
    first f (Some x) ys xs e = ap (λ zs. f x ∷ zs) e

usermeta_message : (parts : List (List WireField)) →
    repeated_field pair_message 9 (filter_map pair_of parts) ≡ parts_message kinds.Usermeta parts
usermeta_message parts =
    repeated_field-map pair_message 9 (filter_map pair_of parts) ∙ ap (repeated_field (λ bytes. bytes) 9) (sym (pairs parts))

indexes_message : (parts : List (List WireField)) →
    repeated_field pair_message 10 (filter_map pair_of parts) ≡ parts_message kinds.Index parts
indexes_message parts =
    repeated_field-map pair_message 10 (filter_map pair_of parts) ∙ ap (repeated_field (λ bytes. bytes) 10) (sym (pairs parts))

-- the scalars alone
abbrev pub scalars_message : ContentFields → List ℕ
scalars_message c =
    let scalars = scalars_of c in
    bytes_field 1 scalars.value
    ++ optional_field 2 scalars.content_type
    ++ optional_field 3 scalars.charset
    ++ optional_field 4 scalars.content_encoding

pub content_message-scalars : (c : ContentFields) → content_message (scalars_of c) ≡ scalars_message c
content_message-scalars c =
    let scalars = scalars_message c in append-nil (scalars ++ [] ++ []) ∙ append-nil (scalars ++ []) ∙ append-nil scalars

-- a content is its scalars, and the messages of each kind behind them
pub content_message-parts : (c : ContentFields) (a b d e : List ℕ) → a ≡ content_message (scalars_of c) →
    b ≡ a ++ parts_message kinds.Link (parts_in kinds.Link c) → d ≡ b ++ parts_message kinds.Usermeta (parts_in kinds.Usermeta c) →
    e ≡ d ++ parts_message kinds.Index (parts_in kinds.Index c) → e ≡ content_message (with_parts (scalars_of c) c)
content_message-parts c a b d e scalars links usermeta indexes =
    indexes
    ∙ ap (λ bs. bs ++ parts_message kinds.Index c.indexes) usermeta
    ∙ ap (λ bs. bs ++ parts_message kinds.Usermeta c.usermeta ++ parts_message kinds.Index c.indexes) links
    ∙ ap (λ bs. bs ++ parts_message kinds.Link c.links ++ parts_message kinds.Usermeta c.usermeta ++ parts_message kinds.Index c.indexes)
    (scalars ∙ content_message-scalars c)
    ∙ rw (links_message c.links, usermeta_message c.usermeta, indexes_message c.indexes) refl

-- what a walk has seen of the scalars
pub scalars_seen : (view : ContentView) (c : ContentFields) (value : List ℕ) → IsSeenOf view c →
    value ≡ unwrap_or (option_copied view.value) [] →
    bytes_field 1 value
    ++ optional_field 2 (option_copied view.content_type)
    ++ optional_field 3 (option_copied view.charset)
    ++ optional_field 4 (option_copied view.content_encoding)
    ≡ content_message (scalars_of c)
scalars_seen view c value seen is =
    rw (is, seen.value, seen.content_type, seen.charset, seen.content_encoding) (sym (content_message-scalars c))

-- where it went well, both hold
pub OnOk-both : {T E : Type 0} (r : Result T E) (P Q : Type 0) → OnOk r P → OnOk r Q → OnOk r (P × Q)
OnOk-both (Ok x) P Q p q = (p, q)
OnOk-both (Err e) P Q p q = tt
