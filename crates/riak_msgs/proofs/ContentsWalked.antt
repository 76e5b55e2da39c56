-- A walk over the fields of a content, and the messages in them.
use Rattle.std.proofs.Common.{◌≡◌, ℕ, true, false, List, [], ◌∷◌, ◌++◌, Option, Some, None, refl, ap, sym, subst, ◌∙◌}
use Rattle.std.specs.Prelude.{Bool, ◌==◌, ◌||◌, not, option_copied, option_map, is_none, is_some, flat_map}
use Rattle.std.specs.List.{AllZip, last_or, cons_option}
use Rattle.std.specs.Option.{option_map_or}
use Rattle.std.specs.Borrow.{Bor}
use Rattle.std.proofs.Math.Bool.{or-false}
use Rattle.std.proofs.lemmas.Bool.{false≢true}
use Rattle.std.proofs.lemmas.List.{append-nil}
use Rattle.std.proofs.lemmas.List.Folds.{list_any-append}
use Rattle.pb_fields.specs.Field.{WireField, byte_string, varint}
use Rattle.pb_fields.specs.Message.{Encodes}
use Rattle.riak_msgs.specs.declared.pairs_and_links.PairView.{PairView}
use Rattle.riak_msgs.specs.declared.content_view.ContentView.{ContentView}
use Rattle.riak_msgs.specs.Picking.{last_bytes, last_varint, bytes_at, varint_at, string_in, number_in, flag_of}
use Rattle.riak_msgs.specs.Embedded.{ContentFields, StandForContent, pair_of}
use Rattle.riak_msgs.specs.Seen.{HoldContent, IsPartOf, IsSeenOf, Sees, no_fields, merged, misses_key}
use Rattle.riak_msgs.proofs.Walks.{bytes_at-other, bytes_at-no_string, varint_at-no_number, is_some-option_copied}
use Rattle.riak_msgs.specs.ContentOnce.{EachStand}
use Rattle.riak_msgs.proofs.Contents.{each-append, each-split}
use Rattle.riak_msgs.proofs.Picking.{last_bytes-append, last_varint-append}

-- no fields
pub HoldContent-nil : HoldContent [] no_fields
HoldContent-nil = record { own = refl; links = tt; usermeta = tt; indexes = tt }

-- fields, and later ones
pub HoldContent-append : (fs gs : List WireField) (c part : ContentFields) → HoldContent fs c → HoldContent gs part →
    HoldContent (fs ++ gs) (merged c part)
HoldContent-append fs gs c part a b = record {
  own = ap (λ hs. hs ++ part.own) a.own ∙ ap (λ hs. fs ++ hs) b.own;
  links = each-append 6 fs gs c.links part.links a.links b.links;
  usermeta = each-append 9 fs gs c.usermeta part.usermeta a.usermeta b.usermeta;
  indexes = each-append 10 fs gs c.indexes part.indexes a.indexes b.indexes;
}

-- what holds a content does so in each of two parts
pub HoldContent-split : (fs gs : List WireField) (c : ContentFields) → HoldContent (fs ++ gs) c →
    (first : ContentFields) × (later : ContentFields) × HoldContent fs first × HoldContent gs later
HoldContent-split fs gs c all =
    let links = each-split 6 (fs ++ gs) fs gs c.links refl all.links in
    let usermeta = each-split 9 (fs ++ gs) fs gs c.usermeta refl all.usermeta in
    let indexes = each-split 10 (fs ++ gs) fs gs c.indexes refl all.indexes in (
      record { own = fs; links = links.0; usermeta = usermeta.0; indexes = indexes.0 },
      record { own = gs; links = links.1; usermeta = usermeta.1; indexes = indexes.1 },
      record { own = refl; links = links.3; usermeta = usermeta.3; indexes = indexes.3 },
      record { own = refl; links = links.4; usermeta = usermeta.4; indexes = indexes.4 },
    )

-- one occurrence stands for the content that its fields hold
pub StandForContent-one : (bs : List ℕ) (fields : List WireField) (c : ContentFields) → Encodes bs fields → HoldContent fields c →
    StandForContent (bs ∷ []) c
StandForContent-one bs fields c stands holds =
    let P : ℕ → List (List WireField) → List WireField → Type 0 = λ number parts own. EachStand number own parts in
    record {
      parts = fields ∷ [];
      each = (stands, tt);
      own = holds.own ∙ sym (append-nil fields);
      links = subst (P 6 c.links) (sym holds.own) holds.links;
      usermeta = subst (P 9 c.usermeta) (sym holds.own) holds.usermeta;
      indexes = subst (P 10 c.indexes) (sym holds.own) holds.indexes;
    }

-- and the other way round
pub HoldContent-one : (bs : List ℕ) (c : ContentFields) → StandForContent (bs ∷ []) c → Encodes bs c.own × HoldContent c.own c
HoldContent-one bs c all = (stands all.parts all.each all.own, record { own = refl; links = all.links; usermeta = all.usermeta; indexes = all.indexes })
  where
    stands : (parts : List (List WireField)) → AllZip Encodes (bs ∷ []) parts → c.own ≡ flat_map (λ p. p) parts → Encodes bs c.own
    stands [] each own = absurd each
    stands (fields ∷ []) each own =
        let P : List WireField → Type 0 = Encodes bs in subst P (sym (own ∙ append-nil fields)) each.0
    stands (fields ∷ gs ∷ more) each own = absurd each.1

-- what was seen goes over to what is seen with one more field, in which these messages are
pub record StepsBy (before : ContentView) (field : WireField) (part : ContentFields) (after : ContentView) : Type 0 where
  pub value : option_copied after.value ≡ last_or (option_copied before.value) (cons_option (bytes_at 1 field) [])
  pub content_type : option_copied after.content_type ≡ last_or (option_copied before.content_type) (cons_option (bytes_at 2 field) [])
  pub charset : option_copied after.charset ≡ last_or (option_copied before.charset) (cons_option (bytes_at 3 field) [])
  pub content_encoding : option_copied after.content_encoding ≡ last_or (option_copied before.content_encoding) (cons_option (bytes_at 4 field) [])
  pub deleted : after.deleted ≡ option_map_or (λ n. not (n == 0)) (varint_at 11 field) before.deleted
  pub misses_key : after.misses_key ≡ before.misses_key || (misses_key part.usermeta || misses_key part.indexes)
  pub no_links : after.has_links ≡ false → (before.has_links ≡ false) × (part.links ≡ [])
  pub no_usermeta : after.has_usermeta ≡ false → (before.has_usermeta ≡ false) × (part.usermeta ≡ [])
  pub no_indexes : after.has_indexes ≡ false → (before.has_indexes ≡ false) × (part.indexes ≡ [])

or_swap : (a b x y : Bool) → ((a || b) || (x || y)) ≡ ((a || x) || (b || y))
or_swap true b x y = refl
or_swap false true true y = refl
or_swap false true false y = refl
or_swap false false x y = refl

flag-more : (test : ℕ → Bool) (o v : Option ℕ) → option_map_or test v (option_map_or test o false) ≡ option_map_or test (last_or o (cons_option v [])) false
flag-more test o None = refl
flag-more test o (Some n) = refl

abbrev test : ℕ → Bool
test n = not (n == 0)

abbrev lacks : List WireField → Bool
lacks pair = is_none (pair_of pair)

pub IsSeenOf-more : (before : ContentView) (field : WireField) (part : ContentFields) (after : ContentView) → part.own ≡ field ∷ [] →
    StepsBy before field part after → (c : ContentFields) → IsSeenOf before c → IsSeenOf after (merged c part)
IsSeenOf-more before field part after own step c is = record {
  value = step.value ∙ ap (λ o. last_or o (cons_option (bytes_at 1 field) [])) is.value ∙ scalar 1;
  content_type = step.content_type ∙ ap (λ o. last_or o (cons_option (bytes_at 2 field) [])) is.content_type ∙ scalar 2;
  charset = step.charset ∙ ap (λ o. last_or o (cons_option (bytes_at 3 field) [])) is.charset ∙ scalar 3;
  content_encoding = step.content_encoding ∙ ap (λ o. last_or o (cons_option (bytes_at 4 field) [])) is.content_encoding ∙ scalar 4;
  deleted =
      step.deleted
      ∙ ap (option_map_or test (varint_at 11 field)) is.deleted
      ∙ flag-more test (last_varint 11 c.own) (varint_at 11 field)
      ∙ ap (λ o. option_map_or test o false) (sym (last_varint-append 11 c.own (field ∷ [])))
      ∙ ap (λ fs. flag_of 11 (c.own ++ fs)) (sym own);
  misses_key =
      step.misses_key
      ∙ ap (λ b. b || (misses_key part.usermeta || misses_key part.indexes)) is.misses_key
      ∙ or_swap (misses_key c.usermeta) (misses_key c.indexes) (misses_key part.usermeta) (misses_key part.indexes)
      ∙ ap (λ b. b || (misses_key c.indexes || misses_key part.indexes)) (sym (list_any-append lacks c.usermeta part.usermeta))
      ∙ ap (λ b. misses_key (c.usermeta ++ part.usermeta) || b) (sym (list_any-append lacks c.indexes part.indexes));
  no_links = λ e. let late = step.no_links e in none_of c.links part.links (is.no_links late.0) late.1;
  no_usermeta = λ e. let late = step.no_usermeta e in none_of c.usermeta part.usermeta (is.no_usermeta late.0) late.1;
  no_indexes = λ e. let late = step.no_indexes e in none_of c.indexes part.indexes (is.no_indexes late.0) late.1;
}
  where
    none_of : (xs ys : List (List WireField)) → xs ≡ [] → ys ≡ [] → xs ++ ys ≡ []
    none_of xs ys a b = rw (a, b) refl

    scalar : (number : ℕ) → last_or (last_bytes number c.own) (cons_option (bytes_at number field) []) ≡ last_bytes number (c.own ++ part.own)
    scalar number =
        sym (last_bytes-append number c.own (field ∷ [])) ∙ ap (λ fs. last_bytes number (c.own ++ fs)) (sym own)

-- a field alone, without messages
abbrev pub alone : WireField → ContentFields
alone field = record no_fields { own = field ∷ [] }

-- no part of a content is taken from this field
pub record IsSkipped (field : WireField) : Type 0 where
  pub value : bytes_at 1 field ≡ None
  pub content_type : bytes_at 2 field ≡ None
  pub charset : bytes_at 3 field ≡ None
  pub content_encoding : bytes_at 4 field ≡ None
  pub link : bytes_at 6 field ≡ None
  pub usermeta : bytes_at 9 field ≡ None
  pub index : bytes_at 10 field ≡ None
  pub deleted : varint_at 11 field ≡ None

pub alone-holds : (field : WireField) → bytes_at 6 field ≡ None → bytes_at 9 field ≡ None → bytes_at 10 field ≡ None →
    HoldContent (field ∷ []) (alone field)
alone-holds field link usermeta index =
    let P : Option (List ℕ) → Type 0 = λ o. AllZip Encodes (cons_option o []) [] in
    record { own = refl; links = subst P (sym link) tt; usermeta = subst P (sym usermeta) tt; indexes = subst P (sym index) tt }

pub Sees-skipped : (seen : ContentView) (field : WireField) → IsSkipped field → Sees seen field seen
Sees-skipped seen field none = (alone field, alone-holds field none.link none.usermeta none.index, IsSeenOf-more seen field (alone field) seen refl step)
  where
    kept : (o p : Option (List ℕ)) → p ≡ None → o ≡ last_or o (cons_option p [])
    kept o p e = sym (ap (λ q. last_or o (cons_option q [])) e)

    step : StepsBy seen field (alone field) seen
    step = record {
      value = kept (option_copied seen.value) (bytes_at 1 field) none.value;
      content_type = kept (option_copied seen.content_type) (bytes_at 2 field) none.content_type;
      charset = kept (option_copied seen.charset) (bytes_at 3 field) none.charset;
      content_encoding = kept (option_copied seen.content_encoding) (bytes_at 4 field) none.content_encoding;
      deleted = sym (ap (λ q. option_map_or (λ n. not (n == 0)) q seen.deleted) none.deleted);
      misses_key = sym (or-false seen.misses_key);
      no_links = λ e. (e, refl);
      no_usermeta = λ e. (e, refl);
      no_indexes = λ e. (e, refl);
    }

-- a field of bytes
abbrev pub string_at : ℕ → List ℕ → WireField
string_at number bytes = record { number = number; value = byte_string bytes }

-- a scalar
pub Sees-value : (seen : ContentView) (number : ℕ) (bytes : Bor (List ℕ)) → number ≡ 1 →
    Sees seen (string_at number bytes.now) (record seen { value = Some bytes })
Sees-value seen number bytes e =
    let f = string_at 1 bytes.now in
    let P : ℕ → Type 0 = λ k. Sees seen (string_at k bytes.now) (record seen { value = Some bytes }) in
    subst P (sym e) (
      alone f,
      alone-holds f refl refl refl,
      IsSeenOf-more seen f (alone f) (record seen { value = Some bytes }) refl (record {
        value = refl;
        content_type = refl;
        charset = refl;
        content_encoding = refl;
        deleted = refl;
        misses_key = sym (or-false seen.misses_key);
        no_links = λ e. (e, refl);
        no_usermeta = λ e. (e, refl);
        no_indexes = λ e. (e, refl);
      }),
    )

pub Sees-content_type : (seen : ContentView) (number : ℕ) (bytes : Bor (List ℕ)) → number ≡ 2 →
    Sees seen (string_at number bytes.now) (record seen { content_type = Some bytes })
Sees-content_type seen number bytes e =
    let f = string_at 2 bytes.now in
    let P : ℕ → Type 0 = λ k. Sees seen (string_at k bytes.now) (record seen { content_type = Some bytes }) in
    subst P (sym e) (
      alone f,
      alone-holds f refl refl refl,
      IsSeenOf-more seen f (alone f) (record seen { content_type = Some bytes }) refl (record {
        value = refl;
        content_type = refl;
        charset = refl;
        content_encoding = refl;
        deleted = refl;
        misses_key = sym (or-false seen.misses_key);
        no_links = λ e. (e, refl);
        no_usermeta = λ e. (e, refl);
        no_indexes = λ e. (e, refl);
      }),
    )

pub Sees-charset : (seen : ContentView) (number : ℕ) (bytes : Bor (List ℕ)) → number ≡ 3 →
    Sees seen (string_at number bytes.now) (record seen { charset = Some bytes })
Sees-charset seen number bytes e =
    let f = string_at 3 bytes.now in
    let P : ℕ → Type 0 = λ k. Sees seen (string_at k bytes.now) (record seen { charset = Some bytes }) in
    subst P (sym e) (
      alone f,
      alone-holds f refl refl refl,
      IsSeenOf-more seen f (alone f) (record seen { charset = Some bytes }) refl (record {
        value = refl;
        content_type = refl;
        charset = refl;
        content_encoding = refl;
        deleted = refl;
        misses_key = sym (or-false seen.misses_key);
        no_links = λ e. (e, refl);
        no_usermeta = λ e. (e, refl);
        no_indexes = λ e. (e, refl);
      }),
    )

pub Sees-content_encoding : (seen : ContentView) (number : ℕ) (bytes : Bor (List ℕ)) → number ≡ 4 →
    Sees seen (string_at number bytes.now) (record seen { content_encoding = Some bytes })
Sees-content_encoding seen number bytes e =
    let f = string_at 4 bytes.now in
    let P : ℕ → Type 0 = λ k. Sees seen (string_at k bytes.now) (record seen { content_encoding = Some bytes }) in
    subst P (sym e) (
      alone f,
      alone-holds f refl refl refl,
      IsSeenOf-more seen f (alone f) (record seen { content_encoding = Some bytes }) refl (record {
        value = refl;
        content_type = refl;
        charset = refl;
        content_encoding = refl;
        deleted = refl;
        misses_key = sym (or-false seen.misses_key);
        no_links = λ e. (e, refl);
        no_usermeta = λ e. (e, refl);
        no_indexes = λ e. (e, refl);
      }),
    )

pub Sees-deleted : (seen : ContentView) (field : WireField) (value : ℕ) (flag : Bool) → field ≡ record { number = 11; value = varint value } →
    flag ≡ not (value == 0) → Sees seen field (record seen { deleted = flag })
Sees-deleted seen field value flag e is =
    let f : WireField = record { number = 11; value = varint value } in
    let P : WireField → Type 0 = λ g. Sees seen g (record seen { deleted = flag }) in
    subst P (sym e) (
      alone f,
      alone-holds f refl refl refl,
      IsSeenOf-more seen f (alone f) (record seen { deleted = flag }) refl (record {
        value = refl;
        content_type = refl;
        charset = refl;
        content_encoding = refl;
        deleted = is;
        misses_key = sym (or-false seen.misses_key);
        no_links = λ e. (e, refl);
        no_usermeta = λ e. (e, refl);
        no_indexes = λ e. (e, refl);
      }),
    )

-- a link, and a pair: what is seen but for the room that they take
pub Sees-link : (seen after : ContentView) (number : ℕ) (bytes : List ℕ) (fields : List WireField) (len : ℕ) → number ≡ 6 →
    Encodes bytes fields → after ≡ record seen { has_links = true; parts_len = len } → Sees seen (string_at number bytes) after
Sees-link seen after number bytes fields len e stands same =
    let f = string_at 6 bytes in
    let part = record (alone f) { links = fields ∷ [] } in
    let now = record seen { has_links = true; parts_len = len } in
    let P : ℕ → Type 0 = λ k. Sees seen (string_at k bytes) after in
    let Q : ContentView → Type 0 = Sees seen (string_at 6 bytes) in
    subst P (sym e) (subst Q (sym same) (
      part,
      record { own = refl; links = (stands, tt); usermeta = tt; indexes = tt },
      IsSeenOf-more seen f part now refl (record {
        value = refl;
        content_type = refl;
        charset = refl;
        content_encoding = refl;
        deleted = refl;
        misses_key = sym (or-false seen.misses_key);
        no_links = λ e. absurd (false≢true (sym e));
        no_usermeta = λ e. (e, refl);
        no_indexes = λ e. (e, refl);
      }),
    ))

pub Sees-usermeta : (seen after : ContentView) (number : ℕ) (bytes : List ℕ) (fields : List WireField) (flag : Bool) (len : ℕ) → number ≡ 9 →
    Encodes bytes fields → flag ≡ (seen.misses_key || is_none (pair_of fields)) →
    after ≡ record seen { misses_key = flag; has_usermeta = true; parts_len = len } → Sees seen (string_at number bytes) after
Sees-usermeta seen after number bytes fields flag len e stands is same =
    let f = string_at 9 bytes in
    let part = record (alone f) { usermeta = fields ∷ [] } in
    let now = record seen { misses_key = flag; has_usermeta = true; parts_len = len } in
    let P : ℕ → Type 0 = λ k. Sees seen (string_at k bytes) after in
    let Q : ContentView → Type 0 = Sees seen (string_at 9 bytes) in
    subst P (sym e) (subst Q (sym same) (
      part,
      record { own = refl; links = tt; usermeta = (stands, tt); indexes = tt },
      IsSeenOf-more seen f part now refl (record {
        value = refl;
        content_type = refl;
        charset = refl;
        content_encoding = refl;
        deleted = refl;
        misses_key =
            is
            ∙ ap (λ b. seen.misses_key || b) (sym (or-false (is_none (pair_of fields))))
            ∙ ap (λ b. seen.misses_key || b) (sym (or-false (is_none (pair_of fields) || false)));
        no_links = λ e. (e, refl);
        no_usermeta = λ e. absurd (false≢true (sym e));
        no_indexes = λ e. (e, refl);
      }),
    ))

pub Sees-index : (seen after : ContentView) (number : ℕ) (bytes : List ℕ) (fields : List WireField) (flag : Bool) (len : ℕ) → number ≡ 10 →
    Encodes bytes fields → flag ≡ (seen.misses_key || is_none (pair_of fields)) →
    after ≡ record seen { misses_key = flag; has_indexes = true; parts_len = len } → Sees seen (string_at number bytes) after
Sees-index seen after number bytes fields flag len e stands is same =
    let f = string_at 10 bytes in
    let part = record (alone f) { indexes = fields ∷ [] } in
    let now = record seen { misses_key = flag; has_indexes = true; parts_len = len } in
    let P : ℕ → Type 0 = λ k. Sees seen (string_at k bytes) after in
    let Q : ContentView → Type 0 = Sees seen (string_at 10 bytes) in
    subst P (sym e) (subst Q (sym same) (
      part,
      record { own = refl; links = tt; usermeta = tt; indexes = (stands, tt) },
      IsSeenOf-more seen f part now refl (record {
        value = refl;
        content_type = refl;
        charset = refl;
        content_encoding = refl;
        deleted = refl;
        misses_key = is ∙ ap (λ b. seen.misses_key || b) (sym (or-false (is_none (pair_of fields))));
        no_links = λ e. (e, refl);
        no_usermeta = λ e. (e, refl);
        no_indexes = λ e. absurd (false≢true (sym e));
      }),
    ))

-- a pair lacks its key where no byte string of number 1 was seen
pub lacks-first : (part : PairView) (fields : List WireField) (lacks : Bool) → IsPartOf part fields → is_some part.first ≡ not lacks →
    lacks ≡ is_none (pair_of fields)
lacks-first part fields lacks is e =
    negated lacks (is_some part.first) e
    ∙ ap not (sym (is_some-option_copied part.first) ∙ ap is_some is.first ∙ mapped _ (last_bytes 1 fields))
  where
    negated : (b a : Bool) → a ≡ not b → b ≡ not a
    negated true a e = sym (ap not e)
    negated false a e = sym (ap not e)

    mapped : {A B : Type 0} (f : A → B) (o : Option A) → is_some o ≡ is_some (option_map f o)
    mapped f None = refl
    mapped f (Some x) = refl

-- a field of bytes of no number that is taken, and one of no bytes
pub IsSkipped-string : (number : ℕ) (bytes : List ℕ) → (number ≡ 1 → ⊥) → (number ≡ 2 → ⊥) → (number ≡ 3 → ⊥) → (number ≡ 4 → ⊥) →
    (number ≡ 6 → ⊥) → (number ≡ 9 → ⊥) → (number ≡ 10 → ⊥) → IsSkipped (string_at number bytes)
IsSkipped-string number bytes a b c d e f g =
    let field = string_at number bytes in
    record {
      value = bytes_at-other 1 field a;
      content_type = bytes_at-other 2 field b;
      charset = bytes_at-other 3 field c;
      content_encoding = bytes_at-other 4 field d;
      link = bytes_at-other 6 field e;
      usermeta = bytes_at-other 9 field f;
      index = bytes_at-other 10 field g;
      deleted = varint_at-no_number 11 field refl;
    }

pub IsSkipped-no_string : (field : WireField) → string_in field.value ≡ None → varint_at 11 field ≡ None → IsSkipped field
IsSkipped-no_string field none deleted = record {
  value = bytes_at-no_string 1 field none;
  content_type = bytes_at-no_string 2 field none;
  charset = bytes_at-no_string 3 field none;
  content_encoding = bytes_at-no_string 4 field none;
  link = bytes_at-no_string 6 field none;
  usermeta = bytes_at-no_string 9 field none;
  index = bytes_at-no_string 10 field none;
  deleted = deleted;
}

pub IsSkipped-no_value : (field : WireField) → string_in field.value ≡ None → number_in field.value ≡ None → IsSkipped field
IsSkipped-no_value field none no_number = IsSkipped-no_string field none (varint_at-no_number 11 field no_number)
