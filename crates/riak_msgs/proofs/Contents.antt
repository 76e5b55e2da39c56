-- The fields of a content that comes in several occurrences.
use Rattle.std.proofs.Common.{◌≡◌, ℕ, true, List, [], ◌∷◌, ◌++◌, map, Option, Some, None, refl, ap, sym, subst, ◌∙◌, append_assoc}
use Rattle.std.specs.Prelude.{Bool, false, not, unwrap_or, ◌&&◌, ◌||◌, is_some, is_none, option_map, option_and_then, flat_map, filter_map}
use Rattle.std.specs.List.{AllZip, list_any, cons_option}
use Rattle.std.proofs.lemmas.Bool.{false≢true}
use Rattle.std.proofs.lemmas.List.{map-append, append-nil}
use Rattle.std.proofs.lemmas.List.Elements.{filter_map-append}
use Rattle.std.proofs.lemmas.Grind.{flat_map-append}
use Rattle.pb_fields.specs.Field.{WireField}
use Rattle.pb_fields.specs.Message.{Encodes}
use Rattle.riak_msgs.specs.Content.{Pair, Content}
use Rattle.riak_msgs.specs.Picking.{each_bytes, last_bytes}
use Rattle.riak_msgs.specs.Embedded.{ContentFields, StandForContent, all_of, pair_of, link_of, content_of}
use Rattle.riak_msgs.specs.Seen.{no_fields, merged, misses_key, scalars_of, with_parts}
use Rattle.riak_msgs.specs.ContentOnce.{EachStand, same_content}
use Rattle.riak_msgs.proofs.Picking.{each_bytes-append, AllZip-append, AllZip-split}

-- no occurrence
pub StandForContent-nil : StandForContent [] no_fields
StandForContent-nil = record { parts = []; each = tt; own = refl; links = tt; usermeta = tt; indexes = tt }

pub each-append : (number : ℕ) (fs gs : List WireField) (us vs : List (List WireField)) → EachStand number fs us → EachStand number gs vs →
    EachStand number (fs ++ gs) (us ++ vs)
each-append number fs gs us vs a b =
    let P : List (List ℕ) → Type 0 = λ occurrences. AllZip Encodes occurrences (us ++ vs) in
    subst P (sym (each_bytes-append number fs gs)) (AllZip-append Encodes (each_bytes number fs) (each_bytes number gs) us vs a b)

-- occurrences, and later ones
pub StandForContent-append : (xs ys : List (List ℕ)) (c part : ContentFields) → StandForContent xs c → StandForContent ys part →
    StandForContent (xs ++ ys) (merged c part)
StandForContent-append xs ys c part a b = record {
  parts = a.parts ++ b.parts;
  each = AllZip-append Encodes xs ys a.parts b.parts a.each b.each;
  own = ap (λ fs. fs ++ part.own) a.own ∙ ap (λ gs. flat_map (λ p. p) a.parts ++ gs) b.own ∙ sym (flat_map-append (λ p. p) a.parts b.parts);
  links = each-append 6 c.own part.own c.links part.links a.links b.links;
  usermeta = each-append 9 c.own part.own c.usermeta part.usermeta a.usermeta b.usermeta;
  indexes = each-append 10 c.own part.own c.indexes part.indexes a.indexes b.indexes;
}

-- one occurrence more
pub StandForContent-more : (occurrences : List (List ℕ)) (b : List ℕ) (c part : ContentFields) → StandForContent occurrences c →
    StandForContent (b ∷ []) part → StandForContent (occurrences ++ b ∷ []) (merged c part)
StandForContent-more occurrences b c part seen more = StandForContent-append occurrences (b ∷ []) c part seen more

pub each-split : (number : ℕ) (fields fs gs : List WireField) (ws : List (List WireField)) → fields ≡ fs ++ gs → EachStand number fields ws →
    (us : List (List WireField)) × (vs : List (List WireField)) × (ws ≡ us ++ vs) × EachStand number fs us × EachStand number gs vs
each-split number fields fs gs ws e a =
    let P : List (List ℕ) → Type 0 = λ occurrences. AllZip Encodes occurrences ws in
    AllZip-split Encodes (each_bytes number fs) (each_bytes number gs) ws
    (subst P (ap (each_bytes number) e ∙ each_bytes-append number fs gs) a)

-- what stands for a content is two contents, that of the first occurrences and that of the later ones
pub StandForContent-split : (xs ys : List (List ℕ)) (c : ContentFields) → StandForContent (xs ++ ys) c →
    (first : ContentFields) × (later : ContentFields) × (c ≡ merged first later) × StandForContent xs first × StandForContent ys later
StandForContent-split xs ys c all =
    let each = AllZip-split Encodes xs ys all.parts all.each in
    let fs = flat_map (λ p. p) each.0 in
    let gs = flat_map (λ p. p) each.1 in
    let own : c.own ≡ fs ++ gs = all.own ∙ ap (flat_map (λ p. p)) each.2 ∙ flat_map-append (λ p. p) each.0 each.1 in
    let links = each-split 6 c.own fs gs c.links own all.links in
    let usermeta = each-split 9 c.own fs gs c.usermeta own all.usermeta in
    let indexes = each-split 10 c.own fs gs c.indexes own all.indexes in (
      record { own = fs; links = links.0; usermeta = usermeta.0; indexes = indexes.0 },
      record { own = gs; links = links.1; usermeta = usermeta.1; indexes = indexes.1 },
      same_content c _ own links.2 usermeta.2 indexes.2,
      record { parts = each.0; each = each.3; own = refl; links = links.3; usermeta = usermeta.3; indexes = indexes.3 },
      record { parts = each.1; each = each.4; own = refl; links = links.4; usermeta = usermeta.4; indexes = indexes.4 },
    )

-- parts of two occurrences are put behind a content one after the other
pub with_parts-merged : (content : Content) (c part : ContentFields) →
    with_parts (with_parts content c) part ≡ with_parts content (merged c part)
with_parts-merged content c part = rw (
  map-append link_of c.links part.links,
  filter_map-append pair_of c.usermeta part.usermeta,
  filter_map-append pair_of c.indexes part.indexes,
  append_assoc content.links (map link_of c.links) (map link_of part.links),
  append_assoc content.usermeta (filter_map pair_of c.usermeta) (filter_map pair_of part.usermeta),
  append_assoc content.indexes (filter_map pair_of c.indexes) (filter_map pair_of part.indexes),
) refl

-- no parts
pub with_parts-no_fields : (content : Content) → with_parts content no_fields ≡ content
with_parts-no_fields content = rw (append-nil content.links, append-nil content.usermeta, append-nil content.indexes) refl

-- all are there, where none lacks
pub is_some-all_of : {A B : Type 0} (pick : A → Option B) (xs : List A) →
    is_some (all_of (map pick xs)) ≡ not (list_any (λ x. is_none (pick x)) xs)
is_some-all_of pick [] = refl
is_some-all_of {B = B} pick (x ∷ xs) = first (pick x) (all_of (map pick xs)) (list_any (λ y. is_none (pick y)) xs) (is_some-all_of pick xs)
  where
    first : (o : Option B) (rest : Option (List B)) (lacks : Bool) → is_some rest ≡ not lacks →
        is_some (option_and_then (λ y. option_map (λ ys. y ∷ ys) rest) o) ≡ not (is_none o || lacks)
    first None rest lacks e = refl
    first (Some y) None lacks e = e
    first (Some y) (Some ys) lacks e = e

-- where all are there, none is left out
pub all_of-filter_map : {A B : Type 0} (pick : A → Option B) (xs : List A) → is_some (all_of (map pick xs)) ≡ true →
    all_of (map pick xs) ≡ Some (filter_map pick xs)
all_of-filter_map pick [] some = refl
all_of-filter_map {B = B} pick (x ∷ xs) some = first (pick x) (all_of (map pick xs)) (filter_map pick xs) (all_of-filter_map pick xs) some
  where
    first : (o : Option B) (rest : Option (List B)) (kept : List B) → (is_some rest ≡ true → rest ≡ Some kept) →
        is_some (option_and_then (λ y. option_map (λ ys. y ∷ ys) rest) o) ≡ true →
        option_and_then (λ y. option_map (λ ys. y ∷ ys) rest) o ≡ Some (cons_option o kept)
    first None rest kept same some = absurd (false≢true some)
    first (Some y) None kept same some = absurd (false≢true some)
    first (Some y) (Some ys) kept same some = ap (option_map (λ zs. y ∷ zs)) (same refl)

-- a content is whole where its value and the key of each pair are there
pub is_some-content_of : (c : ContentFields) →
    is_some (content_of c) ≡ is_some (last_bytes 1 c.own) && not (misses_key c.usermeta || misses_key c.indexes)
is_some-content_of c = whole _ (last_bytes 1 c.own) (all_of (map pair_of c.usermeta)) (all_of (map pair_of c.indexes))
    (misses_key c.usermeta) (misses_key c.indexes) (is_some-all_of pair_of c.usermeta) (is_some-all_of pair_of c.indexes)
  where
    whole : {A B C D : Type 0} (make : A → B → C → D) (value : Option A) (us : Option B) (is : Option C) (x y : Bool) →
        is_some us ≡ not x → is_some is ≡ not y →
        is_some (option_and_then (λ v. option_and_then (λ u. option_map (make v u) is) us) value) ≡ is_some value && not (x || y)
    whole make None us is x y e f = refl
    whole make (Some v) None is true y e f = refl
    whole make (Some v) None is false y e f = absurd (false≢true e)
    whole make (Some v) (Some u) is true y e f = absurd (false≢true (sym e))
    whole make (Some v) (Some u) None false y e f = f
    whole make (Some v) (Some u) (Some i) false y e f = f

-- a content that is whole is its scalars with its parts
pub content_of-whole : (c : ContentFields) → is_some (content_of c) ≡ true → content_of c ≡ Some (with_parts (scalars_of c) c)
content_of-whole c some = whole (last_bytes 1 c.own) (all_of (map pair_of c.usermeta)) (all_of (map pair_of c.indexes))
    (all_of-filter_map pair_of c.usermeta) (all_of-filter_map pair_of c.indexes) some
  where
    content : List ℕ → List Pair → List Pair → Content
    content value usermeta indexes = record {
      value = value;
      content_type = last_bytes 2 c.own;
      charset = last_bytes 3 c.own;
      content_encoding = last_bytes 4 c.own;
      links = map link_of c.links;
      usermeta = usermeta;
      indexes = indexes;
    }

    whole : (value : Option (List ℕ)) (us is : Option (List Pair)) → (is_some us ≡ true → us ≡ Some (filter_map pair_of c.usermeta)) →
        (is_some is ≡ true → is ≡ Some (filter_map pair_of c.indexes)) →
        is_some (option_and_then (λ v. option_and_then (λ u. option_map (content v u) is) us) value) ≡ true →
        option_and_then (λ v. option_and_then (λ u. option_map (content v u) is) us) value
        ≡ Some (content (unwrap_or value []) (filter_map pair_of c.usermeta) (filter_map pair_of c.indexes))
    whole None us is a b some = absurd (false≢true some)
    whole (Some v) None is a b some = absurd (false≢true some)
    whole (Some v) (Some u) None a b some = absurd (false≢true some)
    whole (Some v) (Some u) (Some i) a b some =
        ap (λ us. option_and_then (λ u. option_map (content v u) (Some i)) us) (a refl)
        ∙ ap (option_map (content v (filter_map pair_of c.usermeta))) (b refl)
