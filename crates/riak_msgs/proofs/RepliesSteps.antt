-- The contents of a reply.
use Rattle.std.proofs.Common.{◌≡◌, ℕ, Bool, true, false, ◌||◌, List, [], ◌∷◌, ◌++◌, map, Option, Some, None, refl, ap, sym, subst, ◌∙◌}
use Rattle.std.proofs.lemmas.Bool.{false≢true}
use Rattle.std.specs.Prelude.{is_some, is_none, option_map, option_and_then}
use Rattle.std.specs.List.{AllZip, cons_option}
use Rattle.std.proofs.lemmas.List.{map-append}
use Rattle.pb_fields.specs.Field.{WireField}
use Rattle.pb_fields.proofs.Lists.{fields_once}
use Rattle.riak_msgs.specs.Contents.{Content}
use Rattle.riak_msgs.specs.declared.shown.Shown.{Shown}
use Rattle.riak_msgs.specs.Picking.{bytes_at, each_bytes, flag_of}
use Rattle.riak_msgs.specs.Embedded.{ContentFields, StandForContent, all_of, content_of}
use Rattle.riak_msgs.specs.ReadingReplies.{ShownFields, EncodesShown, contents_of, shown_of}
use Rattle.riak_msgs.specs.SeenReplies.{ContentsIn, whole_of}
use Rattle.riak_msgs.specs.ContentOnce.{content_once}
use Rattle.riak_msgs.proofs.Contents.{content_of-whole}

-- each of the byte strings stands for a content
abbrev pub EachContent : List (List ℕ) → List ContentFields → Type 0
EachContent occurrences contents = AllZip (λ content fields. StandForContent (content ∷ []) fields) occurrences contents

-- the contents of a field that is a content
pub ContentsIn-one : (field : WireField) (bytes : List ℕ) (content : ContentFields) → Some bytes ≡ bytes_at 1 field →
    StandForContent (bytes ∷ []) content → ContentsIn field (content ∷ [])
ContentsIn-one field bytes content e stands =
    let P : Option (List ℕ) → Type 0 = λ o. EachContent (cons_option o []) (content ∷ []) in
    subst P e (stands, tt)

pub ContentsIn-not : (field : WireField) (bytes : List ℕ) → Some bytes ≡ bytes_at 1 field →
    ((content : ContentFields) → StandForContent (bytes ∷ []) content → ⊥) → (contents : List ContentFields) → ContentsIn field contents → ⊥
ContentsIn-not field bytes e none contents there =
    let P : Option (List ℕ) → Type 0 = λ o. EachContent (cons_option o []) contents in
    refuted contents (subst P (sym e) there)
  where
    refuted : (contents : List ContentFields) → EachContent (bytes ∷ []) contents → ⊥
    refuted [] there = there
    refuted (c ∷ cs) there = none c there.0

-- a field that is no content has none
pub ContentsIn-none : (field : WireField) → None ≡ bytes_at 1 field → ContentsIn field []
ContentsIn-none field e = let P : Option (List ℕ) → Type 0 = λ o. EachContent (cons_option o []) [] in subst P e tt

contents_once : (occurrences : List (List ℕ)) (us vs : List ContentFields) → EachContent occurrences us → EachContent occurrences vs → us ≡ vs
contents_once [] [] [] a b = refl
contents_once [] [] (v ∷ vs) a b = absurd b
contents_once [] (u ∷ us) vs a b = absurd a
contents_once (x ∷ xs) [] vs a b = absurd a
contents_once (x ∷ xs) (u ∷ us) [] a b = absurd b
contents_once (x ∷ xs) (u ∷ us) (v ∷ vs) a b = rw (content_once (x ∷ []) u v a.0 b.0, contents_once xs us vs a.1 b.1) refl

-- bytes stand for one reply at most
pub shown_once : (body : List ℕ) (a b : ShownFields) → EncodesShown body a → EncodesShown body b → a ≡ b
shown_once body a b s t =
    let own : a.own ≡ b.own = fields_once body a.own b.own s.own t.own in
    let P : List WireField → Type 0 = λ fs. EachContent (each_bytes 1 fs) b.contents in
    let contents : a.contents ≡ b.contents = contents_once (each_bytes 1 a.own) a.contents b.contents s.contents (subst P (sym own) t.contents) in
    rw (own, contents) refl

-- of two lists not all are there where one of either isn't
is_none-all_of-append : {A : Type 0} (xs ys : List (Option A)) → is_none (all_of (xs ++ ys)) ≡ is_none (all_of xs) || is_none (all_of ys)
is_none-all_of-append [] ys = refl
is_none-all_of-append (None ∷ xs) ys = refl
is_none-all_of-append (Some x ∷ xs) ys = none_map (λ rest. x ∷ rest) (all_of (xs ++ ys)) ∙ is_none-all_of-append xs ys ∙ ap (λ b. b || is_none (all_of ys)) (sym (none_map (λ rest. x ∷ rest) (all_of xs)))
  where
    none_map : {A B : Type 0} (f : A → B) (o : Option A) → is_none (option_map f o) ≡ is_none o
    none_map f None = refl
    none_map f (Some a) = refl

-- a reply of more contents
pub is_none-contents_of : (xs ys : List ContentFields) →
    is_none (all_of (map shown_of (xs ++ ys))) ≡ is_none (all_of (map shown_of xs)) || is_none (all_of (map shown_of ys))
is_none-contents_of xs ys =
    ap (λ zs. is_none (all_of zs)) (map-append shown_of xs ys) ∙ is_none-all_of-append (map shown_of xs) (map shown_of ys)

-- one content
pub is_none-all_of-one : (c : ContentFields) → is_none (all_of (map shown_of (c ∷ []))) ≡ is_none (content_of c)
is_none-all_of-one c = cases (content_of c)
  where
    cases : (o : Option Content) → is_none (all_of {A = Shown} (option_map (λ content. record { content = content; deleted = flag_of 11 c.own }) o ∷ [])) ≡ is_none o
    cases None = refl
    cases (Some content) = refl

as_shown : Bool → Option Content → Option Shown
as_shown deleted o = option_map (λ content. record { content = content; deleted = deleted }) o

-- a whole content is the one that is copied
shown_whole : (c : ContentFields) → is_some (content_of c) ≡ true → shown_of c ≡ Some (whole_of c)
unfolding as_shown
shown_whole c some = ap (as_shown (flag_of 11 c.own)) (content_of-whole c some)

-- where all contents are whole, they are those that are copied
all_of-whole : (contents : List ContentFields) → is_none (all_of (map shown_of contents)) ≡ false →
    all_of (map shown_of contents) ≡ Some (map whole_of contents)
all_of-whole [] whole = refl
all_of-whole (c ∷ contents) whole =
    let parts = first (shown_of c) (all_of (map shown_of contents)) whole in
    let one : shown_of c ≡ Some (whole_of c) = shown_whole c (is_some-content (content_of c) parts.0) in
    ap (option_and_then (λ s. option_map (λ rest. s ∷ rest) (all_of (map shown_of contents)))) one
    ∙ ap (option_map (λ rest. whole_of c ∷ rest)) (all_of-whole contents parts.1)
  where
    first : (o : Option Shown) (rest : Option (List Shown)) → is_none (option_and_then (λ s. option_map (λ ss. s ∷ ss) rest) o) ≡ false →
        (is_some o ≡ true) × (is_none rest ≡ false)
    first None rest e = absurd (false≢true (sym e))
    first (Some s) None e = absurd (false≢true (sym e))
    first (Some s) (Some ss) e = (refl, refl)

    is_some-content : (o : Option Content) → is_some (option_map {U = Shown} (λ content. record { content = content; deleted = flag_of 11 c.own }) o) ≡ true → is_some o ≡ true
    is_some-content None e = e
    is_some-content (Some content) e = refl

-- where all contents are whole, those of the reply are the copied ones
pub contents_of-whole : (reply : ShownFields) → is_none (contents_of reply) ≡ false → contents_of reply ≡ Some (map whole_of reply.contents)
contents_of-whole reply whole = all_of-whole reply.contents whole

-- a content without what is required is none, and one with it is one
pub is_none-missing : {A : Type 0} (b : Bool) (o : Option A) → b ≡ is_some o → b ≡ false → is_none o ≡ true
is_none-missing b None e f = refl
is_none-missing b (Some a) e f = absurd (false≢true (sym f ∙ e))

pub is_none-whole : {A : Type 0} (b : Bool) (o : Option A) → b ≡ is_some o → b ≡ true → is_none o ≡ false
is_none-whole b None e f = absurd (false≢true (sym e ∙ f))
is_none-whole b (Some a) e f = refl

-- where one of two holds not
pub or_left : (a b : Bool) → a || b ≡ false → a ≡ false
or_left true b e = absurd (false≢true (sym e))
or_left false b e = refl

pub or_none : (a b : Bool) → b ≡ false → a ≡ a || b
or_none true b e = refl
or_none false b e = sym e

pub or_one : (a b : Bool) → b ≡ true → true ≡ a || b
or_one true b e = refl
or_one false b e = sym e
