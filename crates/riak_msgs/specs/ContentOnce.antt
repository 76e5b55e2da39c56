-- Bytes stand for one content at most, and so a content has its encoding alone: laws that the bytes which are kept of it rest on.
-- No clause names them.
use Rattle.std.proofs.Common.{◌≡◌, ℕ, ◌^◌, ◌<◌, false, List, [], ◌∷◌, length, refl, ap, sym, subst, ◌∙◌}
use Rattle.std.specs.Prelude.{flat_map, unwrap_or}
use Rattle.std.specs.List.{AllZip}
use Rattle.pb_fields.specs.Field.{WireField}
use Rattle.pb_fields.specs.Message.{Encodes}
use Rattle.pb_fields.proofs.Lists.{fields_once}
use Rattle.riak_msgs.specs.Content.{Content}
use Rattle.riak_msgs.specs.ContentEncoding.{content_message}
use Rattle.riak_msgs.specs.Picking.{each_bytes}
use Rattle.riak_msgs.specs.Embedded.{ContentFields, StandForContent, content_of}
use Rattle.riak_msgs.specs.EncodedContents.{fields_in, content_stands, content_back}

-- two contents of the same fields
pub same_content : (c d : ContentFields) → c.own ≡ d.own → c.links ≡ d.links → c.usermeta ≡ d.usermeta → c.indexes ≡ d.indexes → c ≡ d
same_content c d own links usermeta indexes = rw (own, links, usermeta, indexes) refl

-- the fields that occurrences have are those of each of their fields
abbrev pub EachStand : ℕ → List WireField → List (List WireField) → Type 0
EachStand number fields parts = AllZip Encodes (each_bytes number fields) parts

lists_once : (bss : List (List ℕ)) (us vs : List (List WireField)) → AllZip Encodes bss us → AllZip Encodes bss vs → us ≡ vs
lists_once [] [] [] a b = refl
lists_once [] [] (v ∷ vs) a b = absurd b
lists_once [] (u ∷ us) vs a b = absurd a
lists_once (bs ∷ bss) [] vs a b = absurd a
lists_once (bs ∷ bss) (u ∷ us) [] a b = absurd b
lists_once (bs ∷ bss) (u ∷ us) (v ∷ vs) a b = rw (fields_once bs u v a.0 b.0, lists_once bss us vs a.1 b.1) refl

each_once : (number : ℕ) (fs gs : List WireField) (us vs : List (List WireField)) → fs ≡ gs → EachStand number fs us → EachStand number gs vs →
    us ≡ vs
each_once number fs gs us vs e a b =
    let P : List WireField → Type 0 = λ hs. EachStand number hs vs in
    lists_once (each_bytes number fs) us vs a (subst P (sym e) b)

-- occurrences stand for one content at most
pub content_once : (occurrences : List (List ℕ)) (c d : ContentFields) → StandForContent occurrences c → StandForContent occurrences d → c ≡ d
content_once occurrences c d a b =
    let own : c.own ≡ d.own = a.own ∙ ap (flat_map (λ p. p)) (lists_once occurrences a.parts b.parts a.each b.each) ∙ sym b.own in
    let links = each_once 6 c.own d.own c.links d.links own a.links b.links in
    let usermeta = each_once 9 c.own d.own c.usermeta d.usermeta own a.usermeta b.usermeta in
    let indexes = each_once 10 c.own d.own c.indexes d.indexes own a.indexes b.indexes in
    same_content c d own links usermeta indexes

-- two contents of one encoding
pub content_message-once : (c d : Content) → length (content_message c) < 2 ^ 64 → content_message c ≡ content_message d → c ≡ d
content_message-once c d short e =
    let P : List ℕ → Type 0 = λ bs. length bs < 2 ^ 64 in
    let Q : List ℕ → Type 0 = λ bs. StandForContent (bs ∷ []) (fields_in d false) in
    let same : fields_in c false ≡ fields_in d false =
    content_once (content_message c ∷ []) (fields_in c false) (fields_in d false) (content_stands c short)
    (subst Q (sym e) (content_stands d (subst P e short))) in
    ap (λ o. unwrap_or o c) (sym (content_back c false) ∙ ap content_of same ∙ content_back d false)
