-- The places of each digest: the context that is found among them is the first, and one context more is one place more.
use Rattle.std.proofs.Common.{◌≡◌, ℕ, suc, ◌+◌, Bool, true, false, cond, List, [], ◌∷◌, ◌++◌, length, refl, sym, ◌∙◌, ap, arith}
use Rattle.std.specs.Prelude.{Option, Some, None, ◌==◌, is_some, slice_get, option_and_then}
use Rattle.std.specs.Option.{option_map_or}
use Rattle.std.specs.Ordering.{nat_cmp}
use Rattle.std.specs.Global.{Vec}
use Rattle.std.specs.BTreeMap.{BTreeMap, get, is_at}
use Rattle.std.specs.Cmp.Lexicographic.{pointwise}
use Rattle.std.proofs.lemmas.Bool.Decides.{nat_tests}
use Rattle.riak_msgs.specs.declared.Key.{Key}
use Rattle.riak_msgs.specs.KeyOrder.{key_eq}
use Rattle.actor_epoch.specs.declared.dot.Dot.{Dot}
use Rattle.actor_epoch.specs.Dots.{dot_eq}
use Rattle.actor_epoch.specs.Given.{context_of, pairs_read}
use Rattle.schedule_text.specs.declared.shown_context.ShownContext.{ShownContext}
use Rattle.schedule_text.specs.Compared.{is_of, position_of}
use Rattle.schedule_text.specs.ShownIndex.{digest_of, entry_digest, places_from, position_among, places_at, AreIndexed}
use Rattle.actor_epoch.proofs.Rising.{and_first as and_left, and_second as and_right}
use Rattle.std.proofs.lemmas.Bool.{eqb-true as same_number}
use Rattle.vnode_machine.proofs.Sights.{dot_eq-same as same_dot}
use Rattle.vnode_machine.proofs.Tests.{none-from}

same_pairs : (a b : List Dot) → pointwise dot_eq a b ≡ true → a ≡ b
same_pairs [] [] h = refl
same_pairs [] (y ∷ b) h = cc
same_pairs (x ∷ a) [] h = cc
same_pairs (x ∷ a) (y ∷ b) h =
    λ i. same_dot x y (and_left (dot_eq x y) (pointwise dot_eq a b) h) i ∷ same_pairs a b (and_right (dot_eq x y) (pointwise dot_eq a b) h) i

-- a context of these pairs has their digest
digest_is : (key : Key) (pairs : List Dot) (entry : ShownContext) → is_of key pairs entry ≡ true → entry_digest entry ≡ digest_of 0 pairs
digest_is key pairs entry h = by (pairs_read (context_of entry.context)) (and_right (key_eq entry.key key) _ h)
  where
    by : (read : Option (List Dot)) → option_map_or (pointwise dot_eq pairs) read false ≡ true → option_map_or (digest_of 0) read 0 ≡ digest_of 0 pairs
    by None h = cc
    by (Some other) h = ap (digest_of 0) (sym (same_pairs pairs other h))

-- the first context of these pairs is the first among the places of their digest
found_from : (all entries : List ShownContext) (place : ℕ) (key : Key) (pairs : List Dot) → ((k : ℕ) → slice_get all (place + k) ≡ slice_get entries k)
    → position_among all key pairs (places_from place (digest_of 0 pairs) entries) ≡ position_of entries key pairs
found_from all [] place key pairs h = refl
found_from all (entry ∷ entries) place key pairs h =
    by (is_of key pairs entry) (entry_digest entry == digest_of 0 pairs) refl refl
    (found_from all entries (suc place) key pairs (λ k. let next : suc place + k ≡ place + suc k = omega arith in ap (slice_get all) next ∙ h (suc k)))
  where
    others : List ℕ
    others = places_from (suc place) (digest_of 0 pairs) entries

    here : slice_get all place ≡ Some entry
    here = let at : place ≡ place + 0 = omega arith in ap (slice_get all) at ∙ h 0

    given : (b : Bool) → option_map_or (λ (position : ℕ). Some position) (cond b (Some entry.position) None) (position_among all key pairs others)
        ≡ cond b (Some entry.position) (position_among all key pairs others)
    given true = refl
    given false = refl

    at_place : (b : Bool) → is_of key pairs entry ≡ b
        → position_among all key pairs (place ∷ others) ≡ cond b (Some entry.position) (position_among all key pairs others)
    at_place b e =
        ap (λ o. option_map_or (λ position. Some position) o (position_among all key pairs others))
        (ap (option_and_then (λ (entry : ShownContext). cond (is_of key pairs entry) (Some entry.position) None)) here ∙ ap (λ b. cond b (Some entry.position) None) e)
        ∙ given b

    by : (b d : Bool) → is_of key pairs entry ≡ b → (entry_digest entry == digest_of 0 pairs) ≡ d → position_among all key pairs others ≡ position_of entries key pairs
        → position_among all key pairs (cond d (place ∷ others) others) ≡ cond b (Some entry.position) (position_of entries key pairs)
    by true true e f rest = at_place true e
    by true false e f rest = let same : entry_digest entry ≡ digest_of 0 pairs = digest_is key pairs entry e in absurd (grind (arith, nat_tests, same, f))
    by false true e f rest = at_place false e ∙ rest
    by false false e f rest = rest

pub found_among : (entries : List ShownContext) (places : BTreeMap ℕ (Vec ℕ)) (key : Key) (pairs : List Dot) (found : Option (Vec ℕ)) → AreIndexed entries places
    → get nat_cmp places (digest_of 0 pairs) ≡ found
    → position_among entries key pairs (option_map_or (λ same. same.items) found []) ≡ position_of entries key pairs
found_among entries places key pairs found indexed e =
    ap (position_among entries key pairs) (ap (λ o. option_map_or (λ (same : Vec ℕ). same.items) o []) (sym e) ∙ indexed (digest_of 0 pairs))
    ∙ found_from entries entries 0 key pairs (λ k. let same : 0 + k ≡ k = omega arith in ap (slice_get entries) same)

-- one context more
places-more : (place digest : ℕ) (entries : List ShownContext) (entry : ShownContext)
    → places_from place digest (entries ++ entry ∷ [])
    ≡ cond (entry_digest entry == digest) (places_from place digest entries ++ (place + length entries) ∷ []) (places_from place digest entries)
places-more place digest [] entry = let at : place ≡ place + 0 = omega arith in by (entry_digest entry == digest) at
  where
    by : (b : Bool) → place ≡ place + 0 → cond b (place ∷ []) [] ≡ cond b ((place + 0) ∷ []) []
    by true at = ap (λ p. p ∷ []) at
    by false at = refl
places-more place digest (first ∷ entries) entry =
    let next : suc place + length entries ≡ place + suc (length entries) = omega arith in
    by (entry_digest first == digest) (entry_digest entry == digest)
    (places-more (suc place) digest entries entry ∙ ap (λ p. cond (entry_digest entry == digest) (places_from (suc place) digest entries ++ p ∷ []) (places_from (suc place) digest entries)) next)
  where
    last : ℕ
    last = place + suc (length entries)

    others : List ℕ
    others = places_from (suc place) digest entries

    by : (b c : Bool) → places_from (suc place) digest (entries ++ entry ∷ []) ≡ cond c (others ++ last ∷ []) others
        → cond b (place ∷ places_from (suc place) digest (entries ++ entry ∷ [])) (places_from (suc place) digest (entries ++ entry ∷ []))
        ≡ cond c (cond b (place ∷ others) others ++ last ∷ []) (cond b (place ∷ others) others)
    by true true h = ap (λ xs. place ∷ xs) h
    by true false h = ap (λ xs. place ∷ xs) h
    by false true h = h
    by false false h = h

pub indexed-more : (entries : List ShownContext) (entry : ShownContext) (digest place : ℕ) (old new : BTreeMap ℕ (Vec ℕ)) → digest ≡ entry_digest entry → place ≡ length entries
    → AreIndexed entries old → ((other : ℕ) → places_at new other ≡ cond (digest == other) (places_at old other ++ place ∷ []) (places_at old other))
    → AreIndexed (entries ++ entry ∷ []) new
indexed-more entries entry digest place old new d p indexed added other =
    let at : length entries ≡ 0 + length entries = omega arith in
    added other
    ∙ ap (λ n. cond (n == other) (places_at old other ++ place ∷ []) (places_at old other)) d
    ∙ ap (λ xs. cond (entry_digest entry == other) (xs ++ place ∷ []) xs) (indexed other)
    ∙ ap (λ n. cond (entry_digest entry == other) (places_from 0 other entries ++ n ∷ []) (places_from 0 other entries)) (p ∙ at)
    ∙ sym (places-more 0 other entries entry)

pub indexed-same : (entries : List ShownContext) (old new : BTreeMap ℕ (Vec ℕ)) → AreIndexed entries old → ((other : ℕ) → places_at new other ≡ places_at old other) → AreIndexed entries new
indexed-same entries old new indexed same other = same other ∙ indexed other

is_at-nat : (a b : ℕ) → is_at (nat_cmp a) b ≡ (a == b)
is_at-nat a b = grind (arith, nat_tests)

items_of : Option (Vec ℕ) → List ℕ
items_of o = option_map_or (λ same. same.items) o []

-- an entry without places, of a digest that had none, adds no place
pub digest-added : (old new : BTreeMap ℕ (Vec ℕ)) (digest : ℕ) (empty : Vec ℕ) → is_some (get nat_cmp old digest) ≡ false → empty.items ≡ []
    → ((q : ℕ) → get nat_cmp new q ≡ cond (is_at (nat_cmp digest) q) (Some empty) (get nat_cmp old q)) → (other : ℕ) → places_at new other ≡ places_at old other
digest-added old new digest empty absent none updates other = by (is_at (nat_cmp digest) other) refl (updates other)
  where
    by : (b : Bool) → is_at (nat_cmp digest) other ≡ b → get nat_cmp new other ≡ cond b (Some empty) (get nat_cmp old other) → places_at new other ≡ places_at old other
    by true e up =
        let same : digest ≡ other = same_number digest other (sym (is_at-nat digest other) ∙ e) in
        let was : get nat_cmp old other ≡ None = ap (get nat_cmp old) (sym same) ∙ none-from (get nat_cmp old digest) absent in
        ap (λ o. option_map_or (λ (s : Vec ℕ). s.items) o []) up ∙ none ∙ ap (λ o. option_map_or (λ (s : Vec ℕ). s.items) o []) (sym was)
    by false e up = ap (λ o. option_map_or (λ (s : Vec ℕ). s.items) o []) up

-- where an entry's places are written over
module _ (digest : ℕ) (old mid new : BTreeMap ℕ (Vec ℕ)) (was is : Vec ℕ) where
  written : (same : (other : ℕ) → places_at mid other ≡ places_at old other) → get nat_cmp mid digest ≡ Some was
      → ((q : ℕ) → get nat_cmp new q ≡ cond (is_at (nat_cmp digest) q) (Some is) (get nat_cmp mid q))
      → (other : ℕ) → (b : Bool) → (digest == other) ≡ b → (places_at new other ≡ cond b is.items (places_at old other)) × (b ≡ true → was.items ≡ places_at old other)
  written same there updates other true e =
      let here : digest ≡ other = same_number digest other e in
      let at : get nat_cmp mid other ≡ Some was = ap (get nat_cmp mid) (sym here) ∙ there in (
        ap (λ o. option_map_or (λ (s : Vec ℕ). s.items) o []) (updates other ∙ ap (λ b. cond b (Some is) (get nat_cmp mid other)) (is_at-nat digest other ∙ e)),
        (λ t. ap (λ o. option_map_or (λ (s : Vec ℕ). s.items) o []) (sym at) ∙ same other),
      )
  written same there updates other false e =
      (ap (λ o. option_map_or (λ (s : Vec ℕ). s.items) o []) (updates other ∙ ap (λ b. cond b (Some is) (get nat_cmp mid other)) (is_at-nat digest other ∙ e)) ∙ same other, (λ t. cc))

  pub place-added : (place : ℕ) → ((other : ℕ) → places_at mid other ≡ places_at old other) → get nat_cmp mid digest ≡ Some was
      → ((q : ℕ) → get nat_cmp new q ≡ cond (is_at (nat_cmp digest) q) (Some is) (get nat_cmp mid q)) → is.items ≡ was.items ++ place ∷ []
      → (other : ℕ) → places_at new other ≡ cond (digest == other) (places_at old other ++ place ∷ []) (places_at old other)
  place-added place same there updates pushed other = by (digest == other) (written same there updates other (digest == other) refl)
    where
      by : (b : Bool) → (places_at new other ≡ cond b is.items (places_at old other)) × (b ≡ true → was.items ≡ places_at old other)
          → places_at new other ≡ cond b (places_at old other ++ place ∷ []) (places_at old other)
      by true w = w.0 ∙ pushed ∙ ap (λ xs. xs ++ place ∷ []) (w.1 refl)
      by false w = w.0

  pub place-refused : ((other : ℕ) → places_at mid other ≡ places_at old other) → get nat_cmp mid digest ≡ Some was
      → ((q : ℕ) → get nat_cmp new q ≡ cond (is_at (nat_cmp digest) q) (Some is) (get nat_cmp mid q)) → is.items ≡ was.items
      → (other : ℕ) → places_at new other ≡ places_at old other
  place-refused same there updates kept other = by (digest == other) (written same there updates other (digest == other) refl)
    where
      by : (b : Bool) → (places_at new other ≡ cond b is.items (places_at old other)) × (b ≡ true → was.items ≡ places_at old other) → places_at new other ≡ places_at old other
      by true w = w.0 ∙ kept ∙ w.1 refl
      by false w = w.0
