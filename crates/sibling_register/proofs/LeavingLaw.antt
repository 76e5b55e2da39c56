-- A value leaves a key's siblings only where a write or tombstone had seen it.
use Rattle.std.proofs.Common.{◌≡◌, ◌≢◌, ℕ, suc, ◌≤◌, Bool, true, false, not, ◌&&◌, ◌||◌, cond, List, [], ◌∷◌, ◌++◌, length, refl, sym, ◌∙◌, ap, arith, inl, inr}
use Rattle.std.specs.Prelude.{◌⊎◌, Option, Some, None, filter, nat_eq, is_some, MatchBool, option_and_then}
use Rattle.std.specs.List.{list_any}
use Rattle.std.specs.Str.{bytes_eq}
use Rattle.std.proofs.lemmas.List.Elements.{filter-append}
use Rattle.riak_msgs.specs.declared.key.Key.{Key}
use Rattle.riak_msgs.specs.KeyOrder.{key_eq}
use Rattle.sibling_register.specs.History.{Event, Reap, events_of, count_of, is_update, written, numbered, numbers_to, content_of}
use Rattle.sibling_register.specs.Siblings.{siblings, unseen_by, is_among, is_present, is_defined, is_dead}
use Rattle.sibling_register.specs.Naming.{Naming, DelSees}
use Rattle.sibling_register.specs.Answers.{Told, Reaped, Kept, Done, RegisterAsk, AskGet, AskPut, AskDel, AskReap, RegisterOutcome, Answers, Accepts, MayGive, DelGives, does_nothing}
use Rattle.sibling_register.specs.Legal.{IsAccepted}
use Rattle.sibling_register.specs.Leaving.{is_seen_in, LeavesOnlySeen}
use Rattle.sibling_register.proofs.Following.{left_by, siblings-own, siblings-other, numbered-later}
use Rattle.std.proofs.lemmas.Bool.{eqb-true as nat_eq-same, and_parts, or_right, or_cases, not_from_false, true≢false}

bytes_eq-same : (a b : List ℕ) → bytes_eq a b ≡ true → a ≡ b
bytes_eq-same [] [] h = refl
bytes_eq-same [] (y ∷ b) h = cc
bytes_eq-same (x ∷ a) [] h = cc
bytes_eq-same (x ∷ a) (y ∷ b) h = λ i. nat_eq-same x y (and_parts (nat_eq x y) (bytes_eq a b) h).0 i ∷ bytes_eq-same a b (and_parts (nat_eq x y) (bytes_eq a b) h).1 i

pub key_eq-same : (a b : Key) → key_eq a b ≡ true → a ≡ b
key_eq-same a b h =
    let types : a.bucket_type ≡ b.bucket_type = bytes_eq-same a.bucket_type b.bucket_type (and_parts _ _ h).0 in
    let rest = (and_parts (bytes_eq a.bucket_type b.bucket_type) _ h).1 in
    let buckets : a.bucket ≡ b.bucket = bytes_eq-same a.bucket b.bucket (and_parts _ _ rest).0 in
    let keys : a.key ≡ b.key = bytes_eq-same a.key b.key (and_parts (bytes_eq a.bucket b.bucket) _ rest).1 in
    λ i. record { bucket_type = types i; bucket = buckets i; key = keys i }

-- what passes a test is kept by it
among-filter : (p : ℕ → Bool) (xs : List ℕ) (n : ℕ) → is_among xs n ≡ true → p n ≡ true → is_among (filter p xs) n ≡ true
among-filter p [] n h t = h
among-filter p (x ∷ xs) n h t =
    elim (or_cases (nat_eq x n) (is_among xs n) h) [
      | inl e ↦ let same : p x ≡ true = ap p (nat_eq-same x n e) ∙ t in rw same (let here : (nat_eq x n || is_among (filter p xs) n) ≡ true = rw e refl in here)
      | inr rest ↦ kept (p x) (nat_eq x n) (among-filter p xs n rest t)
    ]
  where
    kept : (b c : Bool) → is_among (filter p xs) n ≡ true → is_among (cond b (x ∷ filter p xs) (filter p xs)) n ≡ true
    kept true c h = or_right (nat_eq x n) (is_among (filter p xs) n) h
    kept false c h = h

pub any-among : (p : ℕ → Bool) (xs : List ℕ) (n : ℕ) → is_among xs n ≡ true → p n ≡ true → list_any p xs ≡ true
any-among p [] n h t = cc
any-among p (x ∷ xs) n h t =
    elim (or_cases (nat_eq x n) (is_among xs n) h) [
      | inl e ↦ let same : p x ≡ true = ap p (nat_eq-same x n e) ∙ t in rw same refl
      | inr rest ↦ or_right (p x) (list_any p xs) (any-among p xs n rest t)
    ]

some_of : {X : Type 0} (o : Option X) → o ≢ None → is_some o ≡ true
some_of None h = absurd (h refl)
some_of (Some x) h = refl

module _ {V C : Type 0} where
  -- a sibling is the number of an event
  among-bounded : (later events : List (Event V C)) (n : ℕ) → is_among (unseen_by later events) n ≡ true → n ≤ length events
  among-bounded later [] n h = cc
  among-bounded later (event ∷ before) n h =
      by (is_update event.operation && not (list_any (λ other. is_among other.saw (suc (length before))) later)) (among-bounded (event ∷ later) before n) h
    where
      by : (b : Bool) → (is_among (unseen_by (event ∷ later) before) n ≡ true → n ≤ length before)
          → is_among (cond b (suc (length before) ∷ unseen_by (event ∷ later) before) (unseen_by (event ∷ later) before)) n ≡ true → n ≤ suc (length before)
      by true f h = elim (or_cases (nat_eq (suc (length before)) n) (is_among (unseen_by (event ∷ later) before) n) h) [
        | inl e ↦ (let same : suc (length before) ≡ n = nat_eq-same _ n e in omega (arith, same))
        | inr rest ↦ (let le : n ≤ length before = f rest in omega (arith, le))
      ]
      by false f h = let le : n ≤ length before = f h in omega (arith, le)

  -- an event that is no write or tombstone found its key dead
  found_dead : (naming : Naming V C) (history : List (Event V C)) (ask : RegisterAsk V C) (event : Event V C) (told : Told ℕ)
      → MayGive naming history ask (Accepts event told) → is_update event.operation ≡ false → is_dead history event.key ≡ true
  found_dead naming history (AskGet get) event told g u = cc
  found_dead naming history (AskPut put) event told g u = let e : is_update event.operation ≡ true = ap (λ (x : Event V C). is_update x.operation) g.2.1 in cc
  found_dead naming history (AskDel del) event told g u = by (does_nothing history del) g
    where
      by : (b : Bool) → MatchBool b (Accepts event told ≡ Answers Done) ((saw : List ℕ) × DelSees naming history del.key del.context saw × DelGives naming history del saw (Accepts event told))
          → is_dead history event.key ≡ true
      by true h = cc
      by false h = let e : is_update event.operation ≡ true = ap (λ (x : Event V C). is_update x.operation) h.2.1 in cc
  found_dead naming history (AskReap key) event told g u = by (is_dead history key) refl g
    where
      by : (b : Bool) → is_dead history key ≡ b
          → Accepts event told ≡ cond b (Accepts (record { key = key; operation = Reap; context = None; saw = numbers_to (count_of history key) }) Reaped) (Answers Kept)
          → is_dead history event.key ≡ true
      by true d h = let same : event.key ≡ key = ap (λ (o : RegisterOutcome V C). key_of o) h in ap (is_dead history) same ∙ d
        where
          key_of : RegisterOutcome V C → Key
          key_of (Answers t) = key
          key_of (Accepts e t) = e.key
      by false d h = cc

  -- one event more
  one_more : (naming : Naming V C) (event : Event V C) (before : List (Event V C)) (key : Key) (number : ℕ) → IsAccepted naming before event
      → is_among (siblings before key) number ≡ true → content_of before key number ≢ None
      → (is_among (siblings (event ∷ before) key) number ≡ true) ⊎ (((key_eq event.key key && is_update event.operation) && is_among event.saw number) ≡ true)
  one_more naming event before key number accepted sibling content = own (key_eq event.key key) refl
    where
      kept : (u : Bool) (n : ℕ) (rest : List ℕ) → is_among rest number ≡ true → is_among (cond u (n ∷ rest) rest) number ≡ true
      kept true n rest h = or_right (nat_eq n number) (is_among rest number) h
      kept false n rest h = h

      dead : key_eq event.key key ≡ true → is_update event.operation ≡ false → ⊥
      dead e u =
          let is : is_dead before key ≡ true = ap (is_dead before) (sym (key_eq-same event.key key e)) ∙ found_dead naming before accepted.ask event accepted.told accepted.given u in
          let here : is_present before key ≡ true = any-among (λ n. is_some (content_of before key n)) (siblings before key) number sibling (some_of (content_of before key number) content) in
          true≢false (sym (and_parts (is_defined before key) _ is).1 ∙ ap not here)

      seen : (u : Bool) → is_update event.operation ≡ u → key_eq event.key key ≡ true → is_among event.saw number ≡ true
          → ((key_eq event.key key && is_update event.operation) && is_among event.saw number) ≡ true
      seen true u e s = rw (e, u, s) refl
      seen false u e s = absurd (dead e u)

      sight : (s : Bool) → is_among event.saw number ≡ s → key_eq event.key key ≡ true
          → (is_among (siblings (event ∷ before) key) number ≡ true) ⊎ (((key_eq event.key key && is_update event.operation) && is_among event.saw number) ≡ true)
      sight true s e = inr (seen (is_update event.operation) refl e s)
      sight false s e = inl (ap (λ xs. is_among xs number) (siblings-own event before key e)
          ∙ kept (is_update event.operation) (suc (count_of before key)) (left_by event.saw (siblings before key))
          (among-filter (λ n. not (is_among event.saw n)) (siblings before key) number sibling (not_from_false (is_among event.saw number) s)))

      own : (b : Bool) → key_eq event.key key ≡ b
          → (is_among (siblings (event ∷ before) key) number ≡ true) ⊎ (((key_eq event.key key && is_update event.operation) && is_among event.saw number) ≡ true)
      own true e = sight (is_among event.saw number) refl e
      own false e = inl (ap (λ xs. is_among xs number) (siblings-other event before key e) ∙ sibling)

  -- a number keeps its content
  content-later : (between early : List (Event V C)) (key : Key) (number : ℕ) → is_among (siblings early key) number ≡ true
      → content_of (between ++ early) key number ≡ content_of early key number
  content-later between early key number h =
      ap (λ events. option_and_then (λ (event : Event V C). written event.operation) (numbered events number)) (filter-append (λ event. key_eq event.key key) between early)
      ∙ ap (option_and_then (λ (event : Event V C). written event.operation)) (numbered-later (events_of between key) (events_of early key) number (among-bounded [] (events_of early key) number h))

  pub leaves_only_seen : (naming : Naming V C) (between early : List (Event V C)) → LeavesOnlySeen naming between early
  leaves_only_seen naming [] early legal key number sibling content = inl sibling
  leaves_only_seen naming (event ∷ between) early legal key number sibling content =
      elim (leaves_only_seen naming between early legal.0 key number sibling content) [
        | inl still ↦ (elim (one_more naming event (between ++ early) key number legal.1 still (λ none. content (sym (content-later between early key number sibling) ∙ none))) [
          | inl kept ↦ inl kept
          | inr seen ↦ inr (rw seen refl)
        ])
        | inr seen ↦ inr (or_right _ (is_seen_in between key number) seen)
      ]
