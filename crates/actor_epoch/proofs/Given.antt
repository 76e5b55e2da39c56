-- Bytes decode to the pairs that they encode.
use Rattle.std.proofs.Common.{◌≡◌, ℕ, suc, ◌/◌, ◌%◌, ◌<◌, ◌&&◌, ◌^◌, ◌*◌, cond, Bool, true, false, IsTrue, List, [], ◌∷◌, length, get_or, refl, sym, ◌∙◌, ap, subst, inl, inr, arith}
use Rattle.std.specs.Prelude.{◌↔◌, ◌⊎◌, flat_map, nat_eq, Option, Some, None, is_some}
use Rattle.std.specs.List.{All, list_all}
use Rattle.std.proofs.lemmas.Bool.{cases_lt, and_right as and_not, eqb-true as same_is, true≢false}
use Rattle.std.proofs.lemmas.List.{get_or_past}
use Rattle.std.proofs.lemmas.Bool.Decides.{nat_tests}
use Rattle.actor_epoch.specs.declared.dot.Dot.{Dot}
use Rattle.actor_epoch.specs.declared.version.Version.{Version}
use Rattle.actor_epoch.specs.declared.version.Version.TheVariants.{One, Two}
use Rattle.actor_epoch.specs.Versions.{version_of, entry_len}
use Rattle.actor_epoch.specs.Contexts.{encoding, encoding_as, has_room, EncodesAs, is_well_formed, is_rising, is_within_limits, entry_bytes, DecodesContext}
use Rattle.actor_epoch.specs.Entries.{entries_in}
use Rattle.actor_epoch.specs.Given.{Context, Malformed, Pairs, pairs_in, is_context, context_in, context_of, pairs_read}
use Rattle.actor_epoch.proofs.Rising.{and_first, and_second}
use Rattle.actor_epoch.proofs.Entries.{flat_map-entries_in, has_room-entries_in}
use Rattle.actor_epoch.proofs.Encodings.{tail-is, version-is, version_of-byte, byte-is, length-is, entries-are, has_room-written}
use Rattle.actor_epoch.proofs.Sizes.{whole-remainder, count-whole}

-- no byte is above 255, also where none stands
abbrev pub AreBytes : List ℕ → Type 0
AreBytes bytes = (i : ℕ) → get_or bytes i 0 < 256

is_same : (a b : ℕ) → a ≡ b → nat_eq a b ≡ true
is_same a b h = grind (arith, nat_tests)

-- what encodes pairs is a context
is_context-encoding : (version : Version) (entries : List ℕ) (pairs : List Dot) → IsTrue (is_well_formed pairs) → IsTrue (list_all (has_room version) pairs)
    → entries ≡ flat_map (entry_bytes version) pairs → is_context version entries ≡ true
is_context-encoding version entries pairs h room e =
    let whole = whole-remainder version (length entries) (length pairs) (length-is version pairs entries e) in
    (λ i. is_same (length entries % entry_len version) 0 whole i && is_well_formed (entries-are version entries pairs h room e i)) ∙ h

-- a context is what encodes its pairs
whole : (version : Version) (entries : List ℕ) → is_context version entries ≡ true → length entries % entry_len version ≡ 0
whole version entries h = same_is (length entries % entry_len version) 0 (and_first (nat_eq (length entries % entry_len version) 0) (is_well_formed (pairs_in version entries)) h)

formed : (version : Version) (entries : List ℕ) → is_context version entries ≡ true → IsTrue (is_well_formed (pairs_in version entries))
formed version entries h = and_second (nat_eq (length entries % entry_len version) 0) (is_well_formed (pairs_in version entries)) h

encoding-is_context : (version : Version) (byte : ℕ) (entries : List ℕ) → AreBytes entries → version_of byte ≡ Some version → is_context version entries ≡ true
    → EncodesAs version (byte ∷ entries) (pairs_in version entries)
encoding-is_context version byte entries small v h =
    let back = flat_map-entries_in version (length entries / entry_len version) entries (count-whole version (length entries) (whole version entries h)) small in
    (has_room-entries_in version (length entries / entry_len version) entries small, λ i. byte-is byte version v i ∷ sym back i)

-- in one of the versions
in_one : (version : Version) (bytes : List ℕ) (pairs : List Dot) → EncodesAs version bytes pairs → EncodesAs One bytes pairs ⊎ EncodesAs Two bytes pairs
in_one One bytes pairs h = inl h
in_one Two bytes pairs h = inr h

-- what the code finds
pub read-context : (bytes : List ℕ) (byte : ℕ) (version : Version) (entries : List ℕ) → bytes ≡ byte ∷ entries → version_of byte ≡ Some version
    → is_context version entries ≡ true → Some (pairs_in version entries) ≡ pairs_read (context_of bytes)
unfolding context_of
read-context bytes byte version entries e v h =
    sym (ap (λ bs. pairs_read (context_of bs)) e ∙ ap (λ found. pairs_read (Some (context_in found entries))) v
    ∙ ap (λ b. pairs_read (Some (cond b (Pairs (pairs_in version entries)) Malformed))) h)

pub read-malformed : (bytes : List ℕ) (byte : ℕ) (version : Version) (entries : List ℕ) → bytes ≡ byte ∷ entries → version_of byte ≡ Some version
    → is_context version entries ≡ false → None ≡ pairs_read (context_of bytes)
unfolding context_of
read-malformed bytes byte version entries e v h =
    sym (ap (λ bs. pairs_read (context_of bs)) e ∙ ap (λ found. pairs_read (Some (context_in found entries))) v
    ∙ ap (λ b. pairs_read (Some (cond b (Pairs (pairs_in version entries)) Malformed))) h)

pub read-other : (bytes : List ℕ) (byte : ℕ) (entries : List ℕ) → bytes ≡ byte ∷ entries → version_of byte ≡ None → None ≡ pairs_read (context_of bytes)
unfolding context_of
read-other bytes byte entries e v =
    sym (ap (λ bs. pairs_read (context_of bs)) e ∙ ap (λ found. pairs_read (Some (context_in found entries))) v)

pub read-none : (bytes : List ℕ) → length bytes ≡ 0 → None ≡ pairs_read (context_of bytes)
unfolding context_of
read-none [] e = refl
read-none (byte ∷ bytes) e = absurd (omega arith)

-- what is given, by what is read
pub given-none : (bytes : List ℕ) → true ≡ nat_eq (length bytes) 0 → context_of bytes ≡ None
unfolding context_of
given-none [] e = refl
given-none (byte ∷ bytes) e = let t : nat_eq (suc (length bytes)) 0 ≡ false = grind (arith, nat_tests) in cc

pub given-malformed : (bytes : List ℕ) → false ≡ nat_eq (length bytes) 0 → None ≡ pairs_read (context_of bytes) → context_of bytes ≡ Some Malformed
unfolding context_of
given-malformed [] h e = cc
given-malformed (byte ∷ entries) h e = by (context_in (version_of byte) entries) e
  where
    by : (found : Context) → None ≡ pairs_read (Some found) → Some found ≡ Some Malformed
    by (Pairs pairs) h = cc
    by Malformed h = refl

-- bytes that encode pairs decode to them
pub context_of-encoding_as : (version : Version) (pairs : List Dot) → IsTrue (is_well_formed pairs) → IsTrue (list_all (has_room version) pairs)
    → context_of (encoding_as version pairs) ≡ Some (Pairs pairs)
unfolding context_of
context_of-encoding_as version pairs h room =
    let entries : List ℕ = flat_map (entry_bytes version) pairs in
    ap (λ found. Some (context_in found entries)) (version_of-byte version)
    ∙ ap (λ b. Some (cond b (Pairs (pairs_in version entries)) Malformed)) (is_context-encoding version entries pairs h room refl)
    ∙ ap (λ found. Some (Pairs found)) (entries-are version entries pairs h room refl)

pub context_of-encoding : (pairs : List Dot) → IsTrue (is_well_formed pairs) → context_of (encoding pairs) ≡ Some (Pairs pairs)
context_of-encoding pairs h =
    context_of-encoding_as Two pairs h
    (has_room-written pairs (and_second (is_rising pairs) (list_all is_within_limits pairs) (and_second _ (is_rising pairs && list_all is_within_limits pairs) h)))

-- what is read is what the bytes encode, and nothing where they encode none
pub decodes_context : (bytes : List ℕ) → AreBytes bytes → DecodesContext bytes (pairs_read (context_of bytes))
unfolding context_of
decodes_context [] small = λ version pairs h e. cc
decodes_context (byte ∷ entries) small = by (version_of byte) refl
  where
    in_version : (version : Version) → version_of byte ≡ Some version → (b : Bool) → is_context version entries ≡ b
        → DecodesContext (byte ∷ entries) (pairs_read (Some (cond b (Pairs (pairs_in version entries)) Malformed)))
    in_version version v true h = (formed version entries h, in_one version _ _ (encoding-is_context version byte entries (λ i. small (suc i)) v h))
    in_version version v false h = λ other pairs f e.
        let same : version ≡ other = same_version (sym v ∙ version-is other byte entries pairs e.1) in
        let t = is_context-encoding other entries pairs f e.0 (tail-is other byte entries pairs e.1) in
        let u : is_context version entries ≡ true = ap (λ w. is_context w entries) same ∙ t in
        cc
      where
        same_version : {a b : Version} → Some a ≡ Some b → a ≡ b
        same_version h = cc

    by : (found : Option Version) → version_of byte ≡ found → DecodesContext (byte ∷ entries) (pairs_read (Some (context_in found entries)))
    by None v = λ other pairs f e. let t = version-is other byte entries pairs e.1 in cc
    by (Some version) v = in_version version v (is_context version entries) refl

All-bytes : (bytes : List ℕ) → All (λ (b : ℕ). b < 2 ^ 8) bytes → AreBytes bytes
All-bytes bytes each i = elim (cases_lt i (length bytes)) [
  | inl within ↦ each i 0 within
  | inr over ↦ subst (λ (b : ℕ). b < 256) (sym (get_or_past bytes i 0 over)) (omega arith)
]

-- and no others do
pub reads_no_others : (bytes : List ℕ) (pairs : List Dot) → All (λ (b : ℕ). b < 2 ^ 8) bytes → context_of bytes ≡ Some (Pairs pairs)
    → IsTrue (is_well_formed pairs) × (EncodesAs One bytes pairs ⊎ EncodesAs Two bytes pairs)
reads_no_others bytes pairs small e = subst (λ found. DecodesContext bytes (pairs_read found)) e (decodes_context bytes (All-bytes bytes small))

-- no bytes alone are no context
pub context_of-none : (bytes : List ℕ) → (context_of bytes ≡ None) ↔ (bytes ≡ [])
unfolding context_of
context_of-none [] = (λ e. refl, λ e. refl)
context_of-none (version ∷ entries) = (λ e. cc, λ e. cc)

is_context-found : (version : Version) (entries : List ℕ) → length entries % entry_len version ≡ 0 → is_well_formed (pairs_in version entries) ≡ true
    → is_context version entries ≡ true
is_context-found version entries w h = (λ i. is_same (length entries % entry_len version) 0 w i && is_well_formed (pairs_in version entries)) ∙ h

not_whole : (n : ℕ) → (n ≡ 0 → ⊥) → nat_eq n 0 ≡ false
not_whole n h = grind (arith, nat_tests)

-- what the code finds, by the length of an entry that it divides by
pub read-found : (bytes : List ℕ) (byte : ℕ) (version : Version) (entries : List ℕ) (size : ℕ) → bytes ≡ byte ∷ entries → Some version ≡ version_of byte
    → size ≡ entry_len version → length entries % size ≡ 0 → true ≡ is_well_formed (entries_in version (length entries / size) entries)
    → Some (entries_in version (length entries / size) entries) ≡ pairs_read (context_of bytes)
read-found bytes byte version entries size e v s w f =
    ap (λ n. Some (entries_in version (length entries / n) entries)) s
    ∙ read-context bytes byte version entries e (sym v) (is_context-found version entries (ap (λ n. length entries % n) (sym s) ∙ w)
    (ap (λ n. is_well_formed (entries_in version (length entries / n) entries)) (sym s) ∙ sym f))

pub read-part : (bytes : List ℕ) (byte : ℕ) (version : Version) (entries : List ℕ) (size : ℕ) → bytes ≡ byte ∷ entries → Some version ≡ version_of byte
    → size ≡ entry_len version → (length entries % size ≡ 0 → ⊥) → None ≡ pairs_read (context_of bytes)
read-part bytes byte version entries size e v s w =
    let t : nat_eq (length entries % entry_len version) 0 ≡ false = ap (λ n. nat_eq (length entries % n) 0) (sym s) ∙ not_whole (length entries % size) w in
    read-malformed bytes byte version entries e (sym v) (ap (λ b. b && is_well_formed (pairs_in version entries)) t)

pub read-unformed : (bytes : List ℕ) (byte : ℕ) (version : Version) (entries : List ℕ) (size : ℕ) → bytes ≡ byte ∷ entries → Some version ≡ version_of byte
    → size ≡ entry_len version → false ≡ is_well_formed (entries_in version (length entries / size) entries) → None ≡ pairs_read (context_of bytes)
read-unformed bytes byte version entries size e v s f =
    let t : is_well_formed (pairs_in version entries) ≡ false = ap (λ n. is_well_formed (entries_in version (length entries / n) entries)) (sym s) ∙ sym f in
    read-malformed bytes byte version entries e (sym v) (and_not (nat_eq (length entries % entry_len version) 0) _ t)

-- bytes of the form: some stand, the first names a version, and behind it stands a context
pub formed-some : (bytes : List ℕ) → length bytes ≡ 0 → IsTrue (is_some (pairs_read (context_of bytes))) → ⊥
formed-some bytes e h = true≢false (sym h ∙ ap is_some (sym (read-none bytes e)))

pub formed-version : (bytes : List ℕ) (byte : ℕ) (entries : List ℕ) → bytes ≡ byte ∷ entries → version_of byte ≡ None
    → IsTrue (is_some (pairs_read (context_of bytes))) → ⊥
formed-version bytes byte entries e v h = true≢false (sym h ∙ ap is_some (sym (read-other bytes byte entries e v)))

pub formed-context : (bytes : List ℕ) (byte : ℕ) (version : Version) (entries : List ℕ) → bytes ≡ byte ∷ entries → version_of byte ≡ Some version
    → IsTrue (is_some (pairs_read (context_of bytes))) → is_context version entries ≡ true
formed-context bytes byte version entries e v h = by (is_context version entries) refl
  where
    by : (b : Bool) → is_context version entries ≡ b → is_context version entries ≡ true
    by true t = t
    by false t = absurd (true≢false (sym h ∙ ap is_some (sym (read-malformed bytes byte version entries e v t))))

-- and its entries are whole, and of the form, by the length of an entry that the code divides by
pub formed-entries : (version : Version) (entries : List ℕ) (size : ℕ) → size ≡ entry_len version → is_context version entries ≡ true
    → (length entries ≡ entry_len version * (length entries / size)) × IsTrue (is_well_formed (entries_in version (length entries / size) entries))
formed-entries version entries size s h = (
  count-whole version (length entries) (whole version entries h) ∙ ap (λ n. entry_len version * (length entries / n)) (sym s),
  ap (λ n. is_well_formed (entries_in version (length entries / n) entries)) s ∙ formed version entries h,
)

pub formed-pairs : (bytes : List ℕ) (byte : ℕ) (version : Version) (entries : List ℕ) (size : ℕ) → bytes ≡ byte ∷ entries → version_of byte ≡ Some version
    → size ≡ entry_len version → is_context version entries ≡ true → pairs_read (context_of bytes) ≡ Some (entries_in version (length entries / size) entries)
formed-pairs bytes byte version entries size e v s h =
    sym (read-context bytes byte version entries e v h) ∙ ap (λ n. Some (entries_in version (length entries / n) entries)) (sym s)
