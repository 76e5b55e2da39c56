-- The frame at the front of a stream, by its header.
use Rattle.std.proofs.Common.{◌≡◌, ℕ, zero, suc, ◌+◌, ◌-◌, ◌^◌, ◌<◌, ◌≤◌, List, [], ◌∷◌, ◌++◌, length, get_or, take, drop, refl, sym, ap, subst, ◌∙◌, append_assoc, arith, length-append}
use Rattle.std.specs.Int.{w32, from_be_bytes, byte_at}
use Rattle.std.proofs.lemmas.Nat.{be_bytes_4, from_be_bytes-to_be_bytes_4}
use Rattle.std.proofs.lemmas.List.{take-append-drop, length-drop, length-take-le, drop-drop, get_or-drop, take_at, drop_at, take_rest}
use Rattle.std.proofs.lemmas.List.Elements.{All-head, All-tail}
use Rattle.std.specs.List.{flat_map, All}
use Rattle.pb_frame.specs.declared.fault.FrameFault.{FrameFault}
use Rattle.pb_frame.specs.declared.fault.FrameFault.TheVariants.{Empty, TooLarge, NoMemory}
use Rattle.byteorder.specs.Endian.{big_bytes, big_number}
use Rattle.pb_frame.specs.Message.{CodedMessage, frame, given_length, FitsLimit, IsPartial, IsFaulty, IsShort, IsBadLength, Splits}
use Rattle.pb_frame.specs.Header.{message_at, IsWhole}

-- each is a byte
abbrev pub IsBytes : List ℕ → Type 0
IsBytes bytes = (i : ℕ) → get_or bytes i 0 < 256

-- four bytes are those of their number
four_bytes : (a b c d : ℕ) (rest : List ℕ) → IsBytes (a ∷ b ∷ c ∷ d ∷ rest) → big_bytes 4 (big_number 4 (a ∷ b ∷ c ∷ d ∷ rest)) ≡ a ∷ b ∷ c ∷ d ∷ []
four_bytes a b c d rest fits =
    be_bytes_4 (a ∷ b ∷ c ∷ d ∷ []) (big_number 4 (a ∷ b ∷ c ∷ d ∷ rest)) refl
    (λ i. elim i as (λ i. get_or (a ∷ b ∷ c ∷ d ∷ []) i 0 < 256) [ zero ↦ fits 0 | suc zero ↦ fits 1 | suc (suc zero) ↦ fits 2 | suc (suc (suc zero)) ↦ fits 3 | suc (suc (suc (suc k))) ↦ omega arith ])
    (omega arith)

-- the length of a frame
pub length-frame : (m : CodedMessage) → length (frame m) ≡ length m.body + 5
unfolding frame
length-frame m = omega arith

-- a whole frame at the front, and what stands after it
whole_at : (xs : List ℕ) (k : ℕ) → IsBytes xs → given_length xs ≡ k + 1 → k + 5 ≤ length xs → xs ≡ frame (record { code = get_or xs 4 0; body = take k (drop 5 xs) }) ++ drop (k + 5) xs
unfolding frame given_length
whole_at [] k fits len long = absurd (omega arith)
whole_at (a ∷ []) k fits len long = absurd (omega arith)
whole_at (a ∷ b ∷ []) k fits len long = absurd (omega arith)
whole_at (a ∷ b ∷ c ∷ []) k fits len long = absurd (omega arith)
whole_at (a ∷ b ∷ c ∷ d ∷ []) k fits len long = absurd (omega arith)
whole_at (a ∷ b ∷ c ∷ d ∷ e ∷ ys) k fits len long =
    let room : k ≤ length ys = omega arith in
    let body : length (take k ys) ≡ k = length-take-le k ys room in
    let number : length (take k ys) + 1 ≡ big_number 4 (a ∷ b ∷ c ∷ d ∷ e ∷ ys) = ap (λ (n : ℕ). n + 1) body ∙ sym len in
    let front : big_bytes 4 (length (take k ys) + 1) ≡ a ∷ b ∷ c ∷ d ∷ [] = ap (big_bytes 4) number ∙ four_bytes a b c d (e ∷ ys) fits in
    let five : k + 5 ≡ suc (suc (suc (suc (suc k)))) = omega arith in
    let rest : drop (k + 5) (a ∷ b ∷ c ∷ d ∷ e ∷ ys) ≡ drop k ys = ap (λ (n : ℕ). drop n (a ∷ b ∷ c ∷ d ∷ e ∷ ys)) five in
    let split : a ∷ b ∷ c ∷ d ∷ e ∷ ys ≡ (a ∷ b ∷ c ∷ d ∷ []) ++ (e ∷ (take k ys ++ drop k ys)) = ap (λ (t : List ℕ). a ∷ b ∷ c ∷ d ∷ e ∷ t) (sym (take-append-drop k ys)) in
    split ∙ ap (λ (t : List ℕ). t ++ (e ∷ (take k ys ++ drop k ys))) (sym front)
    ∙ ap (λ (t : List ℕ). big_bytes 4 (length (take k ys) + 1) ++ (e ∷ (take k ys ++ t))) (sym rest)

-- the number in four bytes, the highest first
number_is : (a b c d : ℕ) (rest : List ℕ) → big_number 4 (a ∷ b ∷ c ∷ d ∷ rest) ≡ from_be_bytes w32 (a ∷ b ∷ c ∷ d ∷ [])
number_is a b c d rest = omega arith

-- the length with which a frame begins is its own
pub given_length-frame : (m : CodedMessage) (more : List ℕ) → length m.body + 1 < 2 ^ 32 → given_length (frame m ++ more) ≡ length m.body + 1
unfolding frame given_length
given_length-frame m more lt =
    let n = length m.body + 1 in
    number_is (byte_at 3 n) (byte_at 2 n) (byte_at 1 n) (byte_at 0 n) (m.code ∷ m.body ++ more) ∙ from_be_bytes-to_be_bytes_4 n lt

-- a message by its parts
abbrev pub made : ℕ → List ℕ → CodedMessage
made code body = record { code = code; body = body }

-- messages with the same parts are the same
same_message : (a b : CodedMessage) → a.code ≡ b.code → a.body ≡ b.body → a ≡ b
same_message a b e d = ap (λ (c : ℕ). made c a.body) e ∙ ap (λ (t : List ℕ). made b.code t) d

-- a length that is within the limit, and as many bytes, are a whole frame
pub whole_front : (limit : ℕ) (bytes : List ℕ) (end : ℕ) → IsBytes bytes → 0 < given_length bytes → given_length bytes ≤ limit → end ≡ given_length bytes + 4 → end ≤ length bytes → IsWhole limit bytes end
whole_front limit bytes end fits some within is long =
    let k = end - 5 in
    let five : k + 5 ≡ end = omega arith in
    let body : length (take k (drop 5 bytes)) ≡ k = length-take-le k (drop 5 bytes) (omega (arith, length-drop 5 bytes)) in
    record {
      begins = omega arith;
      ends = long;
      within = omega (arith, body);
      front = whole_at bytes k fits (omega arith) (omega arith) ∙ ap (λ (n : ℕ). frame (message_at bytes end) ++ drop n bytes) five;
    }

-- the frame at place `start`, as it is read there: shown and again are the bytes
pub frame_taken : (limit : ℕ) (bytes shown again : List ℕ) (start n : ℕ) → shown ≡ bytes → again ≡ bytes
    → IsWhole limit (take (length shown - start) (drop start shown)) n
    → (drop start bytes ≡ frame (made (get_or again (start + 4) 0) (take (start + n - (start + 5)) (drop (start + 5) again))) ++ drop (start + n) bytes)
    × FitsLimit limit (made (get_or again (start + 4) 0) (take (start + n - (start + 5)) (drop (start + 5) again)))
frame_taken limit bytes shown again start n is is' whole =
    let xs = drop start bytes in
    let part-is : take (length shown - start) (drop start shown) ≡ xs = ap (λ (b : List ℕ). take (length b - start) (drop start b)) is ∙ take_rest bytes start in
    let here : IsWhole limit xs n = subst (λ (p : List ℕ). IsWhole limit p n) part-is whole in
    let code : get_or xs 4 0 ≡ get_or again (start + 4) 0 = get_or-drop start bytes 4 0 ∙ ap (λ (b : List ℕ). get_or b (start + 4) 0) (sym is') in
    let begins : 5 ≤ n = here.begins in
    let same : n - 5 ≡ start + n - (start + 5) = omega arith in
    let body : take (n - 5) (drop 5 xs) ≡ take (start + n - (start + 5)) (drop (start + 5) again) =
    ap (take (n - 5)) (drop-drop 5 start bytes ∙ ap (drop (start + 5)) (sym is')) ∙ ap (λ (j : ℕ). take j (drop (start + 5) again)) same in
    let message : message_at xs n ≡ made (get_or again (start + 4) 0) (take (start + n - (start + 5)) (drop (start + 5) again)) = same_message _ _ code body in (
      here.front ∙ ap (λ (m : CodedMessage). frame m ++ drop n xs) message ∙ ap (λ (t : List ℕ). frame (made (get_or again (start + 4) 0) (take (start + n - (start + 5)) (drop (start + 5) again))) ++ t) (drop-drop n start bytes),
      subst (FitsLimit limit) message here.within,
    )

-- less than a whole frame begins no frame
pub short_partial : (limit : ℕ) (rest : List ℕ) → limit < 2 ^ 32 → IsShort limit rest → IsPartial limit rest
short_partial limit rest lt short = record {
  left = λ m more within e.
      let len : length rest ≡ length m.body + 5 + length more = ap length e ∙ length-append (frame m) more ∙ ap (λ (n : ℕ). n + length more) (length-frame m) in
      let given : given_length rest ≡ length m.body + 1 = ap given_length e ∙ given_length-frame m more (omega arith) in
      let p = short (omega arith) in
      omega (arith, p.2);
  short = short;
}

-- the length that a stream begins with is in its first four bytes
given_length-more : (bytes more : List ℕ) → 4 ≤ length bytes → given_length (bytes ++ more) ≡ given_length bytes
unfolding given_length
given_length-more [] more four = absurd (omega (arith, four))
given_length-more (a ∷ []) more four = absurd (omega (arith, four))
given_length-more (a ∷ b ∷ []) more four = absurd (omega (arith, four))
given_length-more (a ∷ b ∷ c ∷ []) more four = absurd (omega (arith, four))
given_length-more (a ∷ b ∷ c ∷ d ∷ rest) more four = number_is a b c d (rest ++ more) ∙ sym (number_is a b c d rest)

-- what has come of a frame is no whole frame as long as a byte of it is missing
pub more_partial : (limit : ℕ) (rest more : List ℕ) → limit < 2 ^ 32 → IsPartial limit rest → 4 ≤ length rest → length rest + length more < given_length rest + 4 → IsPartial limit (rest ++ more)
more_partial limit rest more lt p four within =
    let given : given_length (rest ++ more) ≡ given_length rest = given_length-more rest more four in
    let len : length (rest ++ more) ≡ length rest + length more = length-append rest more in
    let known = p.short four in
    short_partial limit (rest ++ more) lt (λ long. (subst (λ (n : ℕ). 0 < n) (sym given) known.0, subst (λ (n : ℕ). n ≤ limit) (sym given) known.1, omega (arith, given, len, within)))

-- a bad length begins no frame
pub bad_faulty : (limit : ℕ) (rest : List ℕ) (fault : FrameFault) → limit < 2 ^ 32 → IsBadLength limit rest fault → IsFaulty limit rest fault
bad_faulty limit rest Empty lt bad = record {
  left = λ m more within e.
      let given : given_length rest ≡ length m.body + 1 = ap given_length e ∙ given_length-frame m more (omega arith) in
      omega (arith, bad.1);
  length = bad;
}
bad_faulty limit rest TooLarge lt bad = record {
  left = λ m more within e.
      let given : given_length rest ≡ length m.body + 1 = ap given_length e ∙ given_length-frame m more (omega arith) in
      omega (arith, bad.1);
  length = bad;
}
bad_faulty limit rest NoMemory lt bad = absurd bad

-- nothing wrong stands in no bytes
pub none_partial : (limit : ℕ) → limit < 2 ^ 32 → IsPartial limit []
none_partial limit lt = short_partial limit [] lt (λ long. absurd (omega arith))

-- two frames within a limit that begin one stream are one
same_frame : (a b : CodedMessage) (x y : List ℕ) → length a.body + 1 < 2 ^ 32 → length b.body + 1 < 2 ^ 32 → frame a ++ x ≡ frame b ++ y → (a ≡ b) × (x ≡ y)
unfolding frame
same_frame a b x y la lb e =
    let len : length a.body ≡ length b.body = omega (arith, sym (given_length-frame a x la) ∙ ap given_length e ∙ given_length-frame b y lb) in
    let tails : a.code ∷ a.body ++ x ≡ b.code ∷ b.body ++ y = ap (drop 4) e in
    let code : a.code ≡ b.code = ap (λ (t : List ℕ). get_or t 0 0) tails in
    let bodies : a.body ++ x ≡ b.body ++ y = ap (drop 1) tails in
    let body : a.body ≡ b.body = sym (take_at a.body x (length a.body) refl) ∙ ap (take (length a.body)) bodies ∙ take_at b.body y (length a.body) (sym len) in
    let rest : x ≡ y = sym (drop_at a.body x (length a.body) refl) ∙ ap (drop (length a.body)) bodies ∙ drop_at b.body y (length a.body) (sym len) in
    (same_message a b code body, rest)

-- what was taken off the front of a stream begins its messages
pub begins_messages : (limit : ℕ) → limit < 2 ^ 32 → (stream : List ℕ) (all some : List CodedMessage) (rest more : List ℕ) → Splits limit stream all rest → stream ≡ flat_map frame some ++ more → All (FitsLimit limit) some
    → (later : List CodedMessage) × (all ≡ some ++ later) × (more ≡ flat_map frame later ++ rest)
begins_messages limit lt stream all [] rest more p e each = (all, refl, sym e ∙ p.whole)
begins_messages limit lt stream [] (b ∷ bs) rest more p e each =
    absurd (p.left b (flat_map frame bs ++ more) (All-head (FitsLimit limit) b bs each) (sym p.whole ∙ e ∙ append_assoc (frame b) (flat_map frame bs) more))
begins_messages limit lt stream (a ∷ ms) (b ∷ bs) rest more p e each =
    let within-a : FitsLimit limit a = All-head (FitsLimit limit) a ms p.each in
    let within-b : FitsLimit limit b = All-head (FitsLimit limit) b bs each in
    let d : frame a ++ (flat_map frame ms ++ rest) ≡ frame b ++ (flat_map frame bs ++ more) =
    sym (append_assoc (frame a) (flat_map frame ms) rest) ∙ sym p.whole ∙ e ∙ append_assoc (frame b) (flat_map frame bs) more in
    let first = same_frame a b (flat_map frame ms ++ rest) (flat_map frame bs ++ more) (omega arith) (omega arith) d in
    let next = begins_messages limit lt (flat_map frame ms ++ rest) ms bs rest more (record { whole = refl; each = All-tail (FitsLimit limit) a ms p.each; left = p.left }) first.1 (All-tail (FitsLimit limit) b bs each) in
    (next.0, ap (λ (m : CodedMessage). m ∷ ms) first.0 ∙ ap (λ (ns : List CodedMessage). b ∷ ns) next.1, next.2)

-- a stream has one split
pub one_reading : (limit : ℕ) → limit < 2 ^ 32 → (stream : List ℕ) (ms bs : List CodedMessage) (x y : List ℕ) → Splits limit stream ms x → Splits limit stream bs y → (ms ≡ bs) × (x ≡ y)
one_reading limit lt stream [] [] x y p q = (refl, sym p.whole ∙ q.whole)
one_reading limit lt stream [] (b ∷ bs) x y p q =
    absurd (p.left b (flat_map frame bs ++ y) (All-head (FitsLimit limit) b bs q.each) (sym p.whole ∙ q.whole ∙ append_assoc (frame b) (flat_map frame bs) y))
one_reading limit lt stream (a ∷ ms) [] x y p q =
    absurd (q.left a (flat_map frame ms ++ x) (All-head (FitsLimit limit) a ms p.each) (sym q.whole ∙ p.whole ∙ append_assoc (frame a) (flat_map frame ms) x))
one_reading limit lt stream (a ∷ ms) (b ∷ bs) x y p q =
    let within-a : FitsLimit limit a = All-head (FitsLimit limit) a ms p.each in
    let within-b : FitsLimit limit b = All-head (FitsLimit limit) b bs q.each in
    let e : frame a ++ (flat_map frame ms ++ x) ≡ frame b ++ (flat_map frame bs ++ y) =
    sym (append_assoc (frame a) (flat_map frame ms) x) ∙ sym p.whole ∙ q.whole ∙ append_assoc (frame b) (flat_map frame bs) y in
    let first = same_frame a b (flat_map frame ms ++ x) (flat_map frame bs ++ y) (omega arith) (omega arith) e in
    let rest = one_reading limit lt (flat_map frame ms ++ x) ms bs x y (record { whole = refl; each = All-tail (FitsLimit limit) a ms p.each; left = p.left })
    (record { whole = first.1; each = All-tail (FitsLimit limit) b bs q.each; left = q.left }) in
    (ap (λ (m : CodedMessage). m ∷ ms) first.0 ∙ ap (λ (ns : List CodedMessage). b ∷ ns) rest.0, rest.1)
