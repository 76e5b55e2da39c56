-- How a stream is split into frames.
use Rattle.std.proofs.Common.{ℕ, zero, suc, ◌+◌, ◌^◌, ◌<◌, ◌≤◌, ◌⊎◌, inl, inr, List, [], ◌∷◌, ◌++◌, length, drop, refl, sym, ap, subst, ◌∙◌, append_assoc, arith}
use Rattle.std.proofs.lemmas.Bool.{cases_lt}
use Rattle.std.proofs.lemmas.List.{length-drop, get_or-drop, get_or_past}
use Rattle.std.proofs.lemmas.List.Elements.{All-nil, All-cons, All-get_or}
use Rattle.std.specs.List.{flat_map, All}
use Rattle.pb_frame.specs.declared.fault.FrameFault.TheVariants.{Empty, TooLarge}
use Rattle.pb_frame.specs.Message.{CodedMessage, frame, given_length, FitsLimit, BeginsNoFrame, Splits}
use Rattle.pb_frame.specs.Header.{message_at, IsWhole}
use Rattle.pb_frame.proofs.Headers.{IsBytes, whole_front, short_partial, bad_faulty}

-- a whole frame stands at the front, or none does
whole_or_none : (limit : ℕ) (bytes : List ℕ) → limit < 2 ^ 32 → IsBytes bytes → ((end : ℕ) × IsWhole limit bytes end) ⊎ BeginsNoFrame limit bytes
whole_or_none limit bytes lt fits =
    elim (cases_lt (length bytes) 4) [
      | inl few ↦ inr ((short_partial limit bytes lt (λ long. absurd (omega (arith, few, long)))).left)
      | inr four ↦ elim (cases_lt 0 (given_length bytes)) [
        | inr none ↦ inr ((bad_faulty limit bytes Empty lt (four, omega (arith, none))).left)
        | inl some ↦ elim (cases_lt limit (given_length bytes)) [
          | inl large ↦ inr ((bad_faulty limit bytes TooLarge lt (four, large)).left)
          | inr within ↦ elim (cases_lt (length bytes) (given_length bytes + 4)) [
            | inl short ↦ inr ((short_partial limit bytes lt (λ _. (some, within, short))).left)
            | inr whole ↦ inl (given_length bytes + 4, whole_front limit bytes (given_length bytes + 4) fits some within refl whole)
          ]
        ]
      ]
    ]

-- the split of at most n bytes, a frame at a time
split_within : (n limit : ℕ) (stream : List ℕ) → limit < 2 ^ 32 → IsBytes stream → length stream ≤ n
    → (messages : List CodedMessage) × (rest : List ℕ) × Splits limit stream messages rest
split_within zero limit stream lt fits few =
    ([], stream, record { whole = refl; each = All-nil (FitsLimit limit); left = (short_partial limit stream lt (λ long. absurd (omega (arith, few, long)))).left })
split_within (suc n) limit stream lt fits few =
    elim (whole_or_none limit stream lt fits) [
      | inr none ↦ ([], stream, record { whole = refl; each = All-nil (FitsLimit limit); left = none })
      | inl found ↦
          let end = found.0 in
          let first = found.1 in
          let begins : 5 ≤ end = first.begins in
          let ends : end ≤ length stream = first.ends in
          let m = message_at stream end in
          let next = split_within n limit (drop end stream) lt (λ i. subst (λ (b : ℕ). b < 256) (sym (get_or-drop end stream i 0)) (fits (end + i))) (omega (arith, length-drop end stream)) in (
            m ∷ next.0,
            next.1,
            record {
              whole = first.front ∙ ap (λ (t : List ℕ). frame m ++ t) next.2.whole ∙ sym (append_assoc (frame m) (flat_map frame next.0) next.1);
              each = All-cons (FitsLimit limit) m next.0 first.within next.2.each;
              left = next.2.left;
            },
          )
    ]

-- bytes are below 256, also where none stands
bytes_fit : (stream : List ℕ) → All (λ (b : ℕ). b < 2 ^ 8) stream → IsBytes stream
bytes_fit stream each i = elim (cases_lt i (length stream)) [
  | inl within ↦ All-get_or (λ (b : ℕ). b < 2 ^ 8) stream i 0 within each
  | inr over ↦ subst (λ (b : ℕ). b < 256) (sym (get_or_past stream i 0 over)) (omega arith)
]

-- each stream of bytes has a split
pub split_of_bytes : (limit : ℕ) → limit < 2 ^ 32 → (stream : List ℕ) → All (λ (b : ℕ). b < 2 ^ 8) stream
    → (messages : List CodedMessage) × (rest : List ℕ) × Splits limit stream messages rest
split_of_bytes limit lt stream each = split_within (length stream) limit stream lt (bytes_fit stream each) (omega arith)
