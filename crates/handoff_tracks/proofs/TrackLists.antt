-- The tracks of all partitions, where one goes on.
use Rattle.std.proofs.Common.{◌≡◌, ◌∙◌, ◌+◌, ◌^◌, ◌<◌, ◌++◌, ℕ, zero, suc, List, [], ◌∷◌, length, refl, sym, ap, subst, arith, inl, inr}
use Rattle.std.specs.Prelude.{Option, Some, None, slice_get, slice_set}
use Rattle.std.proofs.lemmas.Bool.{cases_eq}
use Rattle.handoff.proofs.Returns.{set-here}
use Rattle.handoff.specs.declared.gates.Fallback.{Fallback}
use Rattle.handoff.specs.Partitions.{AreNone, AreOfNewRun, HandoffView, IsDiverted}
use Rattle.handoff_tracks.specs.declared.track.HandoffTrack.{HandoffTrack}
use Rattle.handoff_tracks.specs.declared.track.HandoffTrack.TheVariants.{AtPrimary, Unknown}
use Rattle.handoff_tracks.specs.Tracks.{AreTracks, AreUndiverted, HaveTracks, IsTrack}
use Rattle.handoff_tracks.proofs.Tracks.{set_apart, stays}

-- the tracks of all partitions, where one was set
pub tracks_set : (handoff : HandoffView) (tracks : List HandoffTrack) (index : ℕ) (old new : HandoffTrack) → slice_get tracks index ≡ Some old → IsTrack handoff index new → AreTracks handoff tracks
    → AreTracks handoff (slice_set tracks index new)
tracks_set handoff tracks index old new stood is are at track there = elim (cases_eq at index) [
  | inl same ↦ (
      let here : slice_get (slice_set tracks index new) at ≡ Some new = subst (λ k. slice_get (slice_set tracks index new) k ≡ Some new) (sym same) (set-here tracks index old new stood) in
      let its : new ≡ track = cc (sym here ∙ there) in
      subst (IsTrack handoff at) its (subst (λ k. IsTrack handoff k new) (sym same) is))
  | inr apart ↦ are at track (sym (set_apart tracks index at new apart) ∙ there)
]

-- so where a partition was diverted
pub tracks_diverted : (old new : HandoffView) (tracks : List HandoffTrack) (index : ℕ) (was track : HandoffTrack) → slice_get tracks index ≡ Some was → IsDiverted index old new → IsTrack new index track → AreTracks old tracks
    → AreTracks new (slice_set tracks index track)
tracks_diverted old new tracks index was track stood diverted is are at one there = elim (cases_eq at index) [
  | inl same ↦ (
      let here : slice_get (slice_set tracks index track) at ≡ Some track = subst (λ k. slice_get (slice_set tracks index track) k ≡ Some track) (sym same) (set-here tracks index was track stood) in
      let its : track ≡ one = cc (sym here ∙ there) in
      subst (IsTrack new at) its (subst (λ k. IsTrack new k track) (sym same) is))
  | inr apart ↦ stays at index old new one diverted apart (are at one (sym (set_apart tracks index at track apart) ∙ there))
]

-- where none was diverted
none_at : (all : List (Option Fallback)) (i : ℕ) → AreNone all → i < length all → slice_get all i ≡ Some None
none_at [] i none lt = absurd (omega (arith, lt))
none_at (place ∷ all) zero none lt = ap (λ p. Some p) none.0
none_at (place ∷ all) (suc i) none lt = none_at all i none.1 (omega (arith, lt))

some_at : {A : Type 0} (all : List A) (i : ℕ) → i < length all → (x : A) × (slice_get all i ≡ Some x)
some_at [] i lt = absurd (omega (arith, lt))
some_at (x ∷ all) zero lt = (x, refl)
some_at (x ∷ all) (suc i) lt = some_at all i (omega (arith, lt))

below : {A : Type 0} (all : List A) (i : ℕ) (x : A) → slice_get all i ≡ Some x → i < length all
below [] i x at = cc at
below (y ∷ all) zero x at = omega arith
below (y ∷ all) (suc i) x at = let rest = below all i x at in omega (arith, rest)

pub undiverted_push : (tracks : List HandoffTrack) → AreUndiverted tracks → AreUndiverted (tracks ++ AtPrimary None ∷ [])
undiverted_push [] are = (refl, tt)
undiverted_push (track ∷ tracks) are = (are.0, undiverted_push tracks are.1)

undiverted_at : (tracks : List HandoffTrack) (i : ℕ) (track : HandoffTrack) → AreUndiverted tracks → slice_get tracks i ≡ Some track → track ≡ AtPrimary None
undiverted_at [] i track are at = cc at
undiverted_at (one ∷ tracks) zero track are at = let same : one ≡ track = cc at in sym same ∙ are.0
undiverted_at (one ∷ tracks) (suc i) track are at = undiverted_at tracks i track are.1 at

pub new_tracks_are : (handoff : HandoffView) (tracks : List HandoffTrack) → AreNone handoff.fallbacks → AreUndiverted tracks → length tracks ≡ length handoff.gates → length tracks ≡ length handoff.fallbacks
    → AreTracks handoff tracks
new_tracks_are handoff tracks none are gates places index track at =
    let lt = below tracks index track at in
    let primary = some_at handoff.gates index (omega (arith, lt, gates)) in
    subst (IsTrack handoff index) (sym (undiverted_at tracks index track are at)) (record {
      returns = record {
        primary = primary.0;
        stands = primary.1;
        diversions = [];
        returned = tt;
        ended = tt;
        last = tt;
      };
      stands = none_at handoff.fallbacks index none (omega (arith, lt, places));
    })

length_set : {A : Type 0} (xs : List A) (i : ℕ) (y : A) → length (slice_set xs i y) ≡ length xs
length_set [] i y = refl
length_set (x ∷ xs) zero y = refl
length_set (x ∷ xs) (suc i) y = ap (λ n. suc n) (length_set xs i y)

-- a track was taken, and another is kept in its place
pub have_taken : (handoff : HandoffView) (tracks mid : List HandoffTrack) (index : ℕ) (was : HandoffTrack) → HaveTracks handoff tracks → slice_get tracks index ≡ Some was → mid ≡ slice_set tracks index Unknown
    → HaveTracks handoff mid
have_taken handoff tracks mid index was have stood taken = record {
  tracked = subst (AreTracks handoff) (sym taken) (tracks_set handoff tracks index was Unknown stood tt have.tracked);
  size = ap length taken ∙ (length_set tracks index Unknown ∙ have.size);
  of_run = have.of_run;
}

taken_at : (tracks mid : List HandoffTrack) (index : ℕ) (was : HandoffTrack) → slice_get tracks index ≡ Some was → mid ≡ slice_set tracks index Unknown → slice_get mid index ≡ Some Unknown
taken_at tracks mid index was stood taken = subst (λ ts. slice_get ts index ≡ Some Unknown) (sym taken) (set-here tracks index was Unknown stood)

pub have_kept : (handoff : HandoffView) (tracks mid after : List HandoffTrack) (index : ℕ) (was track : HandoffTrack) → HaveTracks handoff tracks → slice_get tracks index ≡ Some was → mid ≡ slice_set tracks index Unknown
    → after ≡ slice_set mid index track → IsTrack handoff index track → HaveTracks handoff after
have_kept handoff tracks mid after index was track have stood taken kept is =
    let between = have_taken handoff tracks mid index was have stood taken in
    record {
      tracked = subst (AreTracks handoff) (sym kept) (tracks_set handoff mid index Unknown track (taken_at tracks mid index was stood taken) is between.tracked);
      size = ap length kept ∙ (length_set mid index track ∙ between.size);
      of_run = have.of_run;
    }

-- so where a partition was diverted meanwhile
pub have_begun : (old new : HandoffView) (tracks mid after : List HandoffTrack) (index : ℕ) (was track : HandoffTrack) → HaveTracks old tracks → slice_get tracks index ≡ Some was → mid ≡ slice_set tracks index Unknown
    → after ≡ slice_set mid index track → IsDiverted index old new → IsTrack new index track → HaveTracks new after
have_begun old new tracks mid after index was track have stood taken kept diverted is =
    let between = have_taken old tracks mid index was have stood taken in
    record {
      tracked = subst (AreTracks new) (sym kept) (tracks_diverted old new mid index Unknown track (taken_at tracks mid index was stood taken) diverted is between.tracked);
      size = subst (λ (view : HandoffView). length after ≡ 2 ^ view.index_bits) (sym diverted.is) (ap length kept ∙ (length_set mid index track ∙ between.size));
      of_run = subst (λ (view : HandoffView). AreOfNewRun view.run view.gates) (sym diverted.is) have.of_run;
    }
