-- Of two gates of which each is later than the other both are the same.
use Rattle.std.proofs.Common.{◌≡◌, ◌∙◌, ◌+◌, ℕ, List, [], ◌∷◌, length, arith, ap, refl, sym}
use Rattle.std.specs.Prelude.{Option, Some, None, slice_get, slice_set, zero, suc}
use Rattle.gate_node.specs.Gates.{Gates, HandoffView}
use Rattle.worker_pool.specs.Resuming.{IsOnceDiverted, AreDiverted, IsLater}

abbrev number : {F : Type 0} → (F → ℕ) → Option F → ℕ
number of None = 0
number of (Some x) = of x

-- the numbers of what stands in these places, together
abbrev total : {F : Type 0} → (F → ℕ) → List (Option F) → ℕ
total of [] = 0
total of (x ∷ xs) = number of x + total of xs

module _ {F : Type 0} (of : F → ℕ) (before : Option F) (after : F) (next : of after ≡ number of before + 1) where
  set_more : (xs : List (Option F)) (i : ℕ) → slice_get xs i ≡ Some before → total of (slice_set xs i (Some after)) ≡ total of xs + 1
  set_more [] i is = absurd (cc is)
  set_more (x ∷ xs) zero is =
      let same : x ≡ before = cc is in
      let more : of after ≡ number of x + 1 = next ∙ ap (λ o. number of o + 1) (sym same) in
      let set : total of (slice_set (x ∷ xs) zero (Some after)) ≡ of after + total of xs = refl in
      let was : total of (x ∷ xs) ≡ number of x + total of xs = refl in
      omega (arith, more, set, was)
  set_more (x ∷ xs) (suc i) is =
      let rest = set_more xs i is in
      let set : total of (slice_set (x ∷ xs) (suc i) (Some after)) ≡ number of x + total of (slice_set xs i (Some after)) = refl in
      let was : total of (x ∷ xs) ≡ number of x + total of xs = refl in
      omega (arith, rest, set, was)

-- the numbers of the diversions of all partitions, together
diversions : Gates → ℕ
diversions shared = total (λ fallback. fallback.diversion) shared.fallbacks

module _ (index : ℕ) (old new : Gates) (h : IsOnceDiverted index old new) where
  next_more : (before : Option _) → slice_get old.fallbacks index ≡ Some before → h.handoff.fallback.diversion ≡ number (λ fallback. fallback.diversion) before + 1
  next_more None stood = rw stood at h.handoff.next
  next_more (Some before) stood = rw stood at h.handoff.next

  -- each diversion makes them more
  once_more : diversions new ≡ diversions old + 1
  unfolding diversions
  once_more =
      let d = h.handoff in
      ap (λ (view : HandoffView). total (λ fallback. fallback.diversion) view.fallbacks) d.is ∙ set_more (λ fallback. fallback.diversion) d.before d.fallback (next_more d.before d.stood) old.fallbacks index d.stood

more_through : (indices : List ℕ) (old new : Gates) → AreDiverted indices old new → diversions new ≡ diversions old + length indices
more_through [] old new same = let is = ap diversions same in omega (arith, is)
more_through (index ∷ indices) old new h =
    let one = once_more index old h.0 h.1 in
    let rest = more_through indices h.0 new h.2 in
    omega (arith, one, rest)

none_between : (indices back : List ℕ) (a b : Gates) → AreDiverted indices a b → AreDiverted back b a → b ≡ a
none_between [] back a b same h = same
none_between (index ∷ indices) back a b h k =
    let there = more_through (index ∷ indices) a b h in
    let here = more_through back b a k in
    absurd (omega (arith, there, here))

-- gates of which each became the other are the same
pub later_both : (a b : Gates) → IsLater a b → IsLater b a → b ≡ a
later_both a b h k = none_between h.0 k.0 a b h.1 k.1
