-- Gates that were made round new vnodes, and fallbacks by their index.
use Rattle.std.proofs.Common.{◌≡◌, ◌∙◌, ◌+◌, ◌<◌, ◌≤◌, ◌^◌, ℕ, List, [], ◌∷◌, ◌++◌, length, refl, sym, ap, subst, arith}
use Rattle.std.specs.Prelude.{Option, Some, None, IfSome, IsSome, MatchOption, slice_get, slice_set, get_or, zero, suc}
use Rattle.std.proofs.lemmas.Option.{slice_get-get_or, slice_get_within}
use Rattle.ring_map.specs.Ring.{id_of}
use Rattle.rw_gate.specs.Views.{GateId}
use Rattle.vnode_machine.specs.Replay.{IsWithinLimits}
use Rattle.vnode_core.specs.Plans.{View}
use Rattle.vnode_core.specs.Events.{IsMadeNew}
use Rattle.handoff.specs.declared.gates.Fallback.{Fallback}
use Rattle.handoff.specs.Partitions.{HandoffView, AreMadeNew, AreNone, AreOfNewRun, BeginsBehind, IsDiverted, IsFallback, AreFallbacks, fallback_id, number_in, number_of}
use Rattle.handoff.specs.Sights.{Sight, ClosedBehind, IsOfVnode}
use Rattle.handoff.specs.Started.{IsStartOf}
pub use Rattle.std.proofs.lemmas.Option.{none-some as none_some}

-- one gate more
pub made_new_push : (run index : ℕ) (gates : List (GateId View)) (gate : GateId View) → AreMadeNew run index gates → IsMadeNew (id_of run (index + length gates)) 0 gate
    → AreMadeNew run index (gates ++ gate ∷ [])
made_new_push run index [] gate all one = (subst (λ n. IsMadeNew (id_of run n) 0 gate) (omega arith) one, tt)
made_new_push run index (g ∷ gates) gate all one =
    let next : index + length (g ∷ gates) ≡ (index + 1) + length gates = omega arith in
    (all.0, made_new_push run (index + 1) gates gate all.1 (subst (λ n. IsMadeNew (id_of run n) 0 gate) next one))

-- one place more at which nothing stands
pub none_push : {A : Type 0} (all : List (Option A)) → AreNone all → AreNone (all ++ None ∷ [])
none_push [] h = (refl, tt)
none_push (x ∷ all) h = (h.0, none_push all h.1)

-- where no partition is diverted there is nothing to say of fallbacks
pub none_fallbacks : (run index : ℕ) (all : List (Option Fallback)) → AreNone all → AreFallbacks run index all
none_fallbacks run index [] h = tt
none_fallbacks run index (x ∷ all) h = (subst (λ (o : Option Fallback). IfSome o (IsFallback run index)) (sym h.0) tt, none_fallbacks run (index + 1) all h.1)

-- another fallback at an index
pub fallbacks_set : (run index i : ℕ) (all : List (Option Fallback)) (fallback : Option Fallback) → AreFallbacks run index all → IfSome fallback (IsFallback run (index + i))
    → AreFallbacks run index (slice_set all i fallback)
fallbacks_set run index i [] fallback all one = tt
fallbacks_set run index zero (x ∷ xs) fallback all one = (subst (λ n. IfSome fallback (IsFallback run n)) (omega arith) one, all.1)
fallbacks_set run index (suc i) (x ∷ xs) fallback all one =
    let next : index + suc i ≡ (index + 1) + i = omega arith in
    (all.0, fallbacks_set run (index + 1) i xs fallback all.1 (subst (λ n. IfSome fallback (IsFallback run n)) next one))

pub fallbacks_get : (run index i : ℕ) (all : List (Option Fallback)) (fallback : Option Fallback) → AreFallbacks run index all → slice_get all i ≡ Some fallback → IfSome fallback (IsFallback run (index + i))
fallbacks_get run index i [] fallback all at = absurd (none_some fallback at)
fallbacks_get run index zero (x ∷ xs) fallback all at =
    let same : x ≡ fallback = cc in
    let here : index ≡ index + 0 = omega arith in
    subst (λ (o : Option Fallback). IfSome o (IsFallback run (index + 0))) same (subst (λ n. IfSome x (IsFallback run n)) here all.0)
fallbacks_get run index (suc i) (x ∷ xs) fallback all at =
    let next : (index + 1) + i ≡ index + suc i = omega arith in
    subst (λ n. IfSome fallback (IsFallback run n)) next (fallbacks_get run (index + 1) i xs fallback all.1 at)

-- the fallback at an index
pub fallback_there : (run i : ℕ) (all : List (Option Fallback)) (fallback : Option Fallback) → AreFallbacks run 0 all → slice_get all i ≡ Some fallback → IfSome fallback (IsFallback run i)
fallback_there run i all fallback are at =
    let here : 0 + i ≡ i = omega arith in
    subst (λ n. IfSome fallback (IsFallback run n)) here (fallbacks_get run 0 i all fallback are at)

-- the first diversion begins behind no epoch
first-epoch : (run index number last_epoch : ℕ) (before : Option Fallback) (seen : Option Sight) → IfSome before (IsFallback run index) → number ≡ number_of before + 1 → BeginsBehind before seen last_epoch → number ≡ 1
    → last_epoch ≡ 0
first-epoch run index number last_epoch None seen was next begins is = begins.1
first-epoch run index number last_epoch (Some before) seen was next begins is = let numbered = was.numbered in absurd (omega (arith, next, numbered, is))

-- a later one behind the last epoch of a vnode that was seen closed
abbrev BeginsBy : (last_epoch : ℕ) → Option Sight → Type 0
BeginsBy last_epoch seen = MatchOption seen (last_epoch ≡ 0) (λ pass. ClosedBehind pass last_epoch)

begins-by : (last_epoch : ℕ) (before : Option Fallback) (seen : Option Sight) → BeginsBehind before seen last_epoch → BeginsBy last_epoch seen
begins-by last_epoch None seen begins = subst (BeginsBy last_epoch) (sym begins.0) begins.1
begins-by last_epoch (Some before) seen begins = subst (BeginsBy last_epoch) (sym begins.1) begins.3

-- the fallback of a partition's next diversion
pub next-fallback : (run index number last_epoch : ℕ) (before : Option Fallback) (seen : Option Sight) (fallback : Fallback) → IfSome before (IsFallback run index) → number ≡ number_of before + 1
    → BeginsBehind before seen last_epoch → fallback.diversion ≡ number → fallback.before ≡ seen → IsMadeNew (fallback_id run index) last_epoch fallback.gate → IsWithinLimits (fallback_id run index) last_epoch
    → IsFallback run index fallback
next-fallback run index number last_epoch before seen fallback was next begins same kept made limits = record {
  numbered = omega (arith, next, same);
  last_epoch = last_epoch;
  first = λ is. first-epoch run index number last_epoch before seen was next begins (sym same ∙ is);
  begins = subst (BeginsBy last_epoch) (sym kept) (begins-by last_epoch before seen begins);
  made_new = made;
  limits = limits;
}

-- so the partition is diverted
pub next-diverted : (index number last_epoch : ℕ) (old new : HandoffView) (before : Option Fallback) (seen : Option Sight) (fallback : Fallback) → IfSome before (IsFallback old.run index) → number ≡ number_of before + 1
    → BeginsBehind before seen last_epoch → fallback.diversion ≡ number → fallback.before ≡ seen → IsMadeNew (fallback_id old.run index) last_epoch fallback.gate → IsWithinLimits (fallback_id old.run index) last_epoch
    → slice_get old.fallbacks index ≡ Some before
    → ((primary : GateId View) → slice_get old.gates index ≡ Some primary → IfSome fallback.start (IsStartOf primary)) → new ≡ record old { fallbacks = slice_set old.fallbacks index (Some fallback) } → IsDiverted index old new
next-diverted index number last_epoch old new before seen fallback was next begins same kept made limits stood start is = record {
  before = before;
  stood = stood;
  fallback = fallback;
  next = same ∙ next ∙ sym (ap (λ o. number_in o + 1) stood);
  is_new = record {
    numbered = omega (arith, next, same);
    last_epoch = last_epoch;
    first = λ is. first-epoch old.run index number last_epoch before seen was next begins (sym same ∙ is);
    begins = subst (BeginsBy last_epoch) (sym kept) (begins-by last_epoch before seen begins);
    made_new = made;
    limits = limits;
  };
  begins = subst (λ (o : Option Sight). BeginsBehind before o last_epoch) (sym kept) begins;
  start = start;
  is = is;
}

-- what a list has at an index within it
pub got : {A : Type 0} (xs : List A) (i : ℕ) (x : A) → i < length xs → x ≡ get_or xs i x → slice_get xs i ≡ Some x
got xs i x within is = slice_get-get_or xs i x within ∙ ap (λ y. Some y) (sym is)

-- what is known to be there
pub some-of : {A : Type 0} (o : Option A) → IsSome o → (x : A) × (o ≡ Some x)
some-of None is = cc
some-of (Some x) is = (x, refl)

made_new_at : (run index i : ℕ) (gates : List (GateId View)) (gate : GateId View) → AreMadeNew run index gates → slice_get gates i ≡ Some gate → IsMadeNew (id_of run (index + i)) 0 gate
made_new_at run index i [] gate all at = absurd (none_some gate at)
made_new_at run index zero (g ∷ gates) gate all at =
    let same : g ≡ gate = cc in
    let here : index ≡ index + 0 = omega arith in
    subst (λ (x : GateId View). IsMadeNew (id_of run (index + 0)) 0 x) same (subst (λ n. IsMadeNew (id_of run n) 0 g) here all.0)
made_new_at run index (suc i) (g ∷ gates) gate all at =
    let next : (index + 1) + i ≡ index + suc i = omega arith in subst (λ n. IsMadeNew (id_of run n) 0 gate) next (made_new_at run (index + 1) i gates gate all.1 at)

-- the ids of a run's vnodes
limits_at : (run size index : ℕ) → run < 2 ^ 32 → size ≤ 1024 → index < size → IsWithinLimits (id_of run index) 0
limits_at run size index fits few inside = (omega (arith, fits, few, inside), omega arith)

-- the gate at an index of a new run
pub new_at : (run : ℕ) (gates : List (GateId View)) → AreOfNewRun run gates → (index : ℕ) (gate : GateId View) → slice_get gates index ≡ Some gate → IsMadeNew (id_of run index) 0 gate × IsWithinLimits (id_of run index) 0
new_at run gates new index gate at =
    let here : 0 + index ≡ index = omega arith in (
      subst (λ n. IsMadeNew (id_of run n) 0 gate) here (made_new_at run 0 index gates gate new.made_new at),
      limits_at run (length gates) index new.fits new.few (slice_get_within gates index gate at),
    )

-- so it was made round a vnode
pub new_vnode_at : (run : ℕ) (gates : List (GateId View)) → AreOfNewRun run gates → (index : ℕ) (gate : GateId View) → slice_get gates index ≡ Some gate → IsOfVnode gate
new_vnode_at run gates new index gate at = let here = new_at run gates new index gate at in record { id = id_of run index; last_epoch = 0; made_new = here.0; limits = here.1 }
