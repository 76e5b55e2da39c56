-- The passes that are kept of fallbacks, and the fallbacks.
use Rattle.std.proofs.Common.{◌≡◌, ◌<◌, ◌∙◌, ℕ, List, [], ◌∷◌, length, replicate, refl, sym, ap, subst, arith, inl}
use Rattle.std.specs.Prelude.{Option, Some, None, Result, Ok, Err, IfOk, true, slice_get, slice_set, zero, suc}
use Rattle.riak_msgs.specs.declared.Reply.{Reply}
use Rattle.stats_book.specs.declared.quantity.Quantity.{Quantity}
use Rattle.std.proofs.lemmas.Bool.{eqb-true}
use Rattle.std.proofs.lemmas.Option.{slice_get_within}
use Rattle.handoff.specs.declared.gates.Fallback.{Fallback}
use Rattle.handoff.specs.Partitions.{AreNone, number_in, number_of}
use Rattle.gate_node.specs.declared.passes.FallbackPass.{FallbackPass}
use Rattle.gate_node.specs.Asked.{Sight}
use Rattle.gate_node.specs.Gates.{Gates}
use Rattle.gate_node.specs.Passes.{Sights, FitsPartition, AllFit, OutliveDiversion, AnswersAtFallback, AnswersBy, FindsClosed, IsClosedBy, IsRenewed, Resumes, is_pass_of, kept_of, places_of}
use Rattle.handoff.proofs.Opened.{none_some}

-- where nothing is kept, that fits
none_fits : (fallback : Option Fallback) (kept : Option FallbackPass) → kept ≡ None → FitsPartition fallback kept
none_fits None kept is = subst (λ k. FitsPartition None k) (sym is) tt
none_fits (Some fallback) kept is = subst (λ k. FitsPartition (Some fallback) k) (sym is) tt

pub none_fit : (fallbacks : List (Option Fallback)) (all : List (Option FallbackPass)) → length all ≡ length fallbacks → AreNone all → AllFit fallbacks all
none_fit [] [] many none = tt
none_fit [] (kept ∷ all) many none = absurd (omega (arith, many))
none_fit (fallback ∷ fallbacks) [] many none = absurd (omega (arith, many))
none_fit (fallback ∷ fallbacks) (kept ∷ all) many none = (none_fits fallback kept none.0, none_fit fallbacks all (omega (arith, many)) none.1)

-- what is kept at an index fits there
pub fit_at : (fallbacks : List (Option Fallback)) (all : List (Option FallbackPass)) (i : ℕ) (f : Option Fallback) (k : Option FallbackPass)
    → AllFit fallbacks all → slice_get fallbacks i ≡ Some f → slice_get all i ≡ Some k → FitsPartition f k
fit_at [] [] i f k fit here there = absurd (none_some f here)
fit_at [] (x ∷ all) i f k fit here there = absurd fit
fit_at (y ∷ ys) [] i f k fit here there = absurd fit
fit_at (y ∷ ys) (x ∷ xs) zero f k fit here there =
    let a : y ≡ f = cc in let b : x ≡ k = cc in subst (λ (o : Option Fallback). FitsPartition o k) a (subst (λ (o : Option FallbackPass). FitsPartition y o) b fit.0)
fit_at (y ∷ ys) (x ∷ xs) (suc i) f k fit here there = fit_at ys xs i f k fit.1 here there

-- another one there that fits
pub fit_set : (fallbacks : List (Option Fallback)) (all : List (Option FallbackPass)) (i : ℕ) (f : Option Fallback) (k : Option FallbackPass)
    → AllFit fallbacks all → slice_get fallbacks i ≡ Some f → FitsPartition f k → AllFit fallbacks (slice_set all i k)
fit_set [] [] i f k fit here one = absurd (none_some f here)
fit_set [] (x ∷ all) i f k fit here one = absurd fit
fit_set (y ∷ ys) [] i f k fit here one = absurd fit
fit_set (y ∷ ys) (x ∷ xs) zero f k fit here one = let a : f ≡ y = cc in (subst (λ (o : Option Fallback). FitsPartition o k) a one, fit.1)
fit_set (y ∷ ys) (x ∷ xs) (suc i) f k fit here one = (fit.0, fit_set ys xs i f k fit.1 here one)

fit_length : (fallbacks : List (Option Fallback)) (all : List (Option FallbackPass)) → AllFit fallbacks all → length all ≡ length fallbacks
fit_length [] [] fit = refl
fit_length [] (x ∷ xs) fit = absurd fit
fit_length (y ∷ ys) [] fit = absurd fit
fit_length (y ∷ ys) (x ∷ xs) fit = let rest = fit_length ys xs fit.1 in omega (arith, rest)

-- the place of a pass of the fallback at an index
pub place_at : (fallbacks : List (Option Fallback)) (all : List (Option FallbackPass)) (i : ℕ) (f : Option Fallback) → AllFit fallbacks all → slice_get fallbacks i ≡ Some f → i < length all
place_at fallbacks all i f fit here =
    let many = fit_length fallbacks all fit in let inside = slice_get_within fallbacks i f here in omega (arith, many, inside)

-- a pass by which a fallback was asked fits
pub answered_fits : (fallback : Fallback) (old new : Option FallbackPass) (Answers : Sight → Sight → Type 0) → AnswersAtFallback fallback old new Answers → FitsPartition (Some fallback) new
answered_fits fallback old new Answers h =
    subst (λ (o : Option FallbackPass). FitsPartition (Some fallback) o) (sym h.kept) (omega arith, (λ same. h.gate ∙ h.of_gate), tt)

pub closed_fits : (fallback : Fallback) (old new : Option FallbackPass) (number : ℕ) → FindsClosed fallback old new number → FitsPartition (Some fallback) new
closed_fits fallback old new number h =
    subst (λ (o : Option FallbackPass). FitsPartition (Some fallback) o) (sym h.kept) (omega arith, (λ same. h.closed.gate ∙ h.of_gate), h.closed.closed)

-- what is kept fits a fallback with a greater number
later_fits : (fallback : Fallback) (earlier : Option Fallback) (kept : Option FallbackPass) → number_of earlier < fallback.diversion → FitsPartition earlier kept → FitsPartition (Some fallback) kept
later_fits fallback None None later fit = tt
later_fits fallback None (Some kept) later fit = absurd fit
later_fits fallback (Some earlier) None later fit = tt
later_fits fallback (Some earlier) (Some kept) later fit =
    let before = fit.0 in
    (omega (arith, before, later), (λ same. absurd (omega (arith, before, later, same))), fit.2)

fit_later : (fallbacks : List (Option Fallback)) (all : List (Option FallbackPass)) (i : ℕ) (fallback : Fallback) → AllFit fallbacks all → number_in (slice_get fallbacks i) < fallback.diversion
    → AllFit (slice_set fallbacks i (Some fallback)) all
fit_later [] [] i fallback fit later = tt
fit_later [] (x ∷ all) i fallback fit later = absurd fit
fit_later (y ∷ ys) [] i fallback fit later = absurd fit
fit_later (y ∷ ys) (x ∷ xs) zero fallback fit later = (later_fits fallback y x later fit.0, fit.1)
fit_later (y ∷ ys) (x ∷ xs) (suc i) fallback fit later = (fit.0, fit_later ys xs i fallback fit.1 later)

pub outlive_diversion : (index : ℕ) (old new : Gates) (passes : Sights) → OutliveDiversion index old new passes
outlive_diversion index old new passes diverted are =
    let next = diverted.next in
    record {
      primaries = are.primaries ∙ sym (ap (λ h. h.gates) diverted.is);
      fallbacks = subst (λ fs. AllFit fs passes.fallbacks) (sym (ap (λ h. h.fallbacks) diverted.is))
          (fit_later old.fallbacks passes.fallbacks index diverted.fallback are.fallbacks (omega (arith, next)));
    }

-- a pass that is kept of this fallback
none_kept : {A : Type 0} (fallback : Fallback) → is_pass_of fallback None ≡ true → A
none_kept fallback h = cc

pub kept_is : (fallback : Fallback) (kept : Option FallbackPass) → FitsPartition (Some fallback) kept → is_pass_of fallback kept ≡ true → IsRenewed fallback kept kept
kept_is fallback None fit is = absurd (none_kept fallback is)
kept_is fallback (Some kept) fit is =
    let same = eqb-true kept.diversion fallback.diversion is in
    let here : Some kept ≡ kept_of fallback kept.pass kept.closed = ap (λ n. Some (record { diversion = n; pass = kept.pass; closed = kept.closed })) same in
    record { pass = kept.pass; closed = kept.closed; is = here; gate = fit.1 same; resumes = inl here; seen = fit.2 }

-- what is kept has this number, this pass and this close
kept_so : (fallback : Fallback) (kept : FallbackPass) (closed : Option ℕ) → kept.diversion ≡ fallback.diversion → kept.closed ≡ closed → Some kept ≡ kept_of fallback kept.pass closed
kept_so fallback kept closed number close = λ i. Some (record { diversion = number i; pass = kept.pass; closed = close i })

-- by a pass that was renewed the fallback answers, or is closed
pub answers_at : (fallback : Fallback) (had : Option FallbackPass) (old new : FallbackPass) (Answers : Sight → Sight → Type 0) → IsRenewed fallback had (Some old) → AnswersBy old new Answers
    → AnswersAtFallback fallback had (Some new) Answers
answers_at fallback had old new Answers renewed h =
    let same : old ≡ record { diversion = fallback.diversion; pass = renewed.pass; closed = renewed.closed } = cc (renewed.is) in
    let pass : renewed.pass ≡ old.pass = sym (ap (λ (k : FallbackPass). k.pass) same) in
    let unclosed : renewed.closed ≡ None = sym (ap (λ (k : FallbackPass). k.closed) same) ∙ h.unclosed in
    record {
      before = old.pass;
      after = new.pass;
      resumes = subst (λ (p : Sight × Option ℕ). Resumes fallback had p.0 p.1) (λ i. (pass i, unclosed i)) renewed.resumes;
      of_gate = sym (ap (λ (p : Sight). p.gate) pass) ∙ renewed.gate;
      gate = h.gate;
      more = h.more;
      answers = h.answers;
      kept = kept_so fallback new None (h.diversion ∙ ap (λ (k : FallbackPass). k.diversion) same) h.still;
    }

pub answers_at_where : {E : Type 0} (fallback : Fallback) (had : Option FallbackPass) (old new : FallbackPass) (result : Result (Reply × Option Quantity) E) (Answers : Reply × Option Quantity → Sight → Sight → Type 0)
    → IsRenewed fallback had (Some old) → IfOk result (λ a. AnswersBy old new (Answers a)) → IfOk result (λ a. AnswersAtFallback fallback had (Some new) (Answers a))
answers_at_where fallback had old new (Ok a) Answers renewed h = answers_at fallback had old new (Answers a) renewed h
answers_at_where fallback had old new (Err e) Answers renewed h = tt

pub closes_at : (fallback : Fallback) (had : Option FallbackPass) (old new : FallbackPass) (number : ℕ) → IsRenewed fallback had (Some old) → IsClosedBy number old new
    → FindsClosed fallback had (Some new) number
closes_at fallback had old new number renewed h =
    let same : old ≡ record { diversion = fallback.diversion; pass = renewed.pass; closed = renewed.closed } = cc (renewed.is) in
    let pass : renewed.pass ≡ old.pass = sym (ap (λ (k : FallbackPass). k.pass) same) in
    let known : renewed.closed ≡ old.closed = sym (ap (λ (k : FallbackPass). k.closed) same) in
    record {
      before = old.pass;
      after = new.pass;
      known = old.closed;
      resumes = subst (λ (p : Sight × Option ℕ). Resumes fallback had p.0 p.1) (λ i. (pass i, known i)) renewed.resumes;
      of_gate = sym (ap (λ (p : Sight). p.gate) pass) ∙ renewed.gate;
      closed = h.closed;
      stays = h.stays;
      kept = kept_so fallback new (Some number) (h.diversion ∙ ap (λ (k : FallbackPass). k.diversion) same) h.kept;
    }

nones : (places : List (Option FallbackPass)) → AreNone places → places ≡ replicate (length places) None
nones [] none = refl
nones (place ∷ places) none = λ i. none.0 i ∷ nones places none.1 i

-- places that were made and have no pass show what those show that weren't made
pub made_same : (size : ℕ) (made old : List (Option FallbackPass)) → AreNone made → length made ≡ size → length old ≡ 0 → places_of size made ≡ places_of size old
made_same size [] [] none is unmade = refl
made_same size (place ∷ places) [] none is unmade = nones (place ∷ places) none ∙ ap (λ n. replicate n None) is
made_same size made (place ∷ places) none is unmade = absurd (omega (arith, unmade))

-- and these show none
pub unmade_none : (size : ℕ) → AreNone {A = FallbackPass} (replicate size None)
unmade_none zero = tt
unmade_none (suc size) = (refl, unmade_none size)
