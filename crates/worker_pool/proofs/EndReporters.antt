-- What an end reporter keeps is of one session more.
use Rattle.std.proofs.Common.{◌≡◌, ◌∙◌, ℕ, Bool, true, false, List, [], ◌∷◌, ◌++◌, map, refl, sym, ap, subst}
use Rattle.std.proofs.lemmas.List.{append-nil}
use Rattle.std.specs.Prelude.{◌||◌}
use Rattle.std.specs.List.{AllZip}
use Rattle.gate_node.proofs.Seeing.{prefix_trans}
use Rattle.job_pool.specs.Lists.{Every}
use Rattle.job_pool.specs.declared.worker.NumberedEnd.{NumberedEnd}
use Rattle.gate_node.specs.Asked.{Sight}
use Rattle.gate_node.specs.Gates.{Gates}
use Rattle.gate_node.specs.Merging.{HasSeenAllOf, HaveSeenAllOf}
use Rattle.gate_node.specs.OneHistory.{IsSeen}
use Rattle.gate_node.specs.Passes.{Sights, AllFit, ArePassesOf}
use Rattle.gate_node.specs.Tallies.{GateHistory}
use Rattle.worker_pool.specs.declared.end_sink.SessionEnd.{SessionEnd}
use Rattle.worker_pool.specs.declared.session_service.LeftSession.{LeftSession}
use Rattle.worker_pool.specs.declared.left.Left.{Left}
use Rattle.worker_pool.specs.declared.left.Left.TheVariants.{Ended, Rests}
use Rattle.worker_pool.specs.PausedSessions.{PausedSessionView}
use Rattle.worker_pool.specs.EndReporters.{EndReporterView, EndReporterStands, HaveSeenLeft, HaveSeenOne, ends_in, ends_more, resting_in, rests_more, is_full}

-- one element more, behind the others
pub every_more : {A : Type 0} (P : A → Type 0) (xs : List A) (x : A) → Every P xs → P x → Every P (xs ++ x ∷ [])
every_more P [] x h p = (p, tt)
every_more P (y ∷ xs) x h p = (h.0, every_more P xs x h.1 p)

pub every_by : {A : Type 0} (P Q : A → Type 0) → ((x : A) → P x → Q x) → (xs : List A) → Every P xs → Every Q xs
every_by P Q f [] h = tt
every_by P Q f (x ∷ xs) h = (f x h.0, every_by P Q f xs h.1)

-- of the same gates
pub seen_gates : (more less : List Sight) → AllZip HasSeenAllOf more less → map (λ (pass : Sight). pass.gate) more ≡ map (λ (pass : Sight). pass.gate) less
seen_gates [] [] h = refl
seen_gates [] (other ∷ less) h = absurd h
seen_gates (pass ∷ more) [] h = absurd h
seen_gates (pass ∷ more) (other ∷ less) h = cc (h.0.of_gate, seen_gates more less h.1)

pub seen_through : (a b c : List Sight) → AllZip HasSeenAllOf a b → AllZip HasSeenAllOf b c → AllZip HasSeenAllOf a c
seen_through [] [] c h k = k
seen_through [] (q ∷ b) c h k = absurd h
seen_through (p ∷ a) [] c h k = absurd h
seen_through (p ∷ a) (q ∷ b) [] h k = absurd k
seen_through (p ∷ a) (q ∷ b) (r ∷ c) h k = (record { of_gate = k.0.of_gate ∙ h.0.of_gate; begins = prefix_trans r.prefix q.prefix p.prefix k.0.begins h.0.begins }, seen_through a b c h.1 k.1)

pub or_assoc : (a b c : Bool) → (a || (b || c)) ≡ ((a || b) || c)
or_assoc true b c = refl
or_assoc false b c = refl

pub or_none : (a : Bool) → (a || false) ≡ a
or_none true = refl
or_none false = refl

-- what has seen beginnings of histories has passes before it that have
pub seen_less : (histories : List GateHistory) (more less : List Sight) → AllZip IsSeen histories more → AllZip HasSeenAllOf more less → AllZip IsSeen histories less
seen_less [] [] less h k = k
seen_less [] (p ∷ more) less h k = absurd h
seen_less (history ∷ histories) [] less h k = absurd h
seen_less (history ∷ histories) (p ∷ more) [] h k = absurd k
seen_less (history ∷ histories) (p ∷ more) (q ∷ less) h k = (record { of_gate = k.0.of_gate ∙ h.0.of_gate; begins = prefix_trans q.prefix p.prefix history.events k.0.begins h.0.begins }, seen_less histories more less h.1 k.1)

pub seen_same : (passes : List Sight) → AllZip HasSeenAllOf passes passes
seen_same [] = tt
seen_same (pass ∷ passes) = (record { of_gate = refl; begins = ([], append-nil pass.prefix) }, seen_same passes)

-- passes that have seen as much are of the same gates
pub gates_kept : (gates : Gates) (old new : Sights) → ArePassesOf gates old → HaveSeenAllOf new old → new.fallbacks ≡ old.fallbacks → ArePassesOf gates new
gates_kept gates old new kept mine same = record {
  primaries = seen_gates new.primaries old.primaries mine ∙ kept.primaries;
  fallbacks = subst (λ fs. AllFit gates.fallbacks fs) (sym same) kept.fallbacks;
}

module _ {R W : Type 0} where
  full_more : (told : List (NumberedEnd (LeftSession R W))) (one : NumberedEnd (LeftSession R W)) → is_full (told ++ one ∷ []) ≡ (is_full told || one.end.book_full)
  full_more [] one = or_none one.end.book_full
  full_more (other ∷ told) one = ap (λ b. other.end.book_full || b) (full_more told one) ∙ or_assoc other.end.book_full (is_full told) one.end.book_full

  end_behind : (number : ℕ) (left : Left R W) (xs ys : List (NumberedEnd (SessionEnd R W))) → ends_more number left (xs ++ ys) ≡ ends_more number left xs ++ ys
  end_behind number (Ended ended) xs ys = refl
  end_behind number (Rests session) xs ys = refl

  ends_behind : (told : List (NumberedEnd (LeftSession R W))) (one : NumberedEnd (LeftSession R W)) → ends_in (told ++ one ∷ []) ≡ ends_in told ++ ends_more one.number one.end.left []
  ends_behind [] one = refl
  ends_behind (other ∷ told) one = ap (ends_more other.number other.end.left) (ends_behind told one) ∙ end_behind other.number other.end.left (ends_in told) (ends_more one.number one.end.left [])

  rest_behind : (left : Left R W) (xs ys : List (PausedSessionView R W)) → rests_more left (xs ++ ys) ≡ rests_more left xs ++ ys
  rest_behind (Ended ended) xs ys = refl
  rest_behind (Rests session) xs ys = refl

  rests_behind : (told : List (NumberedEnd (LeftSession R W))) (one : NumberedEnd (LeftSession R W)) → resting_in (told ++ one ∷ []) ≡ resting_in told ++ rests_more one.end.left []
  rests_behind [] one = refl
  rests_behind (other ∷ told) one = ap (rests_more other.end.left) (rests_behind told one) ∙ rest_behind other.end.left (resting_in told) (rests_more one.end.left [])

  left_through : (more less : Sights) (left : Left R W) → HaveSeenAllOf more less → HaveSeenLeft less left → HaveSeenLeft more left
  left_through more less (Ended ended) mine was = seen_through more.primaries less.primaries ended.passes.primaries mine was
  left_through more less (Rests session) mine was = tt

  pub all_through : (more less : Sights) (told : List (NumberedEnd (LeftSession R W))) → HaveSeenAllOf more less → Every (HaveSeenOne less) told → Every (HaveSeenOne more) told
  all_through more less told mine = every_by (HaveSeenOne less) (HaveSeenOne more) (λ one was. left_through more less one.end.left mine was) told

  module _ {K : Type 0} (told : K → List (NumberedEnd (SessionEnd R W))) (gates : Gates) (old new : EndReporterView R W K) (one : NumberedEnd (LeftSession R W)) where
    pub one_more : EndReporterStands told gates old → new.told ≡ old.told ++ one ∷ [] → told new.sink ≡ told old.sink ++ ends_more one.number one.end.left [] → new.resting ≡ old.resting ++ rests_more one.end.left []
        → HaveSeenAllOf new.seen old.seen → HaveSeenLeft new.seen one.end.left → new.seen.fallbacks ≡ old.seen.fallbacks → new.book_full ≡ (old.book_full || one.end.book_full) → EndReporterStands told gates new
    one_more h told_is tells rests mine theirs same full = record {
      tells = ap ends_in told_is ∙ ends_behind old.told one ∙ ap (λ l. l ++ ends_more one.number one.end.left []) h.tells ∙ sym tells;
      rests = ap resting_in told_is ∙ rests_behind old.told one ∙ ap (λ l. l ++ rests_more one.end.left []) h.rests ∙ sym rests;
      kept = gates_kept gates old.seen new.seen h.kept mine same;
      seen = subst (Every (HaveSeenOne new.seen)) (sym told_is) (every_more (HaveSeenOne new.seen) old.told one (all_through new.seen old.seen old.told mine h.seen) theirs);
      full = full ∙ ap (λ b. b || one.end.book_full) h.full ∙ sym (full_more old.told one) ∙ ap is_full (sym told_is);
    }
