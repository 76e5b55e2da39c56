-- The sessions of a run: those of which sinks were told the ends, and those that rest.
use Rattle.std.proofs.Common.{◌≡◌, ◌∙◌, ◌+◌, ℕ, List, [], ◌∷◌, ◌++◌, length, map, arith, refl, sym, ap, subst}
use Rattle.std.proofs.lemmas.List.{length-append, map-append}
use Rattle.std.specs.Prelude.{◌||◌, Bool, true, false, Option, Some, slice_get}
use Rattle.job_pool.specs.Lists.{Every, Pairwise, concat}
use Rattle.job_pool.specs.Turns.{ServedTurn, WorkerTurns, TurnChain, IsChain, firsts_of, lasts_of}
use Rattle.job_pool.specs.Ends.{IsTurnOfGiven, IsTold, told_by, weight_told}
use Rattle.job_pool.specs.declared.worker.NumberedEnd.{NumberedEnd}
use Rattle.node_session.specs.Streams.{SourceView, TargetView}
use Rattle.stats_book.specs.Counting.{both, number_of, sum_of, zeros}
use Rattle.stats_book.specs.declared.quantity.Quantity.{Quantity}
use Rattle.stats_book.specs.declared.quantity.Quantity.TheVariants.{Gets, Puts, Deletes, Refusals, Reaps}
use Rattle.stats_book.specs.declared.totals.Totals.{Totals}
use Rattle.gate_node.specs.Gates.{Gates}
use Rattle.gate_node.specs.Passes.{Sights}
use Rattle.worker_pool.specs.declared.end_sink.SessionEnd.{SessionEnd}
use Rattle.worker_pool.specs.declared.session_service.LeftSession.{LeftSession}
use Rattle.worker_pool.specs.declared.left.EndedSession.{EndedSession}
use Rattle.worker_pool.specs.declared.left.Left.{Left}
use Rattle.worker_pool.specs.declared.left.Left.TheVariants.{Ended, Rests}
use Rattle.worker_pool.specs.Leaving.{IsEndOf, LeavesSession}
use Rattle.worker_pool.specs.Resuming.{RunStep}
use Rattle.worker_pool.specs.Serving.{CountsInOpenSession, RestsWhere}
use Rattle.worker_pool.specs.PausedSessions.{Origin, PausedSessionView}
use Rattle.worker_pool.specs.EndReporters.{EndReporterView, IsCovered, HaveSeenLeft, HaveSeenOne, end_of, ends_in, ends_more, resting_in, rests_more, is_full, are_full, sink_of, resting_of, told_to}
use Rattle.worker_pool.specs.Telling.{ToldSession, RestedSession, IsToldSession, IsRestedSession, told_of, count_told, now_of, count_rested, weight_rested, with_passes}
use Rattle.worker_pool.proofs.EndReporters.{all_through}

pub both_assoc : (a b c : Totals) → both (both a b) c ≡ both a (both b c)
both_assoc a b c =
    let gets : (a.gets + b.gets) + c.gets ≡ a.gets + (b.gets + c.gets) = omega arith in
    let puts : (a.puts + b.puts) + c.puts ≡ a.puts + (b.puts + c.puts) = omega arith in
    let deletes : (a.deletes + b.deletes) + c.deletes ≡ a.deletes + (b.deletes + c.deletes) = omega arith in
    let refusals : (a.refusals + b.refusals) + c.refusals ≡ a.refusals + (b.refusals + c.refusals) = omega arith in
    let reaps : (a.reaps + b.reaps) + c.reaps ≡ a.reaps + (b.reaps + c.reaps) = omega arith in
    λ i. record { gets = gets i; puts = puts i; deletes = deletes i; refusals = refusals i; reaps = reaps i }

both_swap : (a b : Totals) → both a b ≡ both b a
both_swap a b =
    let gets : a.gets + b.gets ≡ b.gets + a.gets = omega arith in
    let puts : a.puts + b.puts ≡ b.puts + a.puts = omega arith in
    let deletes : a.deletes + b.deletes ≡ b.deletes + a.deletes = omega arith in
    let refusals : a.refusals + b.refusals ≡ b.refusals + a.refusals = omega arith in
    let reaps : a.reaps + b.reaps ≡ b.reaps + a.reaps = omega arith in
    λ i. record { gets = gets i; puts = puts i; deletes = deletes i; refusals = refusals i; reaps = reaps i }

pub none_both : (a : Totals) → both zeros a ≡ a
none_both a =
    let gets : 0 + a.gets ≡ a.gets = omega arith in
    let puts : 0 + a.puts ≡ a.puts = omega arith in
    let deletes : 0 + a.deletes ≡ a.deletes = omega arith in
    let refusals : 0 + a.refusals ≡ a.refusals = omega arith in
    let reaps : 0 + a.reaps ≡ a.reaps = omega arith in
    λ i. record { gets = gets i; puts = puts i; deletes = deletes i; refusals = refusals i; reaps = reaps i }

pub both_none : (a : Totals) → both a zeros ≡ a
both_none a = both_swap a zeros ∙ none_both a

-- what one counted goes with those of the first kind, or of the second
with_first : (c a b : Totals) → both c (both a b) ≡ both (both c a) b
with_first c a b = sym (both_assoc c a b)

with_second : (c a b : Totals) → both c (both a b) ≡ both a (both c b)
with_second c a b = sym (both_assoc c a b) ∙ ap (λ (t : Totals). both t b) (both_swap c a) ∙ both_assoc a c b

-- two sums of two kinds are a sum of each kind
two_kinds : (a b c d : Totals) → both (both a b) (both c d) ≡ both (both a c) (both b d)
two_kinds a b c d = both_assoc a b (both c d) ∙ ap (both a) (with_second b c d) ∙ sym (both_assoc a c (both b d))

pub sum_append : (xs ys : List Totals) → sum_of (xs ++ ys) ≡ both (sum_of xs) (sum_of ys)
sum_append [] ys = sym (none_both (sum_of ys))
sum_append (x ∷ xs) ys = ap (both x) (sum_append xs ys) ∙ sym (both_assoc x (sum_of xs) (sum_of ys))

pub number_both : (quantity : Quantity) (a b : Totals) → number_of quantity a + number_of quantity b ≡ number_of quantity (both a b)
number_both Gets a b = refl
number_both Puts a b = refl
number_both Deletes a b = refl
number_both Refusals a b = refl
number_both Reaps a b = refl

every_append : {A : Type 0} (P : A → Type 0) (xs ys : List A) → Every P xs → Every P ys → Every P (xs ++ ys)
every_append P [] ys h k = k
every_append P (x ∷ xs) ys h k = (h.0, every_append P xs ys h.1 k)

or_false : (a b : Bool) → (a || b) ≡ false → (a ≡ false) × (b ≡ false)
or_false true b h = absurd (cc h)
or_false false b h = (refl, h)

weight_append : {E : Type 0} (w : ℕ → ℕ) (xs ys : List (NumberedEnd E)) → weight_told w (xs ++ ys) ≡ weight_told w xs + weight_told w ys
weight_append w [] ys = omega arith
weight_append w (x ∷ xs) ys = let rest = weight_append w xs ys in omega (arith, rest)

module _ {R W : Type 0} where
  weight_rested_append : (w : ℕ → ℕ) (xs ys : List (RestedSession R W)) → weight_rested w (xs ++ ys) ≡ weight_rested w xs + weight_rested w ys
  weight_rested_append w [] ys = omega arith
  weight_rested_append w (x ∷ xs) ys = let rest = weight_rested_append w xs ys in omega (arith, rest)

module _ {R W : Type 0} (may_rest : Type 0) (source : R → SourceView) (target : W → TargetView) (shared : Gates) (given : List (PausedSessionView R W)) (seen : Sights) where
  abbrev Counts : Totals → PausedSessionView R W → Totals → LeftSession R W → Type 0
  Counts = CountsInOpenSession may_rest source target shared

  abbrev IsEnded : ToldSession R W → Type 0
  IsEnded = IsToldSession source target shared given seen

  abbrev IsRested : RestedSession R W → Type 0
  IsRested = IsRestedSession source target shared given may_rest

  -- these sessions were told so, and these rest; these are all, and counted so much
  pub record AreGathered (told : List (NumberedEnd (LeftSession R W))) (tells : List (NumberedEnd (SessionEnd R W))) (resting : List (PausedSessionView R W)) (counted : Totals) : Type 0 where
    pub ended : List (ToldSession R W)
    pub rested : List (RestedSession R W)
    pub tells_are : map told_of ended ≡ tells
    pub each : Every IsEnded ended
    pub rests : map now_of rested ≡ resting
    pub each_rests : Every IsRested rested
    pub weighs : (w : ℕ → ℕ) → weight_told w tells + weight_rested w rested ≡ weight_told w told
    pub many : length ended + length rested ≡ length told
    pub sums : counted ≡ both (sum_of (map count_told ended)) (sum_of (map count_rested rested))

  none_gathered : AreGathered [] [] [] zeros
  none_gathered = record { ended = []; rested = []; tells_are = refl; each = tt; rests = refl; each_rests = tt; weighs = λ w. refl; many = refl; sums = sym (none_both zeros) }

  -- one more in front
  front : (number : ℕ) (session : PausedSessionView R W) (one : NumberedEnd (LeftSession R W)) (left : Left R W) (counted more : Totals) (told : List (NumberedEnd (LeftSession R W))) → one.number ≡ number → slice_get given number ≡ Some session
      → LeavesSession source target shared RunStep session counted false left → RestsWhere may_rest left → HaveSeenLeft seen left
      → AreGathered told (ends_in told) (resting_in told) more → AreGathered (one ∷ told) (ends_more number left (ends_in told)) (rests_more left (resting_in told)) (both counted more)
  front number session one (Ended ended) counted more told named is leaves rests covered h =
      let origin : ended.origin ≡ session.origin = leaves.ends.from in
      let same : ended ≡ with_passes (end_of ended) ended.passes session.origin = ap (λ (o : Origin). with_passes (end_of ended) ended.passes o) origin in
      record {
        ended = record { number = number; session = session; end = end_of ended; passes = ended.passes; counted = counted } ∷ h.ended;
        rested = h.rested;
        tells_are = ap (λ l. record { number = number; end = end_of ended } ∷ l) h.tells_are;
        each = (record { given_as = is; ends = subst (λ (e : EndedSession R W). IsEndOf source target shared RunStep session counted false e) same leaves; covered = covered }, h.each);
        rests = h.rests;
        each_rests = h.each_rests;
        weighs = λ w. let rest = h.weighs w in let here : w one.number ≡ w number = ap w named in omega (arith, rest, here);
        many = let rest = h.many in omega (arith, rest);
        sums = ap (both counted) h.sums ∙ with_first counted (sum_of (map count_told h.ended)) (sum_of (map count_rested h.rested));
      }
  front number session one (Rests now) counted more told named is leaves rests covered h = record {
    ended = h.ended;
    rested = record { number = number; session = session; now = now; counted = counted } ∷ h.rested;
    tells_are = h.tells_are;
    each = h.each;
    rests = ap (λ l. now ∷ l) h.rests;
    each_rests = (record { given_as = is; rests = leaves; allowed = rests }, h.each_rests);
    weighs = λ w. let rest = h.weighs w in let here : w one.number ≡ w number = ap w named in omega (arith, rest, here);
    many = let rest = h.many in omega (arith, rest);
    sums = ap (both counted) h.sums ∙ with_second counted (sum_of (map count_told h.ended)) (sum_of (map count_rested h.rested));
  }

  -- of one worker, which came from the one state to the other
  worker_gathered : (first last : Totals) (turns : List (ServedTurn Totals (PausedSessionView R W) (LeftSession R W))) (told : List (NumberedEnd (LeftSession R W))) → TurnChain Counts first turns last → Pairwise (IsTurnOfGiven given) turns told
      → is_full told ≡ false → Every (HaveSeenOne seen) told → (counted : Totals) × (last ≡ both first counted) × AreGathered told (ends_in told) (resting_in told) counted
  worker_gathered first last [] [] same h whole saw = (zeros, same ∙ sym (both_none first), none_gathered)
  worker_gathered first last [] (one ∷ told) chain h whole saw = absurd h
  worker_gathered first last (turn ∷ turns) [] chain h whole saw = absurd h
  worker_gathered first last (turn ∷ turns) (one ∷ told) chain h whole saw =
      let flags = or_false one.end.book_full (is_full told) whole in
      let rest = worker_gathered turn.after last turns told chain.2 h.1 flags.1 saw.1 in
      let here : Counts turn.before turn.job turn.after one.end = subst (λ (e : LeftSession R W). Counts turn.before turn.job turn.after e) h.0.end chain.1 in
      let leaves = subst (λ (full : Bool). LeavesSession source target shared RunStep turn.job here.counted full one.end.left) flags.0 here.leaves in (
        both here.counted rest.0,
        rest.1 ∙ ap (λ (t : Totals). both t rest.0) (here.raised ∙ ap (λ (t : Totals). both t here.counted) chain.0) ∙ both_assoc first here.counted rest.0,
        front one.number turn.job one one.end.left here.counted rest.0 told refl h.0.at leaves here.rests saw.0 rest.2,
      )

  module _ {K : Type 0} (told : K → List (NumberedEnd (SessionEnd R W))) where
    -- of all workers, each of which began from zero
    pub all_gathered : (shares : List (WorkerTurns Totals (PausedSessionView R W) (LeftSession R W))) (end_reporters : List (EndReporterView R W K)) → Every (λ (first : Totals). first ≡ zeros) (firsts_of shares) → Every (IsChain Counts) shares
        → Pairwise (IsTold told_to given) shares end_reporters → Every (IsCovered told shared seen) end_reporters → are_full end_reporters ≡ false
        → AreGathered (told_by told_to end_reporters) (told_by told (map sink_of end_reporters)) (concat (map resting_of end_reporters)) (sum_of (lasts_of shares))
    all_gathered [] [] zero chained each stand whole = none_gathered
    all_gathered [] (end_reporter ∷ end_reporters) zero chained each stand whole = absurd each
    all_gathered (share ∷ shares) [] zero chained each stand whole = absurd each
    all_gathered (share ∷ shares) (end_reporter ∷ end_reporters) zero chained each stand whole =
        let flags = or_false end_reporter.book_full (are_full end_reporters) whole in
        let rest = all_gathered shares end_reporters zero.1 chained.1 each.1 stand.1 flags.1 in
        let stands = stand.0.stands in
        let saw = all_through seen end_reporter.seen end_reporter.told stand.0.covers stands.seen in
        let own = worker_gathered share.first share.last share.turns end_reporter.told chained.0 each.0 (sym stands.full ∙ flags.0) saw in
        let last : share.last ≡ own.0 = own.1 ∙ ap (λ (t : Totals). both t own.0) zero.0 ∙ none_both own.0 in
        let mine = own.2 in
        record {
          ended = mine.ended ++ rest.ended;
          rested = mine.rested ++ rest.rested;
          tells_are = map-append told_of mine.ended rest.ended ∙ cc (mine.tells_are ∙ stands.tells, rest.tells_are);
          each = every_append IsEnded mine.ended rest.ended mine.each rest.each;
          rests = map-append now_of mine.rested rest.rested ∙ cc (mine.rests ∙ stands.rests, rest.rests);
          each_rests = every_append IsRested mine.rested rest.rested mine.each_rests rest.each_rests;
          weighs = λ w.
              let here = mine.weighs w in
              let there = rest.weighs w in
              let tells : weight_told w (ends_in end_reporter.told) ≡ weight_told w (told end_reporter.sink) = ap (weight_told w) stands.tells in
              let ends = weight_append w (told end_reporter.sink) (told_by told (map sink_of end_reporters)) in
              let all = weight_append w end_reporter.told (told_by told_to end_reporters) in
              let those = weight_rested_append w mine.rested rest.rested in
              omega (arith, here, there, tells, ends, all, those);
          many =
              let here = mine.many in
              let there = rest.many in
              let ends = length-append mine.ended rest.ended in
              let those = length-append mine.rested rest.rested in
              let all = length-append end_reporter.told (told_by told_to end_reporters) in
              omega (arith, here, there, ends, those, all);
          sums =
              let a = sum_of (map count_told mine.ended) in
              let b = sum_of (map count_rested mine.rested) in
              let c = sum_of (map count_told rest.ended) in
              let d = sum_of (map count_rested rest.rested) in
              let first : sum_of (map count_told (mine.ended ++ rest.ended)) ≡ both a c = ap sum_of (map-append count_told mine.ended rest.ended) ∙ sum_append (map count_told mine.ended) (map count_told rest.ended) in
              let second : sum_of (map count_rested (mine.rested ++ rest.rested)) ≡ both b d = ap sum_of (map-append count_rested mine.rested rest.rested) ∙ sum_append (map count_rested mine.rested) (map count_rested rest.rested) in
              cc (last ∙ mine.sums, rest.sums) ∙ two_kinds a b c d ∙ cc (sym first, sym second);
        }
