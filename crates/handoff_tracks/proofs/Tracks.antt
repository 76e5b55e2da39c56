-- How what is known of a partition's diversions goes on.
use Rattle.std.proofs.Common.{◌≡◌, ◌≢◌, ◌∙◌, ◌+◌, ◌≤◌, ◌<◌, ◌++◌, ℕ, zero, suc, List, [], ◌∷◌, length, length-append, refl, sym, ap, subst, arith}
use Rattle.std.specs.Prelude.{Option, Some, None, IfSome, MatchOption, slice_get, slice_set}
use Rattle.std.proofs.lemmas.List.{append-nil}
use mathlib.Core.List.{IsPrefix}
use Rattle.handoff.specs.declared.copying.Copied.{Copied as CopyBack}
use Rattle.handoff.specs.declared.fault.Returned.{Returned}
use Rattle.handoff.specs.declared.gates.Fallback.{Fallback}
use Rattle.handoff.specs.declared.gates.Start.{Start}
use Rattle.handoff.proofs.Returns.{gate-is, gate-there, set-here, prefix_shorter, prefix_trans}
use Rattle.handoff.specs.Copying.{CopiesBack, IsCopiedBack}
use Rattle.handoff.specs.Joined.{CopyInTurn, keys_copied}
use Rattle.handoff.specs.Partitions.{BeginsBehind, GateId, HandoffView, IsDiverted, View}
use Rattle.handoff.specs.Returning.{HasReturned}
use Rattle.handoff.specs.Running.{Diversion, HasReturnedBehind, HaveReturned, commands_in, counted_here, last_fallback, seen_here, seen_there}
use Rattle.handoff.specs.Sights.{Entry, Sight}
use Rattle.handoff_tracks.specs.declared.track.Copies.{Copies}
use Rattle.handoff_tracks.specs.declared.track.LastReturn.{LastReturn}
use Rattle.handoff_tracks.specs.declared.track.HandoffTrack.{HandoffTrack}
use Rattle.handoff_tracks.specs.declared.track.HandoffTrack.TheVariants.{AtPrimary, AtFallback, Unknown}
use Rattle.handoff_tracks.specs.Compared.{CanCopy, CanEnd, CopiesGates, EndsBehind, Follows, HaveSameGates, IsBehind, IsReturnOf, KeepsGates, returned_by}
use Rattle.handoff_tracks.specs.Tracks.{AreUpTo, EndedOver, IsAtFallback, IsAtPrimary, IsTrack, KeepsLast, ReturnsOf, WereMade, end_of}

some_is : {A : Type 0} (x y : A) → Some x ≡ Some y → x ≡ y
some_is x y same = cc same

whole : {A : Type 0} (xs : List A) → IsPrefix xs xs
whole xs = ([], append-nil xs)

module _ (primary : GateId View) (fallback : Fallback) where
  -- calls that one sight has seen the end of, another that has seen no less has, too
  widen : (mine mine' : Sight) (before before' : List Entry) (from : ℕ) (calls : List CopyBack) → IsPrefix mine.prefix mine'.prefix → IsPrefix before before'
      → CopyInTurn primary fallback mine before from calls → CopyInTurn primary fallback mine' before' from calls
  widen mine mine' before before' from [] here there turns = tt
  widen mine mine' before before' from (call ∷ calls) here there turns = (
    turns.0,
    turns.1,
    prefix_trans call.primary.prefix mine.prefix mine'.prefix turns.2 here,
    prefix_trans call.fallback.prefix before before' turns.3 there,
    widen mine mine' before before' (length call.primary.prefix) calls here there turns.4,
  )

  -- they began behind fewer
  lower : (mine : Sight) (before : List Entry) (from from' : ℕ) (calls : List CopyBack) → from' ≤ from → CopyInTurn primary fallback mine before from calls → CopyInTurn primary fallback mine before from' calls
  lower mine before from from' [] le turns = tt
  lower mine before from from' (call ∷ calls) le turns = let began = turns.1 in (turns.0, omega (arith, le, began), turns.2, turns.3, turns.4)

  -- one call more
  one_more : (mine : Sight) (before : List Entry) (from : ℕ) (calls : List CopyBack) (call : CopyBack) (budget : ℕ) → CopiesBack primary fallback budget call → end_of from calls ≤ call.began
      → IsPrefix call.primary.prefix mine.prefix → IsPrefix call.fallback.prefix before
      → CopyInTurn primary fallback mine before from calls → CopyInTurn primary fallback mine before from (calls ++ call ∷ [])
  one_more mine before from [] call budget made le here there turns = ((budget, made), le, here, there, tt)
  one_more mine before from (one ∷ calls) call budget made le here there turns = (
    turns.0,
    turns.1,
    turns.2,
    turns.3,
    one_more mine before (length one.primary.prefix) calls call budget made le here there turns.4,
  )

  ends_with : (from : ℕ) (calls : List CopyBack) (call : CopyBack) → end_of from (calls ++ call ∷ []) ≡ length call.primary.prefix
  ends_with from [] call = refl
  ends_with from (one ∷ calls) call = ends_with (length one.primary.prefix) calls call

  copied_with : (calls : List CopyBack) (call : CopyBack) → keys_copied (calls ++ call ∷ []) ≡ keys_copied calls + call.keys
  copied_with [] call = omega arith
  copied_with (one ∷ calls) call = let rest = copied_with calls call in omega (arith, rest)

  -- a call is the last of these and itself, where it is behind the one before
  up_to : (from begins : ℕ) (kept : Option CopyBack) (next : CopyBack) (budget : ℕ) (calls : List CopyBack)
      → MatchOption kept (calls ≡ []) (λ last. AreUpTo primary fallback from last calls) → MatchOption kept (begins ≡ next.began) (λ first. (begins ≡ from) × IsBehind first next)
      → CopiesBack primary fallback budget next → AreUpTo primary fallback begins next (calls ++ next ∷ [])
  up_to from begins None next budget calls none is made = subst (λ cs. AreUpTo primary fallback begins next (cs ++ next ∷ [])) (sym none) (record {
    turns = ((budget, made), omega (arith, is), whole next.primary.prefix, whole next.fallback.prefix, tt);
    ends = refl;
    gate = made.gate;
    gate_there = made.gate_there;
  })
  up_to from begins (Some last) next budget calls were (same, behind) made =
      let ends = were.ends in
      let began = behind.began in
      let wider = widen last.primary next.primary last.fallback.prefix next.fallback.prefix from calls behind.here behind.there were.turns in
      let more = one_more next.primary next.fallback.prefix from calls next budget made (omega (arith, ends, began)) (whole next.primary.prefix) (whole next.fallback.prefix) wider in
      record {
        turns = subst (λ n. CopyInTurn primary fallback next.primary next.fallback.prefix n (calls ++ next ∷ [])) (sym same) more;
        ends = ends_with begins calls next;
        gate = made.gate;
        gate_there = made.gate_there;
      }

  pub more_made : (copies after : Copies) (next : CopyBack) (budget : ℕ) (calls : List CopyBack) → after.keys ≡ copies.keys + next.keys → after.last ≡ Some next
      → MatchOption copies.last (after.from ≡ next.began) (λ first. (after.from ≡ copies.from) × IsBehind first next)
      → WereMade primary fallback copies calls → CopiesBack primary fallback budget next → WereMade primary fallback after (calls ++ next ∷ [])
  more_made copies after next budget calls keys last behind were made =
      let more = copied_with calls next in
      let had = were.keys in
      record {
        keys = omega (arith, keys, more, had);
        calls_are = subst (λ l. MatchOption l (calls ++ next ∷ [] ≡ []) (λ one. AreUpTo primary fallback after.from one (calls ++ next ∷ []))) (sym last)
            (up_to copies.from after.from copies.last next budget calls were.calls_are behind made);
      }

-- a pass that has seen less than all begins what came before the last
before_last : {A : Type 0} (xs ys : List A) (y : A) → IsPrefix xs (ys ++ y ∷ []) → length xs < length (ys ++ y ∷ []) → IsPrefix xs ys
before_last xs ys y begins lt =
    let size = length-append ys (y ∷ []) in
    prefix_shorter xs ys (ys ++ y ∷ []) begins (y ∷ [], refl) (omega (arith, size, lt))

pub set_apart : {A : Type 0} (xs : List A) (i j : ℕ) (y : A) → j ≢ i → slice_get (slice_set xs i y) j ≡ slice_get xs j
set_apart [] i j y ne = refl
set_apart (z ∷ xs) zero zero y ne = absurd (ne refl)
set_apart (z ∷ xs) zero (suc j) y ne = refl
set_apart (z ∷ xs) (suc i) zero y ne = refl
set_apart (z ∷ xs) (suc i) (suc j) y ne = set_apart xs i j y (λ e. ne (ap suc e))

-- a diversion of another partition changes nothing here
elsewhere : (index other : ℕ) (old new : HandoffView) → IsDiverted other old new → index ≢ other → slice_get new.fallbacks index ≡ slice_get old.fallbacks index
elsewhere index other old new diverted apart =
    subst (λ (view : HandoffView). slice_get view.fallbacks index ≡ slice_get old.fallbacks index) (sym diverted.is) (set_apart old.fallbacks other index (Some diverted.fallback) apart)

gates_stay : (other : ℕ) (old new : HandoffView) → IsDiverted other old new → new.gates ≡ old.gates
gates_stay other old new diverted = ap (λ (view : HandoffView). view.gates) diverted.is

run_stays : (other : ℕ) (old new : HandoffView) → IsDiverted other old new → new.run ≡ old.run
run_stays other old new diverted = ap (λ (view : HandoffView). view.run) diverted.is

new_stands : (index : ℕ) (old new : HandoffView) (diverted : IsDiverted index old new) → slice_get new.fallbacks index ≡ Some (Some diverted.fallback)
new_stands index old new diverted =
    subst (λ (view : HandoffView). slice_get view.fallbacks index ≡ Some (Some diverted.fallback)) (sym diverted.is)
    (set-here old.fallbacks index diverted.before (Some diverted.fallback) diverted.stood)

-- the returns of a partition, over gates of the same run
abbrev returns_stay : (index : ℕ) (old new : HandoffView) (kept : Option LastReturn) → new.gates ≡ old.gates → new.run ≡ old.run → ReturnsOf old index kept → ReturnsOf new index kept
returns_stay index old new kept gates run were = record {
  primary = were.primary;
  stands = subst (λ gs. slice_get gs index ≡ Some were.primary) (sym gates) were.stands;
  diversions = were.diversions;
  returned = subst (λ r. HaveReturned r index were.primary were.diversions) (sym run) were.returned;
  ended = over were.diversions were.ended;
  last = were.last;
}
  where
    over : (diversions : List Diversion) → EndedOver old diversions → EndedOver new diversions
    over [] ended = tt
    over (diversion ∷ earlier) ended = ended ∙ sym gates

pub at_primary_begun : (index : ℕ) (old new : HandoffView) (kept : Option LastReturn) (copies : Copies) → ((primary : GateId View) (fallback : Fallback) → WereMade primary fallback copies []) → IsAtPrimary old index kept
    → IsDiverted index old new → IsAtFallback new index kept copies
at_primary_begun index old new kept copies none at diverted = record {
  returns = returns_stay index old new kept (gates_stay index old new diverted) (run_stays index old new diverted) at.returns;
  found = old;
  left = new;
  run = sym (run_stays index old new diverted);
  diverted = diverted;
  stood = at.stands;
  stands = new_stands index old new diverted;
  calls = [];
  made = none at.returns.primary diverted.fallback;
}

-- a track of one partition, where another is diverted
pub stays : (index other : ℕ) (old new : HandoffView) (track : HandoffTrack) → IsDiverted other old new → index ≢ other → IsTrack old index track → IsTrack new index track
stays index other old new (AtPrimary kept) diverted apart at = record {
  returns = returns_stay index old new kept (gates_stay other old new diverted) (run_stays other old new diverted) at.returns;
  stands = elsewhere index other old new diverted apart ∙ at.stands;
}
stays index other old new (AtFallback kept copies) diverted apart at = record {
  returns = returns_stay index old new kept (gates_stay other old new diverted) (run_stays other old new diverted) at.returns;
  found = at.found;
  left = at.left;
  run = at.run ∙ sym (run_stays other old new diverted);
  diverted = at.diverted;
  stood = at.stood;
  stands = elsewhere index other old new diverted apart ∙ at.stands;
  calls = at.calls;
  made = at.made;
}
stays index other old new Unknown diverted apart at = tt

-- a copy back is of the gates of what is known
copies_here : (handoff : HandoffView) (index budget : ℕ) (kept : Option LastReturn) (copies : Copies) (copied : CopyBack) (at : IsAtFallback handoff index kept copies) → IsCopiedBack handoff index budget copied
    → CopiesBack at.returns.primary at.diverted.fallback budget copied
copies_here handoff index budget kept copies copied at is =
    let same : is.primary ≡ at.returns.primary = some_is _ _ (sym is.stands ∙ at.returns.stands) in
    let same_there : is.fallback ≡ at.diverted.fallback = cc (sym is.diverted ∙ at.stands) in
    subst (λ (p : GateId View). CopiesBack p at.diverted.fallback budget copied) same (subst (λ (f : Fallback). CopiesBack is.primary f budget copied) same_there is.copies)

pub can_copy : (handoff : HandoffView) (index budget : ℕ) (track : HandoffTrack) (copied : CopyBack) → IsTrack handoff index track → IsCopiedBack handoff index budget copied → CanCopy track copied
can_copy handoff index budget (AtPrimary kept) copied at is = tt
can_copy handoff index budget Unknown copied at is = tt
can_copy handoff index budget (AtFallback kept copies) copied at is = by copies.last at.made.calls_are
  where
    made : CopiesBack at.returns.primary at.diverted.fallback budget copied
    made = copies_here handoff index budget kept copies copied at is

    by : (last : Option CopyBack) → MatchOption last (at.calls ≡ []) (λ one. AreUpTo at.returns.primary at.diverted.fallback copies.from one at.calls) → IfSome last (λ one. HaveSameGates one copied)
    by None none = tt
    by (Some one) were = (made.gate ∙ sym were.gate, made.gate_there ∙ sym were.gate_there)

pub at_fallback_copied : (handoff : HandoffView) (index budget : ℕ) (kept : Option LastReturn) (copies after : Copies) (copied : CopyBack)
    → ((primary : GateId View) (fallback : Fallback) (budget : ℕ) (calls : List CopyBack) → WereMade primary fallback copies calls → CopiesBack primary fallback budget copied → WereMade primary fallback after (calls ++ copied ∷ []))
    → IsAtFallback handoff index kept copies → IsCopiedBack handoff index budget copied → IsAtFallback handoff index kept after
at_fallback_copied handoff index budget kept copies after copied more at is = record {
  returns = at.returns;
  found = at.found;
  left = at.left;
  run = at.run;
  diverted = at.diverted;
  stood = at.stood;
  stands = at.stands;
  calls = at.calls ++ copied ∷ [];
  made = more at.returns.primary at.diverted.fallback budget at.calls at.made (copies_here handoff index budget kept copies copied at is);
}

module _ (handoff : HandoffView) (index : ℕ) (kept : Option LastReturn) (copies : Copies) (at : IsAtFallback handoff index kept copies) (passes : Returned) (ended : HasReturned handoff index passes) where
  here-is : ended.primary ≡ at.returns.primary
  here-is =
      let both : Some ended.primary ≡ Some at.returns.primary = sym ended.stands ∙ at.returns.stands in cc both

  there-is : ended.fallback ≡ at.diverted.fallback
  there-is =
      let both : Some (Some ended.fallback) ≡ Some (Some at.diverted.fallback) = sym ended.diverted ∙ at.stands in cc both

  mine-gate : passes.primary.gate ≡ at.returns.primary
  mine-gate = ended.of_gates.gate ∙ here-is

  their-gate : passes.fallback.gate ≡ at.diverted.fallback.gate
  their-gate = ended.of_gates.gate_there ∙ ap (λ (f : Fallback). f.gate) there-is

  copies_gates : CopiesGates copies passes
  copies_gates = by copies.last at.made.calls_are
    where
      by : (last : Option CopyBack) → MatchOption last (at.calls ≡ []) (λ one. AreUpTo at.returns.primary at.diverted.fallback copies.from one at.calls)
          → IfSome last (λ one. (passes.primary.gate ≡ one.primary.gate) × (passes.fallback.gate ≡ one.fallback.gate))
      by None none = tt
      by (Some one) were = (mine-gate ∙ sym were.gate, their-gate ∙ sym were.gate_there)

  before_is : at.diverted.before ≡ last_fallback at.returns.diversions
  before_is =
      let both : Some at.diverted.before ≡ Some (last_fallback at.returns.diversions) = sym at.diverted.stood ∙ at.stood in cc both

  keeps_gates : (start : Start) → at.diverted.fallback.start ≡ Some start → KeepsGates kept at.diverted.fallback.before start
  keeps_gates start is = by kept at.returns.diversions at.returns.returned at.returns.last (subst (λ (b : Option Fallback). BeginsBehind b at.diverted.fallback.before at.diverted.is_new.last_epoch) before_is at.diverted.begins)
    where
      from-is : ended.of_gates.sees.since.from ≡ start
      from-is =
          let both : Some ended.of_gates.sees.since.from ≡ Some start = sym ended.of_gates.sees.since.is ∙ (ap (λ (f : Fallback). f.start) there-is ∙ is) in cc both

      start-gate : start.pass.gate ≡ at.returns.primary
      start-gate = ap (λ (s : Start). s.pass.gate) (sym from-is) ∙ (ended.of_gates.sees.since.of_gate ∙ mine-gate)

      closed : (seen : Option Sight) (d : Diversion) (gate : GateId View) (last_epoch : ℕ) → gate ≡ d.fallback.gate → BeginsBehind (Some d.fallback) seen last_epoch → IfSome seen (λ pass. pass.gate ≡ gate)
      closed None d gate last_epoch same begins = tt
      closed (Some pass) d gate last_epoch same (p, is_p, of_gate, behind) = let pass-is : pass ≡ p = cc is_p in ap (λ (s : Sight). s.gate) pass-is ∙ (of_gate ∙ sym same)

      by : (had : Option LastReturn) (diversions : List Diversion) → HaveReturned handoff.run index at.returns.primary diversions → KeepsLast had diversions
          → BeginsBehind (last_fallback diversions) at.diverted.fallback.before at.diverted.is_new.last_epoch → KeepsGates had at.diverted.fallback.before start
      by None diversions returned last begins = tt
      by (Some last) [] returned keeps begins = absurd keeps
      by (Some last) (d ∷ earlier) (back, rest) (passes_are, commands, number) begins = (
        start-gate ∙ sym (ap (λ (p : Returned). p.primary.gate) passes_are ∙ gate-is handoff.run index at.returns.primary earlier d back),
        closed at.diverted.fallback.before d last.passes.fallback.gate at.diverted.is_new.last_epoch
            (ap (λ (p : Returned). p.fallback.gate) passes_are ∙ gate-there handoff.run index at.returns.primary earlier d back) begins,
      )

  pub at_fallback_can_end : IfSome at.diverted.fallback.start (KeepsGates kept at.diverted.fallback.before) × CopiesGates copies passes
  at_fallback_can_end = (by at.diverted.fallback.start refl, copies_gates)
    where
      by : (start : Option Start) → at.diverted.fallback.start ≡ start → IfSome start (KeepsGates kept at.diverted.fallback.before)
      by None is = tt
      by (Some start) is = keeps_gates start is

  module _ (last : LastReturn) (is : IsReturnOf kept copies at.diverted.fallback passes last) where
    turns : CopyInTurn at.returns.primary at.diverted.fallback passes.primary ended.of_gates.sees.ended.before (length is.start.pass.prefix) at.calls
    turns = by copies.last at.made.calls_are is.all.last
      where
        by : (one : Option CopyBack) → MatchOption one (at.calls ≡ []) (λ call. AreUpTo at.returns.primary at.diverted.fallback copies.from call at.calls)
            → IfSome one (λ call. (length is.start.pass.prefix ≤ copies.from) × EndsBehind call passes)
            → CopyInTurn at.returns.primary at.diverted.fallback passes.primary ended.of_gates.sees.ended.before (length is.start.pass.prefix) at.calls
        by None none ends = subst (λ cs. CopyInTurn at.returns.primary at.diverted.fallback passes.primary ended.of_gates.sees.ended.before (length is.start.pass.prefix) cs) (sym none) tt
        by (Some call) were (le, ends) =
            let seen = ended.of_gates.sees.ended.seen in
            let before = before_last call.fallback.prefix ended.of_gates.sees.ended.before _ (subst (λ es. IsPrefix call.fallback.prefix es) seen ends.there) (subst (λ es. length call.fallback.prefix < length es) seen ends.closed) in
            lower at.returns.primary at.diverted.fallback passes.primary ended.of_gates.sees.ended.before copies.from (length is.start.pass.prefix) at.calls le
            (widen at.returns.primary at.diverted.fallback call.primary passes.primary call.fallback.prefix ended.of_gates.sees.ended.before copies.from at.calls ends.here before were.turns)

    abbrev diversion : Diversion
    diversion = record {
      found = at.found;
      left = at.left;
      fallback = at.diverted.fallback;
      start = is.start;
      calls = at.calls;
      ended = handoff;
      passes = passes;
    }

    begins : IsPrefix (seen_here at.returns.diversions) is.start.pass.prefix
        × (commands_in is.start.tally + length (seen_here at.returns.diversions) ≡ counted_here at.returns.diversions + length is.start.pass.prefix)
        × IfSome at.diverted.fallback.before (λ pass. IsPrefix (seen_there at.returns.diversions) pass.prefix)
    begins = by kept at.returns.diversions at.returns.last is.follows
      where
        any : (before : Option Sight) → IfSome before (λ pass. IsPrefix [] pass.prefix)
        any None = tt
        any (Some pass) = (pass.prefix, refl)

        by : (had : Option LastReturn) (diversions : List Diversion) → KeepsLast had diversions → Follows had at.diverted.fallback.before is.start last.commands
            → IsPrefix (seen_here diversions) is.start.pass.prefix
            × (commands_in is.start.tally + length (seen_here diversions) ≡ counted_here diversions + length is.start.pass.prefix)
            × IfSome at.diverted.fallback.before (λ pass. IsPrefix (seen_there diversions) pass.prefix)
        by None [] keeps follows = let counts = is.commands in ((is.start.pass.prefix, refl), omega (arith, follows, counts), any at.diverted.fallback.before)
        by None (d ∷ earlier) keeps follows = absurd keeps
        by (Some one) [] keeps follows = absurd keeps
        by (Some one) (d ∷ earlier) (passes_are, commands, number) (here, counted, there) =
            let counts = is.commands in
            let size : length one.passes.primary.prefix ≡ length d.passes.primary.prefix = ap (λ (p : Returned). length p.primary.prefix) passes_are in (
              subst (λ (p : Returned). IsPrefix p.primary.prefix is.start.pass.prefix) passes_are here,
              omega (arith, counted, counts, commands, size),
              subst (λ (p : Returned). IfSome at.diverted.fallback.before (λ pass. IsPrefix p.fallback.prefix pass.prefix)) passes_are there,
            )

    behind : HasReturnedBehind handoff.run index at.returns.primary at.returns.diversions diversion
    behind = record {
      of_run = at.run;
      diverted = at.diverted;
      stood = at.stood;
      stands = new_stands index at.found at.left at.diverted;
      starts = is.starts;
      gate = at.returns.stands;
      stands_still = at.stands;
      returned = ended;
      begins = begins.0;
      commands = begins.1;
      closed = begins.2;
      turns = turns;
      total = let total = is.all.total in let keys = at.made.keys in omega (arith, total, keys);
    }

    number : returned_by kept ≡ length at.returns.diversions
    number = by kept at.returns.diversions at.returns.last
      where
        by : (had : Option LastReturn) (diversions : List Diversion) → KeepsLast had diversions → returned_by had ≡ length diversions
        by None [] keeps = refl
        by None (d ∷ earlier) keeps = absurd keeps
        by (Some one) [] keeps = absurd keeps
        by (Some one) (d ∷ earlier) keeps = keeps.2

    pub at_primary_again : IsAtPrimary handoff index (Some last)
    at_primary_again = record {
      returns = record {
        primary = at.returns.primary;
        stands = at.returns.stands;
        diversions = diversion ∷ at.returns.diversions;
        returned = (behind, at.returns.returned);
        ended = refl;
        last = (is.passes_are, is.commands, (let next = is.number in let had = number in omega (arith, next, had)));
      };
      stands = at.stands;
    }

pub can_end : (handoff : HandoffView) (index : ℕ) (track : HandoffTrack) (fallback : Fallback) (passes : Returned) → slice_get handoff.fallbacks index ≡ Some (Some fallback) → IsTrack handoff index track
    → HasReturned handoff index passes → CanEnd track fallback passes
can_end handoff index (AtPrimary kept) fallback passes stands at ended = tt
can_end handoff index Unknown fallback passes stands at ended = tt
can_end handoff index (AtFallback kept copies) fallback passes stands at ended =
    let both : Some (Some at.diverted.fallback) ≡ Some (Some fallback) = sym at.stands ∙ stands in
    let same : at.diverted.fallback ≡ fallback = cc both in
    subst (λ (f : Fallback). IfSome f.start (KeepsGates kept f.before) × CopiesGates copies passes) same (at_fallback_can_end handoff index kept copies at passes ended)

pub at_fallback_ended : (handoff : HandoffView) (index : ℕ) (kept : Option LastReturn) (copies : Copies) (fallback : Fallback) (passes : Returned) (last : LastReturn)
    → IsReturnOf kept copies fallback passes last → slice_get handoff.fallbacks index ≡ Some (Some fallback) → IsAtFallback handoff index kept copies → HasReturned handoff index passes → IsAtPrimary handoff index (Some last)
at_fallback_ended handoff index kept copies fallback passes last is stands at ended =
    let both : Some (Some fallback) ≡ Some (Some at.diverted.fallback) = sym stands ∙ at.stands in
    let same : fallback ≡ at.diverted.fallback = cc both in
    at_primary_again handoff index kept copies at passes ended last (subst (λ (f : Fallback). IsReturnOf kept copies f passes last) same is)
