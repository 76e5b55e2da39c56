-- Why an attempt to end a diversion stops, and what a primary that has stayed shows.
use Rattle.std.proofs.Common.{◌≡◌, ◌∙◌, ◌↔◌, ◌<◌, ◌-◌, ◌^◌, ℕ, Bool, true, false, List, [], length, sym, subst, refl, arith, inl, inr}
use Rattle.std.specs.Prelude.{Option, Some, None, nat_eq, Result, Ok, Err, IfErr, IsErrAnd}
use Rattle.std.proofs.lemmas.Bool.{eqb-true}
use Rattle.std.proofs.lemmas.Bool.Decides.{nat_tests}
use Rattle.std.proofs.lemmas.List.{append-nil}
use mathlib.Core.List.{IsPrefix}
use Rattle.riak_msgs.specs.Contents.{Content}
use Rattle.rw_gate.specs.Histories.{IsLonger}
use Rattle.rw_gate.proofs.Prefixes.{prefix_length, prefix_whole}
use Rattle.rw_gate.specs.Views.{RightView}
use Rattle.vnode_machine.specs.Machine.{State}
use Rattle.vnode_core.specs.Plans.{View}
use Rattle.vnode_core.specs.declared.entry.Entry.{Entry}
use Rattle.vnode_core.specs.declared.vnode.tally.Tally.{Tally}
use Rattle.handoff.specs.declared.fault.Stop.{Stop}
use Rattle.handoff.specs.declared.fault.Stop.TheVariants as stops
use Rattle.handoff.specs.declared.gates.Start.{Start}
use Rattle.handoff.specs.Endings.{IsCloseStop, IsEndStop, WentOn}
use Rattle.handoff.specs.Sights.{Sight}
use Rattle.handoff.specs.Started.{HasStayed, IsSameBelow}
use Rattle.handoff.specs.Steps.{IsStopOf}

same-numbers : (m n : ℕ) → m ≡ n → nat_eq m n ≡ true
same-numbers m n is = grind (arith, nat_tests)

-- of two lists of which the second begins the first, the first begins the second just where they are as long
pub begins-same : {A : Type 0} (xs ys : List A) → IsPrefix ys xs → (m n : ℕ) → m ≡ length xs → n ≡ length ys → (nat_eq m n ≡ true) ↔ IsPrefix xs ys
begins-same {A} xs ys behind m n is_m is_n = (whole, equal)
  where
    whole : nat_eq m n ≡ true → IsPrefix xs ys
    whole e =
        let same : m ≡ n = eqb-true m n e in
        let is : ys ≡ xs = prefix_whole ys xs behind (omega (arith, same, is_m, is_n)) in
        subst (λ (l : List A). IsPrefix xs l) (sym is) ([], append-nil xs)

    equal : IsPrefix xs ys → nat_eq m n ≡ true
    equal begins =
        let le = prefix_length xs ys begins in
        let ge = prefix_length ys xs behind in
        same-numbers m n (omega (arith, le, ge, is_m, is_n))

module _ (start : Option Start) (state : State Content) (mine : Sight) where
  -- none has stayed whose start wasn't seen,
  pub no-start : start ≡ None → (false ≡ true) ↔ HasStayed start state mine
  no-start none = (λ e. cc e, λ stayed. let both : None ≡ Some stayed.from = sym none ∙ stayed.is in cc both)

  -- or that is closed,
  pub was-closed : (number : ℕ) → state.closed ≡ Some number → (false ≡ true) ↔ HasStayed start state mine
  was-closed number closed = (λ e. cc e, λ stayed. let both : Some number ≡ None = sym closed ∙ stayed.open_still in cc both)

  module _ (from : Start) (is : start ≡ Some from) where
    from-one : (stayed : HasStayed start state mine) → stayed.from ≡ from
    from-one stayed = let both : Some stayed.from ≡ Some from = sym stayed.is ∙ is in cc both

    -- or of which less was seen than then
    pub not-begun : (begins : Bool) → begins ≡ false → (IsPrefix from.pass.prefix mine.prefix → begins ≡ true) → (false ≡ true) ↔ HasStayed start state mine
    not-begun begins isnt tells = (λ e. cc e, λ stayed. sym isnt ∙ tells (subst (λ (f : Start). IsPrefix f.pass.prefix mine.prefix) (from-one stayed) stayed.begins))

    -- one that has stayed counts what it did then
    pub still-same : (tally : Tally) → tally.writes ≡ state.writes → tally.tombstones ≡ state.tombstones → tally.reaps ≡ state.reaps → HasStayed start state mine → IsSameBelow from.tally tally
    still-same tally w t r stayed =
        let same = subst (λ (f : Start). IsSameBelow f.tally stayed.tally) (from-one stayed) stayed.same in
        let writes : stayed.tally.writes ≡ tally.writes = stayed.writes ∙ sym w in
        let tombstones : stayed.tally.tombstones ≡ tally.tombstones = stayed.tombstones ∙ sym t in
        let reaps : stayed.tally.reaps ≡ tally.reaps = stayed.reaps ∙ sym r in
        record {
          writes = same.writes ∙ writes;
          tombstones = same.tombstones ∙ tombstones;
          reaps = same.reaps ∙ reaps;
          below_writes = subst (λ n. n < 2 ^ 64 - 1) writes same.below_writes;
          below_tombstones = subst (λ n. n < 2 ^ 64 - 1) tombstones same.below_tombstones;
          below_reaps = subst (λ n. n < 2 ^ 64 - 1) reaps same.below_reaps;
        }

-- so many events as were found are as many as were seen
pub went-on : (right : RightView View Entry) (pass : Sight) (count : ℕ) → IsLonger right.history pass.prefix count → WentOn right pass
went-on right pass count longer = record { counted = refl; begins = longer.begins; longer = subst (λ n. length right.history < n) longer.counted longer.longer }

-- a stop of a close is one of an end
pub close-stop : (start : Option Start) (reader writer : RightView View Entry) (mine theirs : Sight) (stop : Stop) → IsCloseStop writer theirs stop → IsEndStop start reader writer mine theirs stop
close-stop start reader writer mine theirs stops.NotDiverted is = is
close-stop start reader writer mine theirs stops.NoMemory is = tt
close-stop start reader writer mine theirs stops.GateStopped is = elim is [
  | inl went ↦ inr (inr (inl went))
  | inr full ↦ inr (inr (inr (inl full)))
]

end-stop : (start : Option Start) (reader writer : RightView View Entry) (mine theirs : Sight) (stop : Stop) → IsEndStop start reader writer mine theirs stop → IsStopOf theirs stop
end-stop start reader writer mine theirs stops.NotDiverted is = is
end-stop start reader writer mine theirs stops.NoMemory is = tt
end-stop start reader writer mine theirs stops.GateStopped is = tt

-- and that one of a hand-off
pub end-stops : {T : Type 0} (start : Option Start) (reader writer : RightView View Entry) (mine theirs : Sight) (r : Result T Stop) → IfErr r (IsEndStop start reader writer mine theirs) → IfErr r (IsStopOf theirs)
end-stops start reader writer mine theirs (Ok x) is = is
end-stops start reader writer mine theirs (Err stop) is = end-stop start reader writer mine theirs stop is

-- what holds of one error, where it is that one
pub if-err-one : {T E : Type 0} (r : Result T E) (P : E → Type 0) (x : E) → IsErrAnd r (λ e. e ≡ x) → P x → IfErr r P
if-err-one (Ok y) P x is holds = absurd is
if-err-one (Err e) P x is holds = subst P (sym is) holds
