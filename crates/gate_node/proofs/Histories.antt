-- What the passes of callers have seen of histories, as they come one after another.
use Rattle.std.proofs.Common.{◌≡◌, ◌∙◌, ℕ, zero, suc, List, [], ◌∷◌, ◌++◌, length, map, ap, sym, refl, arith}
use Rattle.std.proofs.lemmas.List.{length-map, map-append}
use Rattle.std.specs.Prelude.{Bool, true, Some, slice_get}
use Rattle.std.specs.List.{All, AllZip}
use Rattle.rw_gate.specs.Views.{GateId}
use Rattle.vnode_core.specs.declared.vnode.tally.Tally.{Tally}
use Rattle.vnode_core.specs.Plans.{View}
use Rattle.gate_node.specs.Asked.{Sight}
use Rattle.gate_node.specs.Gates.{Gates}
use Rattle.gate_node.specs.Passes.{Sights}
use Rattle.gate_node.specs.Tallies.{GateHistory, IsTally, CountsAll}
use Rattle.gate_node.specs.OneHistory.{IsSeen, AreOfGates, PassIsOfGate, HasSeen, HaveSeen, CallersAreOfRun, CallersAreOfGate, SharesHistory, ShareHistories}

-- the pass of a gate stands in the gate's place
of_gate : (passes : List Sight) (gates : List (GateId View)) → map (λ (pass : Sight). pass.gate) passes ≡ gates → (index : ℕ) (gate : GateId View) → slice_get gates index ≡ Some gate → PassIsOfGate index gate passes
of_gate [] gates is index gate at = tt
of_gate (pass ∷ passes) [] is index gate at = absurd (cc is)
of_gate (pass ∷ passes) (first ∷ gates) is zero gate at = cc (is, at)
of_gate (pass ∷ passes) (first ∷ gates) is (suc index) gate at = of_gate passes gates (cc is) index gate at

module _ {A B : Type 0} (R : A → B → Type 0) where
  -- as many lie in both
  zip_length : (xs : List A) (ys : List B) → AllZip R xs ys → length xs ≡ length ys
  zip_length [] [] h = refl
  zip_length [] (y ∷ ys) h = absurd h
  zip_length (x ∷ xs) [] h = absurd h
  zip_length (x ∷ xs) (y ∷ ys) h = let rest = zip_length xs ys h.1 in omega (arith, rest)

  -- one more of both
  zip_more : (xs : List A) (ys : List B) (x : A) (y : B) → AllZip R xs ys → R x y → AllZip R (xs ++ x ∷ []) (ys ++ y ∷ [])
  zip_more [] [] x y h r = (r, tt)
  zip_more [] (other ∷ ys) x y h r = absurd h
  zip_more (other ∷ xs) [] x y h r = absurd h
  zip_more (first ∷ xs) (other ∷ ys) x y h r = (h.0, zip_more xs ys x y h.1 r)

-- one history more, of which the pass in its place has seen a beginning
seen_more : (histories : List GateHistory) (history : GateHistory) (passes : List Sight) (index : ℕ) → index ≡ length histories → HaveSeen histories passes → HasSeen index history.events passes → HaveSeen (histories ++ history ∷ []) passes
seen_more [] history [] index is h more = tt
seen_more [] history (pass ∷ passes) zero is h more = (more, tt)
seen_more [] history (pass ∷ passes) (suc index) is h more = absurd (omega (arith, is))
seen_more (first ∷ histories) history [] index is h more = tt
seen_more (first ∷ histories) history (pass ∷ passes) zero is h more = absurd (omega (arith, is))
seen_more (first ∷ histories) history (pass ∷ passes) (suc index) is h more = (h.0, seen_more histories history passes index (omega (arith, is)) h.1 more)

-- where the passes are of the histories' gates, each history has its pass
seen_each : (histories : List GateHistory) (passes : List Sight) → map (λ (history : GateHistory). history.gate) histories ≡ map (λ (pass : Sight). pass.gate) passes → HaveSeen histories passes → AllZip IsSeen histories passes
seen_each [] [] is h = tt
seen_each [] (pass ∷ passes) is h = absurd (cc is)
seen_each (history ∷ histories) [] is h = absurd (cc is)
seen_each (history ∷ histories) (pass ∷ passes) is h = (record { of_gate = cc is; begins = h.0 }, seen_each histories passes (cc is) h.1)

module _ {T : Type 0} (sights : T → Sights) where
  pub all_of_gate : (shared : Gates) (callers : List T) → CallersAreOfRun sights shared callers → (index : ℕ) (gate : GateId View) → slice_get shared.gates index ≡ Some gate → CallersAreOfGate sights index gate callers
  all_of_gate shared callers all index gate at k d lt = let one = all k d lt in of_gate _ shared.gates one.primaries index gate at

  -- before the first gate
  pub no_history : (callers : List T) (count_all : Bool) → ShareHistories sights [] callers [] count_all
  no_history callers count_all = record { histories = []; of_gates = refl; tallied = tt; counted = λ all. tt; seen = λ k d lt. tt }

  -- the tallies stand in the gates' places
  pub shared_length : (gates : List (GateId View)) (callers : List T) (tallies : List Tally) (count_all : Bool) → ShareHistories sights gates callers tallies count_all → length tallies ≡ length gates
  shared_length gates callers tallies count_all h = sym (zip_length IsTally h.histories tallies h.tallied) ∙ sym (length-map h.histories (λ (history : GateHistory). history.gate)) ∙ ap length h.of_gates

  -- the next gate, with its tally
  pub one_more : (gates : List (GateId View)) (gate : GateId View) (callers : List T) (tallies : List Tally) (tally : Tally) (index : ℕ) (before here both : Bool) → index ≡ length tallies → (both ≡ true → (before ≡ true) × (here ≡ true))
      → ShareHistories sights gates callers tallies before → SharesHistory sights index gate callers tally here → ShareHistories sights (gates ++ gate ∷ []) callers (tallies ++ tally ∷ []) both
  one_more gates gate callers tallies tally index before here both is each h one =
      let history : GateHistory = record { gate = gate; events = one.events } in
      let place = is ∙ sym (zip_length IsTally h.histories tallies h.tallied) in
      record {
        histories = h.histories ++ history ∷ [];
        of_gates = map-append (λ (next : GateHistory). next.gate) h.histories (history ∷ []) ∙ ap (λ gs. gs ++ gate ∷ []) h.of_gates;
        tallied = zip_more IsTally h.histories tallies history tally h.tallied one.tallied;
        counted = λ all. zip_more CountsAll h.histories tallies history tally (h.counted (each all).0) (one.counted (each all).1);
        seen = λ k d lt. seen_more h.histories history _ index place (h.seen k d lt) (one.seen k d lt);
      }

  -- behind the last gate
  pub each_seen : (shared : Gates) (histories : List GateHistory) → AreOfGates shared.gates histories → (callers : List T) → CallersAreOfRun sights shared callers
      → All (λ (caller : T). HaveSeen histories (sights caller).primaries) callers → All (λ (caller : T). AllZip IsSeen histories (sights caller).primaries) callers
  each_seen shared histories of_gates callers are h k d lt = let one = are k d lt in seen_each histories _ (of_gates ∙ sym one.primaries) (h k d lt)
