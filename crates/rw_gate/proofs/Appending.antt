-- The exchange of a publish keeps the rule of the log.
use Rattle.std.proofs.Common.{◌≡◌, ◌≢◌, ℕ, ◌+◌, ◌<◌, ◌==◌, true, false, List, [], ◌∷◌, ◌++◌, length, None, refl, ap, sym, subst, arith, inl, inr}
use Rattle.std.proofs.lemmas.List.{append-nil}
use Rattle.std.proofs.lemmas.Bool.{cases_eq}
use Rattle.std.proofs.lemmas.Bool.Decides.{nat_tests}
use mathlib.Core.List.{IsPrefix}
use prog.Atomic.{either}
use Rattle.logbook.specs.Pages.{Cell, View, cell, keeps, no_nib, step, Moves, Goes}
use Rattle.rw_gate.specs.declared.log.GateEntry.{GateEntry}
use Rattle.rw_gate.specs.declared.log.GateEntry.TheVariants.{Made}
use Rattle.rw_gate.specs.Logs.{events, LeadsTo, IsRun}
use Rattle.rw_gate.specs.Steps.{IsLawful, Publishes}
use Rattle.rw_gate.proofs.Prefixes.{prefix_trans, prefix_length}
use Rattle.rw_gate.proofs.Logs.{events_made, events_prefix, run_whole, leads_snoc}

module _ {S E State : Type 0} (content : S → State) (accepts : State → E → State → Type 0) where
  -- clients of the log are shown nothing of it, and nothing of theirs moves it
  abbrev pub shown : List (GateEntry S E) → List (GateEntry S E)
  shown log = []

  abbrev pub moved : List (GateEntry S E) → List (GateEntry S E) → Unit {0} → Type 0
  moved before after answer = Unit {0}

  -- who has seen v publishes e, and expects n events
  module _ (v : List (GateEntry S E)) (e : E) (n : ℕ) where
    abbrev pub written : ℕ → ℕ
    written found = either (found == n) (n + 1) found

    abbrev pub Found : ℕ → View (GateEntry S E) (Unit {0}) → Type 0
    Found = Publishes content accepts (step 0 n (n + 1) (Made e)) (v, (no_nib, None))

    abbrev pub GoesOn : List Cell → List (GateEntry S E) → Type 0
    GoesOn = Goes (IsLawful content accepts) shown moved 0 (v, (no_nib, None)) written Found

    -- a log of n events that goes on from v is v, and may go on by e
    abbrev pub MayFollow : Type 0
    MayFollow = (log : List (GateEntry S E)) → IsRun content accepts log → IsPrefix v log → length (events log) ≡ n → (v ≡ log) × IsRun content accepts (log ++ Made e ∷ [])

    -- the log may go on by entries that keep it a run, where the word counts them, and the caller finds what is true
    pub goes_by : (log more : List (GateEntry S E)) → written (length (events log)) ≡ length (events (log ++ more)) → IsRun content accepts (log ++ more) → (length (events log) ≡ n → (log ++ more ≡ v ++ Made e ∷ []) × (length (events v) ≡ length (events log)))
        → (length (events log) ≢ n → length (events (log ++ more)) ≡ length (events log)) → GoesOn ((length (events log), true) ∷ []) log
    goes_by log more counted legal hit missed = (
      keeps,
      more,
      None,
      tt,
      record { counted = ap (λ (k : ℕ). (k, true) ∷ []) counted; run = legal },
      inl (refl, refl),
      record { hit = hit; missed = missed; legal = legal },
    )

    pub goes_on : MayFollow → (log : List (GateEntry S E)) → IsRun content accepts log → IsPrefix v log → GoesOn ((length (events log), true) ∷ []) log
    goes_on may log legal begins = elim (cases_eq (length (events log)) n) [
      | inl same ↦
          let next = may log legal begins same in
          let found : (length (events log) == n) ≡ true = grind (arith, nat_tests, same) in
          goes_by log (Made e ∷ []) (rw found (omega (arith, same, events_made log e))) next.1
          (λ _. (ap (λ l. l ++ Made e ∷ []) (sym next.0), ap (λ l. length (events l)) next.0)) (λ apart. absurd (apart same))
      | inr apart ↦
          let all : log ++ [] ≡ log = append-nil log in
          let found : (length (events log) == n) ≡ false = grind (arith, nat_tests, apart) in
          goes_by log [] (rw found (ap (λ l. length (events l)) (sym all))) (subst (λ l. IsRun content accepts l) (sym all) legal)
          (λ same. absurd (apart same)) (λ _. ap (λ l. length (events l)) all)
    ]

    -- whatever the log is by then, the exchange appends the event to all that had been seen, or finds that the log has gone on
    pub moves_on : MayFollow → Moves (IsLawful content accepts) shown moved 0 (v, (no_nib, None)) written Found
    moves_on may cs log kept begins away = subst (λ (c : List Cell). (0 < length c) × ((cell c 0).1 ≡ true) × GoesOn c log) (sym kept.counted) (omega arith, refl, goes_on may log kept.run begins)

  -- what had been seen goes on from a log of n events, which leads to a state where the machine accepts e
  pub may_follow : (mine v : List (GateEntry S E)) (e : E) (s t : State) (n : ℕ) → n ≡ length (events mine) → LeadsTo content accepts mine s → accepts s e t → IsRun content accepts v → IsPrefix mine v → MayFollow v e n
  may_follow mine v e s t n counted leads step seen begins log legal on found =
      let more = prefix_length _ _ (events_prefix mine v begins) in
      let whole : mine ≡ log = run_whole content accepts mine log (s, leads) legal (prefix_trans mine v log begins on) (omega (arith, counted, found)) in
      let same : v ≡ log = run_whole content accepts v log seen legal on (omega (arith, counted, found, more)) in
      (same, (t, leads_snoc content accepts log e s t (subst (λ l. LeadsTo content accepts l s) whole leads) step))
