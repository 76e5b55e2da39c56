-- From a log that is kept to what contracts state of its history.
use Rattle.std.proofs.Common.{◌≡◌, ℕ, ◌+◌, List, [], ◌∷◌, ◌++◌, length, Option, Some, ap, sym, ◌∙◌, subst, arith}
use mathlib.Core.List.{IsPrefix}
use Rattle.logbook.specs.Pages.{Book}
use Rattle.rw_gate.specs.declared.log.GateEntry.{GateEntry}
use Rattle.rw_gate.specs.declared.log.GateEntry.TheVariants.{Made}
use Rattle.rw_gate.specs.Logs.{events, opening, LeadsTo, IsRun}
use Rattle.rw_gate.specs.Views.{GateId, gate_id}
use Rattle.rw_gate.specs.Histories.{IsSlotValue, RunFrom, IsReplay}
use Rattle.rw_gate.proofs.Logs.{events_made, opening_prefix, leads_snoc}

module _ {S E State : Type 0} (content : S → State) (accepts : State → E → State → Type 0) where
  pub run_from : (log : List (GateEntry S E)) (t : State) → LeadsTo content accepts log t → RunFrom content accepts (opening log) (events log) t
  run_from log t r =
      let first : opening log ≡ Some r.first = ap opening r.written in
      subst (λ o. RunFrom content accepts o (events log) t) (sym first) r.run

  pub replay_of : (b : Book) (log : List (GateEntry S E)) (s : S) → LeadsTo content accepts log (content s) → IsReplay content accepts (gate_id b log) (events log) s
  replay_of b log s r = run_from log (content s) r

  -- a log that goes on stays the same gate's
  pub gate_id_prefix : (b c : Book) (xs ys : List (GateEntry S E)) → IsRun content accepts xs → c ≡ b → IsPrefix xs ys → gate_id c ys ≡ gate_id b xs
  gate_id_prefix b c xs ys run same p = let Pair : Book → Option S → GateId S = λ k o. record { book = k; opening = o } in ap (λ k. Pair k (opening ys)) same ∙ ap (λ o. Pair b o) (opening_prefix content accepts xs ys run p)

  -- what is in hand after an event
  pub slot_value_snoc : (gate : GateId S) (b c : Book) (log more : List (GateEntry S E)) (count : ℕ) (s t : S) (e : E) → IsSlotValue content accepts gate b log count s → c ≡ b → more ≡ log ++ Made e ∷ [] → accepts (content s) e (content t)
      → IsSlotValue content accepts gate c more (count + 1) t
  slot_value_snoc gate b c log more count s t e value same is step =
      let longer : length (events more) ≡ length (events log) + 1 = rw is (events_made log e) in
      record {
        of_gate = gate_id_prefix b c log more (content s, value.leads) same (Made e ∷ [], sym is) ∙ value.of_gate;
        counted = omega (arith, value.counted, longer);
        leads = subst (λ l. LeadsTo content accepts l (content t)) (sym is) (leads_snoc content accepts log e (content s) (content t) value.leads step);
      }
