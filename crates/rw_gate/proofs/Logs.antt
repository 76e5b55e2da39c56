-- Logs and their events.
use Rattle.std.proofs.Common.{◌≡◌, suc, ◌+◌, ◌≤◌, List, [], ◌∷◌, ◌++◌, length, refl, ap, sym, ◌∙◌, subst, arith, length-append}
use mathlib.Core.List.{IsPrefix}
use Rattle.rw_gate.specs.declared.log.GateEntry.{GateEntry}
use Rattle.rw_gate.specs.declared.log.GateEntry.TheVariants.{Opened, Made}
use Rattle.rw_gate.specs.Machines.{MachineRun}
use Rattle.rw_gate.specs.Logs.{events, opening, all_made, LeadsTo, IsRun, IsNew}
use Rattle.rw_gate.proofs.Prefixes.{prefix_whole}

pub events_append : {S E : Type 0} (xs ys : List (GateEntry S E)) → events (xs ++ ys) ≡ events xs ++ events ys
events_append [] ys = refl
events_append (Opened s ∷ xs) ys = events_append xs ys
events_append (Made e ∷ xs) ys = ap (λ zs. e ∷ zs) (events_append xs ys)

-- one event more
pub events_made : {S E : Type 0} (xs : List (GateEntry S E)) (e : E) → length (events (xs ++ Made e ∷ [])) ≡ length (events xs) + 1
events_made xs e = ap length (events_append xs (Made e ∷ [])) ∙ length-append (events xs) (e ∷ [])

-- the events of a prefix are a prefix of the events
pub events_prefix : {S E : Type 0} (xs ys : List (GateEntry S E)) → IsPrefix xs ys → IsPrefix (events xs) (events ys)
events_prefix xs ys p = (events p.0, sym (events_append xs p.0) ∙ ap events p.1)

pub all_made_length : (S : Type 0) {E : Type 0} (es : List E) → length (all_made {S = S} es) ≡ length es
all_made_length S [] = refl
all_made_length S (e ∷ es) = ap suc (all_made_length S es)

pub all_made_append : (S : Type 0) {E : Type 0} (xs ys : List E) → all_made {S = S} (xs ++ ys) ≡ all_made {S = S} xs ++ all_made {S = S} ys
all_made_append S [] ys = refl
all_made_append S (x ∷ xs) ys = ap (λ zs. Made x ∷ zs) (all_made_append S xs ys)

-- a run that goes on by one event
pub run_snoc : {State E : Type 0} (accepts : State → E → State → Type 0) (s t u : State) (es : List E) (e : E) → MachineRun accepts s es t → accepts t e u → MachineRun accepts s (es ++ e ∷ []) u
run_snoc accepts s t u [] e run step = (u, subst (λ x. accepts x e u) (sym run) step, refl)
run_snoc accepts s t u (x ∷ es) e run step = (run.0, run.1, run_snoc accepts run.0 t u es e run.2 step)

module _ {S E State : Type 0} (content : S → State) (accepts : State → E → State → Type 0) where
  -- a run has one entry more than events
  pub run_length : (xs : List (GateEntry S E)) → IsRun content accepts xs → length xs ≡ suc (length (events xs))
  run_length xs r = ap length r.1.written ∙ ap suc (all_made_length S (events xs))

  -- of two runs, one a prefix of the other and with as many events, the one is the other
  pub run_whole : (xs ys : List (GateEntry S E)) → IsRun content accepts xs → IsRun content accepts ys → IsPrefix xs ys → length (events ys) ≤ length (events xs) → xs ≡ ys
  run_whole xs ys r s p le =
      let a = run_length xs r in
      let b = run_length ys s in
      prefix_whole xs ys p (omega arith)

  -- what a run goes on to was opened with the same state
  pub opening_prefix : (xs ys : List (GateEntry S E)) → IsRun content accepts xs → IsPrefix xs ys → opening ys ≡ opening xs
  opening_prefix xs ys r p =
      let begins : opening (xs ++ p.0) ≡ opening xs = rw r.1.written refl in
      sym (ap opening p.1) ∙ begins

  -- a log that goes on by an event that the machine accepts
  pub leads_snoc : (log : List (GateEntry S E)) (e : E) (t u : State) → LeadsTo content accepts log t → accepts t e u → LeadsTo content accepts (log ++ Made e ∷ []) u
  leads_snoc log e t u r step =
      let more : events (log ++ Made e ∷ []) ≡ events log ++ e ∷ [] = events_append log (Made e ∷ []) in
      record {
        first = r.first;
        written = ap (λ l. l ++ Made e ∷ []) r.written ∙ sym (ap (λ es. Opened r.first ∷ es) (ap (λ es. all_made es) more ∙ all_made_append S (events log) (e ∷ [])));
        run = subst (λ es. MachineRun accepts (content r.first) es u) (sym more) (run_snoc accepts (content r.first) t u (events log) e r.run step);
      }

  pub opened_leads : (s : S) (log : List (GateEntry S E)) → log ≡ Opened s ∷ [] → LeadsTo content accepts log (content s)
  opened_leads s log is = let made : LeadsTo content accepts (Opened s ∷ []) (content s) = record { first = s; written = refl; run = refl } in
      subst (λ l. LeadsTo content accepts l (content s)) (sym is) made

  -- a log without events is a run
  pub new_run : (log : List (GateEntry S E)) → IsNew log → IsRun content accepts log
  new_run log new = (content new.0, opened_leads new.0 log new.1)
