use Rattle.std.proofs.Common.{◌∙◌, ap, sym, refl, ℕ, List, ◌+◌}
use Rattle.std.proofs.lemmas.Result.{IfOk-weaker}
use Rattle.std.specs.Prelude.{Option, unwrap_or}
use Rattle.sibling_register.specs.declared.operation.Operation.TheVariants.{Write}
use Rattle.sibling_register.specs.declared.entry.Entry.{Entry}
use Rattle.sibling_register.specs.History.{Event, count_of}
use Rattle.sibling_register.specs.Siblings.{siblings}
use Rattle.sibling_register.specs.Answers.{PutCommand, put_refusal}
use Rattle.sibling_register.specs.Counting.{by_count}
use Rattle.sibling_register.specs.Plans.{saw_by, put_outcome_by}
use Rattle.sibling_register.specs.Entries.{follow_of, accepted_put}
use Rattle.sibling_register.proofs.Plans.{put_refusal-by, put-kept}
use Rattle.sibling_register.proofs.put.plan_put.Goals as goal

pub returns-in-Some : goal.returns-in-Some
returns-in-Some g c =
    let history : List (Event g.row.V.Denot ℕ) = c.args.register.now in
    let given = c.args.put in
    let put : Option ℕ → PutCommand g.row.V.Denot ℕ = λ context. record { key = given.key; context = context; value = given.value; return_body = given.return_body; return_head = given.return_head; if_not_modified = given.if_not_modified; if_none_match = given.if_none_match } in
    let read = c.in_ok-key_state.ensures in
    let check = c.first_check.ensures.value ∙ put_refusal-by history (put c.count_at-named.result) _ _ _ read.siblings read.count read.present in
    record {
      value = c.answer.ensures.value
          ∙ ap (put_outcome_by history (put c.count_at-named.result)) (sym c.in-Some.is ∙ check)
          ∙ ap (λ context. put_outcome_by history (put context) (put_refusal by_count history (put context) (saw_by context))) c.count_at-named.ensures.value;
    }

pub returns : goal.returns
returns g c =
    let history : List (Event g.row.V.Denot ℕ) = c.args.register.now in
    let given = c.args.put in
    let put : Option ℕ → PutCommand g.row.V.Denot ℕ = λ context. record { key = given.key; context = context; value = given.value; return_body = given.return_body; return_head = given.return_head; if_not_modified = given.if_not_modified; if_none_match = given.if_none_match } in
    let read = c.in_ok-key_state.ensures in
    let check = c.first_check.ensures.value ∙ put_refusal-by history (put c.count_at-named.result) _ _ _ read.siblings read.count read.present in
    let named = c.count_at-named in
    let key_state = c.in_ok-key_state.key_state in
    let position = c.next_position-position.result in
    let entry : Entry g.row.V.Denot = record { key = given.key; operation = Write given.value; context = named.result; saw = unwrap_or named.result 0 } in
    record {
      value = IfOk-weaker c.accept_put.result _ _ (λ planned h. h
          ∙ ap (λ n. accepted_put given named.result key_state.siblings.items (n + 1) position) read.count
          ∙ ap (λ numbers. accepted_put given named.result numbers (count_of history given.key + 1) position) read.siblings
          ∙ put-kept history (put named.result) (follow_of entry (count_of history given.key + 1) (siblings history given.key)) position _
          refl c.next_position-position.ensures.value refl
          ∙ ap (put_outcome_by history (put named.result)) (sym c.in_default.is ∙ check)
          ∙ ap (λ context. put_outcome_by history (put context) (put_refusal by_count history (put context) (saw_by context))) named.ensures.value) c.accept_put.ensures.value;
    }
