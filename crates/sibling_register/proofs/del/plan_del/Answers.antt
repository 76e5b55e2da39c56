use Rattle.std.proofs.Common.{◌∙◌, ap, sym, ℕ, List}
use Rattle.std.specs.Prelude.{Option, unwrap_or}
use Rattle.sibling_register.specs.History.{Event}
use Rattle.sibling_register.specs.Answers.{DelCommand, AskDel}
use Rattle.sibling_register.specs.Plans.{plain_outcome}
use Rattle.sibling_register.proofs.Plans.{does_nothing-by, del_refusal-by, del_refused, del_kept}
use Rattle.sibling_register.proofs.del.plan_del.Goals as goal

pub returns-then-has_too_many : goal.returns-then-has_too_many
returns-then-has_too_many g c =
    let history : List (Event g.row.V.Denot ℕ) = c.args.register.now in
    let del : Option ℕ → DelCommand ℕ = λ context. record { key = c.args.key; context = context } in
    let read = c.in_ok-key_state.ensures in
    let idle = c.is_idle.ensures.value ∙ does_nothing-by history (del c.count_at-named.result) _ read.siblings in
    let saw = c.seen_by_delete-saw.ensures.value ∙ ap (unwrap_or c.count_at-named.result) read.count in
    let many = c.has_too_many.ensures.value ∙ del_refusal-by history (del c.count_at-named.result) _ _ read.siblings saw in
    record {
      value = c.answer-then-has_too_many.ensures.value
          ∙ del_refused history (del c.count_at-named.result) (sym idle ∙ c.if-is_idle.false) (sym many ∙ c.if-has_too_many.true)
          ∙ ap (λ context. plain_outcome history (AskDel (del context))) c.count_at-named.ensures.value;
    }

pub returns : goal.returns
returns g c =
    let history : List (Event g.row.V.Denot ℕ) = c.args.register.now in
    let del : Option ℕ → DelCommand ℕ = λ context. record { key = c.args.key; context = context } in
    let read = c.in_ok-key_state.ensures in
    let idle = c.is_idle.ensures.value ∙ does_nothing-by history (del c.count_at-named.result) _ read.siblings in
    let saw = c.seen_by_delete-saw.ensures.value ∙ ap (unwrap_or c.count_at-named.result) read.count in
    let many = c.has_too_many.ensures.value ∙ del_refusal-by history (del c.count_at-named.result) _ _ read.siblings saw in
    record {
      value = del_kept history (del c.count_at-named.result) c.seen_by_delete-saw.result (sym idle ∙ c.if-is_idle.false) (sym many ∙ c.if-has_too_many.false) saw
          ∙ ap (λ context. plain_outcome history (AskDel (del context))) c.count_at-named.ensures.value;
    }
