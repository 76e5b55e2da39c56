use Rattle.std.proofs.Common.{◌∙◌, ap, ℕ, List}
use Rattle.std.specs.Prelude.{Option, Some, nat_eq}
use Rattle.std.specs.Option.{option_eq}
use Rattle.sibling_register.specs.History.{Event}
use Rattle.sibling_register.specs.Answers.{GetCommand, Answers, get_told}
use Rattle.sibling_register.specs.Counting.{by_count}
use Rattle.sibling_register.proofs.Plans.{get_told-by, is_name-by}
use Rattle.sibling_register.proofs.get.plan_get.Goals as goal

pub returns : goal.returns
returns g c =
    let history : List (Event g.row.V.Denot ℕ) = c.args.register.now in
    let get : Option ℕ → GetCommand ℕ = λ context. record { key = c.args.key.now; if_modified = context; head = c.args.head; deletedvclock = c.args.deletedvclock } in
    let named = c.count_at-named in
    let read = c.in_ok-key_state.ensures in
    let is_end = c.names_end-is_name.ensures.value ∙ ap (λ n. option_eq nat_eq named.result (Some n)) read.count
    ∙ is_name-by history c.args.key.now named.result in
    record {
      value = c.answer.ensures.value ∙ ap Answers (c.get_answer-told.ensures.value
          ∙ get_told-by history (get named.result) _ _ _ _ read.siblings read.present is_end c.len-position.ensures.value
          ∙ ap (λ context. get_told by_count history (get context)) named.ensures.value);
    }
