use Rattle.std.proofs.Common.{◌∙◌, ap, ℕ, List, false, not, cond}
use Rattle.std.specs.Prelude.{Some, ◌||◌}
use Rattle.sibling_register.specs.declared.operation.Operation.TheVariants.{Write}
use Rattle.sibling_register.specs.declared.entry.Entry.{Entry}
use Rattle.sibling_register.specs.Answers.{Told, Shown, Done, Accepts}
use Rattle.sibling_register.specs.Entries.{event_of, follow_of}
use Rattle.sibling_register.proofs.put.accept_put.Goals as goal

pub returns : goal.returns
returns g c =
    let given = c.args.put in
    let entry : ℕ → Entry g.row.V.Denot = λ saw. record { key = given.key; operation = Write given.value; context = c.args.named; saw = saw } in
    let answer : List ℕ → Told ℕ = λ numbers. cond (given.return_body || given.return_head) (Shown numbers (Some c.args.position) false (not given.return_body)) Done in
    record {
      value = ap (Accepts (event_of (entry c.seen_by_put.result))) (c.put_answer-told.ensures.value ∙ ap answer c.in_ok-follow.ensures.value)
          ∙ ap (λ m. Accepts (event_of (entry m)) (answer (follow_of (entry m) c.args.number c.args.siblings.items))) c.seen_by_put.ensures.value;
    }
