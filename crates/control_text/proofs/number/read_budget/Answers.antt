use Rattle.std.proofs.Common.{sym, ◌∙◌, ◌≡◌, true, false, arith}
use Rattle.std.specs.Prelude.{◌<◌, ◌^◌}
use Rattle.std.proofs.lemmas.Fmt.{decimal_injective}
use Rattle.control_text.proofs.number.read_budget.Goals as goal

pub returns-else-is_budget : goal.returns-else-is_budget
returns-else-is_budget c = λ number is text.
    let range : c.in-Some.number < 2 ^ 64 = omega arith in
    let same : number ≡ c.in-Some.number = decimal_injective number c.in-Some.number (let top = is.1 in omega (arith, top)) range (sym text ∙ c.in-Some.ensures) in
    let yes = c.is_budget.ensures.1 (rw same at is) in
    let no : true ≡ false = sym yes ∙ c.if-is_budget.false in
    cc no
