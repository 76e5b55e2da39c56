use Rattle.std.proofs.Common.{sym, ◌∙◌, ◌≡◌, true, false, arith}
use Rattle.std.specs.Prelude.{◌<◌, ◌^◌}
use Rattle.std.proofs.lemmas.Fmt.{decimal_injective}
use Rattle.control_text.proofs.number.read_partition.Goals as goal

pub returns-else-is_partition : goal.returns-else-is_partition
returns-else-is_partition c = λ number is text.
    let range : c.in-Some.number < 2 ^ 64 = omega arith in
    let same : number ≡ c.in-Some.number = decimal_injective number c.in-Some.number (omega (arith, is)) range (sym text ∙ c.in-Some.ensures) in
    let yes = c.is_partition.ensures.1 (rw same at is) in
    let no : true ≡ false = sym yes ∙ c.if-is_partition.false in
    cc no
