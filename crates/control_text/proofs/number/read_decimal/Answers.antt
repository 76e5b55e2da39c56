use Rattle.std.proofs.Common.{sym, ap, ◌∙◌, ◌≡◌, true, false, arith}
use Rattle.std.specs.Prelude.{◌<◌, ◌^◌, decimal}
use Rattle.std.specs.Str.{bytes_eq}
use Rattle.std.specs.Result.{result_unwrap_or}
use Rattle.std.proofs.lemmas.Fmt.{parse-decimal, IsAscii-decimal}
use Rattle.std.proofs.lemmas.Str.{IsUtf8-from_ascii}
use Rattle.std.proofs.lemmas.Slice.Eq.{bytes_eq-Decides}
use Rattle.control_text.proofs.number.read_decimal.Goals as goal

pub returns-in_default : goal.returns-in_default
returns-in_default c = λ number small is.
    let fits : number < 2 ^ 64 = omega arith in
    c.in_default.ensures.cases.0 (IsUtf8-from_ascii c.args.text.now (rw (← is) at (IsAscii-decimal number fits)))

pub returns-in_default-parse : goal.returns-in_default-parse
returns-in_default-parse c = λ number small is.
    let fits : number < 2 ^ 64 = omega arith in
    let parsed = parse-decimal 32 number c.in-Ok.digits.now c.parse.result small fits (c.in-Ok.ensures.cases.0 ∙ is) c.parse.ensures.value.0 in
    cc (sym c.in_default-parse.is ∙ parsed)

pub returns-else-is_decimal_of : goal.returns-else-is_decimal_of
returns-else-is_decimal_of c = λ number small is.
    let fits : number < 2 ^ 64 = omega arith in
    let parsed = parse-decimal 32 number c.in-Ok.digits.now c.parse.result small fits (c.in-Ok.ensures.cases.0 ∙ is) c.parse.ensures.value.0 in
    let same : number ≡ c.in-Ok-parse.number = ap (λ r. result_unwrap_or r 0) (sym parsed ∙ c.in-Ok-parse.is) in
    let text : decimal c.in-Ok-parse.number ≡ c.args.text.now = ap decimal (sym same) ∙ sym is in
    let yes : bytes_eq (decimal c.in-Ok-parse.number) c.args.text.now ≡ true =
    (bytes_eq-Decides (decimal c.in-Ok-parse.number) c.args.text.now).1 text in
    let unlike : true ≡ false = sym yes ∙ sym c.is_decimal_of.ensures ∙ c.if-is_decimal_of.false in
    cc unlike
