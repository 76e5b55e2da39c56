use Rattle.std.proofs.Common.{◌≤◌, length, refl, rules}
use Rattle.pb_fields.specs.Next.{left}
use Rattle.pb_fields.proofs.Cases.{no_field}
use Rattle.pb_fields.proofs.fields.FieldsIterator.next.Goals as goal

pub returns-in-Err-clause-steps : goal.returns-in-Err-clause-steps
returns-in-Err-clause-steps c =
    let some : 1 ≤ length (left c.args.self.now) = search rules in
    (no_field (left c.args.self.now) c.in-Err.fault some c.in-Err.ensures.fault, c.in-Err.ensures.fault, refl)
