use Rattle.std.proofs.Common.{◌≡◌, Result, Ok, Err, IfErr, IsErrAnd, sym, subst}
use Rattle.pb_fields.specs.Field.{seen}
use Rattle.pb_fields.specs.Next.{left}
use Rattle.pb_fields.proofs.Merging.{MergesAll-more, RefusesOne-here, field_given}
use Rattle.pb_fields.proofs.Steps.{read_more, read_none}
use Rattle.pb_fields.proofs.merge.scan.Goals as goal

-- what holds of each error holds of an error
IfErr-each : {T E : Type 0} (r : Result T E) (P : E → Type 0) → ((e : E) → P e) → IfErr r P
IfErr-each (Ok x) P all = tt
IfErr-each (Err e) P all = all e

-- what holds of one error, where it is that one
IfErr-one : {T E : Type 0} (r : Result T E) (P : E → Type 0) (x : E) → IsErrAnd r (λ e. e ≡ x) → P x → IfErr r P
IfErr-one (Ok y) P x is holds = absurd is
IfErr-one (Err e) P x is holds = subst P (sym is) holds

pub returns-in_err-field-clause-err : goal.returns-in_err-field-clause-err
returns-in_err-field-clause-err g c =
    let (fields, read, merged) = c.loop-field.invariant in
    IfErr-each c.from_residual.result _ (λ fault others stands.
    absurd (read_none c.args.bytes.now (left c.loop-field.field-iterator) (left c.next.new.self) fields others c.in-Some.field
    c.in_err-field.field-0.0 read c.in-Some.ensures.steps c.in_err-field.was stands))

pub loop-field-preserved : goal.loop-field-preserved
loop-field-preserved g c =
    let (fields, read, merged) = c.loop-field.invariant in
    let field = seen c.in_ok-field.field-0 in (
      _,
      read_more c.args.bytes.now (left c.loop-field.field-iterator) (left c.next.new.self) fields c.in-Some.field c.in_ok-field.field-0
          read c.in-Some.ensures.steps c.in_ok-field.was,
      MergesAll-more g.M.Merge.merges c.args.into.now c.loop-field.into c.merge_field.new.self fields field merged c.in_ok-merge_field.ensures.ok,
    )

pub returns-in_err-merge_field-clause-err : goal.returns-in_err-merge_field-clause-err
returns-in_err-merge_field-clause-err g c =
    let (fields, read, merged) = c.loop-field.invariant in
    let before = left c.loop-field.field-iterator in
    let after = left c.next.new.self in
    let begins = field_given before after c.in-Some.field c.in_ok-field.field-0 c.in-Some.ensures.steps c.in_ok-field.was in
    IfErr-one c.from_residual-in_err-merge_field.result _ c.in_err-merge_field.field-0.0 c.from_residual-in_err-merge_field.ensures.1
    (λ others stands. RefusesOne-here g.M.Merge.refuses c.args.bytes.now before after fields others (seen c.in_ok-field.field-0)
    c.in_err-merge_field.field-0.0 read begins c.in_err-merge_field.ensures.err stands)
