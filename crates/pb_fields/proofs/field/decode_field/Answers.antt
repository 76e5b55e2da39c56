use Rattle.std.proofs.Common.{◌≡◌, ◌%◌, Err, rules}
use Rattle.pb_fields.specs.Field.{seen}
use Rattle.pb_fields.specs.Faults.{HasNoNumber}
use Rattle.pb_fields.specs.declared.fault.FieldFault.TheVariants.{BadVarint}
use Rattle.pb_fields.proofs.Cases.{value_fails_first, bad_key_first, found_runs_not, number_has_key}
use Rattle.pb_fields.proofs.Parts.{field_from}
use Rattle.pb_fields.proofs.field.decode_field.Goals as goal
use Rattle.pb_fields.proofs.field.decode_field.Goals.{in_default-None-via-in-Err+in_default+in-None, in_default-None-via-in-Ok+in-None}

pub returns-in-Err-default : goal.returns-in-Err-default
returns-in-Err-default c =
    let number = c.in-Err-default.ensures'.number in
    record {
      field = tt;
      fault = value_fails_first c.args.bytes.now c.in_ok-key.behind.now c.in_ok-key.key c.in-Err-default.fault c.in_ok-key.ensures.varint
          (number_has_key c.in_ok-key.key _ number.0 number.1) c.in-Err-default.ensures.fault;
    }

pub returns-in-Ok-Some-clause-field : goal.returns-in-Ok-Some-clause-field
returns-in-Ok-Some-clause-field c =
    let number = c.in-Ok-Some.ensures'.number in
    field_from c.args.bytes.now c.in_ok-key.key c.in_ok-key.behind.now c.in-Ok-Some.rest.now
    (seen (record { number = c.in-Ok-Some.number; value = c.in-Ok-Some.value })) c.in_ok-key.ensures.varint
    number.0 number.1 c.in-Ok-Some.ensures.wire c.in-Ok-Some.ensures.value

pub returns-in_default-None-clause-fault : goal.returns-in_default-None-clause-fault
returns-in_default-None-clause-fault c =
    elim c.in_default-None.branch [
      | in_default-None-via-in-Err+in_default+in-None w ↦
          let none : HasNoNumber c.in_ok-key.key = w.in_default-None.ensures.none in
          let other : c.decode_value.result ≡ Err BadVarint → ⊥ = search rules in
          bad_key_first c.args.bytes.now c.in_ok-key.behind.now c.in_ok-key.key c.in_ok-key.ensures.varint none
          (found_runs_not (λ r. r.now) (c.in_ok-key.key % 8) c.in_ok-key.behind.now c.decode_value.result other c.decode_value.ensures.wire c.decode_value.ensures.value c.decode_value.ensures.fault)
      | in_default-None-via-in-Ok+in-None w ↦
          let none : HasNoNumber c.in_ok-key.key = w.in_default-None.ensures.none in
          let other : c.decode_value.result ≡ Err BadVarint → ⊥ = search rules in
          bad_key_first c.args.bytes.now c.in_ok-key.behind.now c.in_ok-key.key c.in_ok-key.ensures.varint none
          (found_runs_not (λ r. r.now) (c.in_ok-key.key % 8) c.in_ok-key.behind.now c.decode_value.result other c.decode_value.ensures.wire c.decode_value.ensures.value c.decode_value.ensures.fault)
    ]
