use Rattle.std.proofs.Common.{ℕ, ◌++◌, refl, sym, subst}
use Rattle.std.proofs.lemmas.List.{append_assoc}
use Rattle.wire_varint.specs.Varint.{IsVarint}
use Rattle.pb_fields.proofs.value.decode_value.Goals as goal

pub returns-in_ok-content-in-2-clause-value : goal.returns-in_ok-content-in-2-clause-value
returns-in_ok-content-in-2-clause-value c =
    let len = c.in_ok-len-in-2.ensures.varint in
    let parts = c.in_ok-content-in-2.ensures.parts in
    let P : ℕ → Type 0 = λ n. IsVarint len.0 n in (
      len.0 ++ c.in_ok-content-in-2.content.now,
      (len.0, subst P (sym parts.1) len.1, refl),
      rw (len.2, parts.0) (sym (append_assoc len.0 c.in_ok-content-in-2.content.now c.in_ok-content-in-2.rest.now)),
    )
