use Rattle.std.proofs.Common.{◌≡◌, ◌∙◌, ℕ, List, [], ◌++◌, drop, ap, subst}
use Rattle.std.specs.Prelude.{IfOk}
use Rattle.byteorder.specs.Endian.{big_bytes}
use Rattle.names.proofs.WordBytes.{name_bytes}
use Rattle.names.proofs.short_name.ShortName.to_bytes.Goals as goal

pub returns : goal.returns
returns c =
    let a = c.self.inside in
    let bytes = c.write_u64-2.ensures ∙ ap (λ (rest : List ℕ). big_bytes 8 a.high ++ drop 1 (rest ++ [])) c.write_u64.ensures in
    subst (λ (name : List ℕ). IfOk c.from_slice.result (λ bytes. bytes ≡ name)) (name_bytes a c.self.invariant c.write_u64-2.new.buf bytes ∙ c.self.view_is) c.from_slice.ensures
