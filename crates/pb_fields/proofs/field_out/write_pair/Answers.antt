use Rattle.std.proofs.Common.{◌≡◌, ℕ, ◌+◌, ◌-◌, ◌≤◌, ◌++◌, List, length, take, drop, sym, ap, arith, ◌∙◌}
use Rattle.std.proofs.lemmas.List.{append_assoc, length-append, length-take-le, length-drop, take_at}
use Rattle.wire_varint.specs.Varint.{encoding}
use Rattle.wire_varint.proofs.Encoding.{length-encoding_le}
use Rattle.pb_fields.proofs.field_out.write_pair.Goals as goal

pub write-used-requires : goal.write-used-requires
write-used-requires c = record { room = omega (arith, length-encoding_le c.args.first c.ranges.first.fits) }

-- what is left of the room
left_room : (bs : List ℕ) (used : ℕ) → length bs ≡ 20 → used ≤ 10 → 10 ≤ length (take (20 - used) (drop used bs))
left_room bs used len few =
    let behind : length (drop used bs) ≡ 20 - used = length-drop used bs ∙ ap (λ n. n - used) len in
    let all : length (take (20 - used) (drop used bs)) ≡ 20 - used = length-take-le (20 - used) (drop used bs) (omega arith) in
    omega arith

pub write-requires : goal.write-requires
write-requires c =
    let first : length (encoding c.args.first) ≤ 10 = length-encoding_le c.args.first c.ranges.first.fits in
    let second : length (encoding c.args.second) ≤ 10 = length-encoding_le c.args.second c.ranges.second.fits in
    let room = left_room c.write-used.new.out c.write-used.result (omega arith) (omega arith) in
    record { room = omega arith }

-- two lists one behind the other
pair : (u v : ℕ) (a b x y old mid post : List ℕ) → u ≡ length a → v ≡ length b → x ≡ a ++ old → y ≡ b ++ mid →
    take (u + v) (take u x ++ (y ++ post)) ≡ a ++ b
pair u v a b x y old mid post la lb ex ey =
    let front : take u x ≡ a = ap (λ cs. take u cs) ex ∙ take_at a old u (sym la) in
    let whole : take u x ++ (y ++ post) ≡ (a ++ b) ++ (mid ++ post) =
    rw (front, ey, append_assoc b mid post) (sym (append_assoc a b (mid ++ post))) in
    let len : length (a ++ b) ≡ u + v = length-append a b ∙ omega arith in
    ap (λ cs. take (u + v) cs) whole ∙ take_at (a ++ b) (mid ++ post) (u + v) len

pub returns-clause-written : goal.returns-clause-written
returns-clause-written c =
    pair c.write-used.result c.write.result (encoding c.args.first) (encoding c.args.second) c.write-used.new.out c.write.new.out _ _ _
    c.write-used.ensures.used c.write.ensures.used c.write-used.ensures.written c.write.ensures.written

pub returns-clause-bounded : goal.returns-clause-bounded
returns-clause-bounded c =
    omega (arith, length-encoding_le c.args.first c.ranges.first.fits, length-encoding_le c.args.second c.ranges.second.fits)
