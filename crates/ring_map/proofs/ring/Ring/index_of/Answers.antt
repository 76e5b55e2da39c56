use Rattle.std.proofs.Common.{rules, arith, sym, ◌≡◌, ◌<◌, ◌+◌, ◌-◌, ◌/◌, ◌^◌}
use Rattle.std.proofs.Math.Nat.{mod-eq_of_lt}
use Rattle.std.proofs.lemmas.Nat.{shr_below}
use Rattle.byteorder.specs.Endian.{big_number}
use Rattle.ring_map.proofs.ring.Ring.index_of.Goals as goal

-- sixteen bits are those that number the partitions, and the others
pub returns-clause-below : goal.returns-clause-below
returns-clause-below c =
    let bits = c.args.self.now in
    let all : bits + (16 - bits) ≡ 16 = omega (arith, c.self.invariant, c.self.view_is) in
    rw c.self.view_is (shr_below c.from-first_two.result bits (16 - bits) (rw all (search rules)))

-- so above the shift there are no other bits
pub returns-clause-index : goal.returns-clause-index
returns-clause-index c =
    let bits = c.args.self.now in
    let all : bits + (16 - bits) ≡ 16 = omega (arith, c.self.invariant, c.self.view_is) in
    let below : c.from-first_two.result / 2 ^ (16 - bits) < 2 ^ bits = shr_below c.from-first_two.result bits (16 - bits) (rw all (search rules)) in
    let read : c.from-first_two.result ≡ big_number 2 c.args.digest.now = search rules in
    rw (c.self.view_is, ← read) (sym (mod-eq_of_lt below))
