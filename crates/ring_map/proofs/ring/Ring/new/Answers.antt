use Rattle.std.proofs.Common.{rules, ◌≡◌, ◌≤◌, ◌^◌, count_ones}
use Rattle.std.specs.Int.{trailing_zeros, w16}
use Rattle.ring_map.proofs.Powers.{pow-trailing_zeros, exponent_le}
use Rattle.ring_map.proofs.ring.Ring.new.Goals as goal

pub returns-clause-size : goal.returns-clause-size
returns-clause-size c =
    let one : count_ones c.args.size ≡ 1 = search rules in
    pow-trailing_zeros 16 c.args.size (search rules) one

pub invariant_of-result : goal.invariant_of-result
invariant_of-result c =
    let size : 2 ^ trailing_zeros w16 c.args.size ≡ c.args.size = returns-clause-size c in
    let small : c.args.size ≤ 1024 = search rules in
    exponent_le _ (rw size small)
