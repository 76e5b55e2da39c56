use Rattle.std.proofs.Common.{◌+◌, arith}
use Rattle.dvv_set.specs.Stored.{actor_of}
use Rattle.dvv_set.proofs.Soles.{set-one}
use Rattle.dvv_set.proofs.entry.replace_value.Goals as goal

pub unreachable-requires : goal.unreachable-requires
unreachable-requires g c =
    let some = c.in-None.ensures.variant.1 (omega (arith, c.requires.one)) in
    cc

pub returns : goal.returns
returns g c =
    let pair = c.args.entry.now.pair in
    λ i. (actor_of pair, (pair.counter + 1, set-one c.args.entry.now.values.items c.args.value c.requires.one i))
