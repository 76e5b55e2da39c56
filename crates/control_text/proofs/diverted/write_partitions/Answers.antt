use Rattle.std.proofs.Common.{rules, [], ◌++◌, ◌+◌, ℕ, refl, ap, subst, arith}
use Rattle.std.specs.Io.KnownBytes.{Appends}
use Rattle.std.proofs.KnownBytes.{Appends-nil, Appends-trans}
use Rattle.control_text.proofs.Partitions.{partitions_next, partitions_all}
use Rattle.control_text.proofs.diverted.write_partitions.Goals as goal

pub loop-began-init : goal.loop-began-init
loop-began-init g c = (refl, [], Appends-nil _, refl, search rules)

pub overflow_add-index : goal.overflow_add-index
overflow_add-index g c =
    let same = c.loop-began.invariant.0 in
    omega (arith, same, c.loop-began-test.true)

pub loop-began-preserved : goal.loop-began-preserved
loop-began-preserved g c =
    let was = c.loop-began.invariant in (
      ap (λ (n : ℕ). n + 1) was.0,
      was.1 ++ _,
      Appends-trans _ _ _ was.1 _ was.2 c.in_ok-write_partition.ensures,
      partitions_next c.args.now c.args.begun.now c.loop-began.began-index c.loop-began.index _ c.loop-began.before.now _ was.1 _ was.0 c.behind-before.ensures c.loop-began-test.true was.3,
      search rules,
    )

pub returns : goal.returns
returns g c =
    let was = c.loop-began.invariant in
    subst (λ l. Appends (g.W.Write.contents c.args.writer.now) (g.W.Write.contents c.loop-began.writer) l)
    (partitions_all c.args.now c.args.begun.now c.loop-began.began-index c.loop-began.before.now was.1 _ (omega (arith, c.loop-began-test.false)) was.3) was.2
