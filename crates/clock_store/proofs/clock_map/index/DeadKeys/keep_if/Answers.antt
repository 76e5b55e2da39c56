use Rattle.clock_store.proofs.Marks.{dead_same, absent_same, alive_kept}
use Rattle.clock_store.proofs.clock_map.index.DeadKeys.keep_if.Goals as goal

pub returns-then-is_dead : goal.returns-then-is_dead
returns-then-is_dead c = dead_same c.args.self.now c.args.key.now c.args.is_dead c.if-is_dead.true

pub returns-then-is_absent : goal.returns-then-is_absent
returns-then-is_absent c = absent_same c.args.self.now c.args.key.now c.args.is_dead (c.requires c.if-is_absent.true)

pub returns : goal.returns
returns c = alive_kept c.args.self.now c.remove.new.self c.args.key.now c.args.is_dead c.if-is_dead.false c.remove.ensures
