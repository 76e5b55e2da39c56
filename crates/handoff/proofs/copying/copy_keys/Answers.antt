use Rattle.std.proofs.Common.{arith}
use Rattle.handoff.proofs.copying.copy_keys.Goals as goal

pub returns-in-Ok-clause-ok : goal.returns-in-Ok-clause-ok
returns-in-Ok-clause-ok g c =
    let all = c.in-Ok.ensures.tried in
    let counted = all.counted in
    let budget = c.in-Ok.ensures.budget in
    record {
      gate = c.copy_and_count.ensures.mine;
      gate_there = c.copy_and_count.ensures.theirs;
      copies = c.in-Ok.ensures.copies;
      none = c.in-Ok.ensures.none;
      keys = c.in-Ok.ensures.keys;
      rise = c.in-Ok.ensures.rise;
      tried = omega (arith, counted, budget);
      stuck = record { copies = all.copies; counted = omega (arith, counted); stuck = all.stuck };
      left = c.in-Ok.ensures.left;
    }
