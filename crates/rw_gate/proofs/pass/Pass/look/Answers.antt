use Rattle.std.proofs.Common.{sym, arith}
use Rattle.rw_gate.specs.Logs.{events}
use Rattle.rw_gate.proofs.Prefixes.{prefix_whole, prefix_length}
use Rattle.rw_gate.proofs.pass.Pass.look.Goals as goal

pub returns-then-found-count-clause-ok : goal.returns-then-found-count-clause-ok
returns-then-found-count-clause-ok g c = sym (prefix_whole (events c.args.seen.now.log) c.load-found.new.self.prefix c.load-found.ensures.with_seen (omega (arith, c.requires.counted, c.if-found-count.true, c.load-found.ensures.found)))

pub returns-else-found-count-clause-err : goal.returns-else-found-count-clause-err
returns-else-found-count-clause-err g c =
    let longer = prefix_length (events c.args.seen.now.log) c.load-found.new.self.prefix c.load-found.ensures.with_seen in
    record {
      counted = c.load-found.ensures.found;
      begins = c.load-found.ensures.with_seen;
      longer = omega (arith, c.requires.counted, c.if-found-count.false, c.load-found.ensures.found, longer);
    }
