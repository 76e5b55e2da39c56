use Rattle.std.proofs.Common.{◌≡◌, ◌-◌, arith, length}
use Rattle.actor_epoch.specs.Entries.{entries_in}
use Rattle.actor_epoch.proofs.Entries.{entries_in-next, length-entries_in}
use Rattle.actor_epoch.proofs.context_pairs.ContextPairsIterator.next.Goals as goal

pub returns-clause-steps : goal.returns-clause-steps
returns-clause-steps c =
    let before = c.self.inside in
    rw (← c.self.view_is)
    (entries_in-next before.version before.count c.entry_len.result before.entries.now c.split_at.result.1.now c.entry_at-entry.result (omega arith) c.entry_at-entry.ensures
    c.entry_len.ensures.len c.split_at.ensures.back)

pub returns-clause-goes : goal.returns-clause-goes
returns-clause-goes c =
    let before = c.self.inside in
    let old : length c.args.self.now ≡ before.count = rw (← c.self.view_is) (length-entries_in before.version before.count before.entries.now) in
    let new : length (entries_in before.version (before.count - 1) c.split_at.result.1.now) ≡ before.count - 1 = length-entries_in before.version (before.count - 1) c.split_at.result.1.now in
    record { on = λ _. (tt, tt, omega arith); keeps = tt; rests = λ _. tt }
