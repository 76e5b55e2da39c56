use Rattle.std.proofs.Common.{rules}
use Rattle.riak_node.proofs.conclusion.write_steps_fault.Goals as goal

pub returns-in-BadStep : goal.returns-in-BadStep
returns-in-BadStep g c = rw c.in-BadStep.is (search rules)

pub returns-in-ReadFailed : goal.returns-in-ReadFailed
returns-in-ReadFailed g c = rw c.in-ReadFailed.is c.write_error.ensures

pub returns-in-WriteFailed : goal.returns-in-WriteFailed
returns-in-WriteFailed g c = rw c.in-WriteFailed.is c.write_error-in-WriteFailed.ensures

pub returns-in-NoMemory : goal.returns-in-NoMemory
returns-in-NoMemory g c = rw c.in-NoMemory.is c.write_error-in-NoMemory.ensures
