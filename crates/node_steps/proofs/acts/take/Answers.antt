use Rattle.node_steps.proofs.acts.take.Goals as goal

pub returns-in-Copying : goal.returns-in-Copying
returns-in-Copying c = rw (c.in-Copying.is) c.take-in-Copying.ensures

pub returns-in-Closing : goal.returns-in-Closing
returns-in-Closing c = rw (c.in-Closing.is) c.take-in-Closing.ensures
