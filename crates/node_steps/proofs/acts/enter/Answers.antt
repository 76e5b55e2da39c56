use Rattle.node_steps.proofs.acts.enter.Goals as goal

pub returns-in-Copying : goal.returns-in-Copying
returns-in-Copying c = rw (c.in-Copying.is) c.enter.ensures

pub returns-in-Closing : goal.returns-in-Closing
returns-in-Closing c = rw (c.in-Closing.is) c.enter-in-Closing.ensures
