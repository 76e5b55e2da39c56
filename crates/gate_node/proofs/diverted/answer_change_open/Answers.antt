use Rattle.gate_node.proofs.diverted.answer_change_open.Goals as goal

pub returns-in-Ok-clause-answers : goal.returns-in-Ok-clause-answers
returns-in-Ok-clause-answers g c = (
  record { outcome = c.in-Ok.outcome; comes = c.in-Ok.ensures.outcome; replied = c.counted_reply.ensures.reply; counted = c.counted_reply.ensures.quantity },
  c.in-Ok.ensures.unclosed,
)
