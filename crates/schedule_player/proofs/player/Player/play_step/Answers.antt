use Rattle.node_steps.specs.Asked.{step_of}
use Rattle.schedule_player.proofs.Hearing.{step_answered}
use Rattle.schedule_player.proofs.player.Player.play_step.Goals as goal

pub returns-in-Ok : goal.returns-in-Ok
returns-in-Ok g c =
    step_answered c.args.self.now c.step.new.self c.write_line.new.self (step_of c.args.step) c.in_ok-note.note c.in-Ok.outcome
    (g.W.Write.contents c.args.writer.now) (g.W.Write.contents c.write_line.new.writer) c.write_line.result c.in_ok-note.ensures c.in-Ok.ensures.schedule
    c.write_line.ensures
