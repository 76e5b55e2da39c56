use Rattle.handoff.proofs.Stopping.{end-stops}
use Rattle.handoff.proofs.returning.close_under.Goals as goal

pub returns-clause-stop : goal.returns-clause-stop
returns-clause-stop g c =
    end-stops c.args.start.now c.read-reader.result c.args.writer.now c.close_shown-ending.new.mine c.close_shown-ending.new.theirs c.close_shown-ending.result c.close_shown-ending.ensures.stop
