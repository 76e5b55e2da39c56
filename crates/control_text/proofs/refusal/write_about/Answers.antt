use Rattle.std.proofs.lemmas.List.{append_assoc}
use Rattle.control_text.proofs.refusal.write_about.Goals as goal

pub returns : goal.returns
returns g c = rw append_assoc c.writeln.ensures.bytes
