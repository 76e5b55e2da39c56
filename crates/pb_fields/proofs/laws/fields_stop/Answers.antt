use Rattle.pb_fields.proofs.Lists.{fields_stop}
use Rattle.pb_fields.proofs.laws.fields_stop.Goals as goal

pub returns : goal.returns
returns c = fields_stop
