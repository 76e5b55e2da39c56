use Rattle.pb_fields.proofs.Lists.{fields_once}
use Rattle.pb_fields.proofs.laws.fields_are_one.Goals as goal

pub returns : goal.returns
returns c = fields_once
