use Rattle.pb_fields.proofs.Lists.{fields_more}
use Rattle.pb_fields.proofs.laws.fields_go_on.Goals as goal

pub returns : goal.returns
returns c = λ bs rest behind fields field a begins. fields_more bs behind rest fields field a begins
