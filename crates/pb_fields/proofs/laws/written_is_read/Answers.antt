use Rattle.pb_fields.proofs.Lists.{encoding_is_read}
use Rattle.pb_fields.proofs.laws.written_is_read.Goals as goal

pub returns-clause-field : goal.returns-clause-field
returns-clause-field c = encoding_is_read

pub returns-clause-fields : goal.returns-clause-fields
returns-clause-fields c = λ field fields rest fits others. (rest, encoding_is_read field rest fits, others)
