use Rattle.copy_laws.proofs.LegalCourses.{courses_name_positions}
use Rattle.copy_laws.proofs.LogNames.{logs_name_positions}
use Rattle.copy_laws.proofs.laws.contexts_name_positions.Goals as goal

pub returns : goal.returns
returns c = record { course = courses_name_positions; log = logs_name_positions }
