use Rattle.node_steps.proofs.CourseLaw.{runs_are_courses}
use Rattle.node_steps.proofs.laws.runs_are_courses.Goals as goal

pub returns : goal.returns
returns c = runs_are_courses
