use Rattle.node_steps.specs.Schedules.{world_after}
use Rattle.node_steps.proofs.Scheduled.{orderly}
use Rattle.node_steps.proofs.Lifting.{histories_are_legal, looks_show_replays, no_dots_twice, lives_are_defined}
use Rattle.node_steps.proofs.Claiming.{replies_are_registers, nothing_else_happens, replies_have_seen}
use Rattle.node_steps.proofs.Looked.{looks_see_replays}
use Rattle.node_steps.proofs.Judged.{judged_after}
use Rattle.node_steps.proofs.Firsts.{calls_meet_no_copies}
use Rattle.node_steps.proofs.FallbackLogs.{fallbacks_take_commands}
use Rattle.node_steps.proofs.Replaying.{replays_after}
use Rattle.node_steps.proofs.Leaving.{values_leave_only_covered}
use Rattle.node_steps.proofs.Showing.{values_leave_only_seen}
use Rattle.node_steps.proofs.Joined.{partitions_hand_off}
use Rattle.node_steps.proofs.Moments.{logs_grow, partitions_go_on}
use Rattle.node_steps.proofs.laws.always.Goals as goal

pub returns-clause-histories : goal.returns-clause-histories
returns-clause-histories c = λ start is schedule. histories_are_legal (world_after start schedule) (replays_after start is schedule)

pub returns-clause-looks : goal.returns-clause-looks
returns-clause-looks c = λ start is schedule. looks_show_replays (world_after start schedule) (orderly start is schedule)

pub returns-clause-looked : goal.returns-clause-looked
returns-clause-looked c = λ start is schedule step. looks_see_replays (world_after start schedule) (orderly start is schedule) step

pub returns-clause-answers : goal.returns-clause-answers
returns-clause-answers c = λ start is schedule step. replies_are_registers (world_after start schedule) (orderly start is schedule) (fallbacks_take_commands start is schedule) step

pub returns-clause-nothing_else : goal.returns-clause-nothing_else
returns-clause-nothing_else c = λ start is schedule step. nothing_else_happens (world_after start schedule) (orderly start is schedule) (judged_after start is schedule) step

pub returns-clause-seen : goal.returns-clause-seen
returns-clause-seen c = λ start is schedule step. replies_have_seen (world_after start schedule) (orderly start is schedule) step

pub returns-clause-dots : goal.returns-clause-dots
returns-clause-dots c = λ start is schedule. no_dots_twice (world_after start schedule)

pub returns-clause-lives : goal.returns-clause-lives
returns-clause-lives c = λ start is schedule. lives_are_defined (world_after start schedule) (replays_after start is schedule)

pub returns-clause-covered : goal.returns-clause-covered
returns-clause-covered c = λ start is schedule. values_leave_only_covered (world_after start schedule) (replays_after start is schedule)

pub returns-clause-left : goal.returns-clause-left
returns-clause-left c = values_leave_only_seen

pub returns-clause-handed_off : goal.returns-clause-handed_off
returns-clause-handed_off c = partitions_hand_off

pub returns-clause-grown : goal.returns-clause-grown
returns-clause-grown c = logs_grow

pub returns-clause-moments : goal.returns-clause-moments
returns-clause-moments c = partitions_go_on

pub returns-clause-uncopied : goal.returns-clause-uncopied
returns-clause-uncopied c = calls_meet_no_copies

pub returns-clause-fallbacks : goal.returns-clause-fallbacks
returns-clause-fallbacks c = fallbacks_take_commands
