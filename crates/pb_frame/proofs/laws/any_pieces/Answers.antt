use Rattle.pb_frame.specs.Run.{fed_bytes, taken_messages}
use Rattle.pb_frame.specs.Stream.{opening}
use Rattle.pb_frame.proofs.Headers.{begins_messages}
use Rattle.pb_frame.proofs.Runs.{run_of}
use Rattle.pb_frame.proofs.laws.any_pieces.Goals as goal

pub returns-clause-bytes : goal.returns-clause-bytes
returns-clause-bytes c = λ limit events new p. let run = run_of events (opening limit) new p in (run.bytes, run.each)

pub returns-clause-begins : goal.returns-clause-begins
returns-clause-begins c = λ limit lt events new p all rest splits.
    let run = run_of events (opening limit) new p in
    let later = begins_messages limit lt (fed_bytes events) all (taken_messages events) rest new.rest splits run.bytes run.each in
    (later.0, later.1)
