-- The program's line and status for a session's end.
use Rattle.std.specs.Prelude.{ℕ, List, ◌++◌, codes, decimal, Result, Ok, Err}
use Rattle.node_session.specs.declared.ended.Ended.{Ended}
use Rattle.node_session.specs.declared.fault.SessionFault.{SessionFault}
use Rattle.node_session.specs.declared.fault.SessionFault.TheVariants.{ReadFailed, WriteFailed, BadFrame, TooManyReads, NoMemory}

-- what went wrong
abbrev pub reason_text : SessionFault → List ℕ
reason_text (ReadFailed count) = codes "read failed"
reason_text (WriteFailed count) = codes "write failed"
reason_text (BadFrame count) = codes "bad frame"
reason_text (TooManyReads count) = codes "too many reads"
reason_text (NoMemory count) = codes "no memory"

-- how many replies were written whole before it
abbrev pub reply_count : SessionFault → ℕ
reply_count (ReadFailed count) = count
reply_count (WriteFailed count) = count
reply_count (BadFrame count) = count
reply_count (TooManyReads count) = count
reply_count (NoMemory count) = count

-- a fault in words
abbrev pub fault_text : SessionFault → List ℕ
fault_text fault = reason_text fault ++ codes " after " ++ decimal (reply_count fault) ++ codes " replies"

-- the line of a fault
abbrev pub fault_line : SessionFault → List ℕ
fault_line fault = codes "riak_node: " ++ fault_text fault ++ codes "\n"

-- the status of the program: 0 at the end of the input, 1 at a fault
abbrev pub exit_status : Result Ended SessionFault → ℕ
exit_status (Ok ended) = 0
exit_status (Err fault) = 1
