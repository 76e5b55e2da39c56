-- The line and the status that each command ends with.
use Rattle.std.specs.Prelude.{◌==◌, ◌++◌, ℕ, List, [], if◌then◌else◌, codes, decimal, Ok, Err}
use Rattle.node_session.specs.Report.{exit_status, fault_line}
use Rattle.node_session.specs.declared.ended.Ended.{Ended}
use Rattle.node_commands.specs.Lines.{serve_fault_text}
use Rattle.schedule_player.specs.declared.fault.StepsFault.{StepsFault}
use Rattle.schedule_player.specs.declared.fault.StepsFault.TheVariants.{BadStep, ReadFailed, WriteFailed, NoMemory}
use Rattle.riak_node.specs.declared.conclusion.Conclusion.{Conclusion}
use Rattle.riak_node.specs.declared.conclusion.Conclusion.TheVariants.{Piped, Served, CannotListen, CannotListenForControl, Played, NoRing, NoAddress, NotText, HelpNotWritten}
use Rattle.riak_node.specs.declared.conclusion.Conclusion.TheVariants as conclusions

-- a line of the program on standard error
abbrev pub error_line : List ℕ → List ℕ
error_line text = codes "riak_node: " ++ text ++ codes "\n"

-- the line for a schedule that wasn't played to its end
abbrev pub steps_fault_line : StepsFault → List ℕ
steps_fault_line (BadStep line) = codes "riak_node: bad step at line " ++ decimal line ++ codes "\n"
steps_fault_line ReadFailed = error_line (codes "read failed")
steps_fault_line WriteFailed = error_line (codes "write failed")
steps_fault_line NoMemory = error_line (codes "no memory")

-- the line for so many bytes behind the last whole frame of an input, after so many replies
abbrev pub left_line : ℕ → ℕ → List ℕ
left_line rest replies =
    codes "riak_node: " ++ (decimal rest ++ (codes " bytes of a frame are left after " ++ (decimal replies ++ codes " replies\n")))

-- that line where there are such bytes
abbrev pub rest_line : Ended → List ℕ
rest_line ended = if ended.rest == 0 then [] else left_line ended.rest ended.replies

-- what is written on standard error
abbrev pub line_of : Conclusion → List ℕ
line_of (Piped (Ok ended)) = rest_line ended
line_of (Piped (Err fault)) = fault_line fault
line_of (Served (Ok unit)) = []
line_of (Served (Err fault)) = error_line (serve_fault_text fault)
line_of CannotListen = error_line (codes "cannot listen")
line_of CannotListenForControl = error_line (codes "cannot listen for control")
line_of (Played (Ok unit)) = []
line_of (Played (Err fault)) = steps_fault_line fault
line_of NoRing = error_line (codes "ring must be a power of two from 1 to 1024")
line_of NoAddress = error_line (codes "address must be an IP address, as 127.0.0.1")
line_of NotText = error_line (codes "arguments must be UTF-8")
line_of conclusions.NoMemory = error_line (codes "no memory")
line_of HelpNotWritten = error_line (codes "write failed")

-- the status: 0 at the end, also where bytes are left, 1 at a fault, and 2 for a command line that is none
abbrev pub status_of : Conclusion → ℕ
status_of (Piped outcome) = exit_status outcome
status_of (Served (Ok unit)) = 0
status_of (Served (Err fault)) = 1
status_of CannotListen = 1
status_of CannotListenForControl = 1
status_of (Played (Ok unit)) = 0
status_of (Played (Err fault)) = 1
status_of NoRing = 2
status_of NoAddress = 2
status_of NotText = 2
status_of conclusions.NoMemory = 1
status_of HelpNotWritten = 1
