-- The texts of errors.
use Rattle.std.specs.Prelude.{ℕ, List, codes}
use Rattle.riak_msgs.specs.declared.text.Text.{Text}
use Rattle.riak_msgs.specs.declared.text.Text.TheVariants.{UnknownCode, BadMessage, MissingField, EmptyName, NoKey, NoMemory, MatchFound, Modified, NotFound, BadContext, TooManySiblings, ClockFull, EpochsUsedUp, CounterUsedUp, Moved, HistoryFull, BadFrame, FrameTooLarge}

-- what a client reads of each
abbrev pub text_bytes : Text → List ℕ
text_bytes UnknownCode = codes "unknown message code"
text_bytes BadMessage = codes "bad message"
text_bytes MissingField = codes "missing field"
text_bytes EmptyName = codes "empty name"
text_bytes NoKey = codes "key required"
text_bytes NoMemory = codes "no memory"
text_bytes MatchFound = codes "match_found"
text_bytes Modified = codes "modified"
text_bytes NotFound = codes "notfound"
text_bytes BadContext = codes "bad context"
text_bytes TooManySiblings = codes "too many siblings"
text_bytes ClockFull = codes "clock full"
text_bytes EpochsUsedUp = codes "epochs used up"
text_bytes CounterUsedUp = codes "counter used up"
text_bytes Moved = codes "moved"
text_bytes HistoryFull = codes "history full"
text_bytes BadFrame = codes "bad frame"
text_bytes FrameTooLarge = codes "frame too large"
