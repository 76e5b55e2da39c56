-- What was written to the half of a connection, and what the system took of it.
use Rattle.std.specs.Prelude.{◌++◌, ℕ, List, Option, Some}
use Rattle.node_session.specs.Streams.{TargetView}

-- The number of the connection, and what was written, in three parts, one behind another: the bytes that the system took, those that it hasn't taken yet, and those that it
-- hadn't when the session ended.
pub record RepliesView : Type 0 where
  pub number : Option ℕ
  pub sent : List ℕ
  pub held : List ℕ
  pub lost : List ℕ

-- all that was written, of which what the system took is the beginning
abbrev pub written : RepliesView → List ℕ
written replies = replies.sent ++ replies.held ++ replies.lost

-- what of it the system didn't take
abbrev pub waiting : RepliesView → List ℕ
waiting replies = replies.lost ++ replies.held

-- as a session sees it
abbrev pub target_of_replies : RepliesView → TargetView
target_of_replies replies = record { number = replies.number; contents = Some (written replies); waiting = waiting replies }
