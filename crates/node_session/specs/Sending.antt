-- What is sent of what a session has to send, and how far a session has come.
use Rattle.std.specs.Prelude.{◌≡◌, ℕ, ◌<◌, List, [], Option, None, length, take}
use Rattle.std.specs.List.{flat_map}
use Rattle.std.specs.Io.KnownBytes.{Appends}
use Rattle.riak_msgs.specs.declared.request.Request.{Request}
use Rattle.riak_msgs.specs.declared.reply.Reply.{Reply}
use Rattle.node_session.specs.Answers.{AnswersInTurn, reply_frame}
use Rattle.node_session.specs.Views.{Transcript, messages_of, replies_of}

-- a beginning of the bytes was written, and not all
pub record IsWriteCutShort (held held' : Option (List ℕ)) (bytes : List ℕ) : Type 0 where
  pub len : ℕ
  pub short : len < length bytes
  pub written : Appends held held' (take len bytes)

-- a session of so many replies goes on, and all that was answered was sent
pub record IsSessionOpen (session : Transcript) (count : ℕ) : Type 0 where
  pub counted : length session.exchanges ≡ count
  pub fault : session.fault ≡ None
  pub sent : session.unsent ≡ []

module _ {S : Type 0} (Step : S → Request → Reply → S → Type 0) where
  -- the session's messages were answered by a run of the node from the first state, and all replies were written
  pub record Stands (first now : S) (held held' : Option (List ℕ)) (session : Transcript) : Type 0 where
    pub run : AnswersInTurn Step first (messages_of session.exchanges) (replies_of session.exchanges) now
    pub written : Appends held held' (flat_map reply_frame (replies_of session.exchanges))
