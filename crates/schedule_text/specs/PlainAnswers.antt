-- What a plain register answers to an ask whose context is named by a position, and what a reply shows of it.
use Rattle.std.specs.Prelude.{◌≡◌, ℕ, List, [], ◌∷◌, Bool, false, Option, Some, None, map, nat_eq}
use Rattle.std.specs.Option.{option_map_or, option_eq}
use Rattle.std.specs.Str.{bytes_eq}
use Rattle.riak_msgs.specs.Encoding.{repeated_field}
use Rattle.riak_msgs.specs.Contents.{Content, shown}
use Rattle.riak_msgs.specs.Encoding.{shown_message}
use Rattle.riak_msgs.specs.declared.Key.{Key}
use Rattle.riak_msgs.specs.declared.shown.Shown.{Shown}
use Rattle.riak_msgs.specs.declared.reply.Reply.{Reply}
use Rattle.riak_msgs.specs.declared.reply.Reply.TheVariants as replies
use Rattle.riak_msgs.specs.declared.text.Text.{Text}
use Rattle.riak_msgs.specs.declared.text.Text.TheVariants as texts
use Rattle.sibling_register.specs.declared.command.Command.{Command}
use Rattle.sibling_register.specs.declared.command.Command.TheVariants as commands
use Rattle.sibling_register.specs.History.{Event, content_of}
use Rattle.sibling_register.specs.Answers.{RegisterAsk, AskGet, AskPut, AskDel, AskReap, Told, Refused, Shown as ToldShown, Done, Reaped, Kept, RegisterOutcome, Answers, Accepts}
use Rattle.sibling_register.specs.Plain.{asked}
use Rattle.sibling_register.specs.Plans.{plain_outcome}
use Rattle.sibling_register.specs.Refusals.{match_found, modified, not_found, too_many_siblings}
use Rattle.actor_epoch.specs.Given.{Context}

-- the history of a plain register
abbrev pub PlainHistory : Type 0
PlainHistory = List (Event Content ℕ)

-- the command of an ask whose context names this position
abbrev pub command_by : RegisterAsk Content Context → Option ℕ → Command Content
command_by (AskGet get) position = commands.Get get.key position get.head get.deletedvclock
command_by (AskPut put) position =
    commands.Put put.key position put.value put.return_body put.return_head put.if_not_modified put.if_none_match
command_by (AskDel del) position = commands.Del del.key position
command_by (AskReap key) position = commands.Reap key

-- what comes of a command at the end of a plain register's history
abbrev pub plain_of : PlainHistory → Command Content → RegisterOutcome Content ℕ
plain_of history command = plain_outcome history (asked history command)

-- what is told, and the history after it
abbrev pub told_in : RegisterOutcome Content ℕ → Told ℕ
told_in (Answers told) = told
told_in (Accepts event told) = told

abbrev pub history_after : PlainHistory → RegisterOutcome Content ℕ → PlainHistory
history_after history (Answers told) = history
history_after history (Accepts event told) = event ∷ history

-- the number of a refusal that a plain register has too
abbrev pub plain_refusal : Text → Option ℕ
plain_refusal texts.MatchFound = Some match_found
plain_refusal texts.Modified = Some modified
plain_refusal texts.NotFound = Some not_found
plain_refusal texts.TooManySiblings = Some too_many_siblings
plain_refusal text = None

-- a sibling of the key as a reply shows it: a tombstone where the number has no value
abbrev pub sibling_shown : PlainHistory → Key → Bool → ℕ → Shown
sibling_shown history key is_bare number = shown is_bare (content_of history key number)

-- the contents that are due for an answer, after which the history is this; none where it refuses
abbrev pub contents_due : PlainHistory → Key → Told ℕ → Option (List Shown)
contents_due history key (Refused number) = None
contents_due history key (ToldShown siblings position unchanged is_bare) = Some (map (sibling_shown history key is_bare) siblings)
contents_due history key Done = Some []
contents_due history key Reaped = None
contents_due history key Kept = None

-- the number of the refusal that is due
abbrev pub refusal_due : Told ℕ → Option ℕ
refusal_due (Refused number) = Some number
refusal_due (ToldShown siblings position unchanged is_bare) = None
refusal_due Done = None
refusal_due Reaped = None
refusal_due Kept = None

-- two lists of contents are one where a reply has the same bytes for both
abbrev pub same_contents : List Shown → List Shown → Bool
same_contents due contents = bytes_eq (repeated_field shown_message 1 due) (repeated_field shown_message 1 contents)

-- these contents are due
abbrev pub are_due : PlainHistory → Key → Told ℕ → List Shown → Bool
are_due history key told contents = option_map_or (λ due. same_contents due contents) (contents_due history key told) false

-- a reply is the register's answer: the same contents in their order, or the same refusal
abbrev pub is_due : PlainHistory → Key → Told ℕ → Reply → Bool
is_due history key told (replies.Error text) = option_eq nat_eq (refusal_due told) (plain_refusal text)
is_due history key told replies.Ping = false
is_due history key told (replies.Get reply) = are_due history key told reply.contents
is_due history key told (replies.Put reply) = are_due history key told reply.contents
is_due history key told replies.Del = are_due history key told []

-- the register answers a command so, and goes from one history to another
abbrev pub PlainRegisterAnswers : PlainHistory → Command Content → Told ℕ → PlainHistory → Type 0
PlainRegisterAnswers old command told new = (told ≡ told_in (plain_of old command)) × (new ≡ history_after old (plain_of old command))
