-- The comparison of a run with a plain register that is asked the same: what is known of a run, and what each call and
-- each answer of a line adds.
use Rattle.std.specs.Prelude.{◌≡◌, ℕ, List, [], ◌∷◌, ◌++◌, Bool, true, false, ◌&&◌, length, min, Option, Some, None, is_none, is_some, option_map, option_and_then, if◌then◌else◌}
use Rattle.std.specs.Option.{option_map_or}
use Rattle.std.specs.Cmp.Lexicographic.{pointwise}
use Rattle.riak_msgs.specs.Contents.{Content}
use Rattle.riak_msgs.specs.declared.Key.{Key}
use Rattle.riak_msgs.specs.declared.Request.{Request}
use Rattle.riak_msgs.specs.declared.reply.Reply.{Reply}
use Rattle.riak_msgs.specs.declared.reply.Reply.TheVariants as replies
use Rattle.riak_msgs.specs.KeyOrder.{key_eq}
use Rattle.sibling_register.specs.Answers.{RegisterAsk, AskGet, AskPut, AskDel, AskReap}
use Rattle.sibling_register.specs.declared.command.Command.TheVariants as commands
use Rattle.actor_epoch.specs.declared.dot.Dot.{Dot}
use Rattle.actor_epoch.specs.Dots.{dot_eq}
use Rattle.actor_epoch.specs.Given.{Context, context_of, pairs_read}
use Rattle.vnode_machine.specs.Asks.{request_ask}
pub use Rattle.vnode_machine.specs.Registers.{key_of}
use Rattle.schedule_text.specs.declared.shown_context.ShownContext.{ShownContext}
use Rattle.schedule_text.specs.declared.verdict.Verdict.{Verdict}
use Rattle.schedule_text.specs.declared.verdict.Verdict.TheVariants.{Equal, NotCompared}
use Rattle.schedule_text.specs.Verdicts.{verdict_after}
use Rattle.schedule_text.specs.PlainAnswers.{PlainHistory, command_by, plain_of, told_in, history_after, plain_refusal, is_due}

-- what is known of a run: the plain register's history, the contexts that replies showed, each with the position of that
-- history at which it was shown first, and the verdict
pub record Compared : Type 0 where
  pub history : PlainHistory
  pub shown : List ShownContext
  pub verdict : Verdict

-- before any line
abbrev pub nothing_compared : Compared
nothing_compared = record { history = []; shown = []; verdict = Equal }

-- the context that an ask gives; of a get that is `if_modified`
abbrev pub given_in : RegisterAsk Content Context → Option Context
given_in (AskGet get) = get.if_modified
given_in (AskPut put) = put.context
given_in (AskDel del) = del.context
given_in (AskReap key) = None

-- a key and the bytes of a context are those that a request gives
abbrev pub AreOf : Request → Key → List ℕ → Type 0
AreOf request key bytes =
    (ask : RegisterAsk Content Context) × (request_ask request ≡ Some ask) × (key_of ask ≡ key) × (given_in ask ≡ context_of bytes)

-- a context of these pairs was shown for the key: contexts are one where their pairs are
abbrev pub is_of : Key → List Dot → ShownContext → Bool
is_of key pairs shown = key_eq shown.key key && option_map_or (pointwise dot_eq pairs) (pairs_read (context_of shown.context)) false

-- the position of the context of these pairs, where it was shown for the key
abbrev pub position_of : List ShownContext → Key → List Dot → Option ℕ
position_of [] key pairs = None
position_of (entry ∷ others) key pairs = if is_of key pairs entry then Some entry.position else position_of others key pairs

-- the same of a context that is given or not, which is of the right form or not
abbrev pub position_given : List ShownContext → Key → Option Context → Option ℕ
position_given shown key given = option_and_then (position_of shown key) (pairs_read given)

-- a context of the right form is given that wasn't shown for the key
abbrev pub is_unknown : List ShownContext → Key → Option Context → Bool
is_unknown shown key given = option_map_or (λ pairs. is_none (position_of shown key pairs)) (pairs_read given) false

-- the context of a reply's bytes is shown for the key from now on, and names this position where it wasn't shown before
abbrev pub shown_by : List ℕ → Key → ℕ → List ShownContext → List ShownContext
shown_by bytes key position shown =
    if is_unknown shown key (context_of bytes)
    then shown ++ record { key = key; context = bytes; position = position } ∷ []
    else shown

-- the bytes of the context that a reply shows; none where it shows none
abbrev pub context_in : Reply → List ℕ
context_in (replies.Error text) = []
context_in replies.Ping = []
context_in (replies.Get reply) = reply.context
context_in (replies.Put reply) = reply.context
context_in replies.Del = []

-- a plain register is asked what this answers: it is accepted, or refused as a plain register may
abbrev pub is_asked : Reply → Bool
is_asked (replies.Error text) = is_some (plain_refusal text)
is_asked replies.Ping = false
is_asked (replies.Get reply) = true
is_asked (replies.Put reply) = true
is_asked replies.Del = true

-- the run isn't compared
abbrev pub not_compared : Compared → Compared
not_compared known = record known { verdict = NotCompared }

-- a worker got a call: where that gives a context that wasn't shown, the run isn't compared
abbrev pub after_call : RegisterAsk Content Context → Compared → Compared
after_call ask known = if is_unknown known.shown (key_of ask) (given_in ask) then not_compared known else known

-- what a position is asked as: it is never past the end, and the minimum only says so
abbrev pub within : PlainHistory → Option ℕ → Option ℕ
within history position = option_map (λ p. min p (length history)) position

-- a call was answered by a reply, at the line of this number: the register is asked the same, its context as the position
-- that it names
abbrev pub after_reply_at : ℕ → RegisterAsk Content Context → Reply → Compared → Compared
after_reply_at line ask reply known =
    let key : Key = key_of ask in
    let position = within known.history (position_given known.shown key (given_in ask)) in
    let outcome = plain_of known.history (command_by ask position) in
    let history : PlainHistory = history_after known.history outcome in
    record {
      history = history;
      shown = shown_by (context_in reply) key (length history) known.shown;
      verdict = verdict_after line known.verdict (is_due history key (told_in outcome) reply);
    }

abbrev pub after_reply : ℕ → RegisterAsk Content Context → Reply → Compared → Compared
after_reply line ask reply known = if is_asked reply then after_reply_at line ask reply known else known

-- a reap was answered, whether it forgot the key or kept it: the register is asked to reap
abbrev pub after_reap : Key → Compared → Compared
after_reap key known = record known { history = history_after known.history (plain_of known.history (commands.Reap key)) }
