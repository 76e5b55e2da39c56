-- The answer to a write, as it lies ready.
use Rattle.std.specs.Prelude.{Bool, true, false, Option, Some, None}
use Rattle.riak_msgs.specs.declared.PutReply.{PutReply}
use Rattle.vnode_core.specs.declared.ask.Answer.{Answer}
use Rattle.vnode_core.specs.declared.ask.Answer.TheVariants as answers
use Rattle.vnode_core.specs.Replies.{nothing_after}

-- to a delete, or to a put, which is shown a reply or nothing
abbrev pub answer_laid : (is_put : Bool) → Option PutReply → Answer
answer_laid false shown = answers.Del
answer_laid true None = answers.Put nothing_after
answer_laid true (Some reply) = answers.Put reply
