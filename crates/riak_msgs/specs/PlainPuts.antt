-- Puts in the plain form.
use Rattle.std.specs.Prelude.{ℕ, List, []}
use Rattle.riak_msgs.specs.Content.{Content}
use Rattle.riak_msgs.specs.declared.put.PutAsk.{PutAsk}
use Rattle.riak_msgs.specs.declared.plain_put.PlainPut.{PlainPut}
use Rattle.riak_msgs.specs.declared.read_put.PutFlags.{PutFlags}
use Rattle.riak_msgs.specs.Requests.{default_key}
use Rattle.riak_msgs.specs.PlainFields.{BeginsPlainly, BeginsWithContext, BeginsWithFlag, BeginsWithNames, IsPlainContent}

-- the bytes are the one encoding of a put's options
pub record ArePlainFlags (bs : List ℕ) (flags : PutFlags) : Type 0 where
  pub behind_body : List ℕ
  pub behind_modified : List ℕ
  pub behind_match : List ℕ
  pub first : BeginsWithFlag 7 bs flags.return_body behind_body
  pub second : BeginsWithFlag 9 behind_body flags.if_not_modified behind_modified
  pub third : BeginsWithFlag 10 behind_modified flags.if_none_match behind_match
  pub fourth : BeginsWithFlag 11 behind_match flags.return_head []

-- the body is the names, the context, the content and the options, each in its one encoding and nothing else
pub record IsPlainPutOf (body : List ℕ) (put : PlainPut) : Type 0 where
  pub behind_names : List ℕ
  pub behind_context : List ℕ
  pub options : List ℕ
  pub names : BeginsWithNames body put.bucket.now put.key.now behind_names
  pub context : BeginsWithContext 3 behind_names put.context.now behind_context
  pub content : BeginsPlainly 4 behind_context put.content.now options
  pub whole : IsPlainContent put.content.now
  pub flags : ArePlainFlags options put.flags

-- what it asks for, where this is its content
abbrev pub plainly_asked : PlainPut → Content → PutAsk
plainly_asked put content = record {
  key = default_key put.bucket.now put.key.now;
  context = put.context.now;
  content = content;
  return_body = put.flags.return_body;
  return_head = put.flags.return_head;
  if_not_modified = put.flags.if_not_modified;
  if_none_match = put.flags.if_none_match;
}
