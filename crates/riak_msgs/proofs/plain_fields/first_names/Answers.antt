use Rattle.std.proofs.Common.{inl, inr}
use Rattle.riak_msgs.proofs.PlainFields.{no_bytes, some_bytes, no_names-bucket, no_names-key, no_names-empty}
use Rattle.riak_msgs.proofs.plain_fields.first_names.Goals as goal

pub returns-in_default-clause-none : goal.returns-in_default-clause-none
returns-in_default-clause-none c = no_names-bucket c.args.body.now c.in_default.ensures.none

pub returns-in_default-first_bytes-clause-none : goal.returns-in_default-first_bytes-clause-none
returns-in_default-first_bytes-clause-none c =
    no_names-key c.args.body.now c.in-Some.bucket.now c.in-Some.rest.now c.in-Some.ensures.some c.in_default-first_bytes.ensures.none

pub returns-then-is_empty-clause-none : goal.returns-then-is_empty-clause-none
returns-then-is_empty-clause-none c =
    no_names-empty c.args.body.now c.in-Some.bucket.now c.in-Some-first_bytes.key.now c.in-Some.rest.now c.in-Some-first_bytes.behind.now c.in-Some.ensures.some
    c.in-Some-first_bytes.ensures.some (inl (no_bytes c.in-Some.bucket.now c.if-is_empty.ensures))

pub returns-then-is_empty-2-clause-none : goal.returns-then-is_empty-2-clause-none
returns-then-is_empty-2-clause-none c =
    no_names-empty c.args.body.now c.in-Some.bucket.now c.in-Some-first_bytes.key.now c.in-Some.rest.now c.in-Some-first_bytes.behind.now c.in-Some.ensures.some
    c.in-Some-first_bytes.ensures.some (inr (no_bytes c.in-Some-first_bytes.key.now c.if-is_empty-2.ensures))

pub returns-clause-some : goal.returns-clause-some
returns-clause-some c = record {
  rest = c.in-Some.rest.now;
  first = c.in-Some.ensures.some;
  second = c.in-Some-first_bytes.ensures.some;
  some_bucket = some_bytes c.in-Some.bucket.now c.if-is_empty.ensures;
  some_key = some_bytes c.in-Some-first_bytes.key.now c.if-is_empty-2.ensures;
}
