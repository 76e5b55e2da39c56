use Rattle.std.proofs.Common.{refl}
use Rattle.riak_msgs.proofs.PlainParts.{no_truth}
use Rattle.riak_msgs.proofs.PlainRequests.{no_put-content, no_put-flags, put_content}
use Rattle.riak_msgs.proofs.plain_put.PlainPut.of.Goals as goal

pub returns-in_default-clause-none : goal.returns-in_default-clause-none
returns-in_default-clause-none c = λ put is. c.in_default.ensures.none put.bucket.now put.key.now is.behind_names is.names

pub returns-in_default-first_bytes-clause-none : goal.returns-in_default-first_bytes-clause-none
returns-in_default-first_bytes-clause-none c = λ put is.
    let found = c.first_context.ensures in
    let context = c.first_context.result in
    c.in_default-first_bytes.ensures.none put.content.now is.options
    (put_content c.args.body.now c.in-Some.bucket.now c.in-Some.key.now c.in-Some.behind_names.now context.0.now context.1.now c.in-Some.ensures.some
    (found.begins, found.found) put is)

pub returns-then-not-is_plain_content-clause-none : goal.returns-then-not-is_plain_content-clause-none
returns-then-not-is_plain_content-clause-none c = λ put is.
    let found = c.first_context.ensures in
    let context = c.first_context.result in
    no_put-content context.1.now c.in-Some-first_bytes.content.now c.in-Some-first_bytes.options.now c.in-Some-first_bytes.ensures.some
    (λ plain. no_truth (c.if-not-is_plain_content.ensures.1 plain)) c.args.body.now put is
    (put_content c.args.body.now c.in-Some.bucket.now c.in-Some.key.now c.in-Some.behind_names.now context.0.now context.1.now c.in-Some.ensures.some
    (found.begins, found.found) put is)

pub returns-in_default-plain_flags-clause-none : goal.returns-in_default-plain_flags-clause-none
returns-in_default-plain_flags-clause-none c = λ put is.
    let found = c.first_context.ensures in
    let context = c.first_context.result in
    no_put-flags context.1.now c.in-Some-first_bytes.content.now c.in-Some-first_bytes.options.now c.in-Some-first_bytes.ensures.some
    c.in_default-plain_flags.ensures.none c.args.body.now put is
    (put_content c.args.body.now c.in-Some.bucket.now c.in-Some.key.now c.in-Some.behind_names.now context.0.now context.1.now c.in-Some.ensures.some
    (found.begins, found.found) put is)

pub returns-clause-some : goal.returns-clause-some
returns-clause-some c = record {
  behind_names = c.in-Some.behind_names.now;
  behind_context = c.first_context.result.1.now;
  options = c.in-Some-first_bytes.options.now;
  names = c.in-Some.ensures.some;
  context = c.first_context.ensures.begins;
  content = c.in-Some-first_bytes.ensures.some;
  whole = c.if-not-is_plain_content.ensures.0 refl;
  flags = c.in-Some-plain_flags.ensures.some;
}
