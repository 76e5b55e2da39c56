use Rattle.riak_msgs.proofs.PlainFields.{no_bytes, some_bytes}
use Rattle.riak_msgs.proofs.PlainRequests.{flags_are, no_flags}
use Rattle.riak_msgs.proofs.plain_put.plain_flags.Goals as goal

pub returns-then-not-is_empty-clause-none : goal.returns-then-not-is_empty-clause-none
returns-then-not-is_empty-clause-none c =
    let first = c.first_flag-return_body in
    let second = c.first_flag-if_not_modified in
    let third = c.first_flag-if_none_match in
    let fourth = c.first_flag-return_head in
    let rest = fourth.result.1.now in
    no_flags c.args.bytes.now first.result.1.now second.result.1.now third.result.1.now rest first.result.0 second.result.0 third.result.0 fourth.result.0
    (first.ensures.begins, first.ensures.found) (second.ensures.begins, second.ensures.found) (third.ensures.begins, third.ensures.found)
    (fourth.ensures.begins, fourth.ensures.found) (some_bytes rest c.if-not-is_empty.ensures)

pub returns-clause-some : goal.returns-clause-some
returns-clause-some c =
    let first = c.first_flag-return_body in
    let second = c.first_flag-if_not_modified in
    let third = c.first_flag-if_none_match in
    let fourth = c.first_flag-return_head in
    let rest = fourth.result.1.now in
    flags_are c.args.bytes.now first.result.1.now second.result.1.now third.result.1.now rest
    (record {
      return_body = first.result.0;
      if_not_modified = second.result.0;
      if_none_match = third.result.0;
      return_head = fourth.result.0;
    }) first.ensures.begins second.ensures.begins third.ensures.begins fourth.ensures.begins (no_bytes rest c.if-not-is_empty.ensures)
