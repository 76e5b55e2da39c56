use Rattle.std.proofs.Common.{◌≡◌}
use Rattle.riak_msgs.specs.declared.request.Request.TheVariants.{Get}
use Rattle.riak_msgs.specs.Requests.{default_key}
use Rattle.riak_msgs.proofs.PlainFields.{no_bytes}
use Rattle.riak_msgs.proofs.PlainRequests.{optional_get, says_optional_get}
use Rattle.riak_msgs.proofs.Requests.{reads_no_memory}
use Rattle.riak_msgs.proofs.read_get.read_get_with_options.Goals as goal

pub returns-in_err-of_default_type : goal.returns-in_err-of_default_type
returns-in_err-of_default_type c =
    let body = c.args.body.now in
    let head = c.first_flag-head.result in
    let last = c.first_flag-deletedvclock.result in
    let context = c.first_context.result in
    reads_no_memory 9 body (Get (optional_get c.args.bucket.now c.args.key.now context.0.now head.0 last.0)) c.from_residual.result c.from_residual.ensures.1
    (says_optional_get body c.args.bucket.now c.args.key.now c.args.options.now context.1.now head.1.now last.1.now context.0.now head.0 last.0 c.requires
    c.first_context.ensures.begins c.first_flag-head.ensures.begins c.first_flag-deletedvclock.ensures.begins (no_bytes last.1.now c.if-not-is_empty.ensures))

pub returns-in_err-from_slice : goal.returns-in_err-from_slice
returns-in_err-from_slice c =
    let body = c.args.body.now in
    let head = c.first_flag-head.result in
    let last = c.first_flag-deletedvclock.result in
    let context = c.first_context.result in
    let result = c.from_residual-in_err-from_slice.result in
    reads_no_memory 9 body (Get (optional_get c.args.bucket.now c.args.key.now context.0.now head.0 last.0)) result c.from_residual-in_err-from_slice.ensures.1
    (says_optional_get body c.args.bucket.now c.args.key.now c.args.options.now context.1.now head.1.now last.1.now context.0.now head.0 last.0 c.requires
    c.first_context.ensures.begins c.first_flag-head.ensures.begins c.first_flag-deletedvclock.ensures.begins (no_bytes last.1.now c.if-not-is_empty.ensures))

pub returns : goal.returns
returns c =
    let body = c.args.body.now in
    let head = c.first_flag-head.result in
    let last = c.first_flag-deletedvclock.result in
    let context = c.first_context.result in
    let key : c.in_ok-of_default_type.field-0 ≡ default_key c.args.bucket.now c.args.key.now = c.in_ok-of_default_type.ensures in
    let if_modified : c.in_ok-from_slice.field-0 ≡ context.0.now = c.in_ok-from_slice.ensures in
    rw (key, if_modified)
    (says_optional_get body c.args.bucket.now c.args.key.now c.args.options.now context.1.now head.1.now last.1.now context.0.now head.0 last.0 c.requires
    c.first_context.ensures.begins c.first_flag-head.ensures.begins c.first_flag-deletedvclock.ensures.begins (no_bytes last.1.now c.if-not-is_empty.ensures))
