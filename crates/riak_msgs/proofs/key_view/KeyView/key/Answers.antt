use Rattle.std.proofs.Common.{◌≡◌, [], ◌∙◌, ap, refl}
use Rattle.std.specs.Prelude.{unwrap_or}
use Rattle.riak_msgs.specs.Picking.{last_bytes}
use Rattle.riak_msgs.specs.BucketTypes.{default_type}
use Rattle.riak_msgs.proofs.Requests.{unwrap_or-copied}
use Rattle.riak_msgs.proofs.key_view.KeyView.key.Goals as goal

pub returns : goal.returns
returns c = λ type_number fields names.
    let seen = c.args.self.now in
    let bucket_type : c.in_ok-bucket_type.field-0 ≡ unwrap_or (last_bytes type_number fields) default_type =
    c.in_ok-bucket_type.ensures ∙ ap (λ o. unwrap_or o default_type) names.bucket_type in
    let bucket : c.in_ok-from_slice.field-0 ≡ unwrap_or (last_bytes 1 fields) [] =
    c.in_ok-from_slice.ensures ∙ ap (λ b. b.now) c.unwrap_or.ensures ∙ unwrap_or-copied seen.bucket _
    ∙ ap (λ o. unwrap_or o []) names.bucket in
    let key : c.in_ok-from_slice-2.field-0 ≡ unwrap_or (last_bytes 2 fields) [] =
    c.in_ok-from_slice-2.ensures ∙ ap (λ b. b.now) c.unwrap_or-2.ensures ∙ unwrap_or-copied seen.key _
    ∙ ap (λ o. unwrap_or o []) names.key in
    rw (bucket_type, bucket, key) refl
