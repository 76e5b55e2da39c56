use Rattle.std.proofs.Common.{◌≡◌, arith}
use Rattle.std.proofs.lemmas.Result.{on_ok_weaker}
use Rattle.pb_fields.specs.Field.{seen}
use Rattle.riak_msgs.specs.SeenContents.{content_in}
use Rattle.riak_msgs.proofs.Walks.{bytes_at-no_string, bytes_at-other, seen-bytes, string_in-no_bytes}
use Rattle.riak_msgs.proofs.ContentsWalked.{alone-holds}
use Rattle.riak_msgs.proofs.ContentsCopied.{Copies-index, Copies-link, Copies-none, Copies-usermeta}
use Rattle.riak_msgs.proofs.content_view.PartsViewMerge.merge_field.Goals as goal

pub returns-in_default : goal.returns-in_default
returns-in_default c =
    let field = seen c.args.field in
    let none = string_in-no_bytes c.args.field.value c.in_default.not-Bytes in
    record {
      ok = Copies-none (content_in c.args.self.now) field
          (alone-holds field (bytes_at-no_string 6 field none) (bytes_at-no_string 9 field none) (bytes_at-no_string 10 field none));
      err = tt;
    }

pub returns-in-6-clause-ok : goal.returns-in-6-clause-ok
returns-in-6-clause-ok c =
    on_ok_weaker c.push_link.result (λ put.
    Copies-link (content_in c.args.self.now) (seen c.args.field) c.in-Bytes.bytes.now c.push_link.new.links put.0
    (seen-bytes c.args.field 6 c.in-Bytes.bytes c.in-6.is c.in-Bytes.is) put.1 put.2) c.push_link.ensures.ok

pub returns-in-9-clause-ok : goal.returns-in-9-clause-ok
returns-in-9-clause-ok c =
    on_ok_weaker c.push_pair.result (λ put.
    Copies-usermeta (content_in c.args.self.now) (seen c.args.field) c.in-Bytes.bytes.now c.push_pair.new.pairs put.0
    (seen-bytes c.args.field 9 c.in-Bytes.bytes c.in-9.is c.in-Bytes.is) put.1 put.2) c.push_pair.ensures.ok

pub returns-in-10-clause-ok : goal.returns-in-10-clause-ok
returns-in-10-clause-ok c =
    on_ok_weaker c.push_pair-in-10.result (λ put.
    Copies-index (content_in c.args.self.now) (seen c.args.field) c.in-Bytes.bytes.now c.push_pair-in-10.new.pairs put.0
    (seen-bytes c.args.field 10 c.in-Bytes.bytes c.in-10.is c.in-Bytes.is) put.1 put.2) c.push_pair-in-10.ensures.ok

pub returns-in_default-number-clause-ok : goal.returns-in_default-number-clause-ok
returns-in_default-number-clause-ok c =
    let field = seen c.args.field in
    let link : c.args.field.number ≡ 6 → ⊥ = omega arith in
    let usermeta : c.args.field.number ≡ 9 → ⊥ = omega arith in
    let index : c.args.field.number ≡ 10 → ⊥ = omega arith in
    Copies-none (content_in c.args.self.now) field
    (alone-holds field (bytes_at-other 6 field link) (bytes_at-other 9 field usermeta) (bytes_at-other 10 field index))
