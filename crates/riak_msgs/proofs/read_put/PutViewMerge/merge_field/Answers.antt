use Rattle.std.proofs.Common.{[], ◌∷◌, ◌++◌, ap, sym}
use Rattle.std.proofs.lemmas.Result.{on_ok_weaker}
use Rattle.pb_fields.specs.Field.{seen}
use Rattle.riak_msgs.specs.Seen.{merged}
use Rattle.riak_msgs.proofs.Walks.{OnOk-each}
use Rattle.riak_msgs.proofs.Requests.{last_bytes-more, content-more, content-skip}
use Rattle.riak_msgs.proofs.read_put.PutViewMerge.merge_field.Goals as goal

pub returns-in-Some-clause-ok : goal.returns-in-Some-clause-ok
returns-in-Some-clause-ok c =
    let field = seen c.args.field in
    on_ok_weaker c.merge.result (λ merge fields before.
    let (put, own, stands, is) = before in
    let (part, one, now) = merge put.content is.content in (
      record { own = put.own ++ field ∷ []; content = merged put.content part },
      ap (λ fs. fs ++ field ∷ []) own,
      content-more fields field c.in-Some.content.now put.content part (sym c.in-Some.ensures) stands one,
      record {
        names = c.merge_field.ensures put.own is.names;
        context = last_bytes-more 3 put.own field _ _ is.context c.keep_last.ensures;
        flags = c.merge_field-2.ensures put.own is.flags;
        content = now;
      },
    ))
    (OnOk-each c.merge.result _ _ c.merge.ensures.ok)

pub returns-in-None-clause-ok : goal.returns-in-None-clause-ok
returns-in-None-clause-ok c = λ fields before.
    let field = seen c.args.field in
    let (put, own, stands, is) = before in (
      record { own = put.own ++ field ∷ []; content = put.content },
      ap (λ fs. fs ++ field ∷ []) own,
      content-skip fields field put.content (sym c.in-None.ensures) stands,
      record {
        names = c.merge_field.ensures put.own is.names;
        context = last_bytes-more 3 put.own field _ _ is.context c.keep_last.ensures;
        flags = c.merge_field-2.ensures put.own is.flags;
        content = is.content;
      },
    )
