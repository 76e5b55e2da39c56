use Rattle.std.proofs.Common.{[], ◌∷◌, ◌++◌, refl, ap, sym, ◌∙◌}
use Rattle.std.proofs.lemmas.List.{append-nil}
use Rattle.std.proofs.lemmas.Result.{IfErr-weaker, on_ok_weaker}
use Rattle.pb_fields.specs.Field.{seen}
use Rattle.riak_msgs.specs.Parts.{part_number, parts_message}
use Rattle.riak_msgs.specs.Picking.{bytes_at}
use Rattle.riak_msgs.proofs.PartsAppended.{EachStand-kind, none_stands, one_stands, stands_here}
use Rattle.riak_msgs.proofs.Walks.{IfErr-each, OnOk-each}
use Rattle.riak_msgs.proofs.parts_encoder.PartsEncoderMerge.merge_field.Goals as goal

pub returns-in-Some-clause-ok : goal.returns-in-Some-clause-ok
returns-in-Some-clause-ok c =
    let kind = c.args.self.now.kind in
    let out = c.args.self.now.out.items in
    let field = seen c.args.field in
    let bytes = c.in-Some.bytes.now in
    let is = c.in-Some.ensures ∙ ap (λ n. bytes_at n field) c.number.ensures.is in
    on_ok_weaker c.append_part.result (λ appended. (
      refl,
      λ parts all.
          let (fields, here) = stands_here (part_number kind) field bytes parts is all in
          appended fields here
          ∙ ap (λ ps. out ++ parts_message kind ps) (sym (one_stands (part_number kind) field bytes fields parts is here all)),
    )) (OnOk-each c.append_part.result _ _ c.append_part.ensures.ok)

pub returns-in-Some-clause-err : goal.returns-in-Some-clause-err
returns-in-Some-clause-err c =
    let kind = c.args.self.now.kind in
    let field = seen c.args.field in
    let is = c.in-Some.ensures ∙ ap (λ n. bytes_at n field) c.number.ensures.is in
    IfErr-weaker c.append_part.result _ _ (λ fault refused part holds.
    let all = EachStand-kind kind (field ∷ []) part holds in
    let (fields, here) = stands_here (part_number kind) field c.in-Some.bytes.now _ is all in
    refused fields here)
    (IfErr-each c.append_part.result _ _ c.append_part.ensures.err)

pub returns-in-None-clause-ok : goal.returns-in-None-clause-ok
returns-in-None-clause-ok c =
    let kind = c.args.self.now.kind in
    let out = c.args.self.now.out.items in
    let field = seen c.args.field in
    let is = c.in-None.ensures ∙ ap (λ n. bytes_at n field) c.number.ensures.is in (
      refl,
      λ parts all.
          sym (append-nil out)
          ∙ ap (λ ps. out ++ parts_message kind ps) (sym (none_stands (part_number kind) field parts is all)),
    )
