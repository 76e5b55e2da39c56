use Rattle.std.proofs.Common.{List, ℕ, [], Option, refl, sym, subst}
use Rattle.std.specs.List.{cons_option}
use Rattle.std.proofs.lemmas.Result.{IfErr-weaker, on_ok_weaker}
use Rattle.riak_msgs.specs.Embedded.{StandForContent}
use Rattle.riak_msgs.proofs.PartsAppended.{OnOk-both, nothing_appended}
use Rattle.riak_msgs.proofs.Walks.{IfErr-each, OnOk-each}
use Rattle.riak_msgs.proofs.read_put.PutPartsMerge.merge_field.Goals as goal

pub returns-in-Some-clause-ok : goal.returns-in-Some-clause-ok
returns-in-Some-clause-ok c =
    OnOk-both c.append_occurrence.result _ _ c.append_occurrence.ensures.kind
    (on_ok_weaker c.append_occurrence.result (λ appended part stands.
    let P : Option (List ℕ) → Type 0 = λ o. StandForContent (cons_option o []) part in
    appended part (subst P (sym c.in-Some.ensures) stands))
    (OnOk-each c.append_occurrence.result _ _ c.append_occurrence.ensures.ok))

pub returns-in-Some-clause-err : goal.returns-in-Some-clause-err
returns-in-Some-clause-err c =
    IfErr-weaker c.append_occurrence.result _ _ (λ fault refused part stands.
    let P : Option (List ℕ) → Type 0 = λ o. StandForContent (cons_option o []) part in
    refused part (subst P (sym c.in-Some.ensures) stands))
    (IfErr-each c.append_occurrence.result _ _ c.append_occurrence.ensures.err)

pub returns-in-None-clause-ok : goal.returns-in-None-clause-ok
returns-in-None-clause-ok c = (
  refl,
  λ part stands.
      let P : Option (List ℕ) → Type 0 = λ o. StandForContent (cons_option o []) part in
      let parts = c.args.self.now.parts in
      nothing_appended parts.kind parts.out.items part (subst P (sym c.in-None.ensures) stands),
)
