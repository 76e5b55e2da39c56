use Rattle.std.proofs.Common.{◌∷◌, [], refl, ap, ◌∙◌}
use Rattle.std.proofs.lemmas.Result.{err_from_is_err_and}
use Rattle.riak_msgs.specs.Seen.{scalars_of, with_parts}
use Rattle.riak_msgs.specs.SeenContents.{content_in}
use Rattle.riak_msgs.specs.ContentOnce.{content_once}
use Rattle.riak_msgs.proofs.content_view.ContentView.whole.Goals as goal
use Rattle.riak_msgs.proofs.content_view.ContentView.whole.Goals.{then-has_parts+in_ok-merge_parts, else-has_parts}

pub returns-in_err-merge_parts-clause-err : goal.returns-in_err-merge_parts-clause-err
returns-in_err-merge_parts-clause-err c = λ d stands.
    let p = err_from_is_err_and c.from_residual.result c.from_residual.ensures.1 in
    rw (p.1, p.2) (c.in_err-merge_parts.ensures.err d stands)

pub returns-clause-ok : goal.returns-clause-ok
returns-clause-ok c = λ d is stands. elim c.if-has_parts.branch [
  | then-has_parts+in_ok-merge_parts w ↦
      let (part, one, merged) = w.in_ok-merge_parts.ensures.ok in
      ap content_in w.parts-is ∙ merged ∙ ap (λ content. with_parts content part) (c.scalars-parts.ensures d is)
      ∙ ap (with_parts (scalars_of d)) (content_once (c.args.bytes.now ∷ []) part d one stands)
  | else-has_parts w ↦
      let none = c.has_parts.ensures d is w.if-has_parts.false in
      ap content_in w.parts-is ∙ c.scalars-parts.ensures d is ∙ rw (none.0, none.1, none.2) refl
]
