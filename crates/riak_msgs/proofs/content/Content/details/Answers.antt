use Rattle.std.proofs.Common.{◌≡◌, List, ℕ, [], ◌∷◌, ap, sym, subst, ◌∙◌}
use Rattle.std.specs.Prelude.{is_some, unwrap_or}
use Rattle.riak_msgs.specs.Content.{Content}
use Rattle.riak_msgs.specs.Details.{content_with}
use Rattle.riak_msgs.specs.Embedded.{StandForContent}
use Rattle.riak_msgs.specs.SeenContents.{content_in}
use Rattle.riak_msgs.proofs.Contents.{content_of-whole}
use Rattle.riak_msgs.proofs.content.Content.details.Goals as goal

pub returns-clause-details : goal.returns-clause-details
returns-clause-details c =
    let content = c.args.self.now in
    let parts = c.in_ok-whole.field-0 in
    let (fields, seen, stands, back) = c.view.ensures in
    let P : List ℕ → Type 0 = λ bs. StandForContent (bs ∷ []) fields in
    let whole = c.in_ok-whole.ensures.ok fields seen (subst P (sym c.encoding.ensures.encoding) stands) in
    let is : content ≡ content_in parts =
    ap (λ o. unwrap_or o content) (sym back ∙ content_of-whole fields (ap is_some back)) ∙ sym whole in
    is ∙ ap (λ value. content_with value parts.details) (ap (λ (d : Content). d.value) (sym is))
