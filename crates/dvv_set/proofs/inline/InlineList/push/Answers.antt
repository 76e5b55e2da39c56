use Rattle.std.proofs.Common.{◌∙◌, ◌++◌, ◌∷◌, [], ap}
use Rattle.dvv_set.proofs.inline.InlineList.push.Goals as goal

pub returns : goal.returns
returns g c = c.in_ok-push.ensures.ok ∙ ap (λ list. list.items ++ c.args.item ∷ []) c.self.view_is
