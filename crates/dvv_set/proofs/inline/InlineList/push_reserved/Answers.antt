use Rattle.std.proofs.Common.{◌∙◌, ◌++◌, ◌∷◌, [], length, ap, arith}
use Rattle.dvv_set.proofs.inline.InlineList.push_reserved.Goals as goal

pub push_reserved-requires : goal.push_reserved-requires
push_reserved-requires g c =
    let fits = c.well_formed in
    (omega arith, omega (arith, ap (λ list. length list.items) c.self.view_is, ap (λ list. list.capacity) c.self.view_is, c.requires))

pub returns-clause-items : goal.returns-clause-items
returns-clause-items g c = c.push_reserved.ensures.items ∙ ap (λ list. list.items ++ c.args.item ∷ []) c.self.view_is

pub returns-clause-capacity : goal.returns-clause-capacity
returns-clause-capacity g c = c.push_reserved.ensures.capacity ∙ ap (λ list. list.capacity) c.self.view_is
