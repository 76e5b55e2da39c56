use Rattle.std.proofs.Common.{◌<◌, ◌∙◌, ◌∷◌, length, sym, ap, arith}
use Rattle.dvv_set.proofs.Walks.{first-rest}
use Rattle.dvv_set.proofs.inline.InlineList.remove_first.Goals as goal

pub returns : goal.returns
returns g c =
    let items = c.self.inside.content.items in
    let some : 0 < length items = omega (arith, ap (λ list. length list.items) c.self.view_is, c.requires) in
    ap (λ list. list.items) (sym c.self.view_is) ∙ first-rest items c.remove.result some ∙ (λ i. sym c.remove.ensures.value i ∷ sym c.remove.ensures.items i)

pub remove-requires : goal.remove-requires
remove-requires g c = (omega arith, omega (arith, ap (λ list. length list.items) c.self.view_is, c.requires))
