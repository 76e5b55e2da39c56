use Rattle.std.proofs.Common.{◌∙◌, length, ap, arith}
use Rattle.dvv_set.proofs.inline.InlineList.len.Goals as goal

pub len-requires : goal.len-requires
len-requires g c = omega arith

pub returns : goal.returns
returns g c = c.len.ensures.value ∙ ap (λ list. length list.items) c.self.view_is
