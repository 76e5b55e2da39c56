use Rattle.std.proofs.Common.{◌∙◌, length, sym, ap, arith}
use Rattle.dvv_set.proofs.inline.InlineList.reserve.Goals as goal

pub reserve-requires : goal.reserve-requires
reserve-requires g c = omega arith

pub returns-clause-items : goal.returns-clause-items
returns-clause-items g c = c.reserve.ensures.items ∙ ap (λ list. list.items) c.self.view_is

pub returns-clause-ok : goal.returns-clause-ok
returns-clause-ok g c =
    rw (ap (λ list. length list.items) (sym c.self.view_is) ∙ ap length (sym c.reserve.ensures.items)) c.reserve.ensures.ok

pub returns-clause-capacity : goal.returns-clause-capacity
returns-clause-capacity g c = rw (← c.self.view_is) c.reserve.ensures.capacity
