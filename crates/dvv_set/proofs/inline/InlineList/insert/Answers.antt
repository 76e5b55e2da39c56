use Rattle.std.proofs.Common.{◌≡◌, ◌≤◌, ◌+◌, ◌∙◌, true, false, not, length, sym, ap, arith}
use Rattle.dvv_set.proofs.inline.InlineList.insert.Goals as goal

pub insert-requires : goal.insert-requires
insert-requires g c = let fits = c.well_formed in (omega arith, omega (arith, ap (λ list. length list.items) c.self.view_is, c.requires.place))

pub unreachable-requires : goal.unreachable-requires
unreachable-requires g c =
    let list = c.self.inside.content in
    let room : length list.items + 1 ≤ list.capacity =
    omega (arith, ap (λ list. length list.items) c.self.view_is, ap (λ list. list.capacity) c.self.view_is, c.requires.room) in
    let wrong : true ≡ false = sym (c.insert.ensures.succeeds room) ∙ c.is_err.ensures.negation ∙ ap not c.if-is_err.true in
    cc

pub returns-clause-capacity : goal.returns-clause-capacity
returns-clause-capacity g c =
    let list = c.self.inside.content in
    let room : length list.items + 1 ≤ list.capacity =
    omega (arith, ap (λ list. length list.items) c.self.view_is, ap (λ list. list.capacity) c.self.view_is, c.requires.room) in
    c.insert.ensures.had_room room ∙ ap (λ list. list.capacity) c.self.view_is
