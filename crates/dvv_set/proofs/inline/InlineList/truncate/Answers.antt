use Rattle.std.proofs.Common.{◌∙◌, ap, take}
use Rattle.dvv_set.proofs.inline.InlineList.truncate.Goals as goal

pub returns-clause-items : goal.returns-clause-items
returns-clause-items g c = c.truncate.ensures.items ∙ ap (λ list. take c.args.len list.items) c.self.view_is

pub returns-clause-capacity : goal.returns-clause-capacity
returns-clause-capacity g c = c.truncate.ensures.capacity ∙ ap (λ list. list.capacity) c.self.view_is
