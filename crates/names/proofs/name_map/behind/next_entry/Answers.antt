use Rattle.std.proofs.Common.{◌∙◌, sym, ap}
use Rattle.std.specs.Option.{option_map}
use Rattle.std.specs.Borrow.{Bor}
use Rattle.names.specs.Behind.{next_entry}
use Rattle.names.proofs.NextEntry.{first_of_all}
use Rattle.names.proofs.name_map.behind.next_entry.Goals as goal

pub returns-in-None-clause-next : goal.returns-in-None-clause-next
returns-in-None-clause-next g c =
    first_of_all g.K.Ord.cmp c.first_key_value.result c.args.map.now.entries c.first_key_value.ensures.variant c.first_key_value.ensures.first
    ∙ ap (λ o. next_entry g.K.Ord.cmp (option_map {T = Bor g.row.K.Denot} {U = g.row.K.Denot} (λ key. key.now) o) c.args.map.now.entries) (sym c.in-None.is)
