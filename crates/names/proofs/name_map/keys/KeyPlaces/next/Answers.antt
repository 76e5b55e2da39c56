use Rattle.std.proofs.Common.{◌∙◌, sym, List, ℕ}
use Rattle.std.specs.Option.{option_map}
use Rattle.std.specs.Borrow.{Bor}
use Rattle.std.proofs.lemmas.Cmp.{nat_list_cmp_total}
use Rattle.names.specs.ShortNames.{is_short}
use Rattle.names.specs.Behind.{lower}
use Rattle.names.specs.Nested.{bytes_cmp}
use Rattle.names.proofs.MergedNext.{next_lower, absent_first, next_of, all_held}
use Rattle.names.proofs.name_map.keys.KeyPlaces.next.Goals as goal

pub returns : goal.returns
returns c =
    rw (← c.self.view_is)
    (c.lower.ensures
    ∙ (λ i. lower bytes_cmp
    ((c.next_short-short.ensures ∙ next_of c.args.after c.self.inside.short.entries (all_held nat_list_cmp_total is_short c.self.inside.short.entries c.self.invariant.not_first)) i)
    (c.next_long-long.ensures i))
    ∙ sym (next_lower nat_list_cmp_total (option_map {T = Bor (List ℕ)} (λ key. key.now) c.args.after) c.self.inside.short.entries c.self.inside.long.entries
    c.self.invariant.first_ordered c.self.invariant.second_ordered (absent_first nat_list_cmp_total is_short c.self.inside.short.entries c.self.inside.long.entries c.self.invariant)))
