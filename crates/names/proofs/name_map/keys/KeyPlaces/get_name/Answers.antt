use Rattle.std.proofs.Common.{◌∙◌, sym}
use Rattle.std.proofs.lemmas.Cmp.{nat_list_cmp_total}
use Rattle.names.specs.ShortNames.{is_short}
use Rattle.names.proofs.Words.{same_short}
use Rattle.names.proofs.Merged.{found_first, merged_sorted}
use Rattle.names.proofs.name_map.keys.KeyPlaces.get_name.Goals as goal

pub returns-clause-place : goal.returns-clause-place
returns-clause-place c =
    rw (← c.self.view_is)
    (c.get_short.ensures
    ∙ sym (found_first nat_list_cmp_total is_short same_short c.self.inside.short.entries c.self.inside.long.entries c.self.invariant c.args.name c.requires))

pub returns-clause-ordered : goal.returns-clause-ordered
returns-clause-ordered c = rw (← c.self.view_is) (merged_sorted nat_list_cmp_total c.self.inside.short.entries c.self.inside.long.entries c.self.invariant.first_ordered)
