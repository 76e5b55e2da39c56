use Rattle.std.proofs.Common.{◌∙◌, sym}
use Rattle.std.specs.Prelude.{None}
use Rattle.std.proofs.lemmas.Cmp.{nat_list_cmp_total}
use Rattle.names.specs.ShortNames.{is_short}
use Rattle.names.proofs.Words.{same_short}
use Rattle.names.proofs.Merged.{found_first, apart_first, set_first, merged_sorted}
use Rattle.names.proofs.name_map.keys.KeyPlaces.remove_name.Goals as goal

pub invariant_of-self : goal.invariant_of-self
invariant_of-self c =
    apart_first nat_list_cmp_total is_short same_short c.self.inside.short.entries c.self.inside.long.entries c.remove_short.new.keys.entries c.args.name None c.self.invariant c.remove_short.ensures.ordered c.requires c.remove_short.ensures.removed

pub returns-clause-place : goal.returns-clause-place
returns-clause-place c =
    rw (← c.self.view_is)
    (c.remove_short.ensures.place ∙ sym (found_first nat_list_cmp_total is_short same_short c.self.inside.short.entries c.self.inside.long.entries c.self.invariant c.args.name c.requires))

pub returns-clause-removed : goal.returns-clause-removed
returns-clause-removed c =
    rw (← c.self.view_is)
    (set_first nat_list_cmp_total is_short same_short c.self.inside.short.entries c.self.inside.long.entries c.remove_short.new.keys.entries c.args.name None c.self.invariant c.remove_short.ensures.ordered c.requires c.remove_short.ensures.removed)

pub returns-clause-ordered : goal.returns-clause-ordered
returns-clause-ordered c = merged_sorted nat_list_cmp_total c.remove_short.new.keys.entries c.self.inside.long.entries c.remove_short.ensures.ordered
