use Rattle.std.proofs.Common.{◌∙◌, sym, ap, ℕ, List}
use Rattle.std.specs.BTreeMap.{is_at}
use Rattle.std.specs.Map.{lookup}
use Rattle.std.proofs.lemmas.Cmp.{nat_list_cmp_total}
use Rattle.names.specs.ShortNames.{is_short}
use Rattle.names.proofs.Words.{same_short}
use Rattle.names.proofs.Merged.{found_first, found_second, merged_sorted}
use Rattle.names.specs.Nested.{bytes_cmp}
use Rattle.names.proofs.MergedPlaces.{of_some, of_none}
use Rattle.names.proofs.name_map.keys.KeyPlaces.get.Goals as goal

pub returns-in-Some-clause-place : goal.returns-in-Some-clause-place
returns-in-Some-clause-place c =
    let name = of_some c.of.result c.as_slice.result.now c.args.key.now c.in-Some.name c.of.ensures c.as_slice.ensures c.in-Some.is in
    rw (← c.self.view_is)
    (c.get_short.ensures ∙ ap (λ (n : List ℕ). lookup (is_at (bytes_cmp n)) c.self.inside.short.entries) name.1
    ∙ sym (found_first nat_list_cmp_total is_short same_short c.self.inside.short.entries c.self.inside.long.entries c.self.invariant c.args.key.now name.0))

pub returns-in-Some-clause-ordered : goal.returns-in-Some-clause-ordered
returns-in-Some-clause-ordered c = rw (← c.self.view_is) (merged_sorted nat_list_cmp_total c.self.inside.short.entries c.self.inside.long.entries c.self.invariant.first_ordered)

pub returns-in-None-clause-place : goal.returns-in-None-clause-place
returns-in-None-clause-place c =
    rw (← c.self.view_is)
    (c.get_long.ensures ∙ sym (found_second nat_list_cmp_total is_short same_short c.self.inside.short.entries c.self.inside.long.entries c.self.invariant c.args.key.now (of_none c.of.result c.as_slice.result.now c.args.key.now c.of.ensures c.as_slice.ensures c.in-None.is)))

pub returns-in-None-clause-ordered : goal.returns-in-None-clause-ordered
returns-in-None-clause-ordered c = rw (← c.self.view_is) (merged_sorted nat_list_cmp_total c.self.inside.short.entries c.self.inside.long.entries c.self.invariant.first_ordered)
