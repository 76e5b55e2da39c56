use Rattle.std.proofs.Common.{◌∙◌, [], ◌∷◌}
use Rattle.std.proofs.lemmas.Cmp.{nat_list_cmp_total}
use Rattle.names.specs.ShortNames.{is_short}
use Rattle.names.proofs.Words.{same_short}
use Rattle.names.proofs.MergedPlaces.{of_some, of_none, one_first, one_second}
use Rattle.names.proofs.name_map.keys.KeyPlaces.one_key.Goals as goal

pub invariant_of-result : goal.invariant_of-result
invariant_of-result c =
    let name = (of_some c.of.result c.as_slice.result.now c.args.key.now c.in-Some.name c.of.ensures c.as_slice.ensures c.in-Some.is) in
    one_first nat_list_cmp_total is_short same_short c.args.key.now c.args.place c.in_ok-short-in-Some.short.entries c.new-long.result.entries name.0
    (c.in_ok-short-in-Some.ensures ∙ λ i. (name.1 i, c.args.place) ∷ []) c.new-long.ensures.empty

pub invariant_of-result-in-None : goal.invariant_of-result-in-None
invariant_of-result-in-None c =
    one_second nat_list_cmp_total is_short same_short c.args.key.now c.args.place c.new-short.result.entries c.in_ok-long-in-None.long.entries (of_none c.of.result c.as_slice.result.now c.args.key.now c.of.ensures c.as_slice.ensures c.in-None.is) c.new-short.ensures.empty c.in_ok-long-in-None.ensures
