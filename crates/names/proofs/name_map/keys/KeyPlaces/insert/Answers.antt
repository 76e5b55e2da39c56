use Rattle.std.proofs.Common.{◌∙◌, ap, ℕ, List, cond}
use Rattle.std.specs.Prelude.{Some}
use Rattle.std.specs.BTreeMap.{is_at}
use Rattle.std.specs.Map.{lookup}
use Rattle.std.proofs.lemmas.Cmp.{nat_list_cmp_total}
use Rattle.std.proofs.lemmas.Result.{on_ok_weaker, on_err_weaker}
use Rattle.names.specs.ShortNames.{is_short}
use Rattle.names.specs.Merged.{merged}
use Rattle.names.proofs.Words.{same_short}
use Rattle.names.proofs.Merged.{set_first, set_second, merged_sorted}
use Rattle.names.specs.Nested.{bytes_cmp}
use Rattle.names.proofs.MergedPlaces.{of_some, of_none, first_after, second_after}
use Rattle.names.proofs.name_map.keys.KeyPlaces.insert.Goals as goal

pub invariant_of-self : goal.invariant_of-self
invariant_of-self c =
    let name = of_some c.of.result c.as_slice.result.now c.args.key.now c.in-Some.name c.of.ensures c.as_slice.ensures c.in-Some.is in
    first_after nat_list_cmp_total is_short same_short c.insert_short.result c.self.inside.short.entries c.self.inside.long.entries c.insert_short.new.keys.entries c.in-Some.name (Some c.args.place) c.self.invariant c.insert_short.ensures.ordered
    (ap is_short name.1 ∙ name.0) c.insert_short.ensures.inserted c.insert_short.ensures.refused

pub invariant_of-self-in-None : goal.invariant_of-self-in-None
invariant_of-self-in-None c =
    second_after nat_list_cmp_total is_short same_short c.insert_long.result c.self.inside.short.entries c.self.inside.long.entries c.insert_long.new.keys.entries c.args.key.now (Some c.args.place) c.self.invariant c.insert_long.ensures.ordered
    (of_none c.of.result c.as_slice.result.now c.args.key.now c.of.ensures c.as_slice.ensures c.in-None.is) c.insert_long.ensures.inserted c.insert_long.ensures.refused

pub returns-in-Some-clause-inserted : goal.returns-in-Some-clause-inserted
returns-in-Some-clause-inserted c =
    let name = of_some c.of.result c.as_slice.result.now c.args.key.now c.in-Some.name c.of.ensures c.as_slice.ensures c.in-Some.is in
    rw (← c.self.view_is)
    (on_ok_weaker c.insert_short.result (λ set. set_first nat_list_cmp_total is_short same_short c.self.inside.short.entries c.self.inside.long.entries c.insert_short.new.keys.entries c.args.key.now (Some c.args.place) c.self.invariant c.insert_short.ensures.ordered name.0 (λ q. set q ∙ ap (λ (n : List ℕ). cond (is_at (bytes_cmp n) q) (Some c.args.place) (lookup (is_at (bytes_cmp q)) c.self.inside.short.entries)) name.1)) c.insert_short.ensures.inserted)

pub returns-in-Some-clause-refused : goal.returns-in-Some-clause-refused
returns-in-Some-clause-refused c = rw (← c.self.view_is) (on_err_weaker c.insert_short.result (λ stays. ap (λ es. merged bytes_cmp es c.self.inside.long.entries) stays) c.insert_short.ensures.refused)

pub returns-in-None-clause-inserted : goal.returns-in-None-clause-inserted
returns-in-None-clause-inserted c =
    rw (← c.self.view_is)
    (on_ok_weaker c.insert_long.result (λ set. set_second nat_list_cmp_total is_short same_short c.self.inside.short.entries c.self.inside.long.entries c.insert_long.new.keys.entries c.args.key.now (Some c.args.place) c.self.invariant c.insert_long.ensures.ordered (of_none c.of.result c.as_slice.result.now c.args.key.now c.of.ensures c.as_slice.ensures c.in-None.is) set) c.insert_long.ensures.inserted)

pub returns-in-None-clause-refused : goal.returns-in-None-clause-refused
returns-in-None-clause-refused c = rw (← c.self.view_is) (on_err_weaker c.insert_long.result (λ stays. ap (merged bytes_cmp c.self.inside.short.entries) stays) c.insert_long.ensures.refused)

pub returns-in-Some-clause-ordered : goal.returns-in-Some-clause-ordered
returns-in-Some-clause-ordered c = merged_sorted nat_list_cmp_total c.insert_short.new.keys.entries c.self.inside.long.entries c.insert_short.ensures.ordered

pub returns-in-None-clause-ordered : goal.returns-in-None-clause-ordered
returns-in-None-clause-ordered c = merged_sorted nat_list_cmp_total c.self.inside.short.entries c.insert_long.new.keys.entries c.self.invariant.first_ordered
