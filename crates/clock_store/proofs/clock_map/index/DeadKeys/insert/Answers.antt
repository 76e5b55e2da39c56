use Rattle.std.proofs.Common.{◌∙◌, sym, ap, cond}
use Rattle.std.specs.Prelude.{Some}
use Rattle.std.specs.BTreeMap.{is_at}
use Rattle.std.specs.Map.{lookup}
use Rattle.std.proofs.lemmas.Result.{on_ok_weaker, on_err_weaker}
use Rattle.riak_msgs.specs.KeyOrder.{key_cmp}
use Rattle.vnode_machine.proofs.Keys.{key_cmp_total}
use Rattle.names.specs.Merged.{merged}
use Rattle.names.proofs.Merged.{set_first, set_second}
use Rattle.names.specs.ShortKeys.{is_short_key}
use Rattle.names.proofs.MergedPlaces.{first_after, second_after}
use Rattle.names.proofs.ShortKeys.{of_some, of_none}
use Rattle.clock_store.proofs.MergedMarks.{same_short_key}
use Rattle.clock_store.proofs.clock_map.index.DeadKeys.insert.Goals as goal

pub invariant_of-self : goal.invariant_of-self
invariant_of-self c =
    let key = of_some c.args.key.now c.in-Some.short (sym c.in-Some.is ∙ c.of.ensures) in
    first_after key_cmp_total is_short_key same_short_key c.insert.result c.self.inside.short.entries c.self.inside.long.entries c.insert.new.index.entries c.in-Some.short (Some c.args.place) c.self.invariant c.insert.ensures.ordered
    (ap is_short_key key.1 ∙ key.0) c.insert.ensures.inserted c.insert.ensures.refused

pub invariant_of-self-in-None : goal.invariant_of-self-in-None
invariant_of-self-in-None c =
    second_after key_cmp_total is_short_key same_short_key c.insert-in-None.result c.self.inside.short.entries c.self.inside.long.entries c.insert-in-None.new.index.entries c.args.key.now (Some c.args.place) c.self.invariant c.insert-in-None.ensures.ordered
    (of_none c.args.key.now (sym c.in-None.is ∙ c.of.ensures)) c.insert-in-None.ensures.inserted c.insert-in-None.ensures.refused

pub returns-in-Some-clause-inserted : goal.returns-in-Some-clause-inserted
returns-in-Some-clause-inserted c =
    let key = of_some c.args.key.now c.in-Some.short (sym c.in-Some.is ∙ c.of.ensures) in
    rw (← c.self.view_is)
    (on_ok_weaker c.insert.result (λ set. set_first key_cmp_total is_short_key same_short_key c.self.inside.short.entries c.self.inside.long.entries c.insert.new.index.entries c.args.key.now (Some c.args.place) c.self.invariant c.insert.ensures.ordered key.0
    (λ q. set q ∙ ap (λ k. cond (is_at (key_cmp k) q) (Some c.args.place) (lookup (is_at (key_cmp q)) c.self.inside.short.entries)) key.1)) c.insert.ensures.inserted)

pub returns-in-Some-clause-refused : goal.returns-in-Some-clause-refused
returns-in-Some-clause-refused c = rw (← c.self.view_is) (on_err_weaker c.insert.result (λ stays. ap (λ es. merged key_cmp es c.self.inside.long.entries) stays) c.insert.ensures.refused)

pub returns-in-None-clause-inserted : goal.returns-in-None-clause-inserted
returns-in-None-clause-inserted c =
    rw (← c.self.view_is)
    (on_ok_weaker c.insert-in-None.result (λ set. set_second key_cmp_total is_short_key same_short_key c.self.inside.short.entries c.self.inside.long.entries c.insert-in-None.new.index.entries c.args.key.now (Some c.args.place) c.self.invariant c.insert-in-None.ensures.ordered (of_none c.args.key.now (sym c.in-None.is ∙ c.of.ensures)) set) c.insert-in-None.ensures.inserted)

pub returns-in-None-clause-refused : goal.returns-in-None-clause-refused
returns-in-None-clause-refused c = rw (← c.self.view_is) (on_err_weaker c.insert-in-None.result (λ stays. ap (merged key_cmp c.self.inside.short.entries) stays) c.insert-in-None.ensures.refused)
