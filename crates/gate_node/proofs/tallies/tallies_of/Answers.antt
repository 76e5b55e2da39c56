use Rattle.std.proofs.Common.{◌≡◌, ◌∙◌, ◌++◌, ◌∷◌, [], ap, le_of_lt, refl, sym, subst, take}
use Rattle.std.proofs.lemmas.List.{length-take-le, take_more}
use Rattle.std.proofs.lemmas.Option.{slice_get_read}
use Rattle.std.specs.Prelude.{true, Some, slice_get}
use Rattle.gate_node.specs.OneHistory.{CallersAreOfGate, ShareHistories}
use Rattle.gate_node.proofs.Histories.{all_of_gate, no_history, one_more, shared_length}
use Rattle.handoff.proofs.Opened.{new_vnode_at}
use Rattle.gate_node.proofs.tallies.tallies_of.Goals as goal

pub loop-gate-init : goal.loop-gate-init
loop-gate-init g c = subst (λ ts. ShareHistories g.H.HasPasses.sights [] c.args.callers.now ts true) (sym c.new-tallies.ensures.items) (no_history g.H.HasPasses.sights c.args.callers.now true)

pub tally_of-looked-requires-clause-callers : goal.tally_of-looked-requires-clause-callers
tally_of-looked-requires-clause-callers g c =
    let sights = g.H.HasPasses.sights in
    let gates = c.gates-gate-items.result.now in
    let index = c.loop-gate.gate-index in
    let gate = c.gate-item.result in
    let callers = c.args.callers.now in
    let at = slice_get_read gates _ index gate refl c.loop-gate-test.true c.gate-item.is in
    let here = subst (λ gs. slice_get gs index ≡ Some gate) c.gates-gate-items.ensures.gates at in
    let count = shared_length sights (take index gates) callers c.loop-gate.tallies.items c.loop-gate.count_all c.loop-gate.invariant in
    let many = c.len-index.ensures ∙ c.loop-gate.tallies.ok.0 ∙ count ∙ length-take-le index gates (le_of_lt c.loop-gate-test.true) in
    subst (λ n. CallersAreOfGate sights n gate callers) (sym many) (all_of_gate sights c.args.shared.now callers c.requires index gate here)

pub loop-gate-preserved : goal.loop-gate-preserved
loop-gate-preserved g c =
    let sights = g.H.HasPasses.sights in
    let gates = c.gates-gate-items.result.now in
    let index = c.loop-gate.gate-index in
    let gate = c.gate-item.result in
    let callers = c.args.callers.now in
    let so_far = take_more gates index gate c.loop-gate-test.true ∙ ap (λ x. take index gates ++ x ∷ []) (sym c.gate-item.is) in
    let count = c.len-index.ensures ∙ c.loop-gate.tallies.ok.0 in
    let looked = c.tally_of-looked.result in
    let all = c.both-count_all.result in
    let more = one_more sights (take index gates) gate callers c.loop-gate.tallies.items looked.tally c.len-index.result c.loop-gate.count_all looked.counts_all all count c.both-count_all.ensures c.loop-gate.invariant
    c.tally_of-looked.ensures in
    subst (λ gs. ShareHistories sights gs callers c.push.new.self.items all) (sym so_far) (subst (λ ts. ShareHistories sights (take index gates ++ gate ∷ []) callers ts all) (sym c.in-Ok.ensures.items) more)

pub tally_of-looked-requires-clause-new : goal.tally_of-looked-requires-clause-new
tally_of-looked-requires-clause-new g c =
    let gates = c.gates-gate-items.result.now in
    let index = c.loop-gate.gate-index in
    let gate = c.gate-item.result in
    let at = slice_get_read gates _ index gate refl c.loop-gate-test.true c.gate-item.is in
    let here = subst (λ gs. slice_get gs index ≡ Some gate) c.gates-gate-items.ensures.gates at in
    new_vnode_at c.args.shared.now.run c.args.shared.now.gates c.gates-gate-items.ensures.new_run index gate here
