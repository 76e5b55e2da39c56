use Rattle.std.proofs.Common.{◌∙◌, ◌∷◌, [], ◌++◌, ap, sym}
use Rattle.std.proofs.lemmas.List.{append_assoc}
use Rattle.std.specs.Vec.Iter.{into_iter_items}
use Rattle.worker_pool.proofs.Summing.{past_here, sum_on}
use Rattle.worker_pool.proofs.worker_state.sum_up.Goals as goal

pub loop-worker_state-init : goal.loop-worker_state-init
loop-worker_state-init c = ([], c.into_iter-worker_state-iterator.ensures.into_iter_gives.0, c.zeros-totals.ensures)

pub loop-worker_state-preserved : goal.loop-worker_state-preserved
loop-worker_state-preserved c =
    let h = c.loop-worker_state.invariant in
    let done = h.0 in
    let worker_state = c.in-Some.worker_state in (
      done ++ worker_state ∷ [],
      append_assoc done (worker_state ∷ []) (into_iter_items c.next.new.self) ∙ ap (λ l. done ++ l) (sym c.in-Some.ensures.steps.0) ∙ h.1,
      sum_on c.add.result c.loop-worker_state.totals c.add.new.self c.totals.result.now worker_state done c.add.ensures.added c.if-not-add.false c.totals.ensures h.2,
    )

pub returns-then-not-add-clause-past : goal.returns-then-not-add-clause-past
returns-then-not-add-clause-past c =
    let h = c.loop-worker_state.invariant in
    past_here c.loop-worker_state.totals c.totals.result.now c.in-Some.worker_state h.0 (into_iter_items c.next.new.self) (into_iter_items c.loop-worker_state.worker_state-iterator) c.args.worker_states.items (c.add.ensures.full.0 c.if-not-add.true) c.totals.ensures h.2 c.in-Some.ensures.steps.0 h.1
