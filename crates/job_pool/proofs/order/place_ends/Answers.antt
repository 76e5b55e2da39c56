use Rattle.std.proofs.Common.{◌∙◌, Some, ap, sym, arith}
use Rattle.std.specs.Vec.Iter.{into_iter_items}
use Rattle.std.proofs.lemmas.List.{set_past}
use Rattle.job_pool.specs.Ends.{placed}
use Rattle.job_pool.proofs.order.place_ends.Goals as goal

pub loop-one-init : goal.loop-one-init
loop-one-init g c = ap (λ ends. placed c.args.places.now.items ends) c.into_iter-one-iterator.ensures.into_iter_gives.0

pub loop-one-preserved-then-number-len : goal.loop-one-preserved-then-number-len
loop-one-preserved-then-number-len g c = ap (λ ends. placed c.loop-one.places.items ends) (sym c.in-Some.ensures.steps.0) ∙ c.loop-one.invariant

pub loop-one-preserved : goal.loop-one-preserved
loop-one-preserved g c =
    let places = c.loop-one.places.items in
    let past = set_past places c.in-Some.one.number (Some c.in-Some.one.end) (omega (arith, c.if-number-len.false, c.len.ensures)) in
    ap (λ ps. placed ps (into_iter_items c.next.new.self)) (sym past) ∙ ap (λ ends. placed places ends) (sym c.in-Some.ensures.steps.0) ∙ c.loop-one.invariant
