use Rattle.std.proofs.Common.{◌≡◌, ◌∙◌, ◌++◌, Some, ap, sym, subst, map}
use Rattle.std.specs.Vec.Iter.{into_iter_items}
use Rattle.job_pool.proofs.Starting.{started}
use Rattle.job_pool.proofs.order.each_end.Goals as goal

pub loop-place-init : goal.loop-place-init
loop-place-init g c =
    let places = c.into_iter-place-iterator.ensures.into_iter_gives.0 in
    ap (λ es. map (λ end. Some end) es ++ into_iter_items c.into_iter-place-iterator.result) c.new-ends.ensures.items ∙ places

pub loop-place-preserved : goal.loop-place-preserved
loop-place-preserved g c =
    let ends = c.loop-place.ends.items in
    let rest = into_iter_items c.next.new.self in
    subst (λ es. map (λ end. Some end) es ++ rest ≡ c.args.places.items) (sym c.in_ok-push.ensures.items)
    (started (λ end. Some end) ends c.in-Some-place.end c.in-Some.place (into_iter_items c.loop-place.place-iterator) rest c.args.places.items (sym c.in-Some-place.is) c.in-Some.ensures.steps.0 c.loop-place.invariant)
