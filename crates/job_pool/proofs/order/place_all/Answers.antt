use Rattle.std.proofs.Common.{◌∙◌, ap, sym}
use Rattle.std.specs.Vec.Iter.{into_iter_items}
use Rattle.job_pool.specs.Ends.{placed, told_by}
use Rattle.job_pool.specs.Sinks.{kept}
use Rattle.job_pool.proofs.Ends.{placed_join}
use Rattle.job_pool.proofs.order.place_all.Goals as goal

pub loop-sink-preserved : goal.loop-sink-preserved
loop-sink-preserved g c =
    let rest = told_by kept (into_iter_items c.next.new.self) in
    ap (λ ps. placed ps rest) c.place_ends.ensures ∙ sym (placed_join c.loop-sink.places.items (kept c.in-Some.sink) rest)
    ∙ ap (λ ks. placed c.loop-sink.places.items (told_by kept ks)) (sym c.in-Some.ensures.steps.0) ∙ c.loop-sink.invariant
