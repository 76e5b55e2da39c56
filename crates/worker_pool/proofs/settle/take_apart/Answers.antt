use Rattle.std.proofs.Common.{rules, arith, ◌≤◌, ◌∙◌, ◌∷◌, [], ◌++◌, ℕ, length, map, refl, ap, sym, subst}
use Rattle.std.proofs.lemmas.List.{append_assoc, map-append}
use Rattle.std.specs.Vec.Iter.{into_iter_items}
use Rattle.gate_node.specs.Passes.{Sights}
use Rattle.worker_pool.proofs.WorkerSetups.{apart_more, one_longer, room_left}
use Rattle.worker_pool.proofs.EndReporters.{seen_same}
use Rattle.worker_pool.proofs.settle.take_apart.Goals as goal

pub loop-end_reporter-init : goal.loop-end_reporter-init
loop-end_reporter-init g c = ([], search rules, search rules, search rules, search rules, search rules, record { stand = tt; sinks_are = search rules; resting_are = search rules; full_is = refl; more = seen_same c.args.seen.now.primaries; kept = c.requires.passes })

pub merge-requires : goal.merge-requires
merge-requires g c =
    let said = c.parts-sink.ensures in
    ap (λ (passes : Sights). map (λ pass. pass.gate) passes.primaries) said.seen ∙ said.stands.kept.primaries ∙ sym c.loop-end_reporter.invariant.6.kept.primaries

pub push_reserved-requires : goal.push_reserved-requires
push_reserved-requires g c =
    let h = c.loop-end_reporter.invariant in
    let sinks = c.loop-end_reporter.sinks in
    let len = sinks.ok.0 in
    let room = room_left h.0 (into_iter_items c.loop-end_reporter.end_reporter-iterator) (into_iter_items c.next.new.self) c.args.end_reporters.items c.in-Some.end_reporter (length sinks.items) _ h.1 c.in-Some.ensures.steps.0 h.2 h.4 in
    omega (arith, len, room)

pub push_reserved-requires-in-loop-end_reporter : goal.push_reserved-requires-in-loop-end_reporter
push_reserved-requires-in-loop-end_reporter g c =
    let h = c.loop-end_reporter.invariant in
    let resting = c.loop-end_reporter.resting in
    let len = resting.ok.0 in
    let room = room_left h.0 (into_iter_items c.loop-end_reporter.end_reporter-iterator) (into_iter_items c.next.new.self) c.args.end_reporters.items c.in-Some.end_reporter (length resting.items) _ h.1 c.in-Some.ensures.steps.0 h.3 h.5 in
    omega (arith, len, room)

pub loop-end_reporter-preserved : goal.loop-end_reporter-preserved
loop-end_reporter-preserved g c =
    let h = c.loop-end_reporter.invariant in
    let done = h.0 in
    let end_reporter = c.in-Some.end_reporter in
    let said = c.parts-sink.ensures in
    let sinks = c.push_reserved in
    let resting = c.push_reserved-in-loop-end_reporter in (
      done ++ end_reporter ∷ [],
      append_assoc done (end_reporter ∷ []) (into_iter_items c.next.new.self) ∙ ap (λ l. done ++ l) (sym c.in-Some.ensures.steps.0) ∙ h.1,
      one_longer c.loop-end_reporter.sinks.items sinks.new.self.items c.parts-sink.result.0 done end_reporter sinks.ensures.items h.2,
      one_longer c.loop-end_reporter.resting.items resting.new.self.items c.parts-sink.result.2 done end_reporter resting.ensures.items h.3,
      subst (λ (n : ℕ). length c.args.end_reporters.items ≤ n) (sym sinks.ensures.capacity) h.4,
      subst (λ (n : ℕ). length c.args.end_reporters.items ≤ n) (sym resting.ensures.capacity) h.5,
      apart_more g.K.EndSink.told g.H.OfGates.gates done end_reporter c.loop-end_reporter.sinks.items sinks.new.self.items c.parts-sink.result.0 (map (λ one. one.items) c.loop-end_reporter.resting.items) (map (λ one. one.items) resting.new.self.items) c.parts-sink.result.2.items
          c.loop-end_reporter.is_book_full c.either-is_book_full.result c.parts-sink.result.3 c.args.seen.now c.loop-end_reporter.seen c.merge.new.self c.parts-sink.result.1 h.6 said.stands sinks.ensures.items said.sink
          (ap (λ l. map (λ one. one.items) l) resting.ensures.items ∙ map-append (λ one. one.items) c.loop-end_reporter.resting.items (c.parts-sink.result.2 ∷ [])) said.resting c.either-is_book_full.ensures said.full
          said.seen c.merge.ensures.mine c.merge.ensures.theirs c.merge.ensures.fallbacks,
    )
