use Rattle.std.proofs.Common.{◌≡◌, ◌∙◌, ◌++◌, ◌∷◌, [], ap, length, arith}
use Rattle.std.proofs.lemmas.List.{length-append}
use Rattle.worker_pool.specs.declared.serving_setup.ServingSetup.{ServingSetup}
use Rattle.socket_streams.proofs.ServingSetups.{every_snoc}
use Rattle.socket_streams.specs.declared.log_sink.LogSink.{LogSink}
use Rattle.socket_streams.specs.declared.event_loop.EventLoop.{EventLoop}
use Rattle.socket_streams.specs.declared.worker_signals.SocketWakeup.{SocketWakeup}
use Rattle.socket_streams.proofs.waits.new_serving_setups.Goals as goal

pub loop-worker-preserved : goal.loop-worker-preserved
loop-worker-preserved g c =
    let was = c.loop-worker.invariant in
    let one = c.in_ok-new_serving_setup.field-0 in
    let added = c.in_ok-push.ensures.items in
    let IsNew = λ (serving_setup : ServingSetup (LogSink g.row.X.Denot) (EventLoop g.row.X.Denot) SocketWakeup). serving_setup.sink ≡ [] in
    let serving_setups = c.loop-worker.serving_setups.items in
    let shorter = ap length c.in-Some.ensures.steps.0 in
    let longer = ap length {y = serving_setups ++ one ∷ []} added ∙ length-append serving_setups (one ∷ []) in
    let counted = was.1 in (
      rw added (every_snoc IsNew serving_setups one was.0 c.in_ok-new_serving_setup.ensures),
      omega (arith, longer, shorter, counted),
    )
