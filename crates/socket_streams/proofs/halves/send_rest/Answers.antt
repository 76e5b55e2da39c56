use Rattle.std.proofs.Common.{arith, ◌++◌, drop}
use Rattle.std.proofs.lemmas.List.{length-drop, take_rest}
use Rattle.socket_streams.proofs.Sends.{sends_on}
use Rattle.socket_streams.proofs.halves.send_rest.Goals as goal

pub loop-preserved : goal.loop-preserved
loop-preserved c =
    let was = c.loop.invariant in
    let bytes = c.args.gathered.now in
    let bound = c.in_ok-n.ensures.bound in
    let rest = length-drop c.loop.sent bytes in
    let within = was.0 in (
      omega (arith, rw (take_rest bytes c.loop.sent) at bound, rest, within),
      sends_on bytes c.loop.taken c.send.new.taken (c.args.taken.now ++ drop c.args.sent.now bytes) c.loop.sent c.in_ok-n.n c.in_ok-n.ensures.took was.1,
    )
