use Rattle.std.proofs.Common.{◌∙◌}
use Rattle.handoff.proofs.Opened.{none_fallbacks}
use Rattle.handoff.proofs.Started.{none_starts}
use Rattle.handoff.proofs.partitions.Handoff.new.Goals as goal

pub invariant_of-result : goal.invariant_of-result
invariant_of-result c = (
  record { made_new = c.in_ok-gates.ensures.gates; fits = c.ranges.run.fits; few = c.in_ok-gates.ensures.few },
  c.in_ok-gates.ensures.size,
  none_fallbacks c.args.run 0 c.in_ok-fallbacks.fallbacks.items c.in_ok-fallbacks.ensures.none,
  c.in_ok-fallbacks.ensures.size ∙ c.size.ensures.value,
  none_starts c.in_ok-gates.gates.items c.in_ok-fallbacks.fallbacks.items c.in_ok-fallbacks.ensures.none,
)
