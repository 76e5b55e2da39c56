use Rattle.std.proofs.Common.{sym, subst, arith}
use Rattle.std.specs.Prelude.{None}
use Rattle.clock_store.specs.Keys.{Keys}
use Rattle.vnode_machine.specs.Machine.{opening}
use Rattle.vnode_machine.specs.Sound.{IsSound}
use Rattle.vnode_machine.proofs.Formed.{sound-opening}
use Rattle.vnode_core.specs.Vnodes.{IsReadyFor}
use Rattle.vnode_core.proofs.vnode.VnodeOver.after.Goals as goal

pub invariant_of-result : goal.invariant_of-result
invariant_of-result g c = record {
  sound = subst (λ (keys : Keys). IsSound (record (opening c.args.id c.after.result) { keys = keys })) (sym c.new.ensures.keys)
      (sound-opening c.args.id c.after.result (omega (arith, c.ranges.id.fits), omega (arith, c.after.ensures, c.ranges.last_epoch.fits)));
  ready = subst (IsReadyFor _ _ None) (sym c.none.ensures) tt;
}
