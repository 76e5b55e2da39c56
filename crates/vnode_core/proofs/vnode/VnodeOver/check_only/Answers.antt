use Rattle.std.proofs.Common.{◌∙◌, sym, ap, subst}
use Rattle.riak_msgs.specs.Contents.{Content}
use Rattle.vnode_machine.specs.Machine.{State, stored}
use Rattle.clock_store.proofs.Founds.{stored_found}
use Rattle.vnode_core.specs.Checks.{found_in}
use Rattle.vnode_core.specs.Plans.{IsAcceptedStep}
use Rattle.vnode_core.proofs.Putting.{steps-put}
use Rattle.vnode_core.proofs.vnode.VnodeOver.check_only.Goals as goal

pub check_put-requires-clause-found : goal.check_put-requires-clause-found
check_put-requires-clause-found g c =
    ap found_in c.stored_in.ensures ∙ stored_found c.find-found.result ∙ c.find-found.ensures.stored ∙ ap (λ w. stored w.state c.args.put.now.key) c.self.view_is

pub returns-clause-ok : goal.returns-clause-ok
returns-clause-ok g c =
    let state : State Content = c.args.self.now.state in
    subst IsAcceptedStep (sym (steps-put state c.in_ok-writer.ensures.sound c.args.put.now c.in_ok-writer.ensures.given)) tt
