use Rattle.std.specs.Prelude.{[]}
use Rattle.std.proofs.Common.{refl}
use Rattle.node_steps.proofs.Finding.{stands}
use Rattle.node_steps.proofs.Stepping.{vnode_back}
use Rattle.node_steps.specs.Running.{worker_of}
use Rattle.std.proofs.Common.{map}
use Rattle.node_steps.proofs.parts.Parts.turn_site.Goals as goal

pub returns-in-Ok-clause-ok : goal.returns-in-Ok-clause-ok
returns-in-Ok-clause-ok c = record {
  site = c.index_mut.result.now;
  later = c.turn.new.site;
  there = stands c.args.self.now.sites.items c.args.self.now.sites.items c.args.index c.index_mut.result.now refl c.requires
      cc;
  new_is = refl;
  turns = c.in-Ok.ensures.ok;
}

pub returns-in-Err-clause-err : goal.returns-in-Err-clause-err
returns-in-Err-clause-err c =
    let sites = c.args.self.now.sites.items in
    let there = stands sites sites c.args.index c.index_mut.result.now refl c.requires cc in
    let vnodes = vnode_back sites c.args.index c.index_mut.result.now c.turn.new.site there c.in-Err.ensures.err.1 in
    (c.in-Err.ensures.err.0, λ i. record { vnodes = vnodes i; routes = c.args.self.now.routes.items; epochs = c.args.self.now.epochs.items; diversions = []; workers = map worker_of c.args.self.now.workers.items })
