use Rattle.std.proofs.Common.{◌∙◌, subst}
use Rattle.rw_gate.specs.Views.{GateId}
use Rattle.vnode_core.specs.Plans.{View}
use Rattle.handoff.specs.Sights.{LeadsVnodeTo}
use Rattle.handoff.proofs.Showing.{shown}
use Rattle.gate_node.proofs.Tallying.{tally-commands}
use Rattle.gate_node.proofs.tallies.look_under.Goals as goal

pub returns-clause-tally : goal.returns-clause-tally
returns-clause-tally c =
    let right = c.args.right.now in
    let pass = c.look.new.pass in
    let state = c.in-Ok.vnode.now.state in
    let gate = c.look.ensures.gate ∙ c.requires.gate in
    let leads = subst (λ (g : GateId View). LeadsVnodeTo g pass.prefix state) gate (shown right pass c.in-Ok.vnode.now c.look.ensures.replay gate c.in-Ok.ensures.seen c.in-Ok.ensures.shown) in
    let tally = c.tally-tally.ensures in
    record {
      state = state;
      legal = leads;
      writes = tally.writes;
      tombstones = tally.tombstones;
      reaps = tally.reaps;
      commands = tally-commands right.gate pass.prefix state c.tally-tally.result c.requires.new leads tally.writes tally.tombstones tally.reaps;
    }

pub returns-clause-all : goal.returns-clause-all
returns-clause-all c all = c.counts_entries-counts_all.ensures all ∙ c.seen.ensures.length
