-- A tally that counts as many commands as there are entries is of commands alone.
use Rattle.std.proofs.Common.{◌≡◌, List, length, arith}
use Rattle.riak_msgs.specs.Contents.{Content}
use Rattle.vnode_machine.specs.Machine.{State}
use Rattle.rw_gate.specs.Views.{GateId}
use Rattle.vnode_core.specs.declared.vnode.tally.Tally.{Tally}
use Rattle.vnode_core.specs.declared.entry.Entry.{Entry}
use Rattle.vnode_core.specs.Events.{AreCommands}
use Rattle.vnode_core.specs.Plans.{View}
use Rattle.handoff.specs.Sights.{IsOfVnode, LeadsVnodeTo}
use Rattle.handoff.proofs.Counted.{seen-commands}
use Rattle.gate_node.specs.Tallies.{commands_in}

pub tally-commands : (gate : GateId View) (entries : List Entry) (state : State Content) (tally : Tally) → IsOfVnode gate → LeadsVnodeTo gate entries state
    → tally.writes ≡ state.writes → tally.tombstones ≡ state.tombstones → tally.reaps ≡ state.reaps → commands_in tally ≡ length entries → AreCommands entries
tally-commands gate entries state tally of leads writes tombstones reaps all =
    seen-commands of.id of.last_epoch gate entries state of.made_new leads (omega (arith, writes, tombstones, reaps, all))
