-- What comes of an ask that changes nothing, by the state that was shown.
use Rattle.std.proofs.Common.{◌≡◌, List}
use Rattle.riak_msgs.specs.Contents.{Content}
use Rattle.rw_gate.specs.Histories.{RunFrom}
use Rattle.vnode_machine.specs.Machine.{State}
use Rattle.vnode_core.specs.declared.ask.Ask.{Ask}
use Rattle.vnode_core.specs.declared.ask.Answer.{Answer}
use Rattle.vnode_core.specs.declared.entry.Entry.{Entry}
use Rattle.vnode_core.specs.declared.refusal.Refusal.{Refusal}
use Rattle.vnode_core.specs.Events.{Makes}
use Rattle.rw_gate.specs.declared.asking.AskOutcome.{AskOutcome}
use Rattle.rw_gate.specs.declared.asking.AskOutcome.TheVariants as Outcomes
use Rattle.gate_node.specs.Asked.{Sight, state_of, ComesOf, ComesUnchanged, SeesUnder}

-- it is what came of it
pub comes_unchanged : (ask : Ask) (old new : Sight) (state : State Content) (outcome : AskOutcome Answer Refusal)
    → RunFrom state_of Makes old.gate.opening new.prefix state → new.own ≡ old.own → ComesUnchanged state ask outcome → ComesOf ask old new outcome
comes_unchanged ask old new state (Outcomes.Told answer) leads own is = record { state = state; leads = leads; says = is; own = own }
comes_unchanged ask old new state (Outcomes.Refused refusal) leads own is = record { state = state; leads = leads; says = is; own = own }
comes_unchanged ask old new state (Outcomes.Made answer) leads own is = absurd is
comes_unchanged ask old new state Outcomes.Moved leads own is = absurd is
comes_unchanged ask old new state Outcomes.Full leads own is = absurd is

-- and just the history under the right was seen
pub under_unchanged : (ask : Ask) (new : Sight) (history : List Entry) (state : State Content) (outcome : AskOutcome Answer Refusal)
    → new.prefix ≡ history → ComesUnchanged state ask outcome → SeesUnder history new outcome
under_unchanged ask new history state (Outcomes.Told answer) seen is = seen
under_unchanged ask new history state (Outcomes.Refused refusal) seen is = seen
under_unchanged ask new history state (Outcomes.Made answer) seen is = tt
under_unchanged ask new history state Outcomes.Moved seen is = absurd is
under_unchanged ask new history state Outcomes.Full seen is = seen
