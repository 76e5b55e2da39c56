use Rattle.rw_gate.proofs.SlotValues.{replay_of}
use Rattle.rw_gate.proofs.write.WriteRight.new.Goals as goal

pub returns-clause-state : goal.returns-clause-state
returns-clause-state g c = rw c.into_parts-state.ensures (replay_of g.S.Kept.content g.S.Kept.accepts c.args.value.seen.book c.args.value.seen.log c.args.value.state.value c.requires.leads)
