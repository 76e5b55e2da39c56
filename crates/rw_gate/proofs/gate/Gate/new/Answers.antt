use Rattle.std.proofs.Common.{◌∙◌, ap}
use Rattle.rw_gate.proofs.gate.Gate.new.Goals as goal

pub put_back-requires : goal.put_back-requires
put_back-requires g c = rw c.in-Ok.ensures.ok c.opened-gate.ensures.value

pub returns-in-Ok-put_back-clause-ok : goal.returns-in-Ok-put_back-clause-ok
returns-in-Ok-put_back-clause-ok g c = c.opened-gate.ensures.opening

pub returns-in-Err-put_back-clause-err : goal.returns-in-Err-put_back-clause-err
returns-in-Err-put_back-clause-err g c = c.into_state.ensures ∙ ap (λ v. v.state.value) c.in-Err-put_back.ensures ∙ c.in-Ok.ensures.ok
