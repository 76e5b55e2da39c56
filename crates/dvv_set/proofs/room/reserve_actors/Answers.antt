use Rattle.std.proofs.Common.{refl, arith}
use Rattle.dvv_set.proofs.room.reserve_actors.Goals as goal

pub overflow_add-len : goal.overflow_add-len
overflow_add-len g c = omega (arith, c.len.ensures)

pub returns-then-len-more-gt-MAX_ACTORS-clause-full : goal.returns-then-len-more-gt-MAX_ACTORS-clause-full
returns-then-len-more-gt-MAX_ACTORS-clause-full g c = (λ e. omega (arith, c.len.ensures, c.if-len-more-gt-MAX_ACTORS.true), λ h. refl)

pub returns-then-len-more-gt-MAX_ACTORS-clause-never : goal.returns-then-len-more-gt-MAX_ACTORS-clause-never
returns-then-len-more-gt-MAX_ACTORS-clause-never g c e = cc

pub returns-in-Ok-clause-unchanged : goal.returns-in-Ok-clause-unchanged
returns-in-Ok-clause-unchanged g c = c.reserve.ensures.items

pub returns-in-Ok-clause-ok : goal.returns-in-Ok-clause-ok
returns-in-Ok-clause-ok g c = (omega (arith, c.len.ensures, c.if-len-more-gt-MAX_ACTORS.false), c.in-Ok.ensures.ok)

pub returns-in-Err-clause-unchanged : goal.returns-in-Err-clause-unchanged
returns-in-Err-clause-unchanged g c = c.reserve.ensures.items

pub returns-in-Err-clause-full : goal.returns-in-Err-clause-full
returns-in-Err-clause-full g c = (λ e. cc, λ h. absurd (omega (arith, c.len.ensures, c.if-len-more-gt-MAX_ACTORS.false, h)))

pub returns-in-Err-clause-never : goal.returns-in-Err-clause-never
returns-in-Err-clause-never g c e = cc
