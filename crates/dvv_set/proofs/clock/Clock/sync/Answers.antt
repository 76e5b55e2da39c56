use Rattle.std.proofs.Common.{◌∙◌, refl, sym, ap, arith, length}
use Rattle.dvv_set.specs.Clocks.{sync}
use Rattle.dvv_set.proofs.Rooms.{within_same}
use Rattle.dvv_set.proofs.clock.Clock.sync.Goals as goal

pub returns-in-Err-clause-refused : goal.returns-in-Err-clause-refused
returns-in-Err-clause-refused g c = (refl, c.reserve_sync.ensures.unchanged)

pub returns-in-Err-clause-full : goal.returns-in-Err-clause-full
returns-in-Err-clause-full g c = c.in-Err.ensures.full

pub returns-in-Err-clause-never : goal.returns-in-Err-clause-never
returns-in-Err-clause-never g c = c.in-Err.ensures.never

pub sync_ready-requires : goal.sync_ready-requires
sync_ready-requires g c = let fits = c.well_formed in (omega arith, c.in_default.ensures.ready)

pub returns-clause-synced : goal.returns-clause-synced
returns-clause-synced g c = c.sync_ready.ensures ∙ ap (λ meaning. sync meaning c.args.other.meaning) c.reserve_sync.ensures.unchanged

pub returns-clause-within : goal.returns-clause-within
returns-clause-within g c =
    within_same _ _ _ (ap (λ meaning. length (sync meaning c.args.other.meaning).known) (sym c.reserve_sync.ensures.unchanged)) c.in_default.ensures.ready.few
