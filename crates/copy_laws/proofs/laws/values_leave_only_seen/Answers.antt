use Rattle.copy_laws.proofs.Leaving.{leaves_only_seen, courses_leave_only_seen, fallbacks_leave_only_seen}
use Rattle.copy_laws.proofs.laws.values_leave_only_seen.Goals as goal

pub returns : goal.returns
returns c = record { hand_off = leaves_only_seen; course = courses_leave_only_seen; fallback = fallbacks_leave_only_seen }
