-- Why a publish made no event.
use Rattle.std.specs.Prelude.{◌≡◌, ◌-◌, ◌^◌, List, length}
use Rattle.rw_gate.specs.declared.write.PublishFault.{PublishFault}
use Rattle.rw_gate.specs.declared.write.PublishFault.TheVariants.{Moved as moved, Full}
use Rattle.rw_gate.specs.Histories.{HasRoom, IsLonger}
use Rattle.rw_gate.specs.Views.{PassView}

-- behind this history: it has gone on, and the pass has then seen how; or it is full, and the pass is as
-- it was
abbrev pub IsFaultOf : {S E : Type 0} → List E → PassView S E → PassView S E → PublishFault → Type 0
IsFaultOf history old new (moved m) = IsLonger history new.prefix m.seen × HasRoom history
IsFaultOf history old new Full = (length history ≡ 2 ^ 64 - 1) × (new ≡ old)
