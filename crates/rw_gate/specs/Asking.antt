-- What asks of a state behind a gate come to, by what the asker's pass has seen and published.
use Rattle.std.specs.Prelude.{◌≡◌, ◌<◌, ◌-◌, ◌^◌, List, [], ◌∷◌, ◌++◌, length}
use mathlib.Core.List.{IsPrefix}
use Rattle.rw_gate.specs.Views.{PassView}
use Rattle.rw_gate.specs.Histories.{RunFrom, IsLonger}
use Rattle.rw_gate.specs.declared.asking.AskOutcome.{AskOutcome}
use Rattle.rw_gate.specs.declared.asking.AskOutcome.TheVariants.{Made, Told, Refused, Moved, Full}

-- the history had gone on past the state: it has events, and none of them is by this ask
pub record IsOvertaken {S E : Type 0} (old new : PassView S E) : Type 0 where
  pub longer : 0 < length new.prefix
  pub own : new.own ≡ old.own

-- the history has as many events as it can have, and none of them is by this ask
pub record IsHistoryFull {S E : Type 0} (old new : PassView S E) : Type 0 where
  pub full : length new.prefix ≡ 2 ^ 64 - 1
  pub own : new.own ≡ old.own

module _ {S E State Ask Reply Refusal : Type 0} (content : S → State) (accepts : State → E → State → Type 0) (answers : State → Ask → Reply → Type 0) (refuses : State → Ask → Refusal → Type 0) (asks : E → Ask → Type 0) (answered_by : E → Reply → Type 0) where
  -- the ask was accepted: its event is the next one at one position, behind all that the pass had seen; it is the pass's
  -- own, and the pass has seen the history up to it
  pub record IsMade (ask : Ask) (old new : PassView S E) (reply : Reply) : Type 0 where
    pub position : List E
    pub event : E
    pub state : State
    pub after : State
    pub begins : IsPrefix old.prefix position
    pub leads : RunFrom content accepts old.gate.opening position state
    pub step : accepts state event after
    pub asked : asks event ask
    pub answered : answered_by event reply
    pub seen : new.prefix ≡ position ++ event ∷ []
    pub own : new.own ≡ old.own ++ length position ∷ []

  -- the machine says so at the end of what the pass has then seen, and nothing was published
  pub record IsSaid (Says : State → Type 0) (old new : PassView S E) : Type 0 where
    pub state : State
    pub leads : RunFrom content accepts old.gate.opening new.prefix state
    pub says : Says state
    pub own : new.own ≡ old.own

  -- what came of one ask
  abbrev pub Comes : Ask → PassView S E → PassView S E → AskOutcome Reply Refusal → Type 0
  Comes ask old new (Made reply) = IsMade ask old new reply
  Comes ask old new (Told reply) = IsSaid (λ s. answers s ask reply) old new
  Comes ask old new (Refused refusal) = IsSaid (λ s. refuses s ask refusal) old new
  Comes ask old new Moved = IsOvertaken old new
  Comes ask old new Full = IsHistoryFull old new

  -- what was seen then, beside the history of the state under the right: more, where it had gone on; else just that, unless an
  -- event was made
  abbrev pub SeesUnder : List E → PassView S E → AskOutcome Reply Refusal → Type 0
  SeesUnder history new (Made reply) = Unit {0}
  SeesUnder history new Moved = IsLonger history new.prefix (length new.prefix)
  SeesUnder history new other = new.prefix ≡ history

  -- the event of the ask stands right behind all that the pass had seen
  pub record IsRightBehind (ask : Ask) (old new : PassView S E) : Type 0 where
    pub event : E
    pub asked : asks event ask
    pub seen : new.prefix ≡ old.prefix ++ event ∷ []
    pub own : new.own ≡ old.own ++ length old.prefix ∷ []

  -- where one was made
  abbrev pub MadeRightBehind : Ask → PassView S E → PassView S E → AskOutcome Reply Refusal → Type 0
  MadeRightBehind ask old new (Made reply) = IsRightBehind ask old new
  MadeRightBehind ask old new other = Unit {0}
