-- The rule of a gate's log, and what the two kinds of step on its word find.
use Rattle.std.specs.Prelude.{◌≡◌, ◌≢◌, ℕ, true, List, [], ◌∷◌, ◌++◌, length}
use Rattle.logbook.specs.Pages.{Cell, Step, View, Book, Named}
use Rattle.rw_gate.specs.declared.log.GateEntry.{GateEntry}
use Rattle.rw_gate.specs.Logs.{events, IsRun}

-- the word of a log
abbrev pub length_word : Book → Named
length_word b = record { tracked = true; key = 0; book = b }

module _ {S E State : Type 0} (content : S → State) (accepts : State → E → State → Type 0) where
  -- the one word is the number of the events, and the log is a run of the machine
  pub record IsLawful (cells : List Cell) (log : List (GateEntry S E)) : Type 0 where
    pub counted : cells ≡ (length (events log), true) ∷ []
    pub run : IsRun content accepts log

  -- a look: the whole log was seen, and the number of its events found
  abbrev pub Looks : {A : Type 0} → Step (GateEntry S E) → View (GateEntry S E) A → ℕ
      → View (GateEntry S E) A → Type 0
  Looks s v found w = (length (events w.0) ≡ found) × IsRun content accepts w.0

  -- a publish: where the number is the expected one, what had been seen was the whole log, and the entry
  -- stands behind it; where it is not, the whole log was seen
  pub record Publishes {A : Type 0} (s : Step (GateEntry S E)) (v : View (GateEntry S E) A) (found : ℕ)
      (w : View (GateEntry S E) A) : Type 0 where
    pub hit : found ≡ s.old → (w.0 ≡ v.0 ++ s.ask ∷ []) × (length (events v.0) ≡ found)
    pub missed : found ≢ s.old → length (events w.0) ≡ found
    pub legal : IsRun content accepts w.0
