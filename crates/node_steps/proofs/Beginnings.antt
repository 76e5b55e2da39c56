-- Fronts that begin a log, or a history.
use Rattle.std.proofs.Common.{List, [], ◌∷◌, ◌++◌, append_assoc, refl, sym, ◌∙◌, ap}
use Rattle.copy_laws.specs.Copies.{commands_of}
use Rattle.copy_laws.specs.Joining.{Log}
use Rattle.copy_laws.proofs.PrimaryDots.{commands-append}
use Rattle.node_steps.specs.Schedules.{Begins}

module _ {X : Type 0} where
  pub begins-itself : (log : List X) → Begins log log
  begins-itself log = ([], refl)

  pub begins-longer : (entry : X) (front log : List X) → Begins front log → Begins front (entry ∷ log)
  begins-longer entry front log h = (entry ∷ h.0, ap (λ (rest : List X). entry ∷ rest) h.1)

  pub begins-trans : (a b c : List X) → Begins a b → Begins b c → Begins a c
  begins-trans a b c g h = (h.0 ++ g.0, rw (append_assoc, g.1) h.1)

-- the commands of a front begin those of the log
pub begins-commands : (front log : Log) → Begins front log → Begins (commands_of front) (commands_of log)
begins-commands front log h = (commands_of h.0, sym (commands-append h.0 front) ∙ ap (λ (l : Log). commands_of l) h.1)
