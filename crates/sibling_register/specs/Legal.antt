-- Legal histories.
use Rattle.std.specs.Prelude.{List, [], ◌∷◌, ℕ}
use Rattle.sibling_register.specs.History.{Event}
use Rattle.sibling_register.specs.Naming.{Naming, IsNamingOf}
use Rattle.sibling_register.specs.Answers.{RegisterAsk, Told, Accepts, MayGive}

module _ {V C : Type 0} where
  -- the event is what some ask may give at the end of this history
  pub record IsAccepted (naming : Naming V C) (history : List (Event V C)) (event : Event V C) : Type 0 where
    pub ask : RegisterAsk V C
    pub told : Told ℕ
    pub given : MayGive naming history ask (Accepts event told)

  -- each event is accepted at its position
  abbrev pub EachAccepted : Naming V C → List (Event V C) → Type 0
  EachAccepted naming [] = Unit {0}
  EachAccepted naming (event ∷ before) = EachAccepted naming before × IsAccepted naming before event

  -- a history is legal under a naming of its positions where each event is accepted
  pub record IsLegal (naming : Naming V C) (history : List (Event V C)) : Type 0 where
    pub naming_law : IsNamingOf naming history
    pub accepted : EachAccepted naming history
