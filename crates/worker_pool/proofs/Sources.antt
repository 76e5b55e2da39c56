-- A source gives only such jobs as fit, where something stays of it by which they do.
use Rattle.std.proofs.Common.{List, [], ◌∷◌, sym, subst}
use Rattle.std.specs.Prelude.{Option, Some, Result, Ok}
use Rattle.job_pool.specs.Giving.{Gave, GivesOnly}

module _ {G J F : Type 0} (Gives : G → Result (Option J) F → G → Type 0) (Stays : G → Type 0) (Fits : J → Type 0)
    (stays : (first : G) (given : Result (Option J) F) (last : G) → Stays first → Gives first given last → Stays last)
    (fits : (first : G) (job : J) (last : G) → Stays first → Gives first (Ok (Some job)) last → Fits job) where
  gave_stays : (first : G) (jobs : List J) (last : G) → Stays first → Gave Gives first jobs last → Stays last
  gave_stays first [] last h is = subst Stays (sym is) h
  gave_stays first (job ∷ jobs) last h gave = gave_stays gave.0 jobs last (stays first (Ok (Some job)) gave.0 h gave.1) gave.2

  pub gives_only : (first : G) → Stays first → GivesOnly Gives Fits first
  gives_only first h jobs next last job gave gives = fits next job last (gave_stays first jobs next h gave) gives
