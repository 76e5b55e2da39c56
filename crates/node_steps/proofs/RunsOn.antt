-- Steps one after another.
use Rattle.std.proofs.Common.{◌≡◌, ℕ, length, arith, List, [], ◌∷◌, ◌++◌, refl, sym, ◌∙◌, ap, subst}
use Rattle.node_steps.specs.declared.outcome.Outcome.{Outcome as Returned}
use Rattle.node_steps.specs.declared.step.Step.{Step as RunStep}
use Rattle.node_steps.specs.World.{World}
use Rattle.node_steps.specs.Steps.{Step, outcome}
use Rattle.node_steps.specs.Schedules.{Start, world_after}
use Rattle.node_steps.specs.Returned.{returned}
use Rattle.node_steps.specs.Asked.{step_of}
use Rattle.node_steps.specs.Kept.{IsKeptAfter, FollowsInRun, FollowsAll, FollowsSome, extended, returned_by}
use Rattle.std.proofs.lemmas.List.{append-nil}

-- the steps but the rest were taken, and these are what they returned
pub record HasTaken (old : World) (steps rest : List RunStep) (returns : List Returned) (now : World) : Type 0 where
  pub taken : List RunStep
  pub parts : taken ++ rest ≡ steps
  pub follows : FollowsAll old taken returns now

extended-more : (schedule : List Step) (steps : List RunStep) (step : RunStep) → extended schedule (steps ++ step ∷ []) ≡ step_of step ∷ extended schedule steps
extended-more schedule [] step = refl
extended-more schedule (first ∷ steps) step = extended-more (step_of first ∷ schedule) steps step

returned_by-more : (start : Start) (schedule : List Step) (steps : List RunStep) (step : RunStep)
    → returned_by start schedule (steps ++ step ∷ [])
    ≡ returned_by start schedule steps ++ returned (outcome (world_after start (extended schedule steps)) (step_of step)) ∷ []
returned_by-more start schedule [] step = refl
returned_by-more start schedule (first ∷ steps) step =
    ap (λ rest. returned (outcome (world_after start schedule) (step_of first)) ∷ rest) (returned_by-more start (step_of first ∷ schedule) steps step)

append-one : {X : Type 0} (xs ys : List X) (x : X) → (xs ++ x ∷ []) ++ ys ≡ xs ++ x ∷ ys
append-one [] ys x = refl
append-one (y ∷ xs) ys x = ap (λ zs. y ∷ zs) (append-one xs ys x)

-- nothing was taken
pub none_taken : (old : World) (steps rest : List RunStep) → rest ≡ steps → HasTaken old steps rest [] old
none_taken old steps rest e = record { taken = []; parts = e; follows = λ start schedule kept. (refl, kept) }

-- one step more
pub one_taken : (old now new : World) (steps rest : List RunStep) (returns : List Returned) (step : RunStep) (last : Returned) → HasTaken old steps (step ∷ rest) returns now
    → FollowsInRun now (step_of step) last new → HasTaken old steps rest (returns ++ last ∷ []) new
one_taken old now new steps rest returns step last h f = record {
  taken = h.taken ++ step ∷ [];
  parts = append-one h.taken rest step ∙ h.parts;
  follows = λ start schedule kept.
      let so_far = h.follows start schedule kept in
      let next = f start (extended schedule h.taken) so_far.1 in (
        (λ i. so_far.0 i ++ next.0 i ∷ []) ∙ sym (returned_by-more start schedule h.taken step),
        subst (λ s. IsKeptAfter start s new) (sym (extended-more schedule h.taken step)) next.1,
      );
}

-- all were taken
pub all_taken : (old : World) (steps rest : List RunStep) (returns : List Returned) (now : World) → HasTaken old steps rest returns now → rest ≡ []
    → FollowsAll old steps returns now
all_taken old steps rest returns now h e =
    subst (λ s. FollowsAll old s returns now) (sym (append-nil h.taken) ∙ ap (λ r. h.taken ++ r) (sym e) ∙ h.parts) h.follows

pub some_taken : (old : World) (steps rest : List RunStep) (returns : List Returned) (now : World) → HasTaken old steps rest returns now → FollowsSome old steps now
some_taken old steps rest returns now h = record { taken = h.taken; rest = rest; parts = h.parts; returns = returns; follows = h.follows }

pub empty : {X : Type 0} (xs : List X) (n : ℕ) → n ≡ length xs → n ≡ 0 → xs ≡ []
empty [] n h e = refl
empty (x ∷ xs) n h e = absurd (omega (arith, h, e))
