-- Where a step finds its worker and its vnode.
use Rattle.std.proofs.Common.{◌≡◌, refl, ℕ, suc, ◌≤◌, ◌<◌, ◌-◌, List, length, ◌∙◌, ap, subst, arith}
use Rattle.std.specs.Prelude.{Option, Some, None, SomeIff, get_or, slice_get}
use Rattle.std.proofs.lemmas.Option.{slice_get_past, slice_get_read}
use Rattle.node_steps.specs.declared.parts.Parts.{Parts}
use Rattle.node_steps.specs.declared.phase.Phase.{Phase as RunPhase}
use Rattle.node_steps.specs.declared.step.Act.{Act}
use Rattle.node_steps.specs.World.{World, route}
use Rattle.node_steps.specs.Steps.{Enters, acts as acts_in, site_of, happens}
use Rattle.node_steps.specs.Running.{phase_of, vnode_of, worker_of}
use Rattle.node_steps.specs.Asked.{action_of, step_by}
use Rattle.node_steps.specs.Parts.{world_in}
use Rattle.node_steps.proofs.Mapped.{at_some, at_none}
use Rattle.node_steps.proofs.Stepping.{sent_itself, same_site, no_call, no_vnode}
use Rattle.node_steps.proofs.RunCloses.{idle_closes, past_closes}

abbrev Cannot : Parts → ℕ → Type 0
Cannot parts worker = (act : Act) → happens (world_in parts) (step_by worker act) ≡ None

module _ (parts : Parts) (worker place : ℕ) (phase : RunPhase) (number : worker ≡ suc place) (here : slice_get parts.workers.items place ≡ Some phase) where
  abbrev w : World
  w = world_in parts

  -- the worker's step at its place
  by_place : (act : Act) → happens w (step_by worker act) ≡ acts_in w (suc place) (action_of act)
  by_place act = ap (λ n. happens w (step_by n act)) number ∙ ap (λ a. acts_in w (suc place) a) (sent_itself (route w) act)

  there : slice_get w.workers place ≡ Some (worker_of phase)
  there = at_some worker_of parts.workers.items place phase here

  pub without_call : site_of Enters (phase_of phase) ≡ None → Cannot parts worker
  without_call about = λ act.
      by_place act
      ∙ no_call w place (action_of act) (worker_of phase) there (idle_closes w (suc place) (worker_of phase) act (phase_of phase) about) (same_site act (phase_of phase) ∙ about)

  pub without_vnode : (index : ℕ) → site_of Enters (phase_of phase) ≡ Some index → length parts.sites.items ≤ index → Cannot parts worker
  without_vnode index about past = λ act.
      let none = at_none vnode_of parts.sites.items index (slice_get_past parts.sites.items index past) in
      by_place act
      ∙ no_vnode w place index (action_of act) (worker_of phase) there (past_closes w (suc place) (worker_of phase) act (phase_of phase) index about none)
      (same_site act (phase_of phase) ∙ about) none

-- a number from 1 on is one more than another
pub number_is : (worker place : ℕ) (o : Option ℕ) → SomeIff o (1 ≤ worker) (worker - 1) → o ≡ Some place → worker ≡ suc place
number_is worker place None h e = cc
number_is worker place (Some x) h e = let same : x ≡ place = cc in omega (arith, h.0, h.1, same)

-- what was read at a place of a list stands there
pub stands : {X : Type 0} (xs ys : List X) (i : ℕ) (x : X) → xs ≡ ys → i < length xs → x ≡ get_or xs i x → slice_get ys i ≡ Some x
stands xs ys i x e h r = subst (λ zs. slice_get zs i ≡ Some x) e (slice_get_read xs (length xs) i x refl h r)
