-- A node at a partition that has a fallback: the pass that it keeps of that, and what is answered by it.
use Rattle.std.proofs.Common.{◌≡◌, ◌∙◌, ◌<◌, ℕ, List, [], ◌∷◌, length, refl, sym, ap, subst, arith}
use Rattle.std.specs.Prelude.{Option, Some, slice_get, slice_set, get_or, zero, suc}
use Rattle.handoff.specs.declared.gates.Fallback.{Fallback}
use Rattle.handoff.specs.Partitions.{IsFallback}
use Rattle.handoff.proofs.Opened.{got}
use Rattle.stats_book.specs.declared.quantity.Quantity.{Quantity}
use Rattle.stats_book.specs.Counter.{Count, CountsAnswer}
use Rattle.gate_node.specs.declared.passes.FallbackPass.{FallbackPass}
use Rattle.gate_node.specs.Asked.{Sight}
use Rattle.gate_node.specs.Gates.{Gates}
use Rattle.gate_node.specs.GateStep.{NodeOverGates, AtFallback, AtClosed}
use Rattle.gate_node.specs.Passes.{AnswersAtFallback, ArePassesOf, FindsClosed, FitsPartition, places_of}
use Rattle.gate_node.proofs.Fitting.{answered_fits, closed_fits, fit_at, fit_set, place_at}
use Rattle.gate_node.proofs.Opened.{at_closed, at_fallback}

-- a node by its parts
abbrev pub node_of : Gates → List Sight → List (Option FallbackPass) → Count → NodeOverGates
node_of shared primaries fallbacks count = record { shared = shared; passes = record { primaries = primaries; fallbacks = fallbacks }; count = count }

no_less : (i : ℕ) → i < 0 → ⊥
no_less i h = omega (arith, h)

-- what is set in places that were made is seen there
pub places_set : (size i : ℕ) (places : List (Option FallbackPass)) (kept : Option FallbackPass) → i < length places → places_of size (slice_set places i kept) ≡ slice_set places i kept
places_set size i [] kept inside = absurd (no_less i inside)
places_set size zero (place ∷ places) kept inside = refl
places_set size (suc i) (place ∷ places) kept inside = refl

-- a node whose places are made shows what it showed
module _ (size : ℕ) (shared : Gates) (primaries : List Sight) (places made : List (Option FallbackPass)) (count : Count) (same : places_of size made ≡ places_of size places) (all : places_of size made ≡ made) where
  shown : places_of size places ≡ made
  shown = sym same ∙ all

  pub made_is : (node : NodeOverGates) → node_of shared primaries (places_of size places) count ≡ node → node_of shared primaries made count ≡ node
  made_is node is = ap (λ shows. node_of shared primaries shows count) (sym shown) ∙ is

  pub made_of : ArePassesOf shared (record { primaries = primaries; fallbacks = places_of size places }) → ArePassesOf shared (record { primaries = primaries; fallbacks = made })
  made_of = subst (λ shows. ArePassesOf shared (record { primaries = primaries; fallbacks = shows })) shown

module _ (inside node : NodeOverGates) (i : ℕ) (fallback : Fallback) (is : inside ≡ node) (of : ArePassesOf inside.shared inside.passes) (diverted : slice_get node.shared.fallbacks i ≡ Some (Some fallback)) where
  there : slice_get inside.shared.fallbacks i ≡ Some (Some fallback)
  there = subst (λ (n : NodeOverGates). slice_get n.shared.fallbacks i ≡ Some (Some fallback)) (sym is) diverted

  pub kept_place : i < length inside.passes.fallbacks
  kept_place = place_at inside.shared.fallbacks inside.passes.fallbacks i (Some fallback) of.fallbacks there

  module _ (kept : Option FallbackPass) (at : kept ≡ get_or inside.passes.fallbacks i kept) where
    pub kept_fits : FitsPartition (Some fallback) kept
    kept_fits = fit_at inside.shared.fallbacks inside.passes.fallbacks i (Some fallback) kept of.fallbacks there (got inside.passes.fallbacks i kept kept_place at)

    module _ (new : Option FallbackPass) where
      still : FitsPartition (Some fallback) new → ArePassesOf inside.shared (record inside.passes { fallbacks = slice_set inside.passes.fallbacks i new })
      still fits = record { primaries = of.primaries; fallbacks = fit_set inside.shared.fallbacks inside.passes.fallbacks i (Some fallback) new of.fallbacks there fits }

      pub still_answered : (Says : Sight → Sight → Type 0) → AnswersAtFallback fallback kept new Says → ArePassesOf inside.shared (record inside.passes { fallbacks = slice_set inside.passes.fallbacks i new })
      still_answered Says answers = still (answered_fits fallback kept new Says answers)

      pub still_closed : (number : ℕ) → FindsClosed fallback kept new number → ArePassesOf inside.shared (record inside.passes { fallbacks = slice_set inside.passes.fallbacks i new })
      still_closed number finds = still (closed_fits fallback kept new number finds)

      module _ (is_new : IsFallback node.shared.run i fallback) where
        there_new : IsFallback inside.shared.run i fallback
        there_new = subst (λ (n : NodeOverGates). IsFallback n.shared.run i fallback) (sym is) is_new

        pub answered_there : (Says : Sight → Sight → Option Quantity → Type 0) (quantity : Option Quantity) (count : Count) → AnswersAtFallback fallback kept new (λ p q. Says p q quantity)
            → CountsAnswer quantity 0 inside.count count
            → AtFallback i node (record inside { passes = record inside.passes { fallbacks = slice_set inside.passes.fallbacks i new }; count = count }) Says
        answered_there Says quantity count answers counts =
            let last : NodeOverGates = record inside { passes = record inside.passes { fallbacks = slice_set inside.passes.fallbacks i new }; count = count } in
            subst (λ (n : NodeOverGates). AtFallback i n last Says) is (at_fallback inside i fallback kept new Says quantity count there there_new kept_place at answers counts)

        pub closed_there : (number : ℕ) → FindsClosed fallback kept new number
            → AtClosed i number node (record inside { passes = record inside.passes { fallbacks = slice_set inside.passes.fallbacks i new } })
        closed_there number finds =
            let last : NodeOverGates = record inside { passes = record inside.passes { fallbacks = slice_set inside.passes.fallbacks i new } } in
            subst (λ (n : NodeOverGates). AtClosed i number n last) is (at_closed inside i fallback kept new number there there_new kept_place at finds)
