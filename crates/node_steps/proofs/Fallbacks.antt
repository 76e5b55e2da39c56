-- A partition of the running world that is diverted.
use Rattle.std.proofs.Common.{◌≡◌, ℕ, ◌+◌, ◌^◌, ◌<◌, Bool, true, false, cond, not, ◌&&◌, List, [], ◌∷◌, ◌++◌, map, length, refl, sym, ◌∙◌, ap, subst}
use Rattle.std.specs.Prelude.{◌==◌, Option, Some, None, option_map, option_and_then, slice_get, slice_set}
use Rattle.std.specs.Option.{option_map_or}
use Rattle.std.specs.List.{list_all}
use Rattle.std.specs.Global.{Box}
use Rattle.std.proofs.lemmas.List.{length-map, map-append}
use Rattle.node_steps.specs.declared.hand.Hand.{Hand}
use Rattle.node_steps.specs.declared.outcome.Outcome.TheVariants as outcomes
use Rattle.node_steps.specs.declared.parts.Parts.{Parts}
use Rattle.node_steps.specs.declared.phase.Phase.{Phase as RunPhase}
use Rattle.node_steps.specs.declared.site.Site.{Site}
use Rattle.node_steps.specs.World.{Phase, SiteVnode, World, fresh_vnode}
use Rattle.node_steps.specs.Steps.{Diverts, Outcome, NotPossible, Happened, is_for, fallback_ids, diverted_by, diverted}
use Rattle.node_steps.specs.Erased.{erase, erase_vnode}
use Rattle.node_steps.specs.Returned.{returned}
use Rattle.node_steps.specs.Running.{vnode_of, worker_of}
use Rattle.node_steps.specs.Parts.{AreFit, IsOpen, DivertsTo, TakesFitStep, world_in}
use Rattle.node_steps.proofs.Mapped.{at_some, at_none, tested_same}
use Rattle.node_steps.proofs.Stepping.{vnodes_itself, workers_itself, not_possible}

-- no worker of these has to do with a partition whose sites are these
abbrev pub are_free : List SiteVnode → (index : ℕ) → List RunPhase → Bool
are_free vnodes index phases = list_all (λ worker. not (is_for vnodes index 0 worker.phase)) (map worker_of phases)

-- the sites from a place on
abbrev pub for_from : (index : ℕ) → Phase → (at : ℕ) → List Site → Bool
for_from index phase at sites = is_for (map vnode_of sites) index at phase

module _ (parts : Parts) (index : ℕ) where
  abbrev w : World
  w = world_in parts

  abbrev free : Bool
  free = are_free w.vnodes index parts.workers.items

  abbrev tested : ℕ → ℕ → SiteVnode → Option World
  tested site epoch vnode = cond ((site == index) && free) (Some (diverted_by w index epoch vnode)) None

  abbrev by_epoch : ℕ → Option ℕ → Option World
  by_epoch site o = option_and_then (λ epoch. option_and_then (tested site epoch) (slice_get w.vnodes index)) o

  abbrev by_route : Option ℕ → Option World
  by_route o = option_and_then (λ site. by_epoch site (slice_get w.epochs index)) o

  -- there is no such partition
  pub no_epoch : slice_get parts.epochs.items index ≡ None → diverted w index ≡ None
  no_epoch e = by (slice_get w.routes index)
    where
      by : (o : Option ℕ) → by_route o ≡ None
      by None = refl
      by (Some site) = ap (by_epoch site) e

  -- it isn't diverted behind any epoch
  never : (site : ℕ) → slice_get parts.routes.items index ≡ Some site → ((epoch : ℕ) → option_and_then (tested site epoch) (slice_get w.vnodes index) ≡ None) → diverted w index ≡ None
  never site e none = ap by_route e ∙ by (slice_get w.epochs index)
    where
      by : (o : Option ℕ) → by_epoch site o ≡ None
      by None = refl
      by (Some epoch) = none epoch

  -- its calls go elsewhere, or a worker has to do with it
  pub not_free : (site : ℕ) → slice_get parts.routes.items index ≡ Some site → (site == index) && free ≡ false → diverted w index ≡ None
  not_free site e test = never site e (λ epoch. by_vnode epoch (slice_get w.vnodes index))
    where
      by_vnode : (epoch : ℕ) (o : Option SiteVnode) → option_and_then (tested site epoch) o ≡ None
      by_vnode epoch None = refl
      by_vnode epoch (Some vnode) = ap (λ b. cond b (Some (diverted_by w index epoch vnode)) None) test

  -- it has no vnode
  pub no_primary : (site : ℕ) → slice_get parts.routes.items index ≡ Some site → slice_get parts.sites.items index ≡ None → diverted w index ≡ None
  no_primary site e none = never site e (λ epoch. ap (λ o. option_and_then (tested site epoch) o) (at_none vnode_of parts.sites.items index none))

  module _ (site epoch : ℕ) (primary : Site) (routed : slice_get parts.routes.items index ≡ Some site) (behind : slice_get parts.epochs.items index ≡ Some epoch)
      (own : (site == index) && free ≡ true) (there : slice_get parts.sites.items index ≡ Some primary) where
    diverted_is : diverted w index ≡ Some (diverted_by w index epoch (vnode_of primary))
    diverted_is =
        ap by_route routed ∙ ap (by_epoch site) behind
        ∙ ap (λ o. option_and_then (tested site epoch) o) (at_some vnode_of parts.sites.items index primary there)
        ∙ ap (λ b. cond b (Some (diverted_by w index epoch (vnode_of primary))) None) own

    both_true : (a b : Bool) → a && b ≡ true → b ≡ true
    both_true true b h = h
    both_true false b h = cc

    taken_open : (place : Option (Box Hand)) → primary.place ≡ place → place ≡ None → IsOpen (vnode_of primary).word → ⊥
    taken_open None e n is = subst (λ o. IsOpen (vnode_of (record primary { place = o })).word) e is
    taken_open (Some hand) e n is = cc

    first_true : (a b : Bool) → a && b ≡ true → a ≡ true
    first_true true b h = refl
    first_true false b h = cc

    -- its calls go to its own site
    own_route : slice_get parts.routes.items index ≡ Some index
    own_route = routed ∙ ap (λ n. Some n) (tested_same site index (first_true (site == index) free own))

    -- its state is in a worker's hand, and no worker has to do with it: that never is
    pub not_taken : primary.place ≡ None → AreFit parts → diverted w index ≡ None
    not_taken taken fit =
        absurd (taken_open None taken refl (fit.left index primary own_route there (both_true (site == index) free own)).opened)

    -- it is diverted to a fallback of this id, opened behind this epoch
    pub to_fallback : (hand : Box Hand) → primary.place ≡ Some hand
        → (id : ℕ) → (hand.value.state.vnode + fallback_ids < 2 ^ 64 → id ≡ hand.value.state.vnode + fallback_ids) → AreFit parts → DivertsTo w index id epoch
    to_fallback hand in_place id is fit =
        let place : (vnode_of primary).place.vnode ≡ hand.value.state.vnode = ap (λ o. (vnode_of (record primary { place = o })).place.vnode) in_place in
        let fits = (fit.left index primary own_route there (both_true (site == index) free own)).id_fits in
        record {
          primary = vnode_of primary;
          diverted_is = diverted_is;
          id_is = is (subst (λ n. n + fallback_ids < 2 ^ 64) place fits) ∙ ap (λ n. n + fallback_ids) (sym place);
        }

  abbrev Result : Type 0
  Result = World × Outcome

  abbrev with_happened : Option World → Option Result
  with_happened o = option_map (λ (next : World). (next, Happened)) o

  -- a partition that can't be diverted stays
  pub not_diverted : diverted w index ≡ None → TakesFitStep parts (Diverts index) outcomes.No parts
  not_diverted e fit = not_possible parts.sites.items parts.routes.items parts.epochs.items parts.workers.items (Diverts index) (ap with_happened e)

  -- a fallback stands at a new site, and the calls go there
  pub is_diverted : (new : Parts) (id epoch : ℕ) (fallback : Site) → (AreFit parts → DivertsTo w index id epoch) → vnode_of fallback ≡ erase_vnode (fresh_vnode id index epoch)
      → new.sites.items ≡ parts.sites.items ++ fallback ∷ [] → new.routes.items ≡ slice_set parts.routes.items index (length parts.sites.items)
      → new.epochs.items ≡ parts.epochs.items → new.workers.items ≡ parts.workers.items → TakesFitStep parts (Diverts index) outcomes.Done new
  is_diverted new id epoch fallback to is sites routes epochs workers fit =
      let d = to fit in
      let count = ap (λ n. slice_set parts.routes.items index n) (sym (length-map parts.sites.items vnode_of)) in
      let all_routes = routes ∙ count in
      let vnodes = ap (λ ss. map vnode_of ss) sites ∙ map-append vnode_of parts.sites.items (fallback ∷ [])
      ∙ (λ i. vnodes_itself parts.sites.items i ++ (is ∙ ap (λ n. erase_vnode (fresh_vnode n index epoch)) d.id_is) i ∷ [])
      ∙ sym (map-append erase_vnode (map vnode_of parts.sites.items) (fresh_vnode (d.primary.place.vnode + fallback_ids) index epoch ∷ [])) in
      let phases = ap (λ ps. map worker_of ps) workers ∙ workers_itself parts.workers.items in
      let later : world_in new ≡ erase (diverted_by w index epoch d.primary) =
      λ i. record { vnodes = vnodes i; routes = all_routes i; epochs = epochs i; diversions = []; workers = phases i } in
      record {
        returns_is = sym (ap (λ o. returned (option_map_or (λ (r : Result). r.1) (with_happened o) NotPossible)) d.diverted_is);
        world_is = later ∙ sym (ap (λ o. erase (option_map_or (λ (r : Result). r.0) (with_happened o) w)) d.diverted_is);
      }
