-- The parts of a world before any step.
use Rattle.std.proofs.Common.{◌≡◌, ℕ, zero, suc, ◌+◌, ◌<◌, ◌^◌, List, [], ◌∷◌, ◌++◌, map, refl, sym, ◌∙◌, ap}
use Rattle.std.proofs.lemmas.List.{map-append}
use Rattle.std.proofs.Math.Nat.{zero-add, add-zero}
use Rattle.std.specs.Prelude.{replicate}
use Rattle.node_steps.specs.declared.phase.Phase.TheVariants as phases
use Rattle.node_steps.specs.declared.phase.Phase.{Phase as RunPhase}
use Rattle.node_steps.specs.declared.site.Site.{Site}
use Rattle.node_steps.specs.World.{World, fresh_vnode, fresh_worker, id_of, opening_vnodes, own_sites, opening_world}
use Rattle.node_steps.specs.Erased.{erase, erase_vnode, erase_worker}
use Rattle.node_steps.specs.Running.{vnode_of, worker_of, world_of}
use Rattle.node_steps.specs.Kept.{IsKept}
use Rattle.node_steps.proofs.Numbers.{shift}

pub idle_workers : (n : ℕ) → map worker_of (replicate n phases.Idle) ≡ map erase_worker (replicate n fresh_worker)
idle_workers zero = refl
idle_workers (suc n) = ap (λ rest. worker_of phases.Idle ∷ rest) (idle_workers n)

opening-more : (run from n : ℕ) → opening_vnodes run from n ++ fresh_vnode (id_of run (from + n)) (from + n) 0 ∷ [] ≡ opening_vnodes run from (suc n)
opening-more run from zero = ap (λ i. fresh_vnode (id_of run i) i 0 ∷ []) (add-zero from)
opening-more run from (suc n) =
    ap (λ i. fresh_vnode (id_of run from) from 0 ∷ (opening_vnodes run (from + 1) n ++ fresh_vnode (id_of run i) i 0 ∷ [])) (sym (shift from n))
    ∙ ap (λ rest. fresh_vnode (id_of run from) from 0 ∷ rest) (opening-more run (from + 1) n)

-- one vnode more
pub more_sites : (sites : List Site) (site : Site) (run n : ℕ) → map vnode_of sites ≡ map erase_vnode (opening_vnodes run 0 n)
    → vnode_of site ≡ erase_vnode (fresh_vnode (id_of run n) n 0) → map vnode_of (sites ++ site ∷ []) ≡ map erase_vnode (opening_vnodes run 0 (suc n))
more_sites sites site run n h e =
    map-append vnode_of sites (site ∷ []) ∙ (λ i. h i ++ e i ∷ [])
    ∙ sym (map-append erase_vnode (opening_vnodes run 0 n) (fresh_vnode (id_of run n) n 0 ∷ []))
    ∙ ap (λ i. map erase_vnode (opening_vnodes run 0 n ++ fresh_vnode (id_of run i) i 0 ∷ [])) (sym (zero-add n))
    ∙ ap (λ vs. map erase_vnode vs) (opening-more run 0 n)

own-more : (from n : ℕ) → own_sites from n ++ (from + n) ∷ [] ≡ own_sites from (suc n)
own-more from zero = ap (λ i. i ∷ []) (add-zero from)
own-more from (suc n) = ap (λ i. from ∷ (own_sites (from + 1) n ++ i ∷ [])) (sym (shift from n)) ∙ ap (λ rest. from ∷ rest) (own-more (from + 1) n)

-- one route more
pub more_routes : (routes more : List ℕ) (n : ℕ) → routes ≡ own_sites 0 n → more ≡ routes ++ n ∷ [] → more ≡ own_sites 0 (suc n)
more_routes routes more n h e = e ∙ (λ i. h i ++ sym (zero-add n) i ∷ []) ∙ own-more 0 n

-- sites, routes, epochs and workers are a world before any step
pub opening_is : (sites : List Site) (routes epochs : List ℕ) (workers : List RunPhase) (run count vnodes : ℕ) → map vnode_of sites ≡ map erase_vnode (opening_vnodes run 0 vnodes)
    → routes ≡ own_sites 0 vnodes → epochs ≡ replicate vnodes 0 → workers ≡ replicate count phases.Idle → world_of sites routes epochs workers ≡ erase (opening_world run count vnodes)
opening_is sites routes epochs workers run count vnodes s r e w =
    let idle = ap (λ ws. map worker_of ws) w ∙ idle_workers count in
    λ i. record { vnodes = s i; routes = r i; epochs = e i; diversions = []; workers = idle i }

pub opening_kept : (run count vnodes : ℕ) (world : World) → run < 2 ^ 32 → count < 2 ^ 16 → vnodes < 2 ^ 16
    → world ≡ erase (opening_world run count vnodes) → IsKept world
opening_kept run count vnodes world r c v e = record {
  start = record { run = run; workers = count; vnodes = vnodes };
  schedule = [];
  after = record { start_is = record { run = r; vnodes = v }; workers = c; world_is = e };
}
