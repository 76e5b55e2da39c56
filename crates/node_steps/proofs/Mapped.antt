-- Lists that a function is mapped over, and what is kept of a world after a turn.
use Rattle.std.proofs.Common.{◌≡◌, ℕ, zero, suc, List, [], ◌∷◌, map, refl, sym, ◌∙◌, ap}
use Rattle.std.specs.Prelude.{Some, None, option_map, slice_get, slice_set}
use Rattle.std.proofs.lemmas.Option.{slice_get-map}
use Rattle.node_steps.specs.World.{Worker, World}
use Rattle.node_steps.specs.Steps.{WorkerTurn, seeing, turned}
use Rattle.node_steps.specs.Erased.{erase_vnode, erase_worker, erase}
pub use Rattle.std.proofs.lemmas.Bool.{ne_eqb as other_test, eq-eqb as same_test, eqb-true as tested_same}
pub use Rattle.std.proofs.lemmas.List.{map-set, set-set}

pub at_some : {A B : Type 0} (f : A → B) (xs : List A) (i : ℕ) (x : A) → slice_get xs i ≡ Some x → slice_get (map f xs) i ≡ Some (f x)
at_some f xs i x h = slice_get-map f xs i ∙ ap (λ o. option_map f o) h

pub at_none : {A B : Type 0} (f : A → B) (xs : List A) (i : ℕ) → slice_get xs i ≡ None → slice_get (map f xs) i ≡ None
at_none f xs i h = slice_get-map f xs i ∙ ap (λ o. option_map f o) h

-- after a worker's turn its phase is that of the turn, and its vnode
pub turn_erased : (w : World) (place index : ℕ) (worker : Worker) (turn : WorkerTurn)
    → erase (turned w place index worker turn)
    ≡ record {
      vnodes = slice_set (map erase_vnode w.vnodes) index (erase_vnode turn.vnode);
      routes = w.routes;
      epochs = w.epochs;
      diversions = [];
      workers = slice_set (map erase_worker w.workers) place (record { phase = turn.phase; seen = [] });
    }
turn_erased w place index worker turn =
    let vnodes = map-set erase_vnode w.vnodes index turn.vnode in
    let workers = map-set erase_worker w.workers place (record { phase = turn.phase; seen = seeing worker.seen index turn.seen }) in
    λ i. record { vnodes = vnodes i; routes = w.routes; epochs = w.epochs; diversions = []; workers = workers i }

-- a list that is set to what stands there
pub set-same : {A : Type 0} (xs : List A) (i : ℕ) (x : A) → slice_get xs i ≡ Some x → slice_set xs i x ≡ xs
set-same [] i x h = refl
set-same (y ∷ xs) zero x h = let e : y ≡ x = cc in ap (λ z. z ∷ xs) (sym e)
set-same (y ∷ xs) (suc i) x h = ap (λ rest. y ∷ rest) (set-same xs i x h)
