-- A closer's look and publish, and a partition's step, do not look at them either; so no step does.
use Rattle.std.proofs.Common.{◌≡◌, ℕ, suc, ◌+◌, Bool, true, false, cond, not, ◌&&◌, ◌||◌, subst, List, [], ◌∷◌, ◌++◌, map, refl, sym, ◌∙◌, ap}
use Rattle.std.specs.Prelude.{◌==◌, pred, Option, Some, None, is_some, option_map, option_and_then, slice_get, slice_set}
use Rattle.std.specs.Option.{option_map_or}
use Rattle.std.proofs.lemmas.Option.{slice_get-map}
use Rattle.std.proofs.lemmas.List.{length-map, map-append}
use Rattle.std.specs.List.{list_all}
use Rattle.riak_msgs.specs.Contents.{Content}
use Rattle.vnode_machine.specs.Machine.{State}
use Rattle.copy_laws.specs.Copies.{Closed}
use Rattle.vnode_machine.specs.Copying.{apply_close}
use Rattle.copy_laws.specs.Joining.{Log}
use Rattle.node_steps.specs.World.{Word, Open, Taken, CloseInside, CloseLooked, CloseDone, Phase, Closing, SiteVnode, Worker, World, fresh_vnode, worker_at, route}
use Rattle.node_steps.specs.Steps.{Action, Looks, Publishes, Step, By, Diverts, Outcome, NotPossible, Happened, routed, site_of, seeing, does, left_in, judged, judged_by, closed_by, closes, acts, is_about, is_for, fallback_ids, diverted_by, diverted, happens, after, outcome}
use Rattle.node_steps.proofs.Kept.{IsOrderly}
use Rattle.node_steps.proofs.Diverting.{in_place_still, same_number}
use Rattle.node_steps.specs.Erased.{IsShown, erase_place, erase_vnode, erase_worker, erase}
use Rattle.node_steps.proofs.Erasing.{map-set, vnode_twice, vnodes_twice, workers_twice, world_twice, Result, erase_result, worker_erased, shown_at, does_erased}

-- one that is set
worker_set : (w : World) (place : ℕ) (phase : Phase) (seen other : List Log)
    → map erase_worker (slice_set w.workers place (record { phase = phase; seen = seen })) ≡ map erase_worker (slice_set (map erase_worker w.workers) place (record { phase = phase; seen = other }))
worker_set w place phase seen other =
    map-set erase_worker w.workers place (record { phase = phase; seen = seen })
    ∙ ap (λ ws. slice_set ws place (record { phase = phase; seen = [] })) (sym (workers_twice w.workers))
    ∙ sym (map-set erase_worker (map erase_worker w.workers) place (record { phase = phase; seen = other }))

vnode_set : (w : World) (site : ℕ) (vnode other : SiteVnode) → erase_vnode vnode ≡ erase_vnode other
    → map erase_vnode (slice_set w.vnodes site vnode) ≡ map erase_vnode (slice_set (map erase_vnode w.vnodes) site other)
vnode_set w site vnode other e =
    map-set erase_vnode w.vnodes site vnode ∙ (λ i. slice_set (sym (vnodes_twice w.vnodes) i) site (e i)) ∙ sym (map-set erase_vnode (map erase_vnode w.vnodes) site other)

module _ (w : World) (orderly : IsOrderly w) (number : ℕ) where
  abbrev Same : Option Result → Option Result → Type 0
  Same a b = option_map erase_result a ≡ option_map erase_result b

  -- of a look at both
  same_judged : (own site : ℕ) (worker : Worker) (primary fallback : SiteVnode) (phase : Phase)
      → erase (judged_by w (pred number) own site worker primary fallback phase)
      ≡ erase (judged_by (erase w) (pred number) own site (erase_worker worker) (erase_vnode primary) (erase_vnode fallback) phase)
  same_judged own site worker primary fallback phase =
      let vnodes = sym (vnodes_twice w.vnodes) in
      let workers = worker_set w (pred number) phase (seeing (seeing worker.seen site fallback.log) own primary.log) (seeing (seeing [] site []) own []) in
      λ i. record { vnodes = vnodes i; routes = w.routes; epochs = w.epochs; diversions = []; workers = workers i }

  open_place : (word : Word) (place : State Content) (own site : ℕ) (hand : State Content) → IsShown word (Closing own site (CloseInside hand)) → erase_place word place ≡ place
  open_place (Open n mark) place own site hand p = refl
  open_place Taken place own site hand p = absurd p

  abbrev judged_at : (own site : ℕ) (hand place : State Content) → Phase × Outcome
  judged_at own site hand place = judged own site hand place (is_some hand.closed) (left_in place hand)

  by_judged : (own site : ℕ) (hand : State Content) (worker : Worker) (fallback : SiteVnode) → worker_at w number ≡ Some worker → worker.phase ≡ Closing own site (CloseInside hand)
      → (o : Option SiteVnode) → slice_get w.vnodes own ≡ o
      → Same (option_map (λ (primary : SiteVnode). (judged_by w (pred number) own site worker primary fallback (judged_at own site hand primary.place).0, (judged_at own site hand primary.place).1)) o)
      (option_map (λ (primary : SiteVnode). (judged_by (erase w) (pred number) own site (erase_worker worker) primary (erase_vnode fallback) (judged_at own site hand primary.place).0, (judged_at own site hand primary.place).1))
      (option_map erase_vnode o))
  by_judged own site hand worker fallback here is None there = refl
  by_judged own site hand worker fallback here is (Some primary) there =
      let shown = subst (λ phase. IsShown primary.word phase) is (shown_at w orderly Looks number own worker primary here (ap (site_of Looks) is) there) in
      let place = open_place primary.word primary.place own site hand shown in
      (λ i. Some (same_judged own site worker primary fallback (judged_at own site hand primary.place).0 i, (judged_at own site hand primary.place).1))
      ∙ (λ i. Some (erase (judged_by (erase w) (pred number) own site (erase_worker worker) (erase_vnode primary) (erase_vnode fallback) (judged_at own site hand (sym place i)).0), (judged_at own site hand (sym place i)).1))

  -- and of a publish
  same_closed : (own site : ℕ) (worker : Worker) (fallback : SiteVnode) (hand : State Content) (count : ℕ)
      → erase (closed_by w (pred number) own site worker fallback hand count) ≡ erase (closed_by (erase w) (pred number) own site (erase_worker worker) (erase_vnode fallback) hand count)
  same_closed own site worker fallback hand count =
      let vnodes = vnode_set w site (record fallback { log = Closed count ∷ fallback.log }) (record (erase_vnode fallback) { log = Closed count ∷ [] }) (sym (vnode_twice fallback)) in
      let workers = worker_set w (pred number) (Closing own site (CloseDone (apply_close hand count) true)) (seeing worker.seen site (Closed count ∷ fallback.log)) (seeing [] site (Closed count ∷ [])) in
      λ i. record { vnodes = vnodes i; routes = slice_set w.routes own own; epochs = slice_set w.epochs own hand.last_epoch; diversions = []; workers = workers i }

  by_closed : (own site : ℕ) (hand : State Content) (count : ℕ) (worker : Worker) (o : Option SiteVnode)
      → Same (option_map (λ (fallback : SiteVnode). (closed_by w (pred number) own site worker fallback hand count, Happened)) o)
      (option_map (λ (fallback : SiteVnode). (closed_by (erase w) (pred number) own site (erase_worker worker) fallback hand count, Happened)) (option_map erase_vnode o))
  by_closed own site hand count worker None = refl
  by_closed own site hand count worker (Some fallback) = λ i. Some (same_closed own site worker fallback hand count i, Happened)

  by_fallback : (own site : ℕ) (hand : State Content) (worker : Worker) → worker_at w number ≡ Some worker → worker.phase ≡ Closing own site (CloseInside hand) → (o : Option SiteVnode)
      → Same (option_and_then (λ (fallback : SiteVnode). option_map (λ (primary : SiteVnode).
      (judged_by w (pred number) own site worker primary fallback (judged_at own site hand primary.place).0, (judged_at own site hand primary.place).1)) (slice_get w.vnodes own)) o)
      (option_and_then (λ (fallback : SiteVnode). option_map (λ (primary : SiteVnode).
      (judged_by (erase w) (pred number) own site (erase_worker worker) primary fallback (judged_at own site hand primary.place).0, (judged_at own site hand primary.place).1)) (slice_get (map erase_vnode w.vnodes) own))
      (option_map erase_vnode o))
  by_fallback own site hand worker here is None = refl
  by_fallback own site hand worker here is (Some fallback) =
      by_judged own site hand worker fallback here is (slice_get w.vnodes own) refl
      ∙ ap (λ o. option_map erase_result (option_map (λ (primary : SiteVnode).
      (judged_by (erase w) (pred number) own site (erase_worker worker) primary (erase_vnode fallback) (judged_at own site hand primary.place).0, (judged_at own site hand primary.place).1)) o))
      (sym (slice_get-map erase_vnode w.vnodes own))

  closes_erased : (worker : Worker) → worker_at w number ≡ Some worker → (action : Action) (phase : Phase) → worker.phase ≡ phase
      → Same (closes w number worker action phase) (closes (erase w) number (erase_worker worker) action phase)
  closes_erased worker here Looks (Closing own site (CloseInside hand)) is =
      by_fallback own site hand worker here is (slice_get w.vnodes site)
      ∙ ap (λ o. option_map erase_result (option_and_then (λ (fallback : SiteVnode). option_map (λ (primary : SiteVnode).
      (judged_by (erase w) (pred number) own site (erase_worker worker) primary fallback (judged_at own site hand primary.place).0, (judged_at own site hand primary.place).1)) (slice_get (map erase_vnode w.vnodes) own)) o))
      (sym (slice_get-map erase_vnode w.vnodes site))
  closes_erased worker here Publishes (Closing own site (CloseLooked hand count)) is =
      by_closed own site hand count worker (slice_get w.vnodes site)
      ∙ ap (λ o. option_map erase_result (option_map (λ (fallback : SiteVnode). (closed_by (erase w) (pred number) own site (erase_worker worker) fallback hand count, Happened)) o))
      (sym (slice_get-map erase_vnode w.vnodes site))
  closes_erased worker here action phase is = refl

  either_erased : (a b c d : Option Result) → Same a b → Same c d
      → Same (option_map_or (λ (came : Result). Some came) a c) (option_map_or (λ (came : Result). Some came) b d)
  either_erased None None c d h k = k
  either_erased None (Some y) c d h k = cc
  either_erased (Some x) None c d h k = cc
  either_erased (Some x) (Some y) c d h k = h

  acts_erased : (action : Action) → Same (acts w number action) (acts (erase w) number action)
  acts_erased action =
      by (worker_at w number) refl
      ∙ ap (λ o. option_map erase_result (option_and_then (λ (worker : Worker). option_map_or (λ (came : Result). Some came) (closes (erase w) number worker action worker.phase) (does (erase w) number action)) o))
      (sym (worker_erased w number))
    where
      by : (o : Option Worker) → worker_at w number ≡ o
          → Same (option_and_then (λ (worker : Worker). option_map_or (λ (came : Result). Some came) (closes w number worker action worker.phase) (does w number action)) o)
          (option_and_then (λ (worker : Worker). option_map_or (λ (came : Result). Some came) (closes (erase w) number worker action worker.phase) (does (erase w) number action)) (option_map erase_worker o))
      by None here = refl
      by (Some worker) here =
          either_erased (closes w number worker action worker.phase) (closes (erase w) number (erase_worker worker) action worker.phase) (does w number action) (does (erase w) number action)
          (closes_erased worker here action worker.phase refl) (does_erased w orderly number action)

-- so it is of a partition's step
for_erased : (vnodes : List SiteVnode) (index from : ℕ) (phase : Phase) → is_for (map erase_vnode vnodes) index from phase ≡ is_for vnodes index from phase
for_erased [] index from phase = refl
for_erased (vnode ∷ vnodes) index from phase = ap (λ rest. ((vnode.own == index) && is_about from phase) || rest) (for_erased vnodes index (suc from) phase)

pub alone_erased : (vnodes : List SiteVnode) (index : ℕ) (workers : List Worker)
    → list_all (λ worker. not (is_for (map erase_vnode vnodes) index 0 worker.phase)) (map erase_worker workers) ≡ list_all (λ worker. not (is_for vnodes index 0 worker.phase)) workers
alone_erased vnodes index [] = refl
alone_erased vnodes index (worker ∷ workers) =
    let one = for_erased vnodes index 0 worker.phase in let rest = alone_erased vnodes index workers in λ i. not (one i) && rest i

module _ (w : World) (orderly : IsOrderly w) (index : ℕ) where
  abbrev Erases : Option World → Option World → Type 0
  Erases a b = option_map erase a ≡ option_map erase b

  same_diverted : (epoch : ℕ) (vnode : SiteVnode) → erase_place vnode.word vnode.place ≡ vnode.place
      → erase (diverted_by w index epoch vnode) ≡ erase (diverted_by (erase w) index epoch (erase_vnode vnode))
  same_diverted epoch vnode e =
      let fresh : SiteVnode = fresh_vnode (vnode.place.vnode + fallback_ids) index epoch in
      let vnodes = map-append erase_vnode w.vnodes (fresh ∷ [])
      ∙ (λ i. sym (vnodes_twice w.vnodes) i ++ erase_vnode (fresh_vnode ((sym e i).vnode + fallback_ids) index epoch) ∷ [])
      ∙ sym (map-append erase_vnode (map erase_vnode w.vnodes) (fresh_vnode ((erase_place vnode.word vnode.place).vnode + fallback_ids) index epoch ∷ [])) in
      let count = sym (length-map w.vnodes erase_vnode) in
      let workers = sym (workers_twice w.workers) in
      λ i. record { vnodes = vnodes i; routes = slice_set w.routes index (count i); epochs = w.epochs; diversions = []; workers = workers i }

  abbrev is_free : Bool
  is_free = list_all (λ worker. not (is_for w.vnodes index 0 worker.phase)) w.workers

  abbrev tested : World → (site epoch : ℕ) → Bool → SiteVnode → Option World
  tested world site epoch alone vnode = cond ((site == index) && alone) (Some (diverted_by world index epoch vnode)) None

  by_tests : (epoch : ℕ) (vnode : SiteVnode) → slice_get w.vnodes index ≡ Some vnode → slice_get w.routes index ≡ Some index → (alone : Bool) → is_free ≡ alone
      → Erases (cond alone (Some (diverted_by w index epoch vnode)) None) (cond alone (Some (diverted_by (erase w) index epoch (erase_vnode vnode))) None)
  by_tests epoch vnode there own true h = ap (λ x. Some x) (same_diverted epoch vnode (in_place_still w orderly index epoch vnode there own h))
  by_tests epoch vnode there own false h = refl

  by_site : (site epoch : ℕ) → slice_get w.routes index ≡ Some site → (vnode : SiteVnode) → slice_get w.vnodes index ≡ Some vnode → (same : Bool) → (site == index) ≡ same
      → Erases (cond (same && is_free) (Some (diverted_by w index epoch vnode)) None) (cond (same && is_free) (Some (diverted_by (erase w) index epoch (erase_vnode vnode))) None)
  by_site site epoch route vnode there true same = by_tests epoch vnode there (route ∙ ap (λ k. Some k) (same_number site index same)) is_free refl
  by_site site epoch route vnode there false same = refl

  by_primary : (site epoch : ℕ) → slice_get w.routes index ≡ Some site → (o : Option SiteVnode) → slice_get w.vnodes index ≡ o
      → Erases (option_and_then (tested w site epoch is_free) o) (option_and_then (tested (erase w) site epoch is_free) (option_map erase_vnode o))
  by_primary site epoch route None h = refl
  by_primary site epoch route (Some vnode) h = by_site site epoch route vnode h (site == index) refl

  by_epoch : (site : ℕ) → slice_get w.routes index ≡ Some site → (o : Option ℕ)
      → Erases (option_and_then (λ epoch. option_and_then (tested w site epoch is_free) (slice_get w.vnodes index)) o)
      (option_and_then (λ epoch. option_and_then (tested (erase w) site epoch is_free) (slice_get (map erase_vnode w.vnodes) index)) o)
  by_epoch site route None = refl
  by_epoch site route (Some epoch) =
      by_primary site epoch route (slice_get w.vnodes index) refl
      ∙ ap (λ o. option_map erase (option_and_then (tested (erase w) site epoch is_free) o)) (sym (slice_get-map erase_vnode w.vnodes index))

  by_route : (o : Option ℕ) → slice_get w.routes index ≡ o
      → Erases (option_and_then (λ site. option_and_then (λ epoch. option_and_then (tested w site epoch is_free) (slice_get w.vnodes index)) (slice_get w.epochs index)) o)
      (option_and_then (λ site. option_and_then (λ epoch. option_and_then (tested (erase w) site epoch is_free) (slice_get (map erase_vnode w.vnodes) index)) (slice_get w.epochs index)) o)
  by_route None h = refl
  by_route (Some site) h = by_epoch site h (slice_get w.epochs index)

  diverted_erased : Erases (diverted w index) (diverted (erase w) index)
  diverted_erased =
      by_route (slice_get w.routes index) refl
      ∙ ap (λ b. option_map erase (option_and_then (λ site. option_and_then (λ epoch. option_and_then (tested (erase w) site epoch b) (slice_get (map erase_vnode w.vnodes) index)) (slice_get w.epochs index)) (slice_get w.routes index)))
      (sym (alone_erased w.vnodes index w.workers))

with_happened : (o : Option World) → option_map erase_result (option_map (λ (next : World). (next, Happened)) o) ≡ option_map (λ (next : World). (next, Happened)) (option_map erase o)
with_happened None = refl
with_happened (Some next) = refl

happens_erased : (w : World) → IsOrderly w → (step : Step) → option_map erase_result (happens w step) ≡ option_map erase_result (happens (erase w) step)
happens_erased w orderly (By number action) = acts_erased w orderly number (routed (route w) action)
happens_erased w orderly (Diverts index) =
    with_happened (diverted w index) ∙ ap (λ o. option_map (λ (next : World). (next, Happened)) o) (diverted_erased w orderly index)
    ∙ sym (with_happened (diverted (erase w) index))

module _ (w : World) (orderly : IsOrderly w) (step : Step) where
  -- the same comes of a step in the erased world, and it leaves the same
  pub outcome_erased : outcome w step ≡ outcome (erase w) step
  outcome_erased =
      same_outcome (happens w step) ∙ ap (λ o. option_map_or (λ (r : Result). r.1) o NotPossible) (happens_erased w orderly step) ∙ sym (same_outcome (happens (erase w) step))
    where
      same_outcome : (o : Option Result) → option_map_or (λ (r : Result). r.1) o NotPossible ≡ option_map_or (λ (r : Result). r.1) (option_map erase_result o) NotPossible
      same_outcome None = refl
      same_outcome (Some r) = refl

  pub after_erased : erase (after w step) ≡ erase (after (erase w) step)
  after_erased =
      left_by w (happens w step) ∙ ap (λ o. option_map_or (λ (r : Result). r.0) o (erase w)) (happens_erased w orderly step)
      ∙ ap (λ world. option_map_or (λ (r : Result). r.0) (option_map erase_result (happens (erase w) step)) world) (sym (world_twice w)) ∙ sym (left_by (erase w) (happens (erase w) step))
    where
      left_by : (world : World) (o : Option Result) → erase (option_map_or (λ (r : Result). r.0) o world) ≡ option_map_or (λ (r : Result). r.0) (option_map erase_result o) (erase world)
      left_by world None = refl
      left_by world (Some r) = refl
