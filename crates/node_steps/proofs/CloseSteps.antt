-- A closer's look and its publish, the two steps that are about two sites; and that what is always true stays so at the look.
use Rattle.std.proofs.Common.{◌≡◌, ◌≢◌, ◌⊎◌, inl, inr, ℕ, ◌+◌, ◌≤◌, Bool, true, false, zero, suc, List, [], ◌∷◌, length, refl, sym, ◌∙◌, ap, arith, subst}
use Rattle.std.specs.Prelude.{pred, Option, Some, None, is_some, slice_get, slice_set}
use Rattle.std.specs.Option.{option_map_or}
use Rattle.riak_msgs.specs.Contents.{Content}
use Rattle.vnode_machine.specs.Machine.{State}
use Rattle.vnode_machine.proofs.Tests.{none-from, unmapped}
use Rattle.copy_laws.specs.Joining.{Log}
use Rattle.node_steps.specs.World.{CloseInside, CloseLooked, CloseDone, Phase, Closing, SiteVnode, Worker, World, worker_at, seen_at}
use Rattle.node_steps.specs.Steps.{Action, Looks, Publishes, Outcome, Happened, left_in, judged, judged_by, closed_by, closes, seeing, is_about, does, acts}
use Rattle.node_steps.specs.Schedules.{Begins}
use Rattle.node_steps.proofs.Lists.{one, how_many, set-here, set-there, same_or_other, how_many-set, get-below}
use Rattle.node_steps.proofs.Beginnings.{begins-itself}
use Rattle.node_steps.proofs.Inside.{is_reader, is_holder, reads, holds, IsInHand, state_of, IsSound, IsAware}
use Rattle.node_steps.proofs.Coming.{between_in}
use Rattle.node_steps.proofs.Kept.{IsOrderly, and_then_some, at_place, seeing-here, seeing-there}
use Rattle.node_steps.proofs.Numbers.{not_past}
pub use Rattle.std.proofs.lemmas.Option.{same_Some as some_back}

-- a closer's look that is possible
pub record IsJudgement (w : World) (number : ℕ) (action : Action) (r : World × Outcome) : Type 0 where
  pub worker : Worker
  pub own : ℕ
  pub site : ℕ
  pub hand : State Content
  pub fallback : SiteVnode
  pub primary : SiteVnode
  pub action_is : action ≡ Looks
  pub worker_is : worker_at w number ≡ Some worker
  pub phase_is : worker.phase ≡ Closing own site (CloseInside hand)
  pub fallback_is : slice_get w.vnodes site ≡ Some fallback
  pub primary_is : slice_get w.vnodes own ≡ Some primary
  pub gives : let came = judged own site hand primary.place (is_some hand.closed) (left_in primary.place hand) in
      (judged_by w (pred number) own site worker primary fallback came.0, came.1) ≡ r

-- and its publish
pub record IsClose (w : World) (number : ℕ) (action : Action) (r : World × Outcome) : Type 0 where
  pub worker : Worker
  pub own : ℕ
  pub site : ℕ
  pub hand : State Content
  pub count : ℕ
  pub fallback : SiteVnode
  pub action_is : action ≡ Publishes
  pub worker_is : worker_at w number ≡ Some worker
  pub phase_is : worker.phase ≡ Closing own site (CloseLooked hand count)
  pub fallback_is : slice_get w.vnodes site ≡ Some fallback
  pub gives : (closed_by w (pred number) own site worker fallback hand count, Happened) ≡ r

-- what a worker does is a step at one site, or one of these
pub acts_cases : (w : World) (number : ℕ) (action : Action) (r : World × Outcome) → acts w number action ≡ Some r
    → (does w number action ≡ Some r) ⊎ (IsJudgement w number action r ⊎ IsClose w number action r)
acts_cases w number action r h =
    let a = and_then_some _ (worker_at w number) r h in
    by a.0 a.1 action refl a.0.phase refl a.2
  where
    chosen : (o d : Option (World × Outcome)) → option_map_or (λ (came : World × Outcome). Some came) o d ≡ Some r → (o ≡ Some r) ⊎ (d ≡ Some r)
    chosen None d h = inr h
    chosen (Some came) d h = inl h

    by : (worker : Worker) → worker_at w number ≡ Some worker → (act : Action) → action ≡ act → (phase : Phase) → worker.phase ≡ phase
        → option_map_or (λ (came : World × Outcome). Some came) (closes w number worker act phase) (does w number action) ≡ Some r
        → (does w number action ≡ Some r) ⊎ (IsJudgement w number action r ⊎ IsClose w number action r)
    by worker is Looks e (Closing own site (CloseInside hand)) f h = elim (chosen (closes w number worker Looks (Closing own site (CloseInside hand))) (does w number action) h) [
      | inl k ↦
          let a = and_then_some _ (slice_get w.vnodes site) r k in
          let b = unmapped _ (slice_get w.vnodes own) r a.2 in
          inr (inl (record {
            worker = worker;
            own = own;
            site = site;
            hand = hand;
            fallback = a.0;
            primary = b.0;
            action_is = e;
            worker_is = is;
            phase_is = f;
            fallback_is = a.1;
            primary_is = b.1;
            gives = b.2;
          }))
      | inr k ↦ inl k
    ]
    by worker is Publishes e (Closing own site (CloseLooked hand count)) f h = elim (chosen (closes w number worker Publishes (Closing own site (CloseLooked hand count))) (does w number action) h) [
      | inl k ↦
          let a = unmapped _ (slice_get w.vnodes site) r k in
          inr (inr (record {
            worker = worker;
            own = own;
            site = site;
            hand = hand;
            count = count;
            fallback = a.0;
            action_is = e;
            worker_is = is;
            phase_is = f;
            fallback_is = a.1;
            gives = a.2;
          }))
      | inr k ↦ inl k
    ]
    by worker is act e phase f h = inl h

-- as many are counted where one is set that passes as the other did
pub count_same : (p : Worker → Bool) (w : World) (place : ℕ) (worker next : Worker) → slice_get w.workers place ≡ Some worker → p worker ≡ p next
    → how_many p (slice_set w.workers place next) ≡ how_many p w.workers
count_same p w place worker next here e =
    same (how_many p (slice_set w.workers place next)) (one (p worker)) (how_many p w.workers) (one (p next)) (how_many-set p w.workers place worker next here) (ap one e)
  where
    same : (a b c d : ℕ) → a + b ≡ c + d → b ≡ d → a ≡ c
    same a b c d h k = omega (arith, h, k)

-- what stands where it was set
pub set_is : {X : Type 0} (xs : List X) (i j : ℕ) (x y : X) → i ≡ j → slice_get (slice_set xs i x) j ≡ Some y → x ≡ y
set_is [] i j x y e h = cc
set_is (z ∷ xs) zero zero x y e h = cc
set_is (z ∷ xs) zero (suc j) x y e h = absurd (omega (arith, e))
set_is (z ∷ xs) (suc i) zero x y e h = absurd (omega (arith, e))
set_is (z ∷ xs) (suc i) (suc j) x y e h = set_is xs i j x y (omega (arith, e)) h

-- the worker at a place, where one was set
pub set_cases : (w : World) (place : ℕ) (worker next : Worker) → slice_get w.workers place ≡ Some worker → (at : ℕ) (x : Worker) → slice_get (slice_set w.workers place next) at ≡ Some x
    → ((place ≡ at) × (next ≡ x)) ⊎ ((place ≢ at) × (slice_get w.workers at ≡ Some x))
set_cases w place worker next here at x h = elim (same_or_other place at) [
  | inl e ↦ inl (e, some_back next x (sym (set-here w.workers place worker next here) ∙ ap (λ k. slice_get (slice_set w.workers place next) k) e ∙ h))
  | inr n ↦ inr (n, sym (set-there w.workers place at next n) ∙ h)
]

-- a closer that goes over, with the same sites and the same hands
module _ (w : World) (orderly : IsOrderly w) (place : ℕ) (worker next : Worker) (here : slice_get w.workers place ≡ Some worker) (own site : ℕ)
    (reads_same : (index : ℕ) → is_reader index worker.phase ≡ is_reader index next.phase) (holds_same : (index : ℕ) → is_holder index worker.phase ≡ is_holder index next.phase)
    (between_same : between_in next.phase ≡ between_in worker.phase) (about_same : (index : ℕ) → is_about index next.phase ≡ is_about index worker.phase)
    (aware : (index : ℕ) (vnode : SiteVnode) → slice_get w.vnodes index ≡ Some vnode → IsAware vnode.id vnode.last_epoch index vnode.log next)
    (unseen : (site : ℕ) → length w.vnodes ≤ site → seen_at next.seen site ≡ []) where
  abbrev went_over : World
  went_over = record w { workers = slice_set w.workers place next }

  pub orderly-over : IsOrderly went_over
  orderly-over = record {
    vnodes = λ index v h.
        subst (λ n. IsSound n (how_many (holds index) went_over.workers) v) (sym (count_same (reads index) w place worker next here (reads_same index)))
        (subst (λ n. IsSound (how_many (reads index) w.workers) n v) (sym (count_same (holds index) w place worker next here (holds_same index))) (orderly.vnodes index v h));
    workers = λ at x k index v h. elim (set_cases w place worker next here at x k) [
      | inl d ↦ subst (λ y. IsAware v.id v.last_epoch index v.log y) d.1 (aware index v h)
      | inr d ↦ orderly.workers at x d.1 index v h
    ];
    plain = orderly.plain;
    sound = orderly.sound;
    between = λ at x k o s h. elim (set_cases w place worker next here at x k) [
      | inl d ↦
          let f = orderly.between place worker here o s (sym between_same ∙ ap (λ (y : Worker). between_in y.phase) d.1 ∙ h) in
          record { apart = f.apart; vnode = f.vnode; there = f.there; own_is = f.own_is }
      | inr d ↦ let f = orderly.between at x d.1 o s h in record { apart = f.apart; vnode = f.vnode; there = f.there; own_is = f.own_is }
    ];
    owned = orderly.owned;
    homes = orderly.homes;
    routed_to = λ o s h. elim (orderly.routed_to o s h) [
      | inl e ↦ inl e
      | inr f ↦ inr (record { apart = f.apart; vnode = f.vnode; there = f.there; own_is = f.own_is })
    ];
    opens = orderly.opens;
    limited = orderly.limited;
    bounds = orderly.bounds;
    sites = orderly.sites;
    about = λ at x k s h. elim (set_cases w place worker next here at x k) [
      | inl d ↦ orderly.about place worker here s (sym (about_same s) ∙ ap (λ (y : Worker). is_about s y.phase) d.1 ∙ h)
      | inr d ↦ orderly.about at x d.1 s h
    ];
    unseen = λ at x k s past. elim (set_cases w place worker next here at x k) [
      | inl d ↦ ap (λ (y : Worker). seen_at y.seen s) (sym d.1) ∙ unseen s past
      | inr d ↦ orderly.unseen at x d.1 s past
    ];
  }

module _ (w : World) (orderly : IsOrderly w) (number : ℕ) (action : Action) (r : World × Outcome) (j : IsJudgement w number action r) where
  abbrev place : ℕ
  place = pred number

  here : slice_get w.workers place ≡ Some j.worker
  here = at_place w number j.worker j.worker_is

  -- what it has seen at a site: all there, or what it had
  abbrev seen : List Log
  seen = seeing (seeing j.worker.seen j.site j.fallback.log) j.own j.primary.log

  seen_begins : (index : ℕ) (vnode : SiteVnode) → slice_get w.vnodes index ≡ Some vnode → Begins (seen_at seen index) vnode.log
  seen_begins index vnode there = elim (same_or_other j.own index) [
    | inl e ↦ subst (λ (v : SiteVnode). Begins (seen_at seen index) v.log) (some_back j.primary vnode (sym j.primary_is ∙ ap (λ k. slice_get w.vnodes k) e ∙ there))
        (subst (λ front. Begins front j.primary.log)
        (sym (ap (λ k. seen_at seen k) (sym e) ∙ seeing-here (seeing j.worker.seen j.site j.fallback.log) j.own j.primary.log)) (begins-itself j.primary.log))
    | inr n ↦ subst (λ front. Begins front vnode.log) (sym (seeing-there (seeing j.worker.seen j.site j.fallback.log) j.own index j.primary.log n))
        (elim (same_or_other j.site index) [
          | inl e ↦ subst (λ (v : SiteVnode). Begins (seen_at (seeing j.worker.seen j.site j.fallback.log) index) v.log)
              (some_back j.fallback vnode (sym j.fallback_is ∙ ap (λ k. slice_get w.vnodes k) e ∙ there))
              (subst (λ front. Begins front j.fallback.log)
              (sym (ap (λ k. seen_at (seeing j.worker.seen j.site j.fallback.log) k) (sym e) ∙ seeing-here j.worker.seen j.site j.fallback.log)) (begins-itself j.fallback.log))
          | inr m ↦ subst (λ front. Begins front vnode.log) (sym (seeing-there j.worker.seen j.site index j.fallback.log m))
              (orderly.workers place j.worker here index vnode there).seen
        ])
  ]

  unseen : (site : ℕ) → length w.vnodes ≤ site → seen_at seen site ≡ []
  unseen site past =
      seeing-there (seeing j.worker.seen j.site j.fallback.log) j.own site j.primary.log (not_past j.own (length w.vnodes) site (get-below w.vnodes j.own j.primary j.primary_is) past)
      ∙ seeing-there j.worker.seen j.site site j.fallback.log (not_past j.site (length w.vnodes) site (get-below w.vnodes j.site j.fallback j.fallback_is) past)
      ∙ orderly.unseen place j.worker here site past

  abbrev over : Phase → World
  over phase = judged_by w place j.own j.site j.worker j.primary j.fallback phase

  hand_there : (index : ℕ) (vnode : SiteVnode) → slice_get w.vnodes index ≡ Some vnode → j.site ≡ index → j.hand ≡ state_of vnode.id vnode.last_epoch vnode.log
  hand_there index vnode there e =
      subst (λ phase. IsInHand vnode.id vnode.last_epoch index vnode.log phase) j.phase_is (orderly.workers place j.worker here index vnode there).hand e

  judged-done : IsOrderly (over (Closing j.own j.site (CloseDone j.hand true)))
  judged-done =
      orderly-over w orderly place j.worker (record { phase = Closing j.own j.site (CloseDone j.hand true); seen = seen }) here j.own j.site
      (λ index. ap (is_reader index) j.phase_is) (λ index. ap (is_holder index) j.phase_is) (sym (ap between_in j.phase_is)) (λ index. sym (ap (is_about index) j.phase_is))
      (λ index vnode there. record { hand = hand_there index vnode there; seen = seen_begins index vnode there; whole = tt }) unseen

  judged-looked : (count : ℕ) → j.hand.closed ≡ None → IsOrderly (over (Closing j.own j.site (CloseLooked j.hand count)))
  judged-looked count clear =
      orderly-over w orderly place j.worker (record { phase = Closing j.own j.site (CloseLooked j.hand count); seen = seen }) here j.own j.site
      (λ index. ap (is_reader index) j.phase_is) (λ index. ap (is_holder index) j.phase_is) (sym (ap between_in j.phase_is)) (λ index. sym (ap (is_about index) j.phase_is))
      (λ index vnode there. record { hand = λ e. (hand_there index vnode there e, clear); seen = seen_begins index vnode there; whole = tt }) unseen

  pub orderly-judged : IsOrderly r.0
  orderly-judged = subst (λ (q : World × Outcome). IsOrderly q.0) j.gives (by (is_some j.hand.closed) refl (left_in j.primary.place j.hand))
    where
      by : (closed : Bool) → is_some j.hand.closed ≡ closed → (left : ℕ) → IsOrderly (over (judged j.own j.site j.hand j.primary.place closed left).0)
      by true e left = judged-done
      by false e zero = judged-looked _ (none-from j.hand.closed e)
      by false e (suc left) = judged-done
