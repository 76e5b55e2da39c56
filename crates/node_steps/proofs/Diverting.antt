-- A partition that is diverted: what is always true stays so, with a site more.
use Rattle.std.proofs.Common.{◌≡◌, inl, inr, ℕ, zero, suc, List, ◌+◌, ◌^◌, ◌<◌, ◌≤◌, Bool, true, false, cond, not, ◌&&◌, [], ◌∷◌, ◌++◌, length, refl, sym, ◌∙◌, ap, arith, subst}
use Rattle.std.specs.Prelude.{◌==◌, Some, None, slice_get}
use Rattle.std.specs.List.{list_all}
use Rattle.riak_msgs.specs.Contents.{Content}
use Rattle.vnode_machine.specs.Machine.{State}
use Rattle.vnode_machine.specs.Sound.{IsSound as IsSoundState}
use Rattle.vnode_machine.proofs.Formed.{sound-opening}
use Rattle.copy_laws.specs.Joining.{Log}
use Rattle.node_steps.specs.World.{Word, Open, Taken, CopyStage, CopyAsked, CopyInside, CopyLooked, CopyTaken, CopyDone, CloseStage, CloseAsked, CloseTaken, CloseInside, CloseLooked, CloseDone, Phase, Idle, Asked, Reading, Holding, Done, Turned, Copying, Closing, SiteVnode, Worker, World, CommandsAlone, fresh_vnode, seen_at}
use Rattle.node_steps.specs.Steps.{is_about, is_for, fallback_ids, diverted_by, diverted}
use Rattle.node_steps.specs.Erased.{erase_place}
use Rattle.node_steps.proofs.Lists.{set-here, set-there, same_or_other, how_many, get-below, get-before, get-last, get-more, length-set, length-more, none_counted, each_passes}
use Rattle.node_steps.proofs.Beginnings.{begins-itself}
use Rattle.node_steps.specs.Schedules.{Begins}
use Rattle.node_steps.proofs.Inside.{is_reader, is_holder, reads, holds, FitsWord, state_of, state-vnode, IsInPlace, no_hand, no_whole, IsSound, sound-fresh, IsPlain, plain-fresh, IsAware, same_test}
use Rattle.node_steps.proofs.Kept.{IsFallback, IsOrderly, and_then_some}
use Rattle.node_steps.proofs.Numbers.{below_past, not_past}
pub use Rattle.std.proofs.lemmas.Bool.{eqb-true as same_number}
use Rattle.std.proofs.lemmas.Bool.{not-true as not_true}
use Rattle.std.proofs.lemmas.Option.{same_Some as some_same}
use Rattle.std.proofs.Math.Nat.{zero-add, add-zero, add-suc, suc-add}
use Rattle.std.proofs.lemmas.Bool.{or_parts}

-- no worker has to do with the partition
abbrev pub is_alone : World → (index : ℕ) → Bool
is_alone w index = list_all (λ worker. not (is_for w.vnodes index 0 worker.phase)) w.workers

-- a partition that is diverted, by its primary
pub record IsDiversion (w : World) (index : ℕ) (next : World) : Type 0 where
  pub primary : SiteVnode
  pub vnode_is : slice_get w.vnodes index ≡ Some primary
  pub own : slice_get w.routes index ≡ Some index
  pub epoch : ℕ
  pub epoch_is : slice_get w.epochs index ≡ Some epoch
  pub alone : is_alone w index ≡ true
  pub gives : diverted_by w index epoch primary ≡ next

both_hold : (a b : Bool) (x y : World) → cond (a && b) (Some x) None ≡ Some y → (a ≡ true) × (b ≡ true) × (x ≡ y)
both_hold true true x y h = (refl, refl, cc)
both_hold true false x y h = cc
both_hold false b x y h = cc

pub diversion : (w : World) (index : ℕ) (next : World) → diverted w index ≡ Some next → IsDiversion w index next
diversion w index next h =
    let a = and_then_some _ (slice_get w.routes index) next h in
    let e = and_then_some _ (slice_get w.epochs index) next a.2 in
    let b = and_then_some _ (slice_get w.vnodes index) next e.2 in
    let c = both_hold (a.0 == index) (is_alone w index) (diverted_by w index e.0 b.0) next b.2 in
    record {
      primary = b.0;
      vnode_is = b.1;
      own = a.1 ∙ ap (λ s. Some s) (same_number a.0 index c.0);
      epoch = e.0;
      epoch_is = e.1;
      alone = c.1;
      gives = c.2;
    }

-- who has nothing to do with a partition is about no site of it
for_about : (vnodes : List SiteVnode) (index from : ℕ) (phase : Phase) → is_for vnodes index from phase ≡ false → (site : ℕ) (v : SiteVnode) → slice_get vnodes site ≡ Some v → v.own ≡ index
    → is_about (from + site) phase ≡ false
for_about [] index from phase h site v there own = cc
for_about (vnode ∷ vnodes) index from phase h zero v there own =
    let same : vnode ≡ v = cc in
    let both = or_parts ((vnode.own == index) && is_about from phase) (is_for vnodes index (suc from) phase) h in
    ap (λ n. is_about n phase) (add-zero from) ∙ second (vnode.own == index) (is_about from phase) (same_test vnode.own index (ap (λ (u : SiteVnode). u.own) same ∙ own)) both.0
  where
    second : (a b : Bool) → a ≡ true → (a && b) ≡ false → b ≡ false
    second true b e h = h
    second false b e h = cc
for_about (vnode ∷ vnodes) index from phase h (suc site) v there own =
    ap (λ n. is_about n phase) (add-suc from site ∙ sym (suc-add from site))
    ∙ for_about vnodes index (suc from) phase (or_parts ((vnode.own == index) && is_about from phase) (is_for vnodes index (suc from) phase) h).1 site v there own

pub alone_about : (w : World) (index : ℕ) → is_alone w index ≡ true → (place : ℕ) (worker : Worker) → slice_get w.workers place ≡ Some worker
    → (site : ℕ) (v : SiteVnode) → slice_get w.vnodes site ≡ Some v → v.own ≡ index → is_about site worker.phase ≡ false
alone_about w index alone place worker h site v there own =
    ap (λ n. is_about n worker.phase) (sym (zero-add site))
    ∙ for_about w.vnodes index 0 worker.phase
    (not_true (is_for w.vnodes index 0 worker.phase) (each_passes (λ (x : Worker). not (is_for w.vnodes index 0 x.phase)) w.workers alone place worker h)) site v there own

-- who has no call at a site, and copies or closes nothing there, isn't inside
not_inside : (index : ℕ) (phase : Phase) → is_about index phase ≡ false → (is_reader index phase ≡ false) × (is_holder index phase ≡ false)
not_inside index Idle h = (refl, refl)
not_inside index (Asked other ask) h = (refl, refl)
not_inside index (Reading other get) h = (h, refl)
not_inside index (Holding other ask hand plan) h = (refl, h)
not_inside index (Done other None) h = (h, refl)
not_inside index (Done other (Some hand)) h = (refl, h)
not_inside index (Turned own other ask None) h = ((or_parts (own == index) (other == index) h).1, refl)
not_inside index (Turned own other ask (Some hand)) h = (refl, (or_parts (own == index) (other == index) h).1)
not_inside index (Closing own other stage) h = by stage (or_parts (own == index) (other == index) h).0 (or_parts (own == index) (other == index) h).1
  where
    by : (s : CloseStage) → (own == index) ≡ false → (other == index) ≡ false
        → (is_reader index (Closing own other s) ≡ false) × (is_holder index (Closing own other s) ≡ false)
    by CloseAsked a b = (refl, refl)
    by (CloseTaken hand) a b = (refl, b)
    by (CloseInside hand) a b = (a, b)
    by (CloseLooked hand number) a b = (a, b)
    by (CloseDone hand true) a b = (a, b)
    by (CloseDone hand false) a b = (refl, b)
not_inside index (Copying own other key stage) h = by stage (or_parts (own == index) (other == index) h).0 (or_parts (own == index) (other == index) h).1
  where
    by : (s : CopyStage) → (own == index) ≡ false → (other == index) ≡ false
        → (is_reader index (Copying own other key s) ≡ false) × (is_holder index (Copying own other key s) ≡ false)
    by CopyAsked a b = (refl, refl)
    by CopyInside a b = (b, refl)
    by (CopyLooked clock) a b = (b, refl)
    by (CopyTaken clock hand plan) a b = (b, a)
    by (CopyDone None) a b = (b, refl)
    by (CopyDone (Some hand)) a b = (b, a)

-- where nobody holds the state it is in place
in_place : (word : Word) (readers holders : ℕ) → FitsWord word readers holders → holders ≡ 0 → (id epoch : ℕ) (log : Log) (place : State Content)
    → IsInPlace id epoch word log place → place ≡ state_of id epoch log
in_place (Open n mark) readers holders f h id epoch log place p = p
in_place Taken readers holders f h id epoch log place p = absurd (omega (arith, f.1, h))

erased_there : (word : Word) (readers holders : ℕ) → FitsWord word readers holders → holders ≡ 0 → (place : State Content) → erase_place word place ≡ place
erased_there (Open n mark) readers holders f h place = refl
erased_there Taken readers holders f h place = absurd (omega (arith, f.1, h))

pub bound : (a b : ℕ) → a ≡ b → b + fallback_ids < 2 ^ 64 → a + fallback_ids < 2 ^ 64
bound a b e h = subst (λ n. n + fallback_ids < 2 ^ 64) (sym e) h

step_up : (n m : ℕ) → n ≤ m → n ≤ suc m
step_up n m h = omega (arith, h)

further : (site n : ℕ) → site < n → site < suc n
further site n h = omega (arith, h)

closer : (site n : ℕ) → suc n ≤ site → n ≤ site
closer site n h = omega (arith, h)

module _ (w : World) (orderly : IsOrderly w) (index epoch : ℕ) (primary : SiteVnode) (there : slice_get w.vnodes index ≡ Some primary) (own : slice_get w.routes index ≡ Some index) (alone : is_alone w index ≡ true) where
  abbrev new_site : ℕ
  new_site = length w.vnodes

  abbrev fallback : SiteVnode
  fallback = fresh_vnode (primary.place.vnode + fallback_ids) index epoch

  abbrev next : World
  next = diverted_by w index epoch primary

  -- nobody is inside the primary
  pub holders_none : how_many (holds index) w.workers ≡ 0
  holders_none = none_counted (holds index) w.workers (λ place worker h.
      (not_inside index worker.phase (alone_about w index alone place worker h index primary there (orderly.homes index primary (get-below w.routes index index own) there).0)).1)

  pub in_place_still : erase_place primary.word primary.place ≡ primary.place
  in_place_still =
      erased_there primary.word (how_many (reads index) w.workers) (how_many (holds index) w.workers) (orderly.vnodes index primary there).word holders_none primary.place

  pub id_is : primary.place.vnode ≡ primary.id
  id_is =
      let sound = orderly.vnodes index primary there in
      let place = in_place primary.word (how_many (reads index) w.workers) (how_many (holds index) w.workers) sound.word holders_none
      primary.id primary.last_epoch primary.log primary.place sound.place in
      ap (λ (s : State Content). s.vnode) place ∙ state-vnode primary.id primary.last_epoch primary.log

  -- nobody has a call at the new site
  nobody_new : (place : ℕ) (worker : Worker) → slice_get w.workers place ≡ Some worker → is_about new_site worker.phase ≡ false
  nobody_new place worker h = by (is_about new_site worker.phase) refl
    where
      by : (b : Bool) → is_about new_site worker.phase ≡ b → is_about new_site worker.phase ≡ false
      by true e = absurd (below_past new_site new_site (orderly.about place worker h new_site e) (omega arith))
      by false e = e

  sound_new : slice_get w.epochs index ≡ Some epoch → IsSound (how_many (reads new_site) w.workers) (how_many (holds new_site) w.workers) fallback
  sound_new known =
      sound-fresh (primary.place.vnode + fallback_ids) index epoch (how_many (reads new_site) w.workers) (how_many (holds new_site) w.workers)
      (bound primary.place.vnode primary.id id_is (orderly.bounds index primary (get-below w.routes index index own) there), orderly.limited index epoch known)
      (none_counted (reads new_site) w.workers (λ place worker h. (not_inside new_site worker.phase (nobody_new place worker h)).0))
      (none_counted (holds new_site) w.workers (λ place worker h. (not_inside new_site worker.phase (nobody_new place worker h)).1))

  aware_new : (place : ℕ) (worker : Worker) → slice_get w.workers place ≡ Some worker → IsAware fallback.id epoch new_site [] worker
  aware_new place worker h = record {
    hand = no_hand fallback.id epoch new_site [] worker.phase (not_inside new_site worker.phase (nobody_new place worker h)).0 (not_inside new_site worker.phase (nobody_new place worker h)).1;
    whole = no_whole new_site worker.phase (seen_at worker.seen new_site) [] (not_inside new_site worker.phase (nobody_new place worker h)).0;
    seen = subst (λ front. Begins front []) (sym (orderly.unseen place worker h new_site (omega arith))) (begins-itself []);
  }

  -- a fallback stays one
  fallback-more : (o s : ℕ) → IsFallback w o s → IsFallback next o s
  fallback-more o s f = record { apart = f.apart; vnode = f.vnode; there = get-before w.vnodes (fallback ∷ []) s f.vnode f.there; own_is = f.own_is }

  new_fallback : IsFallback next index new_site
  new_fallback = record {
    apart = λ e. not_past index (length w.routes) new_site (get-below w.routes index index own) orderly.sites e;
    vnode = fallback;
    there = get-last w.vnodes fallback;
    own_is = refl;
  }

  pub orderly-diverted : slice_get w.epochs index ≡ Some epoch → IsOrderly next
  orderly-diverted known = record {
    vnodes = λ other v h. elim (get-more w.vnodes fallback other v h) [
      | inl e ↦ orderly.vnodes other v e
      | inr e ↦ subst (λ n. IsSound (how_many (reads n) w.workers) (how_many (holds n) w.workers) v) (sym e.0)
          (subst (λ u. IsSound (how_many (reads new_site) w.workers) (how_many (holds new_site) w.workers) u) e.1 (sound_new known))
    ];
    workers = λ place worker k other v h. elim (get-more w.vnodes fallback other v h) [
      | inl e ↦ orderly.workers place worker k other v e
      | inr e ↦ subst (λ n. IsAware v.id v.last_epoch n v.log worker) (sym e.0)
          (subst (λ (u : SiteVnode). IsAware u.id u.last_epoch new_site u.log worker) e.1 (aware_new place worker k))
    ];
    plain = λ other v h. elim (get-more w.vnodes fallback other v h) [
      | inl e ↦ orderly.plain other v e
      | inr e ↦ subst (λ (u : SiteVnode). CommandsAlone u.log → IsPlain u.id u.last_epoch u.log) e.1 (λ only. plain-fresh fallback.id epoch)
    ];
    sound = λ other v h. elim (get-more w.vnodes fallback other v h) [
      | inl e ↦ orderly.sound other v e
      | inr e ↦ subst (λ (u : SiteVnode). IsSoundState (state_of u.id u.last_epoch u.log)) e.1 (sound-opening fallback.id epoch (sound_new known).limits)
    ];
    between = λ place worker k o s h. fallback-more o s (orderly.between place worker k o s h);
    owned = λ other v h. subst (λ n. v.own < n) (sym (length-set w.routes index new_site)) (elim (get-more w.vnodes fallback other v h) [
      | inl e ↦ orderly.owned other v e
      | inr e ↦ subst (λ (u : SiteVnode). u.own < length w.routes) e.1 (get-below w.routes index index own)
    ]);
    homes = λ other v under h.
        let old_below : other < length w.routes = subst (λ n. other < n) (length-set w.routes index new_site) under in
        elim (get-more w.vnodes fallback other v h) [
          | inl e ↦ orderly.homes other v old_below e
          | inr e ↦ absurd (not_past other (length w.routes) new_site old_below orderly.sites e.0)
        ];
    routed_to = λ o s h. elim (same_or_other index o) [
      | inl e ↦
          let at : new_site ≡ s = some_same new_site s (sym (set-here w.routes index index new_site own) ∙ ap (λ k. slice_get next.routes k) e ∙ h) in
          inr (subst (λ k. IsFallback next o k) at (subst (λ k. IsFallback next k new_site) e new_fallback))
      | inr n ↦ elim (orderly.routed_to o s (sym (set-there w.routes index o new_site n) ∙ h)) [
        | inl same ↦ inl same
        | inr f ↦ inr (fallback-more o s f)
      ]
    ];
    opens = λ s v h n clear. elim (get-more w.vnodes fallback s v h) [
      | inl e ↦
          let route = orderly.opens s v e n clear in
          elim (same_or_other index v.own) [
            | inl same ↦ absurd (n (sym same ∙ some_same index s (sym own ∙ ap (λ k. slice_get w.routes k) same ∙ route)))
            | inr m ↦ set-there w.routes index v.own new_site m ∙ route
          ]
      | inr e ↦ ap (λ (u : SiteVnode). slice_get next.routes u.own) (sym e.1) ∙ set-here w.routes index index new_site own ∙ ap (λ k. Some k) (sym e.0)
    ];
    limited = orderly.limited;
    bounds = λ other v below h.
        let old_below : other < length w.routes = subst (λ n. other < n) (length-set w.routes index new_site) below in
        elim (get-more w.vnodes fallback other v h) [
          | inl e ↦ orderly.bounds other v old_below e
          | inr e ↦ absurd (not_past other (length w.routes) new_site old_below orderly.sites e.0)
        ];
    sites = subst (λ n. n ≤ length (w.vnodes ++ fallback ∷ [])) (sym (length-set w.routes index new_site))
        (subst (λ n. length w.routes ≤ n) (sym (length-more w.vnodes fallback)) (step_up (length w.routes) new_site orderly.sites));
    about = λ place worker k site h. subst (λ n. site < n) (sym (length-more w.vnodes fallback)) (further site new_site (orderly.about place worker k site h));
    unseen = λ place worker k site past. orderly.unseen place worker k site (closer site new_site (subst (λ n. n ≤ site) (length-more w.vnodes fallback) past));
  }
