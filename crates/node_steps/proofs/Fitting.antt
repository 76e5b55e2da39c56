-- What is kept of a world is fit for every step: readers are counted, and a reader has a state to look at.
use Rattle.std.proofs.Common.{◌≡◌, ◌⊎◌, inl, inr, ℕ, suc, ◌+◌, ◌≤◌, ◌<◌, ◌^◌, Bool, true, false, not, List, [], ◌∷◌, map, length, refl, sym, ◌∙◌, ap, arith, subst}
use Rattle.std.specs.Prelude.{Option, Some, None, option_map, slice_get}
use Rattle.std.specs.Option.{option_map_or}
use Rattle.std.specs.List.{list_all}
use Rattle.std.proofs.lemmas.Option.{slice_get-map, same_Some as some_same}
use Rattle.riak_msgs.specs.Contents.{Content}
use Rattle.vnode_machine.specs.Machine.{State}
use Rattle.vnode_machine.proofs.Tests.{unmapped}
use Rattle.node_steps.specs.declared.parts.Parts.{Parts}
use Rattle.node_steps.specs.declared.phase.Phase.{Phase as RunPhase}
use Rattle.node_steps.specs.declared.site.Site.{Site}
use Rattle.node_steps.specs.World.{Word, Open, Taken, CopyTaken, Phase, Copying, SiteVnode, Worker, World, route}
use Rattle.node_steps.specs.Steps.{Step, By, Diverts, Enters, Outcome, Happened, routed, site_of, is_for, does, acts, diverted, after}
use Rattle.node_steps.specs.Schedules.{Start, world_after}
use Rattle.node_steps.specs.Erased.{IsShown, erase_vnode, erase_worker}
use Rattle.node_steps.specs.Running.{CanCountReader, phase_of, vnode_of, worker_of}
use Rattle.node_steps.specs.Parts.{AreFit, IsFit, IsLeft, IsOpen, IsOpenInHand, world_in}
use Rattle.node_steps.specs.Kept.{IsKept}
use Rattle.node_steps.proofs.Lists.{one, how_many, get-below, length-set}
use Rattle.node_steps.proofs.Mapped.{at_some}
use Rattle.node_steps.proofs.Inside.{reads, holds, FitsWord, IsInHand}
use Rattle.node_steps.proofs.Coming.{between_in}
use Rattle.node_steps.proofs.Kept.{IsOrderly, possible}
use Rattle.node_steps.proofs.CloseSteps.{IsJudgement, IsClose, acts_cases}
use Rattle.node_steps.proofs.Diverting.{diversion, holders_none, in_place_still, id_is, bound}
use Rattle.node_steps.proofs.Scheduled.{orderly}
use Rattle.node_steps.proofs.Erasing.{shown_at}
use Rattle.node_steps.proofs.ErasedSteps.{alone_erased}
use Rattle.std.proofs.lemmas.List.{length-replicate}

from_some : {A B : Type 0} (f : A → B) (xs : List A) (i : ℕ) (y : B) → slice_get (map f xs) i ≡ Some y → (x : A) × (slice_get xs i ≡ Some x) × (f x ≡ y)
from_some f xs i y h = unmapped f (slice_get xs i) y (sym (slice_get-map f xs i) ∙ h)

workers_stay : (w : World) (step : Step) → length (after w step).workers ≡ length w.workers
workers_stay w (By number action) = by (acts w number (routed (route w) action)) refl
  where
    of : (r : World × Outcome) → (does w number (routed (route w) action) ≡ Some r) ⊎ (IsJudgement w number (routed (route w) action) r ⊎ IsClose w number (routed (route w) action) r)
        → length r.0.workers ≡ length w.workers
    of r (inl h) =
        let p = possible w number (routed (route w) action) r h in
        ap (λ (q : World × Outcome). length q.0.workers) (sym p.gives) ∙ length-set w.workers _ _
    of r (inr (inl j)) = ap (λ (q : World × Outcome). length q.0.workers) (sym j.gives) ∙ length-set w.workers _ _
    of r (inr (inr c)) = ap (λ (q : World × Outcome). length q.0.workers) (sym c.gives) ∙ length-set w.workers _ _

    by : (o : Option (World × Outcome)) → acts w number (routed (route w) action) ≡ o → length (option_map_or (λ (r : World × Outcome). r.0) o w).workers ≡ length w.workers
    by None h = refl
    by (Some r) h = of r (acts_cases w number (routed (route w) action) r h)
workers_stay w (Diverts index) = by (diverted w index) refl
  where
    by : (o : Option World) → diverted w index ≡ o
        → length (option_map_or (λ (r : World × Outcome). r.0) (option_map (λ (next : World). (next, Happened)) o) w).workers ≡ length w.workers
    by None h = refl
    by (Some next) h = let d = diversion w index next h in ap (λ (x : World). length x.workers) (sym d.gives)

-- there are as many workers as at the start
workers_are : (start : Start) (schedule : List Step) → length (world_after start schedule).workers ≡ start.workers
workers_are start [] = length-replicate start.workers _
workers_are start (step ∷ earlier) = workers_stay (world_after start earlier) step ∙ workers_are start earlier

one_more : (b : Bool) (n m : ℕ) → n ≤ m → one b + n ≤ suc m
one_more true n m h = omega (arith, h)
one_more false n m h = omega (arith, h)

at_most_all : {X : Type 0} (p : X → Bool) (xs : List X) → how_many p xs ≤ length xs
at_most_all p [] = omega arith
at_most_all p (x ∷ xs) = one_more (p x) (how_many p xs) (length xs) (at_most_all p xs)

has_room : (word : Word) (readers holders : ℕ) → FitsWord word readers holders → readers < 2 ^ 16 → CanCountReader word
has_room (Open n mark) readers holders f h = omega (arith, f.0, h)
has_room Taken readers holders f h = tt

below : (a b c : ℕ) → a ≤ b → b ≡ c → c < 2 ^ 16 → a < 2 ^ 16
below a b c h e k = omega (arith, h, e, k)

-- a copier has a primary's state in its hand, which isn't closed
opened : (w : World) → IsOrderly w → (place index : ℕ) (worker : Worker) (vnode : SiteVnode) → slice_get w.workers place ≡ Some worker → slice_get w.vnodes index ≡ Some vnode
    → (phase : Phase) → worker.phase ≡ phase → site_of Enters phase ≡ Some index → IsOpenInHand phase
opened w orderly place index worker vnode here there (Copying own site key (CopyTaken clock hand None)) is about =
    let at : own ≡ index = some_same own index about in
    let f = orderly.between place worker here own site (ap between_in is) in
    let below : own < length w.routes = subst (λ n. n < length w.routes) f.own_is (orderly.owned site f.vnode f.there) in
    let own_there = ap (λ n. slice_get w.vnodes n) at ∙ there in
    let mine = subst (λ p. IsInHand vnode.id vnode.last_epoch own vnode.log p) is (orderly.workers place worker here own vnode own_there).hand in
    ap (λ (s : State Content). s.closed) (mine.1 refl).0 ∙ (orderly.homes own vnode below own_there).1
opened w orderly place index worker vnode here there phase is about = tt

turns_fit : (parts : Parts) → IsKept (world_in parts) → (place index : ℕ) (phase : RunPhase) (site : Site)
    → slice_get parts.workers.items place ≡ Some phase → site_of Enters (phase_of phase) ≡ Some index
    → slice_get parts.sites.items index ≡ Some site → IsFit (vnode_of site).word (phase_of phase)
turns_fit parts kept place index phase site here about there =
    let w = world_after kept.start kept.schedule in
    let sound = orderly kept.start kept.after.start_is kept.schedule in
    let same = sym kept.after.world_is in
    let a = from_some erase_worker w.workers place (worker_of phase) (ap (λ (x : World). slice_get x.workers place) same ∙ at_some worker_of parts.workers.items place phase here) in
    let b = from_some erase_vnode w.vnodes index (vnode_of site) (ap (λ (x : World). slice_get x.vnodes index) same ∙ at_some vnode_of parts.sites.items index site there) in
    let phases = ap (λ (x : Worker). x.phase) a.2 in
    let words = ap (λ (v : SiteVnode). v.word) b.2 in
    let shown = shown_at w sound Enters (suc place) index a.0 b.0 a.1 (ap (site_of Enters) phases ∙ about) b.1 in
    let few = below (how_many (reads index) w.workers) (length w.workers) kept.start.workers (at_most_all (reads index) w.workers)
    (workers_are kept.start kept.schedule) kept.after.workers in
    let room = has_room b.0.word (how_many (reads index) w.workers) (how_many (holds index) w.workers) (sound.vnodes index b.0 b.1).word few in
    record {
      room = subst CanCountReader words room;
      shown = subst (λ p. IsShown (vnode_of site).word p) phases (subst (λ x. IsShown x a.0.phase) words shown);
      opened = opened w sound place index a.0 b.0 a.1 b.1 (phase_of phase) phases about;
    }

is_open : (word : Word) (readers holders : ℕ) → FitsWord word readers holders → holders ≡ 0 → IsOpen word
is_open (Open n mark) readers holders f h = tt
is_open Taken readers holders f h = absurd (omega (arith, f.1, h))

left_fit : (parts : Parts) → IsKept (world_in parts) → (index : ℕ) (site : Site) → slice_get parts.routes.items index ≡ Some index → slice_get parts.sites.items index ≡ Some site
    → list_all (λ worker. not (is_for (world_in parts).vnodes index 0 worker.phase)) (world_in parts).workers ≡ true → IsLeft (vnode_of site)
left_fit parts kept index site route_is there free =
    let w = world_after kept.start kept.schedule in
    let sound = orderly kept.start kept.after.start_is kept.schedule in
    let same = sym kept.after.world_is in
    let b = from_some erase_vnode w.vnodes index (vnode_of site) (ap (λ (x : World). slice_get x.vnodes index) same ∙ at_some vnode_of parts.sites.items index site there) in
    let alone = sym (alone_erased w.vnodes index w.workers) ∙ ap (λ (x : World). list_all (λ worker. not (is_for x.vnodes index 0 worker.phase)) x.workers) same ∙ free in
    let own : slice_get w.routes index ≡ Some index = ap (λ (x : World). slice_get x.routes index) same ∙ route_is in
    let none = holders_none w sound index 0 b.0 b.1 own alone in
    let is = is_open b.0.word (how_many (reads index) w.workers) (how_many (holds index) w.workers) (sound.vnodes index b.0 b.1).word none in
    let place = ap (λ (v : SiteVnode). v.place.vnode) (sym b.2) ∙ ap (λ (s : State Content). s.vnode) (in_place_still w sound index 0 b.0 b.1 own alone) ∙ id_is w sound index 0 b.0 b.1 own alone in
    record {
      opened = subst IsOpen (ap (λ (v : SiteVnode). v.word) b.2) is;
      id_fits = bound (vnode_of site).place.vnode b.0.id place (sound.bounds index b.0 (get-below w.routes index index own) b.1);
    }

pub are_fit : (parts : Parts) → IsKept (world_in parts) → AreFit parts
are_fit parts kept = record { turns = turns_fit parts kept; left = left_fit parts kept }
