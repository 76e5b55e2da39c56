-- What is always true of a world is true of the first.
use Rattle.std.proofs.Common.{◌≡◌, inl, ℕ, zero, suc, ◌+◌, ◌^◌, ◌<◌, ◌≤◌, true, List, [], length, refl, sym, ◌∙◌, ap, arith, subst}
use Rattle.std.proofs.lemmas.Option.{same_Some}
use Rattle.std.proofs.Math.Nat.{zero-add, add-zero}
use Rattle.std.specs.Prelude.{Some, slice_get, replicate}
use Rattle.actor_epoch.specs.Limits.{max_epoch}
use Rattle.vnode_machine.specs.Sound.{IsSound as IsSoundState}
use Rattle.vnode_machine.proofs.Formed.{sound-opening}
use Rattle.vnode_machine.specs.Replay.{IsWithinLimits}
use Rattle.node_steps.specs.World.{Idle, SiteVnode, Worker, CommandsAlone, fresh_vnode, fresh_worker, id_of, opening_vnodes, own_sites, opening_world, seen_at}
use Rattle.node_steps.specs.Steps.{is_about, fallback_ids}
use Rattle.node_steps.specs.Schedules.{Start, IsStart}
use Rattle.node_steps.proofs.Lists.{how_many, counted_none, get-replicate}
use Rattle.node_steps.proofs.Own.{length-own, length-opening, own_is}
use Rattle.node_steps.proofs.Beginnings.{begins-itself}
use Rattle.node_steps.proofs.Inside.{is_reader, is_holder, reads, holds, IsSound, sound-fresh, IsPlain, plain-fresh, IsAware, state_of, IsOpenAt}
use Rattle.node_steps.proofs.Coming.{between_in}
use Rattle.node_steps.proofs.Kept.{IsOrderly}
use Rattle.node_steps.proofs.Numbers.{shift}

-- a vnode of the opening world is a fresh one
pub opened : (run from count index : ℕ) (vnode : SiteVnode) → slice_get (opening_vnodes run from count) index ≡ Some vnode
    → (index < count) × (vnode ≡ fresh_vnode (id_of run (from + index)) (from + index) 0)
opened run from zero index vnode h = cc
opened run from (suc count) zero vnode h = (omega arith, sym (same_Some _ vnode h) ∙ ap (λ n. fresh_vnode (id_of run n) n 0) (sym (add-zero from)))
opened run from (suc count) (suc index) vnode h =
    let rest = opened run (from + 1) count index vnode h in
    (omega (arith, rest.0), rest.1 ∙ ap (λ n. fresh_vnode (id_of run n) n 0) (shift from index))

within : (run index count : ℕ) → run < 2 ^ 32 → count < 2 ^ 16 → index < count → IsWithinLimits (id_of run (0 + index)) 0
within run index count r c h = (omega (arith, r, c, h), omega arith)

bounded : (run index count : ℕ) → run < 2 ^ 32 → count < 2 ^ 16 → index < count → id_of run (0 + index) + fallback_ids < 2 ^ 64
bounded run index count r c h = omega (arith, r, c, h)

same_length : (a b n : ℕ) → a ≡ n → b ≡ n → a ≤ b
same_length a b n h k = omega (arith, h, k)

idle_nowhere : (site : ℕ) → is_about site Idle ≡ true → ⊥
idle_nowhere site h = cc

not_between : (own site : ℕ) → between_in Idle ≡ Some (own, site) → ⊥
not_between own site h = cc

plainly : (index n : ℕ) → index < n → 0 + index < n
plainly index n h = omega (arith, h)

nobody : (index : ℕ) (count : ℕ) (worker : Worker) → worker.phase ≡ Idle → how_many (reads index) (replicate count worker) ≡ 0
nobody index count worker h = counted_none (reads index) count worker (ap (is_reader index) h)

nobody_holds : (index : ℕ) (count : ℕ) (worker : Worker) → worker.phase ≡ Idle → how_many (holds index) (replicate count worker) ≡ 0
nobody_holds index count worker h = counted_none (holds index) count worker (ap (is_holder index) h)

pub orderly-opening : (start : Start) → IsStart start → IsOrderly (opening_world start.run start.workers start.vnodes)
orderly-opening start is =
    let all : List Worker = replicate start.workers fresh_worker in
    record {
      vnodes = λ index vnode h.
          let o = opened start.run 0 start.vnodes index vnode h in
          subst (λ v. IsSound (how_many (reads index) all) (how_many (holds index) all) v) (sym o.1)
          (sound-fresh (id_of start.run (0 + index)) (0 + index) 0 (how_many (reads index) all) (how_many (holds index) all) (within start.run index start.vnodes is.run is.vnodes o.0)
          (nobody index start.workers fresh_worker refl) (nobody_holds index start.workers fresh_worker refl));
      workers = λ place worker k index vnode h.
          let o = opened start.run 0 start.vnodes index vnode h in
          let e = get-replicate start.workers place fresh_worker worker k in
          subst (λ v. IsAware v.id v.last_epoch index v.log worker) (sym o.1)
          (subst (λ x. IsAware (id_of start.run (0 + index)) 0 index [] x) (sym e) (record { hand = tt; seen = begins-itself []; whole = tt }));
      plain = λ index vnode h.
          subst (λ (v : SiteVnode). CommandsAlone v.log → IsPlain v.id v.last_epoch v.log) (sym (opened start.run 0 start.vnodes index vnode h).1)
          (λ only. plain-fresh (id_of start.run (0 + index)) 0);
      sound = λ index vnode h.
          let o = opened start.run 0 start.vnodes index vnode h in
          subst (λ (v : SiteVnode). IsSoundState (state_of v.id v.last_epoch v.log)) (sym o.1) (sound-opening (id_of start.run (0 + index)) 0 (within start.run index start.vnodes is.run is.vnodes o.0));
      between = λ place worker k own site h.
          absurd (not_between own site (ap (λ (x : Worker). between_in x.phase) (sym (get-replicate start.workers place fresh_worker worker k)) ∙ h));
      owned = λ index vnode h.
          let o = opened start.run 0 start.vnodes index vnode h in
          subst (λ n. vnode.own < n) (sym (length-own 0 start.vnodes)) (subst (λ (v : SiteVnode). v.own < start.vnodes) (sym o.1) (plainly index start.vnodes o.0));
      homes = λ index vnode below h.
          let o = opened start.run 0 start.vnodes index vnode h in
          subst (λ (v : SiteVnode). (v.own ≡ index) × IsOpenAt v.id v.last_epoch v.log) (sym o.1) (zero-add index, refl);
      routed_to = λ own site h. inl (own_is 0 start.vnodes own site h ∙ zero-add own);
      opens = λ site vnode h n clear.
          let o = opened start.run 0 start.vnodes site vnode h in absurd (n (ap (λ (v : SiteVnode). v.own) o.1 ∙ zero-add site));
      limited = λ index epoch h. subst (λ n. n ≤ max_epoch) (sym (get-replicate start.vnodes index 0 epoch h)) (omega arith);
      bounds = λ index vnode below h.
          let o = opened start.run 0 start.vnodes index vnode h in
          subst (λ (v : SiteVnode). v.id + fallback_ids < 2 ^ 64) (sym o.1) (bounded start.run index start.vnodes is.run is.vnodes o.0);
      sites = same_length (length (own_sites 0 start.vnodes)) (length (opening_vnodes start.run 0 start.vnodes)) start.vnodes
          (length-own 0 start.vnodes) (length-opening start.run 0 start.vnodes);
      about = λ place worker k site h.
          let e = get-replicate start.workers place fresh_worker worker k in
          absurd (idle_nowhere site (ap (λ (x : Worker). is_about site x.phase) (sym e) ∙ h));
      unseen = λ place worker k site past. ap (λ (x : Worker). seen_at x.seen site) (get-replicate start.workers place fresh_worker worker k);
    }
