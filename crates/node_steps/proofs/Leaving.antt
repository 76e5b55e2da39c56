-- How values leave, with contexts of any kind.
use Rattle.std.proofs.Common.{◌≡◌, inl, inr, ℕ, Bool, true, false, not, ◌||◌, List, [], ◌∷◌, ◌++◌, map, refl, sym, ◌∙◌, ap, subst}
use Rattle.std.specs.Prelude.{◌==◌, Option, Some, IsTrue}
use Rattle.riak_msgs.specs.declared.Key.{Key}
use Rattle.riak_msgs.specs.Contents.{Content}
use Rattle.sibling_register.specs.History.{content_of}
use Rattle.sibling_register.specs.Siblings.{siblings, is_among}
use Rattle.sibling_register.specs.Leaving.{is_seen_in}
use Rattle.sibling_register.proofs.LeavingLaw.{leaves_only_seen}
use Rattle.actor_epoch.specs.declared.Dot.{Dot}
use Rattle.vnode_machine.specs.Machine.{clock_of}
use Rattle.vnode_machine.specs.Lives.{dot_of}
use Rattle.vnode_machine.specs.Replay.{History, replay, naming, HasReplay}
use Rattle.vnode_machine.specs.Leaving.{is_taken_in}
use Rattle.vnode_machine.proofs.Names.{replay-earlier}
use Rattle.vnode_machine.proofs.Legals.{replay_is_legal}
use Rattle.vnode_machine.proofs.LiveDots.{live_are_siblings}
use Rattle.vnode_machine.proofs.LeavingLaw.{leaves_only_covered}
use Rattle.node_steps.specs.World.{World, id_at, last_epoch_at, history_at}
use Rattle.node_steps.specs.Claims.{IsSiblingNoMore, ValuesLeaveOnlyCovered}
use Rattle.node_steps.proofs.Lifting.{HaveReplays}
use Rattle.std.proofs.lemmas.Bool.{eqb-true as same_number, true≢false}

abbrev Shape : Type 0
Shape = Option Dot × Option Content

-- a number of a list whose images are those of entries with dots has a dot
has_dot : (entries : List (Dot × Option Content)) (numbers : List ℕ) (f : ℕ → Shape) (number : ℕ)
    → map {B = Shape} (λ entry. (Some entry.0, entry.1)) entries ≡ map f numbers → is_among numbers number ≡ true → (dot : Dot) × ((f number).0 ≡ Some dot)
has_dot entries [] f number e h = cc
has_dot [] (n ∷ numbers) f number e h = cc
has_dot (entry ∷ entries) (n ∷ numbers) f number e h =
    let first : f n ≡ (Some entry.0, entry.1) = cc in
    let rest : map {B = Shape} (λ x. (Some x.0, x.1)) entries ≡ map f numbers = cc in
    by (n == number) refl h first (λ g. has_dot entries numbers f number rest g)
  where
    by : (b : Bool) → (n == number) ≡ b → (b || is_among numbers number) ≡ true → f n ≡ (Some entry.0, entry.1)
        → (is_among numbers number ≡ true → (dot : Dot) × ((f number).0 ≡ Some dot)) → (dot : Dot) × ((f number).0 ≡ Some dot)
    by true s g first rest = (entry.0, ap (λ k. (f k).0) (sym (same_number n number s)) ∙ ap (λ (p : Shape). p.0) first)
    by false s g first rest = rest g

module _ (id epoch : ℕ) (history between position : History) (key : Key) (number : ℕ) (replays : HasReplay id epoch history) (leaves : IsSiblingNoMore history between position key number) where
  replays_there : HasReplay id epoch (between ++ position)
  replays_there = replay-earlier id epoch leaves.later.0 (between ++ position) (subst (λ h. HasReplay id epoch h) (sym leaves.later.1) replays)

  pub covered : (dot : Dot) × (dot_of id epoch position key number ≡ Some dot) × IsTrue (is_taken_in between key dot)
  covered =
      let here : HasReplay id epoch position = replay-earlier id epoch between position replays_there in
      let d = has_dot (clock_of (replay id epoch position) key).live (siblings position key) (λ n. (dot_of id epoch position key n, content_of position key n)) number
      (live_are_siblings id epoch position here key) leaves.sibling in (
        d.0,
        d.1,
        elim (leaves_only_covered id epoch position between replays_there key number d.0 leaves.sibling leaves.value d.1) [
          | inl stays ↦ absurd (true≢false (sym leaves.no_more ∙ ap not stays))
          | inr taken ↦ taken
        ],
      )

  pub seen : IsTrue (is_seen_in between key number)
  seen = elim (leaves_only_seen (naming id epoch) between position (replay_is_legal id epoch (between ++ position) replays_there).accepted key number leaves.sibling leaves.value) [
    | inl stays ↦ absurd (true≢false (sym leaves.no_more ∙ ap not stays))
    | inr saw ↦ saw
  ]

pub values_leave_only_covered : (w : World) → HaveReplays w → ValuesLeaveOnlyCovered w
values_leave_only_covered w replays = λ index between position key number first leaves.
    covered (id_at w index) (last_epoch_at w index) (history_at w index) between position key number (replays index first) leaves
