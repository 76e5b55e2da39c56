-- Events of other keys, and reaps.
use Rattle.std.proofs.Common.{◌≡◌, ℕ, suc, ◌≤◌, true, false, not, cond, List, [], ◌∷◌, length, refl, sym, ◌∙◌, ap, arith, subst}
use Rattle.std.specs.Prelude.{nat_le, Option, Some, None, ◌==◌}
use Rattle.std.proofs.lemmas.Bool.Decides.{nat_tests}
use Rattle.riak_msgs.specs.declared.Key.{Key}
use Rattle.riak_msgs.specs.Contents.{Content}
use Rattle.riak_msgs.specs.KeyOrder.{key_eq}
use Rattle.sibling_register.specs.History.{Event, is_update, count_of, numbers_to}
use Rattle.sibling_register.specs.Siblings.{siblings, is_among}
use Rattle.sibling_register.proofs.Following.{left_by, siblings-own, siblings-other, count_of-other, is_among-numbers_to}
use Rattle.actor_epoch.specs.declared.Actor.{Actor}
use Rattle.actor_epoch.specs.declared.Dot.{Dot}
use Rattle.actor_epoch.specs.Dots.{counter_in}
use Rattle.actor_epoch.specs.Given.{Context}
use Rattle.vnode_machine.specs.Machine.{Stored}
use Rattle.vnode_machine.specs.Lives.{is_alive, latest_dot}
use Rattle.vnode_machine.proofs.Pairwise.{Pairwise, Pairwise-map}
use Rattle.vnode_machine.proofs.Numbers.{count_of-more}
use Rattle.vnode_machine.proofs.Invariants.{H, Entry, clock_in, IsLiveOf, AreLiveOf, live-more, IsKept, IsSplit, HasGrown, IsEarlier, actor_of}
use Rattle.vnode_machine.proofs.Counters.{are_low-more}

module _ (v l : ℕ) (last last' : ℕ) (le : last ≤ last') (event : Event Content Context) (history : H) (key : Key) where
  latest-other : key_eq event.key key ≡ false → latest_dot v l (event ∷ history) key ≡ latest_dot v l history key
  latest-other e = rw e refl

  alive-other : key_eq event.key key ≡ false → is_alive (event ∷ history) key ≡ is_alive history key
  alive-other e = rw e refl

  pub stored-other : key_eq event.key key ≡ false → (o : Option (Stored Content)) → IsKept v l last history key o → IsKept v l last' (event ∷ history) key o
  stored-other e None h = siblings-other event history key e ∙ h
  stored-other e (Some s) h =
      let epoch : (actor_of s).epoch ≤ last = h.epoch in
      let top : ℕ = counter_in s.clock.known (actor_of s) in
      record {
        owned = h.owned;
        vnode = h.vnode;
        epoch = omega (arith, epoch, le);
        low = are_low-more v last last' s.clock.known le h.low;
        latest = latest-other e ∙ h.latest;
        live = subst (λ ns. AreLiveOf v l (event ∷ history) key (actor_of s) top s.clock.live ns) (sym (siblings-other event history key e))
            (Pairwise-map (IsLiveOf v l history key (actor_of s) top) (IsLiveOf v l (event ∷ history) key (actor_of s) top)
            (live-more v l event history key (actor_of s) top top (omega arith)) s.clock.live (siblings history key) h.live);
        defined = ap (λ (ns : List ℕ). not (length ns == 0)) (siblings-other event history key e) ∙ h.defined;
        alive = alive-other e ∙ h.alive;
      }

  pub earlier-other : key_eq event.key key ≡ false → (o : Option (Stored Content)) (known : List Dot) (count : ℕ)
      → IsEarlier v l last history key o known count → IsEarlier v l last' (event ∷ history) key o known count
  earlier-other e o known count h =
      let counted : count ≤ count_of history key = h.counted in
      let more = count_of-more event history key in
      record {
        low = are_low-more v last last' known le h.low;
        counted = omega (arith, counted, more);
        split = subst (λ ns. Pairwise (IsSplit known count) (clock_in o).live ns) (sym (siblings-other event history key e)) h.split;
        grown = subst (λ n. HasGrown known count n o) (sym (count_of-other event history key e)) h.grown;
      }

module _ (v l : ℕ) where
  -- a reap sees all
  left_none : (history : H) (key : Key) (own : Actor) (top : ℕ) (live : List Entry) (numbers : List ℕ)
      → AreLiveOf v l history key own top live numbers → left_by (numbers_to (count_of history key)) numbers ≡ []
  left_none history key own top [] [] h = refl
  left_none history key own top [] (n ∷ numbers) h = absurd h
  left_none history key own top (entry ∷ live) [] h = absurd h
  left_none history key own top (entry ∷ live) (n ∷ numbers) h =
      let seen : is_among (numbers_to (count_of history key)) n ≡ true =
      is_among-numbers_to (count_of history key) n h.0.first ∙ within n (count_of history key) h.0.counted in
      ap (λ b. cond (not b) (n ∷ left_by (numbers_to (count_of history key)) numbers) (left_by (numbers_to (count_of history key)) numbers)) seen
      ∙ left_none history key own top live numbers h.1
    where
      within : (a b : ℕ) → a ≤ b → nat_le a b ≡ true
      within a b h = grind (arith, nat_tests)

  module _ (last : ℕ) (event : Event Content Context) (history : H) (key : Key) (itself : key_eq event.key key ≡ true) (reap : is_update event.operation ≡ false)
      (all : event.saw ≡ numbers_to (count_of history key)) where
    all_left : (o : Option (Stored Content)) → IsKept v l last history key o → left_by (numbers_to (count_of history key)) (siblings history key) ≡ []
    all_left None h = ap (left_by (numbers_to (count_of history key))) h
    all_left (Some s) h = left_none history key (actor_of s) (counter_in s.clock.known (actor_of s)) s.clock.live (siblings history key) h.live

    pub reaped-siblings : (o : Option (Stored Content)) → IsKept v l last history key o → siblings (event ∷ history) key ≡ []
    reaped-siblings o h =
        siblings-own event history key itself
        ∙ ap (λ b. cond b (suc (count_of history key) ∷ left_by event.saw (siblings history key)) (left_by event.saw (siblings history key))) reap
        ∙ ap (λ saw. left_by saw (siblings history key)) all
        ∙ all_left o h

    pub reaped-earlier : (o : Option (Stored Content)) (known : List Dot) (count : ℕ) → IsKept v l last history key o
        → IsEarlier v l last history key o known count → IsEarlier v l last (event ∷ history) key None known count
    reaped-earlier o known count kept h =
        let counted : count ≤ count_of history key = h.counted in
        let more = count_of-more event history key in
        record {
          low = h.low;
          counted = omega (arith, counted, more);
          split = subst (λ ns. Pairwise (IsSplit known count) [] ns) (sym (reaped-siblings o kept)) tt;
          grown = tt;
        }
