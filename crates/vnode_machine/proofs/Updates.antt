-- A write or tombstone keeps what is stored tied to the siblings.
use Rattle.std.proofs.Common.{◌≡◌, ℕ, suc, ◌+◌, ◌<◌, ◌≤◌, Bool, true, false, not, ◌&&◌, cond, List, [], ◌∷◌, length, refl, sym, ◌∙◌, ap, arith, subst}
use Rattle.std.specs.Prelude.{nat_eq, nat_le, nat_lt, max, filter, Option, Some, ◌==◌}
use Rattle.std.specs.declared.cmp.Ordering.TheVariants.{Less, Equal}
use Rattle.std.specs.Ordering.{nat_cmp}
use Rattle.std.specs.FinMap.Entries.{put}
use Rattle.std.proofs.lemmas.Bool.Decides.{nat_tests}
use Rattle.riak_msgs.specs.declared.Key.{Key}
use Rattle.riak_msgs.specs.Contents.{Content}
use Rattle.riak_msgs.specs.KeyOrder.{key_eq}
use Rattle.sibling_register.specs.History.{Operation, Write, Tombstone, Reap, Event, is_update, written, count_of}
use Rattle.sibling_register.specs.Siblings.{siblings, is_among}
use Rattle.sibling_register.proofs.Following.{left_by, siblings-own, count_of-own}
use Rattle.actor_epoch.specs.declared.Actor.{Actor}
use Rattle.actor_epoch.specs.declared.Dot.{Dot}
use Rattle.actor_epoch.specs.Dots.{actor_cmp, covers, counter_in, union, next_dot}
use Rattle.actor_epoch.proofs.Pairs.{counter_in-insert_max}
use Rattle.dvv_set.specs.Clocks.{show_cmp, discard, event}
use Rattle.actor_epoch.specs.Given.{Context}
use Rattle.vnode_machine.specs.Machine.{State, Stored, apply_operation}
use Rattle.vnode_machine.proofs.Pairwise.{Pairwise, Pairwise-map, Pairwise-filter}
use Rattle.vnode_machine.proofs.Numbers.{count_of-more, content_of-own, dot_of-own}
use Rattle.vnode_machine.proofs.Invariants.{H, Entry, clock_in, IsLiveOf, AreLiveOf, live-more, IsStored, IsSplit, IsEarlier}
use Rattle.vnode_machine.proofs.Bases.{IsBase}
use Rattle.vnode_machine.proofs.Counters.{is_low, are_low-more, all-insert_max, actor_eq-refl, actor_cmp-refl}

-- the siblings that an event saw are those whose dots its pairs cover
abbrev pub IsSeen : List Dot → List ℕ → Entry → ℕ → Type 0
IsSeen pairs saw entry number = covers pairs entry.0 ≡ is_among saw number

-- what is stored after a write or tombstone
abbrev pub next_in : Actor → List Dot → Option Content → Option (Stored Content) → Stored Content
next_in own pairs value o = record { own = Some own; clock = event own value (discard pairs (clock_in o)) }

pub nat_cmp-less : (a b : ℕ) → a < b → nat_cmp a b ≡ Less
nat_cmp-less a b h = let t : nat_lt a b ≡ true = grind (arith, nat_tests) in rw t refl

not_later : (n m t c : ℕ) → m ≤ n → c ≤ t → nat_le (suc n) m ≡ nat_le (t + 1) c
not_later n m t c h k = grind (arith, nat_tests)

one_more : (c t u : ℕ) (b : Bool) → c ≤ t → u ≡ t + 1 → c + cond b 0 1 ≤ u
one_more c t u true h e = omega (arith, h, e)
one_more c t u false h e = omega (arith, h, e)

module _ (v l : ℕ) where
  -- the next dot of the actor goes in front
  put-front : (history : H) (key : Key) (own : Actor) (top : ℕ) (value : Option Content) (live : List Entry) (numbers : List ℕ)
      → AreLiveOf v l history key own top live numbers
      → put show_cmp (record { actor = own; counter = top + 1 }) value live ≡ (record { actor = own; counter = top + 1 }, value) ∷ live
  put-front history key own top value [] numbers h = refl
  put-front history key own top value (entry ∷ live) [] h = absurd h
  put-front history key own top value (entry ∷ live) (number ∷ numbers) h =
      let within : entry.0.counter ≤ top = h.0.within in
      let same : actor_cmp own entry.0.actor ≡ Equal = ap (actor_cmp own) h.0.actor ∙ actor_cmp-refl own in
      rw (same, nat_cmp-less entry.0.counter (top + 1) (omega (arith, within))) refl

  module _ (last last' : ℕ) (event : Event Content Context) (history : H) (key : Key) (itself : key_eq event.key key ≡ true) (update : is_update event.operation ≡ true)
      (o : Option (Stored Content)) (own : Actor) (pairs : List Dot)
      (base : IsBase v l last last' event history key o own (union (clock_in o).known pairs))
      (seen : Pairwise (IsSeen pairs event.saw) (clock_in o).live (siblings history key)) where
    abbrev known : List Dot
    known = union (clock_in o).known pairs

    abbrev top : ℕ
    top = counter_in known own

    abbrev dot : Dot
    dot = next_dot own known

    abbrev left : List Entry
    left = filter (λ entry. not (covers pairs entry.0)) (clock_in o).live

    abbrev next : Stored Content
    next = next_in own pairs (written event.operation) o

    abbrev numbers : List ℕ
    numbers = suc (count_of history key) ∷ left_by event.saw (siblings history key)

    kept : Pairwise (λ entry number. not (covers pairs entry.0) ≡ not (is_among event.saw number)) (clock_in o).live (siblings history key)
    kept = Pairwise-map (IsSeen pairs event.saw) (λ entry number. not (covers pairs entry.0) ≡ not (is_among event.saw number))
        (λ entry number h. ap not h) (clock_in o).live (siblings history key) seen

    left_are : AreLiveOf v l history key own top left (left_by event.saw (siblings history key))
    left_are = Pairwise-filter (IsLiveOf v l history key own top) (λ entry. not (covers pairs entry.0)) (λ n. not (is_among event.saw n))
        (clock_in o).live (siblings history key) kept base.live

    live_is : next.clock.live ≡ (dot, written event.operation) ∷ left
    live_is = put-front history key own top (written event.operation) left (left_by event.saw (siblings history key)) left_are

    siblings_are : siblings (event ∷ history) key ≡ numbers
    siblings_are = siblings-own event history key itself ∙ ap (λ b. cond b numbers (left_by event.saw (siblings history key))) update

    counter_is : counter_in next.clock.known own ≡ top + 1
    counter_is =
        counter_in-insert_max dot known own
        ∙ ap (λ b. cond b (max (top + 1) top) top) (actor_eq-refl own)
        ∙ max_more top
      where
        max_more : (n : ℕ) → max (n + 1) n ≡ n + 1
        max_more n = omega arith

    newest : IsLiveOf v l (event ∷ history) key own (top + 1) (dot, written event.operation) (suc (count_of history key))
    newest =
        let count = count_of-own event history key itself in
        record {
          actor = refl;
          positive = omega arith;
          within = omega arith;
          first = omega arith;
          counted = omega (arith, count);
          dot = dot_of-own event history key v l itself update ∙ base.latest;
          content = content_of-own event history key itself;
        }

    pub updated-stored : IsStored v l last' (event ∷ history) key next
    updated-stored = record {
      owned = refl;
      vnode = base.vnode;
      epoch = base.epoch;
      low = all-insert_max (is_low v last') dot known (low_dot own.vnode own.epoch base.epoch) base.low;
      latest = base.latest ∙ (λ i. Some (record { actor = own; counter = sym counter_is i }));
      live = let P : List Entry → List ℕ → ℕ → Type 0 = λ live ns n. AreLiveOf v l (event ∷ history) key own n live ns in
          subst (λ live. P live (siblings (event ∷ history) key) (counter_in next.clock.known own)) (sym live_is)
          (subst (λ ns. P ((dot, written event.operation) ∷ left) ns (counter_in next.clock.known own)) (sym siblings_are)
          (subst (λ n. P ((dot, written event.operation) ∷ left) numbers n) (sym counter_is) (
            newest,
            Pairwise-map (IsLiveOf v l history key own top) (IsLiveOf v l (event ∷ history) key own (top + 1))
                (live-more v l event history key own top (top + 1) (omega arith)) left (left_by event.saw (siblings history key)) left_are,
          )));
      defined = ap (λ (ns : List ℕ). not (length ns == 0)) siblings_are ∙ some (length (left_by event.saw (siblings history key)));
      alive = rw itself update;
    }
      where
        low_dot : (a e : ℕ) → e ≤ last' → not ((a == v) && nat_lt last' e) ≡ true
        low_dot a e h = by (a == v)
          where
            by : (b : Bool) → not (b && nat_lt last' e) ≡ true
            by true = grind (arith, nat_tests)
            by false = refl

        some : (n : ℕ) → not (suc n == 0) ≡ true
        some n = let e : (suc n == 0) ≡ false = grind (arith, nat_tests) in rw e refl

    pub updated-earlier : (old : List Dot) (count : ℕ) → IsEarlier v l last history key o old count
        → IsEarlier v l last' (event ∷ history) key (Some next) old count
    updated-earlier old count earlier =
        let fresh = base.fresh old count earlier in
        let counted : count ≤ count_of history key = earlier.counted in
        let more = count_of-more event history key in
        record {
          low = are_low-more v last last' old base.le earlier.low;
          counted = omega (arith, counted, more);
          split = subst (λ live. Pairwise (IsSplit old count) live (siblings (event ∷ history) key)) (sym live_is)
              (subst (λ ns. Pairwise (IsSplit old count) ((dot, written event.operation) ∷ left) ns) (sym siblings_are) (
                not_later (count_of history key) count top (counter_in old own) counted fresh,
                Pairwise-filter (IsSplit old count) (λ entry. not (covers pairs entry.0)) (λ n. not (is_among event.saw n))
                    (clock_in o).live (siblings history key) kept earlier.split,
              ));
          grown = one_more (counter_in old own) top (counter_in next.clock.known own) (nat_eq count (count_of (event ∷ history) key)) fresh counter_is;
        }

-- a command leaves a vnode closed or open
pub closed-kept : (state : State Content) (key : Key) (given : Option Context) (operation : Operation Content) → (apply_operation state key given operation).closed ≡ state.closed
closed-kept state key given (Write content) = refl
closed-kept state key given Tombstone = refl
closed-kept state key given Reap = refl
