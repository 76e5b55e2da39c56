-- A value leaves a key's siblings at the primary only by a write or delete of some side that had seen it.
use Rattle.std.proofs.Common.{◌≡◌, ◌≢◌, ℕ, suc, ◌≤◌, Bool, true, false, not, ◌&&◌, ◌||◌, cond, List, [], ◌∷◌, ◌++◌, refl, sym, ◌∙◌, ap, arith, subst, inl, inr}
use Rattle.std.specs.Prelude.{◌⊎◌, ◌==◌, nat_le, Option, Some, None, is_some}
use Rattle.std.specs.Option.{option_map_or}
use Rattle.std.specs.Ordering.{eq_by_cmp}
use Rattle.std.specs.List.{list_any, list_all}
use Rattle.std.specs.FinMap.Entries.{find}
use Rattle.std.proofs.lemmas.List.{append_assoc}
use Rattle.std.proofs.lemmas.Bool.Decides.{nat_tests}
use Rattle.riak_msgs.specs.declared.Key.{Key}
use Rattle.riak_msgs.specs.Contents.{Content}
use Rattle.riak_msgs.specs.KeyOrder.{key_eq}
use Rattle.sibling_register.specs.History.{Event, Operation, Write, Tombstone, Reap, events_of, count_of, is_update, written}
use Rattle.sibling_register.specs.Siblings.{siblings, is_among}
use Rattle.sibling_register.specs.Leaving.{is_seen_in}
use Rattle.sibling_register.proofs.Following.{count_of-own}
use Rattle.actor_epoch.specs.declared.Dot.{Dot}
use Rattle.actor_epoch.specs.Dots.{dot_eq, covers}
use Rattle.actor_epoch.specs.Given.{Context}
use Rattle.dvv_set.specs.Clocks.{show_cmp, sync}
use Rattle.vnode_machine.specs.Machine.{State, clock_of, pairs_of, is_held, has_value, holds_dead}
use Rattle.vnode_machine.specs.Lives.{latest_dot, dot_of}
use Rattle.vnode_machine.specs.Replay.{HasReplay, replay, AcceptsEvent}
use Rattle.vnode_machine.proofs.Keys.{key_eq-same}
use Rattle.vnode_machine.proofs.Tests.{and_right, nat_eq-same}
use Rattle.copy_laws.specs.Copies.{Copy, LogEntry, Command, Copied, Closed, commands_of, count_brought as brought_count, brought}
use Rattle.copy_laws.specs.Sides.{Partition, Number, has_number, dot_at, content_at, is_covered_by, saw_brought, takes_all, siblings_at}
use Rattle.copy_laws.specs.CopyReplay.{primary_after, HasEntries}
use Rattle.copy_laws.specs.Joining.{Log, Fallbacks, IsJoined, HasDot, value_at}
use Rattle.copy_laws.specs.Diversions.{Course, primary_of, fallback_of}
use Rattle.copy_laws.specs.Leaving.{has_seen, is_seen_between, HandOffLeavesOnlySeen, CoursesLeaveOnlySeen, FallbacksLeaveOnlySeen}
use Rattle.vnode_machine.proofs.Showing.{leaves_only_to_seers}
use Rattle.copy_laws.proofs.Tests.{le-test, or_true}
use Rattle.copy_laws.proofs.Clocks.{Clock, knows, synced, value-synced, taken_pairs, clock-other, clock-uncopied}
use Rattle.copy_laws.proofs.Since.{state_at, clock_at, pairs_at, dot_given, IsUpdate, value-at, sync-at}
use Rattle.copy_laws.proofs.Later.{H, are_updates, replay-before, open-before}
use Rattle.copy_laws.proofs.Fallback.{known-from, sibling-value}
use Rattle.copy_laws.proofs.LifeDots.{one-number}
use Rattle.copy_laws.proofs.Numbered.{number-within, number-known}
use Rattle.copy_laws.proofs.PrimaryDots.{no-close, accepted}
use Rattle.copy_laws.proofs.OwnCommands.{siblings-step, siblings-newest, covers-saw}
use Rattle.copy_laws.proofs.OwnNumbers.{IsOwnNumber, own-number, own-positive, known-counted}
use Rattle.copy_laws.proofs.JoinedFacts.{Dotted, IsOfFallback, of-fallback, fallback-number, dotted-prefix, prefix-dotted}
use Rattle.copy_laws.proofs.Positions.{dot-then, content-then, brought-count, joined-then, siblings_at_each_position}
use Rattle.copy_laws.proofs.Courses.{open-part, legal-fallback}
use Rattle.copy_laws.proofs.CourseLaw.{courses_are_hand_offs}

-- a value that a sync takes away was gone on the other side
lost-from : (own other : Clock) (dot : Dot) (value : Option Content) → value_at own dot ≡ Some value → value_at (sync own other) dot ≡ None
    → (knows other dot ≡ true) × (value_at other dot ≡ None)
lost-from own other dot value v e =
    by (knows own dot) (knows other dot) refl (value_at other dot) refl
    (ap (λ o. synced own other dot (knows own dot) (knows other dot) (is_some (value_at other dot)) o (value_at other dot)) (sym v) ∙ sym (value-synced own other dot) ∙ e)
  where
    by : (ko ko' : Bool) → knows other dot ≡ ko' → (o' : Option (Option Content)) → value_at other dot ≡ o' → synced own other dot ko ko' (is_some o') (Some value) o' ≡ None
        → (knows other dot ≡ true) × (value_at other dot ≡ None)
    by true true p None q h = (p, q)
    by true true p (Some x) q h = cc
    by true false p None q h = cc
    by true false p (Some x) q h = cc
    by false true p None q h = (p, q)
    by false true p (Some x) q h = cc
    by false false p None q h = cc
    by false false p (Some x) q h = cc

-- a write among what is live
live-value : (live : List (Dot × Option Content)) (dot : Dot) (content : Content) → find show_cmp dot live ≡ Some (Some content) → list_any (λ entry. is_some entry.1) live ≡ true
live-value [] dot content h = cc
live-value (entry ∷ live) dot content h = by (live-value live dot content) (eq_by_cmp show_cmp dot entry.0) entry.1 h
  where
    by : (find show_cmp dot live ≡ Some (Some content) → list_any (λ e. is_some e.1) live ≡ true) → (b : Bool) (value : Option Content) → cond b (Some value) (find show_cmp dot live) ≡ Some (Some content)
        → (is_some value || list_any (λ e. is_some e.1) live) ≡ true
    by rest true (Some x) h = refl
    by rest true None h = cc
    by rest false value h = ap (λ b. is_some value || b) (rest h) ∙ or_true (is_some value)

-- what a reap needs
reap-dead : (state : State Content) (at : Key) (given : Option Context) (operation : Operation Content) → is_update operation ≡ false → AcceptsEvent state at given operation → holds_dead state at ≡ true
reap-dead state at given (Write content) u a = cc
reap-dead state at given Tombstone u a = cc
reap-dead state at None Reap u a = a
reap-dead state at (Some context) Reap u a = absurd a

-- a number of a history that is no sibling was seen
left-seen : (v l : ℕ) (key : Key) (history : H) (number : ℕ) (dot : Dot) → dot_of v l history key number ≡ Some dot → are_updates key history ≡ true
    → (is_among (siblings history key) number ≡ true) ⊎ (is_seen_in history key number ≡ true)
left-seen v l key [] number dot h all = cc
left-seen v l key (event ∷ before) number dot h all =
    by (left-seen v l key before number dot) (key_eq event.key key) refl (is_update event.operation) refl (count_of (event ∷ before) key == number) refl h all
  where
    earlier : (is_among (siblings before key) number ≡ true) ⊎ (is_seen_in before key number ≡ true) → dot_of v l before key number ≡ Some dot
        → (a u s : Bool) → key_eq event.key key ≡ a → is_update event.operation ≡ u → is_among event.saw number ≡ s → (a ≡ true → u ≡ true)
        → (is_among (siblings (event ∷ before) key) number ≡ true) ⊎ (is_seen_in (event ∷ before) key number ≡ true)
    earlier (inr h) d a u s p q r f = inr (ap (λ b. ((key_eq event.key key && is_update event.operation) && is_among event.saw number) || b) h ∙ or_true ((key_eq event.key key && is_update event.operation) && is_among event.saw number))
    earlier (inl h) d true u true p q r f = inr (ap (λ b. b || is_seen_in before key number) (λ i. (p i && (q ∙ f refl) i) && r i))
    earlier (inl h) d true u false p q r f =
        inl (siblings-step key event before number (number-within v l key before number dot d) ∙ (λ i. not (p i && r i) && h i))
    earlier (inl h) d false u s p q r f =
        inl (siblings-step key event before number (number-within v l key before number dot d) ∙ (λ i. not (p i && is_among event.saw number) && h i))

    newest : key_eq event.key key ≡ true → is_update event.operation ≡ true → (count_of (event ∷ before) key == number) ≡ true → is_among (siblings (event ∷ before) key) number ≡ true
    newest p q r =
        let is : suc (count_of before key) ≡ number = sym (count_of-own event before key p) ∙ nat_eq-same (count_of (event ∷ before) key) number r in
        ap (is_among (siblings (event ∷ before) key)) (sym is) ∙ siblings-newest key event before p q

    by : (dot_of v l before key number ≡ Some dot → are_updates key before ≡ true → (is_among (siblings before key) number ≡ true) ⊎ (is_seen_in before key number ≡ true))
        → (a : Bool) → key_eq event.key key ≡ a → (u : Bool) → is_update event.operation ≡ u → (x : Bool) → (count_of (event ∷ before) key == number) ≡ x
        → cond ((a && u) && x) (latest_dot v l (event ∷ before) key) (dot_of v l before key number) ≡ Some dot
        → list_all (λ (e : Event Content Context). is_update e.operation) (cond a (event ∷ events_of before key) (events_of before key)) ≡ true
        → (is_among (siblings (event ∷ before) key) number ≡ true) ⊎ (is_seen_in (event ∷ before) key number ≡ true)
    by rest true p true q true r h all = inl (newest p q r)
    by rest true p true q false r h all =
        earlier (rest h (sym (ap (λ b. b && are_updates key before) q) ∙ all)) h true true (is_among event.saw number) p q refl (λ e. refl)
    by rest true p false q x r h all = let no : false ≡ true = sym (ap (λ b. b && are_updates key before) q) ∙ all in cc
    by rest false p u q x r h all = earlier (rest h all) h false u (is_among event.saw number) p q refl (λ e. cc)

module _ (partition : Partition) (primary : Log) (fallbacks : Fallbacks) (key : Key) (joined : IsJoined partition primary fallbacks key) (number : Number) (dot : Dot) where
  abbrev v : ℕ
  v = partition.primary

  abbrev l : ℕ
  l = partition.last_epoch

  abbrev HasDotHere : Number → Dot → Type 0
  HasDotHere number dot = HasDot partition primary fallbacks key number dot

  -- the number is a sibling at a position
  pub record IsSiblingAt (position : Log) : Type 0 where
    pub among : has_number (siblings_at partition position key) number ≡ true
    pub has_dot : dot_at partition position (brought position key) key number ≡ Some dot

  open_at : (later position : Log) → later ++ position ≡ primary → (primary_after partition position).closed ≡ None
  open_at later position e =
      open-before partition key later position (subst (HasEntries partition key) (sym e) joined.hand_off.primary_legal)
      (ap (λ t. (primary_after partition t).closed) e ∙ joined.open_still)

  -- so it has a value there
  valued : (later position : Log) → later ++ position ≡ primary → IsSiblingAt position → value_at (clock_at v l key position) dot ≡ Some (content_at partition primary fallbacks key number)
  valued later position e h =
      (siblings_at_each_position partition primary fallbacks key joined.hand_off later position e (open_at later position e) dot (content_at partition position (brought position key) key number)).1
      (number, h.among, h.has_dot, refl)
      ∙ ap (λ c. Some c) (sym (content-then partition primary fallbacks key joined.hand_off later position e number dot h.has_dot))

  has_dot_now : (later position : Log) → later ++ position ≡ primary → IsSiblingAt position → HasDotHere number dot
  has_dot_now later position e h = dot-then partition primary fallbacks key joined.hand_off later position e number dot h.has_dot

  -- and where its dot has a value it is a sibling
  one-of-side : (side n m : ℕ) → HasDotHere (record { side = side; number = n }) dot → HasDotHere (record { side = side; number = m }) dot → n ≡ m
  one-of-side side n m h k = by (side == 0) h k
    where
      by : (b : Bool)
          → cond b (dot_of v l (commands_of primary) key n) (dot_of partition.fallback (partition.opened side) (fallbacks side) key n) ≡ Some dot
          → cond b (dot_of v l (commands_of primary) key m) (dot_of partition.fallback (partition.opened side) (fallbacks side) key m) ≡ Some dot → n ≡ m
      by true h k = one-number v l (commands_of primary) key n m dot h k
      by false h k = one-number partition.fallback (partition.opened side) (fallbacks side) key n m dot h k

  pub same-number : (other : Number) → HasDotHere other dot → HasDotHere number dot → other ≡ number
  same-number other h k =
      let sides : other.side ≡ number.side = joined.hand_off.apart other number dot h k in
      let numbers = one-of-side number.side other.number number.number (subst (λ s. HasDotHere (record { side = s; number = other.number }) dot) sides h) k in
      λ i. record { side = sides i; number = numbers i }

  still : (later position : Log) → later ++ position ≡ primary → HasDotHere number dot → (value : Option Content) → value_at (clock_at v l key position) dot ≡ Some value → IsSiblingAt position
  still later position e has value h =
      let found = (siblings_at_each_position partition primary fallbacks key joined.hand_off later position e (open_at later position e) dot value).0 h in
      let same = same-number found.0 (dot-then partition primary fallbacks key joined.hand_off later position e found.0 dot found.2) has in
      record {
        among = ap (has_number (siblings_at partition position key)) (sym same) ∙ found.1;
        has_dot = ap (dot_at partition position (brought position key) key) (sym same) ∙ found.2;
      }

  -- a command of the primary that takes it away saw it
  module _ (later : Log) (event : Event Content Context) (before : Log) (is : later ++ Command event ∷ before ≡ primary) (sibling : IsSiblingAt before) (update : IsUpdate v l key event)
      (taken : covers (pairs_at v l key before event) dot ≡ true) where
    to : (later ++ Command event ∷ []) ++ before ≡ primary
    to = append_assoc later (Command event ∷ []) before ∙ is

    has : HasDotHere number dot
    has = has_dot_now (later ++ Command event ∷ []) before to sibling

    by_own : (number.side == 0) ≡ true → is_among event.saw number.number ≡ true
    by_own z =
        ap (λ ns. is_among ns number.number) ((accepted partition primary fallbacks key joined later before (Command event) is).1 update.0)
        ∙ covers-saw partition key before number.number dot (own-positive partition primary fallbacks key joined number.number dot own) there event.key event.context event.operation update.0 update.1
        (λ gap position e h. known-counted partition primary fallbacks key joined number.number dot own (later ++ Command event ∷ gap) position
        (append_assoc later (Command event ∷ gap) position ∙ ap (λ t. later ++ Command event ∷ t) e ∙ is) h)
        (number-within v l key (commands_of before) number.number dot there) taken
      where
        there : dot_of v l (commands_of before) key number.number ≡ Some dot
        there = sym (ap (λ b. cond b (dot_of v l (commands_of before) key number.number) (dot_of partition.fallback (partition.opened number.side) (brought before key number.side) key number.number)) z) ∙ sibling.has_dot

        own : IsOwnNumber partition primary fallbacks key joined number.number dot
        own =
            own-number partition primary fallbacks key joined number.number dot
            (sym (ap (λ b. cond b (dot_of v l (commands_of primary) key number.number) (dot_of partition.fallback (partition.opened number.side) (fallbacks number.side) key number.number)) z) ∙ has)

    by_brought : (number.side == 0) ≡ false → saw_brought event before number dot ≡ true
    by_brought z = by event.context event.operation update.1 taken
      where
        there : dot_of partition.fallback (partition.opened number.side) (brought before key number.side) key number.number ≡ Some dot
        there = sym (ap (λ b. cond b (dot_of v l (commands_of before) key number.number) (dot_of partition.fallback (partition.opened number.side) (brought before key number.side) key number.number)) z) ∙ sibling.has_dot

        come : number.number ≤ brought_count before event.key number.side
        come =
            let few = number-within partition.fallback (partition.opened number.side) key (brought before key number.side) number.number dot there in
            let same = brought-count partition primary fallbacks key joined.hand_off (later ++ Command event ∷ []) before to number.side in
            subst (λ k. number.number ≤ brought_count before k number.side) (sym (key_eq-same event.key key update.0)) (omega (arith, few, same))

        by : (context : Option Context) (operation : Operation Content) → is_update operation ≡ true → covers (taken_pairs (state_at v l key before) event.key context operation) dot ≡ true
            → option_map_or (λ (x : Context). covers (pairs_of (Some x)) dot) context (takes_all operation && nat_le number.number (brought_count before event.key number.side)) ≡ true
        by (Some context) (Write content) u h = h
        by (Some context) Tombstone u h = h
        by None (Write content) u h = cc
        by None Tombstone u h = le-test number.number (brought_count before event.key number.side) come
        by context Reap u h = cc

    seen_by_command : has_seen (Command event) before key number dot ≡ true
    seen_by_command = (λ i. (update.0 i && update.1 i) && by (number.side == 0) refl i)
      where
        by : (b : Bool) → (number.side == 0) ≡ b → cond b (is_among event.saw number.number) (saw_brought event before number dot) ≡ true
        by true z = by_own z
        by false z = by_brought z

  -- and a copy that takes it away brings one that did
  module _ (later : Log) (copy : Copy Content) (before : Log) (is : later ++ Copied copy ∷ before ≡ primary) (has : HasDotHere number dot) (itself : key_eq copy.key key ≡ true)
      (known : knows copy.clock dot ≡ true) (none : value_at copy.clock dot ≡ None) where
    facts : IsOfFallback partition primary fallbacks key joined copy
    facts = of-fallback partition primary fallbacks key joined later copy before is itself

    abbrev n : ℕ
    n = copy.diversion

    known_there : knows (clock_of (replay partition.fallback (partition.opened n) copy.prefix) key) dot ≡ true
    known_there = ap (λ c. knows c dot) (sym facts.clock_is) ∙ known

    none_there : value_at (clock_of (replay partition.fallback (partition.opened n) copy.prefix) key) dot ≡ None
    none_there = ap (λ c. value_at c dot) (sym facts.clock_is) ∙ none

    differs : (a b : ℕ) → (a == b) ≡ false → b ≡ a → ⊥
    differs a b h e = grind (arith, nat_tests)

    by_own_side : number.side ≡ n → is_seen_in copy.prefix key number.number ≡ true
    by_own_side e =
        let dotted : Dotted partition primary fallbacks key joined n number.number dot = subst (λ s. HasDotHere (record { side = s; number = number.number }) dot) e has in
        let whole : dot_of partition.fallback (partition.opened n) (facts.gap ++ copy.prefix) key number.number ≡ Some dot =
        ap (λ t. dot_of partition.fallback (partition.opened n) t key number.number) facts.begins ∙ fallback-number partition primary fallbacks key joined n number.number dot facts.diversion.0 dotted in
        let reached = number-known partition.fallback (partition.opened n) key facts.gap copy.prefix facts.replays number.number dot whole known_there in
        let there = prefix-dotted partition primary fallbacks key joined copy facts number.number dot reached dotted in
        elim (left-seen partition.fallback (partition.opened n) key copy.prefix number.number dot there facts.updates) [
          | inl a ↦ absurd (sibling-value partition.fallback (partition.opened n) key copy.prefix facts.replays dot number.number there a none_there)
          | inr s ↦ s
        ]

    by_other_side : (number.side == n) ≡ false → is_covered_by copy.prefix key dot ≡ true
    by_other_side d =
        elim (known-from partition.fallback (partition.opened n) key copy.prefix facts.replays dot known_there) [
          | inl h ↦ absurd (differs number.side n d (joined.hand_off.apart (record { side = n; number = h.0 }) number dot (dotted-prefix partition primary fallbacks key joined copy facts h.0 dot h.2) has))
          | inr h ↦ h
        ]

    seen_by_copy : has_seen (Copied copy) before key number dot ≡ true
    seen_by_copy = (λ i. itself i && by (number.side == n) refl i)
      where
        by : (b : Bool) → (number.side == n) ≡ b → cond b (is_seen_in copy.prefix key number.number) (is_covered_by copy.prefix key dot) ≡ true
        by true e = by_own_side (nat_eq-same number.side n e)
        by false e = by_other_side e

  -- one entry more
  step : (later : Log) (entry : LogEntry Content) (before : Log) → later ++ entry ∷ before ≡ primary → content_at partition primary fallbacks key number ≢ None → IsSiblingAt before
      → IsSiblingAt (entry ∷ before) ⊎ (has_seen entry before key number dot ≡ true)
  step later (Command event) before is written_one sibling = by (key_eq event.key key) refl (is_update event.operation) refl
    where
      to : (later ++ Command event ∷ []) ++ before ≡ primary
      to = append_assoc later (Command event ∷ []) before ∙ is

      has : HasDotHere number dot
      has = has_dot_now (later ++ Command event ∷ []) before to sibling

      value : value_at (clock_at v l key before) dot ≡ Some (content_at partition primary fallbacks key number)
      value = valued (later ++ Command event ∷ []) before to sibling

      on : (w : Option Content) → value_at (clock_at v l key (Command event ∷ before)) dot ≡ Some w → IsSiblingAt (Command event ∷ before)
      on w h = still later (Command event ∷ before) is has w h

      update : (u : IsUpdate v l key event) (a : Bool) → dot_eq (dot_given v l key before event) dot ≡ a → (b : Bool) → covers (pairs_at v l key before event) dot ≡ b
          → IsSiblingAt (Command event ∷ before) ⊎ (has_seen (Command event) before key number dot ≡ true)
      update u true p b q =
          inl (on (written event.operation) (value-at v l key event before u dot ∙ ap (λ x. cond x (Some (written event.operation)) (cond (covers (pairs_at v l key before event) dot) None (value_at (clock_at v l key before) dot))) p))
      update u false p false q =
          inl (on (content_at partition primary fallbacks key number) (value-at v l key event before u dot ∙ (λ i. cond (p i) (Some (written event.operation)) (cond (q i) None (value i)))))
      update u false p true q = inr (seen_by_command later event before is sibling u q)

      dead : key_eq event.key key ≡ true → holds_dead (state_at v l key before) event.key ≡ true → (o : Option Content) → content_at partition primary fallbacks key number ≡ o → ⊥
      dead p h None e = written_one e
      dead p h (Some content) e =
          let present : has_value (state_at v l key before) event.key ≡ true =
          ap (has_value (state_at v l key before)) (key_eq-same event.key key p) ∙ live-value (clock_at v l key before).live dot content (value ∙ ap (λ o. Some o) e) in
          let absent : not (has_value (state_at v l key before) event.key) ≡ true = and_right (is_held (state_at v l key before) event.key) (not (has_value (state_at v l key before) event.key)) h in
          let no : false ≡ true = sym (ap not present) ∙ absent in cc

      by : (a : Bool) → key_eq event.key key ≡ a → (u : Bool) → is_update event.operation ≡ u → IsSiblingAt (Command event ∷ before) ⊎ (has_seen (Command event) before key number dot ≡ true)
      by true p true q = update (p, q) (dot_eq (dot_given v l key before event) dot) refl (covers (pairs_at v l key before event) dot) refl
      by true p false q =
          absurd (dead p (reap-dead (state_at v l key before) event.key event.context event.operation q (accepted partition primary fallbacks key joined later before (Command event) is).0)
          (content_at partition primary fallbacks key number) refl)
      by false p u q =
          inl (on (content_at partition primary fallbacks key number) (ap (λ c. value_at c dot) (clock-other (state_at v l key before) event.key key event.context event.operation p) ∙ value))
  step later (Copied copy) before is written_one sibling = by (key_eq copy.key key) refl
    where
      to : (later ++ Copied copy ∷ []) ++ before ≡ primary
      to = append_assoc later (Copied copy ∷ []) before ∙ is

      has : HasDotHere number dot
      has = has_dot_now (later ++ Copied copy ∷ []) before to sibling

      value : value_at (clock_at v l key before) dot ≡ Some (content_at partition primary fallbacks key number)
      value = valued (later ++ Copied copy ∷ []) before to sibling

      on : (w : Option Content) → value_at (clock_at v l key (Copied copy ∷ before)) dot ≡ Some w → IsSiblingAt (Copied copy ∷ before)
      on w h = still later (Copied copy ∷ before) is has w h

      after : (p : key_eq copy.key key ≡ true) (o : Option (Option Content)) → value_at (clock_at v l key (Copied copy ∷ before)) dot ≡ o → IsSiblingAt (Copied copy ∷ before) ⊎ (has_seen (Copied copy) before key number dot ≡ true)
      after p (Some w) e = inl (on w e)
      after p None e =
          let lost = lost-from (clock_at v l key before) copy.clock dot (content_at partition primary fallbacks key number) value (sym (ap (λ c. value_at c dot) (sync-at v l key copy before p)) ∙ e) in
          inr (seen_by_copy later copy before is has p lost.0 lost.1)

      by : (a : Bool) → key_eq copy.key key ≡ a → IsSiblingAt (Copied copy ∷ before) ⊎ (has_seen (Copied copy) before key number dot ≡ true)
      by true p = after p (value_at (clock_at v l key (Copied copy ∷ before)) dot) refl
      by false p =
          inl (on (content_at partition primary fallbacks key number) (ap (λ c. value_at c dot) (clock-uncopied (state_at v l key before) copy.key key copy.clock p) ∙ value))
  step later (Closed closed) before is written_one sibling = absurd (no-close partition primary fallbacks key joined later before closed is)

  -- entry by entry
  walk : (between position later : Log) → later ++ (between ++ position) ≡ primary → content_at partition primary fallbacks key number ≢ None → IsSiblingAt position
      → IsSiblingAt (between ++ position) ⊎ (is_seen_between between position key number dot ≡ true)
  walk [] position later e written_one sibling = inl sibling
  walk (entry ∷ between) position later e written_one sibling =
      by (walk between position (later ++ entry ∷ []) (append_assoc later (entry ∷ []) (between ++ position) ∙ e) written_one sibling)
    where
      by : IsSiblingAt (between ++ position) ⊎ (is_seen_between between position key number dot ≡ true)
          → IsSiblingAt (entry ∷ between ++ position) ⊎ (is_seen_between (entry ∷ between) position key number dot ≡ true)
      by (inr h) = inr (ap (λ b. has_seen entry (between ++ position) key number dot || b) h ∙ or_true (has_seen entry (between ++ position) key number dot))
      by (inl h) =
          elim (step later entry (between ++ position) e written_one h) [
            | inl k ↦ inl k
            | inr k ↦ inr (ap (λ b. b || is_seen_between between position key number dot) k)
          ]

pub leaves_only_seen : (partition : Partition) (primary : Log) (fallbacks : Fallbacks) (key : Key) → HandOffLeavesOnlySeen partition primary fallbacks key
leaves_only_seen partition primary fallbacks key off later between position is open_then number dot among written_one has =
    let log : Log = between ++ position in
    let joined = joined-then partition primary fallbacks key off later log is open_then in
    let there = content-then partition log (brought log key) key joined.hand_off between position refl number dot has in
    elim (walk partition log (brought log key) key joined number dot between position [] refl (λ e. written_one (sym there ∙ e)) (record { among = among; has_dot = has })) [
      | inl h ↦ inl h.among
      | inr h ↦ inr h
    ]

pub courses_leave_only_seen : (partition : Partition) (course : Course) → CoursesLeaveOnlySeen partition course
courses_leave_only_seen partition course ids key happens later between position is =
    leaves_only_seen partition (primary_of partition course) (fallback_of course) key (courses_are_hand_offs partition course ids key happens).0 later between position is
    (open-part partition key course happens later (between ++ position) is)

pub fallbacks_leave_only_seen : (partition : Partition) (course : Course) → FallbacksLeaveOnlySeen partition course
fallbacks_leave_only_seen partition course happens n later between position is key number among written_one =
    leaves_only_to_seers partition.fallback (partition.opened n) position between
    (replay-before partition.fallback (partition.opened n) later (between ++ position)
    (subst (HasReplay partition.fallback (partition.opened n)) (sym is) (legal-fallback partition course happens n))) key number among written_one
