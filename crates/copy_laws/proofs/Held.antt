-- What a primary stores has something live: of each legal log.
use Rattle.std.proofs.Common.{◌≡◌, ℕ, suc, ◌≤◌, Bool, true, false, not, ◌&&◌, cond, List, [], ◌∷◌, ◌++◌, length, refl, sym, ◌∙◌, ap, arith, subst, inl, inr}
use Rattle.std.specs.Prelude.{◌==◌, nat_le, Option, Some, None, is_some, MatchBool}
use Rattle.std.specs.Option.{option_map_or}
use Rattle.std.specs.List.{list_all, list_any}
use Rattle.std.specs.FinMap.Entries.{find, put}
use Rattle.std.proofs.lemmas.List.{append_assoc, length-map}
use Rattle.std.proofs.lemmas.Bool.{cases_lt}
use Rattle.std.proofs.lemmas.Bool.Decides.{nat_tests}
use Rattle.riak_msgs.specs.declared.Key.{Key}
use Rattle.riak_msgs.specs.Contents.{Content}
use Rattle.riak_msgs.specs.KeyOrder.{key_cmp, key_eq}
use Rattle.sibling_register.specs.History.{Event, Operation, Write, Tombstone, Reap, events_of, count_of, is_update, written}
use Rattle.sibling_register.specs.Siblings.{siblings, is_among}
use Rattle.sibling_register.proofs.Following.{count_of-own, siblings-other}
use Rattle.actor_epoch.specs.declared.Dot.{Dot}
use Rattle.actor_epoch.specs.Dots.{counter_in, covers}
use Rattle.actor_epoch.specs.Given.{Context}
use Rattle.dvv_set.specs.Clocks.{show_cmp, sync, value_in}
use Rattle.dvv_set.proofs.Orders.{eq_by_cmp-dot}
use Rattle.vnode_machine.specs.Machine.{Stored, State, stored, is_held, clock_of, pairs_of, apply_operation}
use Rattle.vnode_machine.specs.Copying.{apply_copy}
use Rattle.vnode_machine.specs.Lives.{dot_of}
use Rattle.vnode_machine.specs.Replay.{HasReplay, replay}
use Rattle.vnode_machine.proofs.Keys.{find_stored, find_reaped, key_eq-same}
use Rattle.vnode_machine.proofs.Invariants.{IsKept, IsLiveOf, actor_of}
use Rattle.vnode_machine.proofs.Numbers.{dot_of-own}
use Rattle.vnode_machine.proofs.Pairwise.{Pairwise-map, Pairwise-length}
use Rattle.vnode_machine.proofs.Steps.{known}
use Rattle.vnode_machine.proofs.Tests.{and_left, and_right}
use Rattle.copy_laws.specs.Copies.{Copy, Command, Copied, Closed, commands_of, brought, count_brought as brought_count}
use Rattle.copy_laws.specs.Sides.{Partition, Number, siblings_at, is_defined_at, is_covered_by, takes_all}
use Rattle.copy_laws.specs.CopyReplay.{primary_after, HasEntries}
use Rattle.copy_laws.specs.Joining.{Log, Fallbacks, IsJoined, HasDot, HasCome, ShowsSiblings, value_at}
use Rattle.copy_laws.specs.LegalLogs.{IsLegalLog, LogsHoldDefined}
use Rattle.copy_laws.proofs.Tests.{not_zero, test-le}
use Rattle.copy_laws.proofs.Clocks.{Clock, knows, synced, value-synced, clock-other, clock-uncopied}
use Rattle.copy_laws.proofs.Since.{clock_at, state_at, pairs_at, dot_given, value-at, sync-at, knows-since, forgets}
use Rattle.copy_laws.proofs.Later.{H, are_updates, covered-later, count-later, events-same, open-before}
use Rattle.copy_laws.proofs.Fallback.{dot_eq-refl, value-sibling, sibling-value, known-from, latest-given}
use Rattle.copy_laws.proofs.LifeDots.{dot-of, one-number}
use Rattle.copy_laws.proofs.OwnCommands.{siblings-newest}
use Rattle.copy_laws.proofs.Splits.{none-right}
use Rattle.copy_laws.proofs.Numbered.{number-within, number-positive}
use Rattle.copy_laws.proofs.Brought.{BroughtBy, SeenBy, count_brought, seen-by, brought-by, brought-later, brought-here}
use Rattle.copy_laws.proofs.JoinedFacts.{Dotted, IsOfFallback, of-fallback, dotted-prefix, copy-knows, copy-covers, quiet-since}
use Rattle.copy_laws.proofs.KnownCome.{known-come}
use Rattle.copy_laws.proofs.Positions.{begins-longer, dot-then, joined-then}
use Rattle.copy_laws.proofs.Showing.{each_position_shows}
use Rattle.copy_laws.proofs.Untouched.{NamesBrought, copy-same}

-- a clock that has something live
abbrev pub HasLive : Clock → Type 0
HasLive clock = (dot : Dot) × ((value : Option Content) × (value_at clock dot ≡ Some value))

-- the first of what is live has a value
pub first-live : (v l : ℕ) (key : Key) (live : List (Dot × Option Content)) → not (length live == 0) ≡ true → (dot : Dot) × ((value : Option Content) × (find show_cmp dot live ≡ Some value))
first-live v l key [] h = let e : (0 == 0) ≡ true = refl in cc
first-live v l key (entry ∷ live) h = (entry.0, (entry.1, ap (λ b. cond b (Some entry.1) (find show_cmp entry.0 live)) (eq_by_cmp-dot entry.0 entry.0 ∙ dot_eq-refl v l key entry.0)))

-- what a fallback holds has something live
fallback-live : (v l : ℕ) (key : Key) (history : H) → HasReplay v l history → is_held (replay v l history) key ≡ true → HasLive (clock_of (replay v l history) key)
fallback-live v l key history replays held = by (stored (replay v l history) key) ((known v l history replays).keys key) held
  where
    by : (o : Option (Stored Content)) → IsKept v l (replay v l history).last_epoch history key o → is_some o ≡ true → HasLive (option_map_or (λ (s : Stored Content). s.clock) o (record { known = []; live = [] }))
    by None kept h = cc
    by (Some s) kept h = first-live v l key s.clock.live (ap (λ n. not (n == 0)) same_length ∙ kept.defined)
      where
        same_length : length s.clock.live ≡ length (siblings history key)
        same_length =
            Pairwise-length s.clock.live (siblings history key)
            (Pairwise-map (IsLiveOf v l history key (actor_of s) (counter_in s.clock.known (actor_of s))) (λ entry number. Unit {0}) (λ entry number one. tt) s.clock.live (siblings history key) kept.live)

module _ (state : State Content) (at key : Key) where
  held-update : (given : Option Context) (operation : Operation Content) → key_eq at key ≡ false → is_held (apply_operation state at given operation) key ≡ is_held state key
  held-update given (Write content) e = put-other _ e
    where
      put-other : (next : Stored Content) → key_eq at key ≡ false → is_some (find key_cmp key (put key_cmp at next state.keys)) ≡ is_held state key
      put-other next e = ap is_some (find_stored key at next state.keys ∙ ap (λ b. cond b (Some next) (stored state key)) e)
  held-update given Tombstone e = put-other _ e
    where
      put-other : (next : Stored Content) → key_eq at key ≡ false → is_some (find key_cmp key (put key_cmp at next state.keys)) ≡ is_held state key
      put-other next e = ap is_some (find_stored key at next state.keys ∙ ap (λ b. cond b (Some next) (stored state key)) e)
  held-update given Reap e = ap is_some (find_reaped at key state.keys ∙ ap (λ b. cond b None (stored state key)) e)

  pub held-reap : (given : Option Context) (operation : Operation Content) → key_eq at key ≡ true → is_update operation ≡ false → is_held (apply_operation state at given operation) key ≡ false
  held-reap given (Write content) e u = cc
  held-reap given Tombstone e u = cc
  held-reap given Reap e u = ap is_some (find_reaped at key state.keys ∙ ap (λ b. cond b None (stored state key)) e)

  held-uncopied : (clock : Clock) → key_eq at key ≡ false → is_held (apply_copy state at clock) key ≡ is_held state key
  held-uncopied clock e = put-other _ e
    where
      put-other : (next : Stored Content) → key_eq at key ≡ false → is_some (find key_cmp key (put key_cmp at next state.keys)) ≡ is_held state key
      put-other next e = ap is_some (find_stored key at next state.keys ∙ ap (λ b. cond b (Some next) (stored state key)) e)

-- a value on the other side that isn't gone here stays one
sync-some : (own other : Clock) (dot : Dot) (w : Option Content) → value_at other dot ≡ Some w → (knows own dot ≡ true → value_at own dot ≡ None → ⊥)
    → (value : Option Content) × (value_at (sync own other) dot ≡ Some value)
sync-some own other dot w e ungone = by (knows own dot) refl (value_at own dot) refl
  where
    by : (ko : Bool) → knows own dot ≡ ko → (o : Option (Option Content)) → value_at own dot ≡ o → (value : Option Content) × (value_at (sync own other) dot ≡ Some value)
    by true p None q = absurd (ungone p q)
    by true p (Some x) q = (
      value_in own other (dot, x),
      value-synced own other dot ∙ (λ i. synced own other dot (p i) (knows other dot) (is_some (e i)) (q i) (e i)),
    )
    by false p o q = (w, value-synced own other dot ∙ (λ i. synced own other dot (p i) (knows other dot) (is_some (e i)) (value_at own dot) (e i)))

-- the last event of a key that was never reaped is live
module _ (v l : ℕ) (key : Key) where
  abbrev IsLast : H → Type 0
  IsLast history = (dot : Dot) × (dot_of v l history key (count_of history key) ≡ Some dot) × (is_among (siblings history key) (count_of history key) ≡ true)

  last : (history : H) → HasReplay v l history → are_updates key history ≡ true → 1 ≤ count_of history key → IsLast history
  last [] replays updates some = absurd (omega (arith, some))
  last (event ∷ before) replays updates some = by (last before replays.0) (key_eq event.key key) refl (is_update event.operation) refl updates
    where
      other : key_eq event.key key ≡ false → IsLast before → IsLast (event ∷ before)
      other p one =
          let same : count_of (event ∷ before) key ≡ count_of before key = rw p refl in
          let here : dot_of v l (event ∷ before) key (count_of (event ∷ before) key) ≡ dot_of v l before key (count_of before key) = rw p refl in
          (one.0, here ∙ one.1, (λ i. is_among (siblings-other event before key p i) (same i)) ∙ one.2)

      own : key_eq event.key key ≡ true → is_update event.operation ≡ true → IsLast (event ∷ before)
      own p q =
          let counted : count_of (event ∷ before) key ≡ suc (count_of before key) = count_of-own event before key p in
          let given = latest-given v l key event before replays p q in
          (_, ap (dot_of v l (event ∷ before) key) counted ∙ dot_of-own event before key v l p q ∙ given, ap (is_among (siblings (event ∷ before) key)) counted ∙ siblings-newest key event before p q)

      few : key_eq event.key key ≡ false → 1 ≤ count_of before key
      few p = let e : count_of (event ∷ before) key ≡ count_of before key = rw p refl in omega (arith, some, e)

      by : (are_updates key before ≡ true → 1 ≤ count_of before key → IsLast before) → (a : Bool) → key_eq event.key key ≡ a → (u : Bool) → is_update event.operation ≡ u
          → list_all (λ (x : Event Content Context). is_update x.operation) (cond a (event ∷ events_of before key) (events_of before key)) ≡ true → IsLast (event ∷ before)
      by rest true p true q all = own p q
      by rest true p false q all = let no : false ≡ true = sym q ∙ and_left (is_update event.operation) (are_updates key before) all in cc
      by rest false p u q all = other p (rest all (few p))

module _ (partition : Partition) (primary : Log) (fallbacks : Fallbacks) (key : Key) (legal : IsLegalLog partition primary fallbacks key) where
  abbrev v : ℕ
  v = partition.primary

  abbrev l : ℕ
  l = partition.last_epoch

  module _ (later log : Log) (is : later ++ log ≡ primary) where
    open-at : (primary_after partition log).closed ≡ None
    open-at = open-before partition key later log (subst (HasEntries partition key) (sym is) legal.hand_off.primary_legal) (ap (λ t. (primary_after partition t).closed) is ∙ legal.open_still)

    pub joined-at : IsJoined partition log (brought log key) key
    joined-at = joined-then partition primary fallbacks key legal.hand_off later log is open-at

    pub shows-at : ShowsSiblings partition log (brought log key) key log
    shows-at = let s = each_position_shows partition primary fallbacks key legal.hand_off legal.rise later log is open-at in record { live = s.live; present = s.present }

    -- contexts cover of a fallback just what had been brought
    pub names-at : NamesBrought partition log (brought log key) key
    names-at n j dot diversion has later' event before e p h = found (legal.came.given (later ++ later') before event whole p dot vnode h)
      where
        whole : (later ++ later') ++ Command event ∷ before ≡ primary
        whole = append_assoc later later' (Command event ∷ before) ∙ ap (λ t. later ++ t) e ∙ is

        at_end : HasDot partition primary fallbacks key (record { side = n; number = j }) dot
        at_end = dot-then partition primary fallbacks key legal.hand_off later log is (record { side = n; number = j }) dot has

        fallback_dot : dot_of partition.fallback (partition.opened n) (fallbacks n) key j ≡ Some dot
        fallback_dot = sym (ap (λ b. cond b (dot_of v l (commands_of primary) key j) (dot_of partition.fallback (partition.opened n) (fallbacks n) key j)) (not_zero n diversion.0)) ∙ at_end

        vnode : dot.actor.vnode ≡ partition.fallback
        vnode = (dot-of partition.fallback (partition.opened n) (fallbacks n) key j dot fallback_dot).vnode_is

        found : (number : Number) × HasDot partition primary fallbacks key number dot × HasCome partition primary fallbacks key before number → j ≤ count_brought key before n
        found (number, dotted, come) = by number.side (legal.hand_off.apart number (record { side = n; number = j }) dot dotted at_end) dotted come
          where
            by : (side : ℕ) → side ≡ n → HasDot partition primary fallbacks key (record { side = side; number = number.number }) dot
                → HasCome partition primary fallbacks key before (record { side = side; number = number.number }) → j ≤ count_brought key before n
            by side same dotted come =
                let there : HasDot partition primary fallbacks key (record { side = n; number = number.number }) dot = subst (λ s. HasDot partition primary fallbacks key (record { side = s; number = number.number }) dot) same dotted in
                let here : HasCome partition primary fallbacks key before (record { side = n; number = number.number }) = subst (λ s. HasCome partition primary fallbacks key before (record { side = s; number = number.number })) same come in
                let numbered : dot_of partition.fallback (partition.opened n) (fallbacks n) key number.number ≡ Some dot =
                sym (ap (λ b. cond b (dot_of v l (commands_of primary) key number.number) (dot_of partition.fallback (partition.opened n) (fallbacks n) key number.number)) (not_zero n diversion.0)) ∙ there in
                let one : j ≡ number.number = one-number partition.fallback (partition.opened n) (fallbacks n) key j number.number dot fallback_dot numbered in
                let most : number.number ≤ count_brought key before n =
                subst (λ b. MatchBool b (number.number ≤ count_of (commands_of before) key) (number.number ≤ count_brought key before n)) (not_zero n diversion.0) here in
                omega (arith, one, most)

  -- a copy that brings no number changes nothing; the last number that another one brings has a value
  module _ (gap : Log) (copy : Copy Content) (before : Log) (is : gap ++ Copied copy ∷ before ≡ primary) (itself : key_eq copy.key key ≡ true) where
    abbrev log : Log
    log = Copied copy ∷ before

    abbrev come : Fallbacks
    come = brought log key

    abbrev n : ℕ
    n = copy.diversion

    joined : IsJoined partition log come key
    joined = joined-at gap log is

    facts : IsOfFallback partition log come key joined copy
    facts = of-fallback partition log come key joined [] copy before refl itself

    module _ (dot : Dot) (some : 1 ≤ count_of copy.prefix key) (dotted : dot_of partition.fallback (partition.opened n) copy.prefix key (count_of copy.prefix key) ≡ Some dot) where
      abbrev j : ℕ
      j = count_of copy.prefix key

      le_same : (m : ℕ) → m ≤ m
      le_same m = omega arith

      stands : Dotted partition log come key joined n j dot
      stands = dotted-prefix partition log come key joined copy facts j dot dotted

      -- where its last number had been brought, all that it knows was known
      known_all : j ≤ count_brought key before n → (d : Dot) → knows copy.clock d ≡ true → knows (clock_at v l key before) d ≡ true
      known_all had d k = at (brought-by key before n j some had)
        where
          at : BroughtBy key before n j → knows (clock_at v l key before) d ≡ true
          at b =
              knows-since v l key d before (record {
                entry = Copied b.copy;
                later = b.later;
                before = b.before;
                is = b.is;
                quiet = none-right (forgets key) (Copied copy ∷ []) b.later (quiet-since partition log come key joined [] copy before refl itself refl j dot (le_same j) stands (Copied copy ∷ b.later) (Copied b.copy ∷ b.before) whole (inl reaches));
                holds = (b.itself, there);
              })
            where
              whole : (Copied copy ∷ b.later) ++ Copied b.copy ∷ b.before ≡ log
              whole = ap (λ t. Copied copy ∷ t) b.is

              other : IsOfFallback partition log come key joined b.copy
              other = of-fallback partition log come key joined (Copied copy ∷ b.later) b.copy b.before whole b.itself

              reaches : j ≤ count_brought key (Copied b.copy ∷ b.before) n
              reaches =
                  let most : count_of b.copy.prefix key ≤ count_brought key (Copied b.copy ∷ b.before) n = subst (λ s. count_of b.copy.prefix key ≤ count_brought key (Copied b.copy ∷ b.before) s) b.side (brought-here key b.copy b.before b.itself) in
                  let few = b.reaches in omega (arith, most, few)

              same_history : other.gap ++ b.copy.prefix ≡ facts.gap ++ copy.prefix
              same_history = other.begins ∙ ap come b.side ∙ sym facts.begins

              covered : is_covered_by copy.prefix key d ≡ true → is_covered_by b.copy.prefix key d ≡ true
              covered c = elim (cases_lt (length b.copy.prefix) (length copy.prefix)) [
                | inl lt ↦ shorter (begins-longer other.gap b.copy.prefix facts.gap copy.prefix same_history (omega (arith, lt)))
                | inr le ↦ longer (begins-longer facts.gap copy.prefix other.gap b.copy.prefix (sym same_history) le)
              ]
                where
                  longer : (g : H) × (g ++ copy.prefix ≡ b.copy.prefix) → is_covered_by b.copy.prefix key d ≡ true
                  longer (g, e) = subst (λ t. is_covered_by t key d ≡ true) e (covered-later key g copy.prefix d c)

                  shorter : (g : H) × (g ++ b.copy.prefix ≡ copy.prefix) → is_covered_by b.copy.prefix key d ≡ true
                  shorter (g, e) =
                      let few = b.reaches in
                      let more : count_of b.copy.prefix key ≤ count_of copy.prefix key = subst (λ t. count_of b.copy.prefix key ≤ count_of t key) e (count-later key g b.copy.prefix) in
                      let full : count_of b.copy.prefix key ≡ count_of (g ++ b.copy.prefix) key = (let same : count_of b.copy.prefix key ≡ count_of copy.prefix key = omega (arith, few, more) in same) ∙ ap (λ t. count_of t key) (sym e) in
                      ap (list_any (λ (event : Event Content Context). covers (pairs_of event.context) d)) (sym (events-same key g b.copy.prefix full) ∙ ap (λ t. events_of t key) e) ∙ c

              there : knows b.copy.clock d ≡ true
              there = elim (known-from partition.fallback (partition.opened n) key copy.prefix facts.replays d (ap (λ c. knows c d) (sym facts.clock_is) ∙ k)) [
                | inl h ↦ issued h.0 h.1 h.2
                | inr h ↦ copy-covers partition log come key joined b.copy other d (covered h)
              ]
                where
                  issued : (i : ℕ) → i ≤ count_of copy.prefix key → dot_of partition.fallback (partition.opened n) copy.prefix key i ≡ Some d → knows b.copy.clock d ≡ true
                  issued i few e =
                      let reach = b.reaches in
                      copy-knows partition log come key joined b.copy other i d (omega (arith, few, reach))
                      (subst (λ s. Dotted partition log come key joined s i d) (sym b.side) (dotted-prefix partition log come key joined copy facts i d e))

      unchanged : j ≤ count_brought key before n → clock_at v l key log ≡ clock_at v l key before
      unchanged had = copy-same partition log come key joined [] copy before refl itself refl (known_all had) (names-at gap log is)

      -- so it had been, where the primary knew its dot
      had-come : knows (clock_at v l key before) dot ≡ true → j ≤ count_brought key before n
      had-come k = elim (known-come partition log come key joined n j dot facts.diversion stands (brought-here key copy before itself) (Copied copy ∷ []) before refl k) [
        | inl h ↦ h
        | inr h ↦ seen (seen-by key (record { side = n; number = j }) dot before h)
      ]
        where
          seen : SeenBy key (record { side = n; number = j }) dot before → j ≤ count_brought key before n
          seen s = at s.event.context refl s.saw
            where
              whole : (Copied copy ∷ s.later) ++ Command s.event ∷ s.before ≡ log
              whole = ap (λ t. Copied copy ∷ t) s.is

              up : j ≤ count_brought key s.before n → j ≤ count_brought key before n
              up h =
                  let more : count_brought key s.before n ≤ count_brought key before n =
                  subst (λ t. count_brought key s.before n ≤ count_brought key t n) (append_assoc s.later (Command s.event ∷ []) s.before ∙ s.is) (brought-later key (s.later ++ Command s.event ∷ []) s.before n) in
                  omega (arith, h, more)

              at : (context : Option Context) → s.event.context ≡ context
                  → option_map_or (λ (x : Context). covers (pairs_of (Some x)) dot) context (takes_all s.event.operation && nat_le j (brought_count s.before s.event.key n)) ≡ true → j ≤ count_brought key before n
              at (Some context) p h = up (names-at gap log is n j dot facts.diversion stands (Copied copy ∷ s.later) s.event s.before whole s.itself (ap (λ g. covers (pairs_of g) dot) p ∙ h))
              at None p h =
                  let few : j ≤ brought_count s.before s.event.key n = test-le j (brought_count s.before s.event.key n) (and_right (takes_all s.event.operation) (nat_le j (brought_count s.before s.event.key n)) h) in
                  up (subst (λ k. j ≤ brought_count s.before k n) (key_eq-same s.event.key key s.itself) few)

    known-held : (dot : Dot) → knows (clock_at v l key before) dot ≡ true → is_held (primary_after partition before) key ≡ true
    known-held dot k = by (stored (primary_after partition before) key) refl
      where
        by : (o : Option (Stored Content)) → stored (primary_after partition before) key ≡ o → is_some (stored (primary_after partition before) key) ≡ true
        by (Some s) e = ap is_some e
        by None e =
            let none : knows (clock_at v l key before) dot ≡ false = (λ i. covers (option_map_or (λ (s : Stored Content). s.clock) (e i) (record { known = []; live = [] })).known dot) in
            let no : true ≡ false = sym k ∙ none in cc

    copied-live : (is_held (primary_after partition before) key ≡ true → HasLive (clock_at v l key before)) → HasLive (clock_at v l key log)
    copied-live rest = newest (last partition.fallback (partition.opened n) key copy.prefix facts.replays facts.updates some)
      where
        first : HasLive (clock_of (replay partition.fallback (partition.opened n) copy.prefix) key)
        first = fallback-live partition.fallback (partition.opened n) key copy.prefix facts.replays (legal.had gap before copy (is, itself))

        some : 1 ≤ count_of copy.prefix key
        some =
            let sibling = value-sibling partition.fallback (partition.opened n) key copy.prefix facts.replays first.0 first.1.0 first.1.1 in
            let low = number-positive partition.fallback (partition.opened n) key copy.prefix sibling.number first.0 sibling.dot_is in
            let high = number-within partition.fallback (partition.opened n) key copy.prefix sibling.number first.0 sibling.dot_is in
            omega (arith, low, high)

        newest : IsLast partition.fallback (partition.opened n) key copy.prefix → HasLive (clock_at v l key log)
        newest (dot, dotted, among) = by (value_at (clock_at v l key before) dot) refl (knows (clock_at v l key before) dot) refl
          where
            there : (value : Option Content) × (value_at copy.clock dot ≡ Some value)
            there = found (value_at copy.clock dot) refl
              where
                found : (o : Option (Option Content)) → value_at copy.clock dot ≡ o → (value : Option Content) × (value_at copy.clock dot ≡ Some value)
                found (Some value) e = (value, e)
                found None e =
                    absurd (sibling-value partition.fallback (partition.opened n) key copy.prefix facts.replays dot (count_of copy.prefix key) dotted among (sym (ap (λ c. value_at c dot) facts.clock_is) ∙ e))

            synced-live : (knows (clock_at v l key before) dot ≡ true → value_at (clock_at v l key before) dot ≡ None → ⊥) → HasLive (clock_at v l key log)
            synced-live ungone =
                let synced = sync-some (clock_at v l key before) copy.clock dot there.0 there.1 ungone in
                (dot, (synced.0, ap (λ c. value_at c dot) (sync-at v l key copy before itself) ∙ synced.1))

            some_none : (x : Option Content) → Some x ≡ None → ⊥
            some_none x e = cc

            by : (o : Option (Option Content)) → value_at (clock_at v l key before) dot ≡ o → (b : Bool) → knows (clock_at v l key before) dot ≡ b → HasLive (clock_at v l key log)
            by (Some x) e b p = synced-live (λ k none. some_none x (sym e ∙ none))
            by None e false p = synced-live (λ k none. let no : true ≡ false = sym k ∙ p in cc)
            by None e true p = subst HasLive (sym (unchanged dot some dotted (had-come dot some dotted p))) (rest (known-held dot p))

  held-live : (gap log : Log) → gap ++ log ≡ primary → is_held (primary_after partition log) key ≡ true → HasLive (clock_at v l key log)
  held-live gap [] is k = cc
  held-live gap (Command event ∷ before) is k = by (held-live (gap ++ Command event ∷ []) before (append_assoc gap (Command event ∷ []) before ∙ is)) (key_eq event.key key) refl (is_update event.operation) refl
    where
      by : (is_held (primary_after partition before) key ≡ true → HasLive (clock_at v l key before)) → (a : Bool) → key_eq event.key key ≡ a → (u : Bool) → is_update event.operation ≡ u → HasLive (clock_at v l key (Command event ∷ before))
      by rest true p true q =
          let dot : Dot = dot_given v l key before event in (
            dot,
            (
              written event.operation,
              value-at v l key event before (p, q) dot
                  ∙ ap (λ b. cond b (Some (written event.operation)) (cond (covers (pairs_at v l key before event) dot) None (value_at (clock_at v l key before) dot))) (dot_eq-refl v l key dot),
            ),
          )
      by rest true p false q = let no : false ≡ true = sym (held-reap (primary_after partition before) event.key key event.context event.operation p q) ∙ k in cc
      by rest false p u q =
          subst HasLive (sym (clock-other (state_at v l key before) event.key key event.context event.operation p))
          (rest (sym (held-update (primary_after partition before) event.key key event.context event.operation p) ∙ k))
  held-live gap (Copied copy ∷ before) is k = by (held-live (gap ++ Copied copy ∷ []) before (append_assoc gap (Copied copy ∷ []) before ∙ is)) (key_eq copy.key key) refl
    where
      by : (is_held (primary_after partition before) key ≡ true → HasLive (clock_at v l key before)) → (a : Bool) → key_eq copy.key key ≡ a → HasLive (clock_at v l key (Copied copy ∷ before))
      by rest true p = copied-live gap copy before is p rest
      by rest false p =
          subst HasLive (sym (clock-uncopied (state_at v l key before) copy.key key copy.clock p))
          (rest (sym (held-uncopied (primary_after partition before) copy.key key copy.clock p) ∙ k))
  held-live gap (Closed number ∷ before) is k = cc

  pub held-defined : is_held (primary_after partition primary) key ≡ is_defined_at partition primary key
  held-defined = by (stored (primary_after partition primary) key) refl
    where
      as_many : length (clock_of (primary_after partition primary) key).live ≡ length (siblings_at partition primary key)
      as_many = sym (length-map _ _) ∙ ap length (shows-at [] primary refl).live ∙ length-map _ _

      some : (live : List (Dot × Option Content)) (dot : Dot) (value : Option Content) → find show_cmp dot live ≡ Some value → not (length live == 0) ≡ true
      some [] dot value e = cc
      some (entry ∷ live) dot value e = positive (length live)
        where
          positive : (n : ℕ) → not (suc n == 0) ≡ true
          positive n = let z : (suc n == 0) ≡ false = grind (arith, nat_tests) in ap not z

      defined : not (length (clock_of (primary_after partition primary) key).live == 0) ≡ is_defined_at partition primary key
      defined = ap (λ n. not (n == 0)) as_many

      by : (o : Option (Stored Content)) → stored (primary_after partition primary) key ≡ o → is_held (primary_after partition primary) key ≡ is_defined_at partition primary key
      by None e =
          ap is_some e ∙ sym (ap (λ x. not (length (option_map_or (λ (s : Stored Content). s.clock) x (record { known = []; live = [] })).live == 0)) e) ∙ defined
      by (Some s) e =
          let live = held-live [] primary refl (ap is_some e) in
          ap is_some e ∙ sym (some (clock_of (primary_after partition primary) key).live live.0 live.1.0 live.1.1) ∙ defined

pub logs_hold_defined : (partition : Partition) (log : Log) (fallbacks : Fallbacks) → LogsHoldDefined partition log fallbacks
logs_hold_defined partition log fallbacks key legal = held-defined partition log fallbacks key legal
