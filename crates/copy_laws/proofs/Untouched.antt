-- Two positions of a hand-off that know the same: nothing lies between them that changes the key's clock.
use Rattle.std.proofs.Common.{◌≡◌, ℕ, ◌≤◌, Bool, true, false, not, ◌&&◌, ◌||◌, cond, [], ◌∷◌, ◌++◌, refl, sym, ◌∙◌, ap, arith, subst, inl, inr}
use Rattle.std.specs.Prelude.{◌⊎◌, nat_le, Option, Some, None, is_some, unwrap_or}
use Rattle.std.specs.Option.{option_map_or}
use Rattle.std.specs.FinMap.Entries.{same_entries}
use Rattle.std.proofs.lemmas.List.{append_assoc}
use Rattle.riak_msgs.specs.declared.Key.{Key}
use Rattle.riak_msgs.specs.Contents.{Content}
use Rattle.riak_msgs.specs.KeyOrder.{key_eq}
use Rattle.sibling_register.specs.History.{Event, count_of, is_update}
use Rattle.actor_epoch.specs.declared.Dot.{Dot}
use Rattle.actor_epoch.specs.Dots.{covers, counter_in, union}
use Rattle.actor_epoch.specs.Given.{Context}
use Rattle.dvv_set.specs.Clocks.{show_cmp, sync, value_in}
use Rattle.dvv_set.proofs.Orders.{show_cmp_total}
use Rattle.dvv_set.proofs.Live.{show_cmp-same, dot_eq-same, is_sorted-sync}
use Rattle.vnode_machine.specs.Machine.{clock_of, pairs_of}
use Rattle.vnode_machine.specs.Replay.{replay}
use Rattle.vnode_machine.proofs.Keys.{key_eq-same}
use Rattle.vnode_machine.proofs.Tests.{and_right}
use Rattle.copy_laws.specs.Copies.{Copy, LogEntry, Command, Copied, Closed, count_brought as brought_count}
use Rattle.copy_laws.specs.Sides.{Partition, takes_all}
use Rattle.copy_laws.specs.CopyReplay.{PassesBy, IsUntouchedBy}
use Rattle.copy_laws.specs.Joining.{Log, Fallbacks, IsJoined, IsDiversion, HasDot, value_at}
use Rattle.copy_laws.proofs.Tests.{le-test, test-le}
use Rattle.copy_laws.proofs.Splits.{none-left, none-right}
use Rattle.copy_laws.proofs.Clocks.{Clock, knows, synced, value-synced}
use Rattle.copy_laws.proofs.Since.{Since, forgets, is_forgotten_in, clock_at, dot_given, IsUpdate, TakesAway, GivesValue, knows-through, knows-since, gone-since, value-since, sync-at}
use Rattle.copy_laws.proofs.Later.{H, are_updates, count-later}
use Rattle.copy_laws.proofs.Fallback.{dot_eq-refl}
use Rattle.copy_laws.proofs.Numbered.{number-within}
use Rattle.copy_laws.proofs.Brought.{BroughtBy, count_brought, brought-by, brought-later, brought-here, brought-at, is_seen, SeenBy, seen-by}
use Rattle.copy_laws.proofs.PrimaryDots.{no-close}
use Rattle.copy_laws.proofs.Tracked.{unknown-before}
use Rattle.copy_laws.proofs.OwnCommands.{part-at}
use Rattle.copy_laws.proofs.JoinedFacts.{Dotted, IsOfFallback, of-fallback, dotted-prefix, copy-knows, copy-sibling, quiet-since}
use Rattle.copy_laws.proofs.Ordered.{sorted-at}
use Rattle.copy_laws.proofs.KnownPairs.{copy-pairs, log-pairs, union-known, counters-below}
use Rattle.copy_laws.proofs.KnownCome.{copy-value-known, value-known, known-come}
use Rattle.copy_laws.proofs.Takers.{Taker, taker, taker_dot, taker_number, taker-dot, taker-within, gone-taken}

-- a command's context covers the dot of a fallback's number only where copies had brought the number
abbrev pub NamesBrought : Partition → Log → Fallbacks → Key → Type 0
NamesBrought partition primary fallbacks key =
    (n j : ℕ) (dot : Dot) → IsDiversion partition primary fallbacks key n → HasDot partition primary fallbacks key (record { side = n; number = j }) dot
    → (later : Log) (event : Event Content Context) (before : Log) → later ++ Command event ∷ before ≡ primary → key_eq event.key key ≡ true
    → covers (pairs_of event.context) dot ≡ true → j ≤ count_brought key before n

module _ (partition : Partition) (primary : Log) (fallbacks : Fallbacks) (key : Key) (joined : IsJoined partition primary fallbacks key) where
  abbrev v : ℕ
  v = partition.primary

  abbrev l : ℕ
  l = partition.last_epoch

  abbrev clock : Log → Clock
  clock log = clock_at v l key log

  true_false : true ≡ false → ⊥
  true_false e = cc

  none_some : (value : Option Content) → None ≡ Some value → ⊥
  none_some value e = cc

  -- a copy that changes no known dot takes no value away
  module _ (later : Log) (copy : Copy Content) (before : Log) (is : later ++ Copied copy ∷ before ≡ primary) (itself : key_eq copy.key key ≡ true) (quiet : is_forgotten_in key later ≡ false)
      (known_all : (dot : Dot) → knows copy.clock dot ≡ true → knows (clock before) dot ≡ true) (names : NamesBrought partition primary fallbacks key) where
    facts : IsOfFallback partition primary fallbacks key joined copy
    facts = of-fallback partition primary fallbacks key joined later copy before is itself

    abbrev n : ℕ
    n = copy.diversion

    to : (later ++ Copied copy ∷ []) ++ before ≡ primary
    to = append_assoc later (Copied copy ∷ []) before ∙ is

    module _ (dot : Dot) (value : Option Content) (live : value_at (clock before) dot ≡ Some value) (t : Taker partition.fallback (partition.opened n) key copy.prefix dot) where
      abbrev own : Dot
      own = taker_dot partition.fallback (partition.opened n) key copy.prefix dot t

      abbrev j : ℕ
      j = taker_number partition.fallback (partition.opened n) key copy.prefix dot t

      j_within : j ≤ count_of copy.prefix key
      j_within = taker-within partition.fallback (partition.opened n) key copy.prefix dot t

      dotted : Dotted partition primary fallbacks key joined n j own
      dotted = dotted-prefix partition primary fallbacks key joined copy facts j own (taker-dot partition.fallback (partition.opened n) key copy.prefix dot t facts.replays)

      come : (j ≤ count_brought key before n) ⊎ (is_seen key (record { side = n; number = j }) own before ≡ true)
      come =
          known-come partition primary fallbacks key joined n j own facts.diversion dotted
          (let most : count_of copy.prefix key ≤ count_brought key primary n = subst (λ t. count_of copy.prefix key ≤ count_brought key t n) is (brought-at key later copy before itself) in
          let few = j_within in omega (arith, most, few))
          (later ++ Copied copy ∷ []) before to
          (known_all own (copy-knows partition primary fallbacks key joined copy facts j own j_within dotted))

      quiet_from : (later' log : Log) → later' ++ log ≡ primary → (j ≤ count_brought key log n) ⊎ (is_seen key (record { side = n; number = j }) own log ≡ true) → is_forgotten_in key later' ≡ false
      quiet_from later' log e h = quiet-since partition primary fallbacks key joined later copy before is itself quiet j own j_within dotted later' log e h

      gone : Since key (TakesAway v l key dot) before → ⊥
      gone s = none_some value (sym (gone-since v l key dot before s).1 ∙ live)

      shift : (inner : Log) (entry : LogEntry Content) (rest : Log) → inner ++ entry ∷ rest ≡ before → (later ++ Copied copy ∷ inner) ++ entry ∷ rest ≡ primary
      shift inner entry rest e = append_assoc later (Copied copy ∷ inner) (entry ∷ rest) ∙ ap (λ x. later ++ Copied copy ∷ x) e ∙ is

      -- a copy that brought the command took the value away
      by_copy : j ≤ count_brought key before n → ⊥
      by_copy h = at (brought-by key before n j (omega arith) h)
        where
          at : BroughtBy key before n j → ⊥
          at b =
              let whole : (later ++ Copied copy ∷ b.later) ++ Copied b.copy ∷ b.before ≡ primary = shift b.later (Copied b.copy) b.before b.is in
              let facts_b = of-fallback partition primary fallbacks key joined (later ++ Copied copy ∷ b.later) b.copy b.before whole b.itself in
              let reaches : j ≤ count_brought key (Copied b.copy ∷ b.before) n =
              (let most : count_of b.copy.prefix key ≤ count_brought key (Copied b.copy ∷ b.before) n = subst (λ s. count_of b.copy.prefix key ≤ count_brought key (Copied b.copy ∷ b.before) s) b.side (brought-here key b.copy b.before b.itself) in
              let few = b.reaches in omega (arith, most, few)) in
              let quiet_all : is_forgotten_in key (later ++ Copied copy ∷ b.later) ≡ false = quiet_from (later ++ Copied copy ∷ b.later) (Copied b.copy ∷ b.before) whole (inl reaches) in
              let quiet_b : is_forgotten_in key b.later ≡ false = none-right (forgets key) (Copied copy ∷ []) b.later (none-right (forgets key) later (Copied copy ∷ b.later) quiet_all) in
              let there = taken_there b.copy facts_b b.side b.reaches in
              gone (record { entry = Copied b.copy; later = b.later; before = b.before; is = b.is; quiet = quiet_b; holds = (b.itself, there.0, there.1) })
            where
              -- its prefix has the command
              taken_there : (c : Copy Content) → IsOfFallback partition primary fallbacks key joined c → c.diversion ≡ n → j ≤ count_of c.prefix key → (knows c.clock dot ≡ true) × (value_at c.clock dot ≡ None)
              taken_there c f side reaches =
                  elim (part-at f.gap c.prefix (facts.gap ++ t.later) t.event t.before same_history) [
                    | inl (inner, p, q) ↦ within inner p
                    | inr (inner, p) ↦ absurd (short inner p)
                  ]
                where
                  same_history : f.gap ++ c.prefix ≡ (facts.gap ++ t.later) ++ t.event ∷ t.before
                  same_history = f.begins ∙ ap fallbacks side ∙ sym facts.begins ∙ ap (λ h. facts.gap ++ h) (sym t.is) ∙ sym (append_assoc facts.gap t.later (t.event ∷ t.before))

                  short : (inner : H) → inner ++ c.prefix ≡ t.before → ⊥
                  short inner p =
                      let more : count_of c.prefix key ≤ count_of t.before key = subst (λ h. count_of c.prefix key ≤ count_of h key) p (count-later key inner c.prefix) in
                      omega (arith, more, reaches)

                  within : (inner : H) → c.prefix ≡ inner ++ t.event ∷ t.before → (knows c.clock dot ≡ true) × (value_at c.clock dot ≡ None)
                  within inner p =
                      let gone_there = gone-taken partition.fallback (partition.opened n) key copy.prefix dot t inner (ap (are_updates key) (sym p) ∙ f.updates) in
                      let clock_is : c.clock ≡ clock_of (replay partition.fallback (partition.opened n) (inner ++ t.event ∷ t.before)) key =
                      f.clock_is ∙ ap (λ s. clock_of (replay partition.fallback (partition.opened s) c.prefix) key) side ∙ ap (λ h. clock_of (replay partition.fallback (partition.opened n) h) key) p in
                      (ap (λ x. knows x dot) clock_is ∙ gone_there.0, ap (λ x. value_at x dot) clock_is ∙ gone_there.1)

      -- and it had come before a command whose context covers its dot
      by_command : SeenBy key (record { side = n; number = j }) own before → ⊥
      by_command s = at s.event.context refl s.saw
        where
          whole : (later ++ Copied copy ∷ s.later) ++ Command s.event ∷ s.before ≡ primary
          whole = shift s.later (Command s.event) s.before s.is

          here : j ≤ count_brought key s.before n → ⊥
          here h =
              let up : count_brought key s.before n ≤ count_brought key before n =
              subst (λ t. count_brought key s.before n ≤ count_brought key t n) (append_assoc s.later (Command s.event ∷ []) s.before ∙ s.is) (brought-later key (s.later ++ Command s.event ∷ []) s.before n) in
              by_copy (omega (arith, h, up))

          at : (context : Option Context) → s.event.context ≡ context
              → option_map_or (λ (x : Context). covers (pairs_of (Some x)) own) context (takes_all s.event.operation && nat_le j (brought_count s.before s.event.key n)) ≡ true → ⊥
          at (Some context) p h = here (names n j own facts.diversion dotted (later ++ Copied copy ∷ s.later) s.event s.before whole s.itself (ap (λ g. covers (pairs_of g) own) p ∙ h))
          at None p h =
              let few : j ≤ brought_count s.before s.event.key n = test-le j (brought_count s.before s.event.key n) (and_right (takes_all s.event.operation) (nat_le j (brought_count s.before s.event.key n)) h) in
              here (subst (λ k. j ≤ brought_count s.before k n) (key_eq-same s.event.key key s.itself) few)

      pub untaken : ⊥
      untaken = elim come [ inl h ↦ by_copy h | inr h ↦ by_command (seen-by key (record { side = n; number = j }) own before h) ]

    -- so its clock is the same after it
    gone-none : (dot : Dot) (value : Option Content) → value_at (clock before) dot ≡ Some value → knows copy.clock dot ≡ true → value_at copy.clock dot ≡ None → ⊥
    gone-none dot value live k none =
        untaken dot value live
        (taker partition.fallback (partition.opened n) key copy.prefix dot (ap (λ c. knows c dot) (sym facts.clock_is) ∙ k) (ap (λ c. value_at c dot) (sym facts.clock_is) ∙ none))

    abbrev rule : Dot → (ko ko' : Bool) → Option (Option Content) → Option (Option Content) → Option (Option Content)
    rule dot ko ko' o o' = synced (clock before) copy.clock dot ko ko' (is_some o') o o'

    kept : (dot : Dot) (x : Option Content) → value_in (clock before) copy.clock (dot, x) ≡ x
    kept dot x =
        ap (λ b. cond b x (unwrap_or (value_at copy.clock dot) x))
        (le-test (counter_in copy.clock.known dot.actor) (counter_in (clock before).known dot.actor) (counters-below (clock before).known copy.clock.known known_all dot.actor))

    value-same : (dot : Dot) → value_at (sync (clock before) copy.clock) dot ≡ value_at (clock before) dot
    value-same dot = value-synced (clock before) copy.clock dot ∙ by (knows (clock before) dot) refl (knows copy.clock dot) refl (value_at (clock before) dot) refl (value_at copy.clock dot) refl
      where
        by : (ko : Bool) → knows (clock before) dot ≡ ko → (ko' : Bool) → knows copy.clock dot ≡ ko' → (o : Option (Option Content)) → value_at (clock before) dot ≡ o → (o' : Option (Option Content)) → value_at copy.clock dot ≡ o'
            → rule dot ko ko' o o' ≡ o
        by true p true p' None q None q' = refl
        by true p true p' None q (Some y) q' = refl
        by true p false p' None q None q' = refl
        by true p false p' None q (Some y) q' = refl
        by false p true p' None q o' q' = absurd (true_false (sym (known_all dot p') ∙ p))
        by false p false p' None q None q' = refl
        by false p false p' None q (Some y) q' = absurd (true_false (sym (copy-value-known partition primary fallbacks key joined copy facts dot y q') ∙ p'))
        by false p ko' p' (Some x) q o' q' = absurd (true_false (sym (value-known partition primary fallbacks key joined (later ++ Copied copy ∷ []) before to dot x q) ∙ p))
        by true p true p' (Some x) q None q' = absurd (gone-none dot x q p' q')
        by true p true p' (Some x) q (Some y) q' = ap (λ v. Some v) (kept dot x)
        by true p false p' (Some x) q None q' = ap (λ v. Some v) (kept dot x)
        by true p false p' (Some x) q (Some y) q' = ap (λ v. Some v) (kept dot x)

    pub copy-same : clock (Copied copy ∷ before) ≡ clock before
    copy-same =
        sync-at v l key copy before itself
        ∙ (λ i. record { known = known_same i; live = live_same i })
      where
        known_same : union (clock before).known copy.clock.known ≡ (clock before).known
        known_same =
            union-known (clock before).known copy.clock.known (log-pairs partition primary fallbacks key joined (later ++ Copied copy ∷ []) before to)
            (copy-pairs partition primary fallbacks key joined copy facts) known_all

        live_same : (sync (clock before) copy.clock).live ≡ (clock before).live
        live_same =
            same_entries show_cmp show_cmp_total show_cmp-same (sync (clock before) copy.clock).live (clock before).live
            (is_sorted-sync (clock before) copy.clock (sorted-at v l key before)) (sorted-at v l key before) value-same

  -- the key isn't forgotten between, no command changes it, and no copy does
  module _ (between position : Log) (is : between ++ position ≡ primary) (same : (clock position).known ≡ (clock primary).known)
      (dot : Dot) (value : Option Content) (live : value_at (clock primary) dot ≡ Some value) (names : NamesBrought partition primary fallbacks key) where
    known-there : (d : Dot) → knows (clock primary) d ≡ true → knows (clock position) d ≡ true
    known-there d h = ap (λ ps. covers ps d) same ∙ h

    quiet_between : is_forgotten_in key between ≡ false
    quiet_between = by (value-since v l key dot value primary live)
      where
        known_end : knows (clock position) dot ≡ true
        known_end = known-there dot (value-known partition primary fallbacks key joined [] primary refl dot value live)

        at : (entry : LogEntry Content) (later before : Log) (e : later ++ entry ∷ before ≡ primary) → is_forgotten_in key later ≡ false → GivesValue v l key dot value entry before
            → (inner : Log) → inner ++ position ≡ before → is_forgotten_in key between ≡ false
        at (Command event) later before e q g inner p =
            absurd (unknown-before partition primary fallbacks key joined later event before e g.0 inner position p
            (ap (knows (clock position)) (dot_eq-same (dot_given v l key before event) dot g.1) ∙ known_end))
        at (Copied copy) later before e q g inner p =
            let facts = of-fallback partition primary fallbacks key joined later copy before e g.0 in
            let sibling = copy-sibling partition primary fallbacks key joined copy facts dot value g.1 in
            let few = number-within partition.fallback (partition.opened copy.diversion) key copy.prefix sibling.number dot sibling.dot_is in
            let dotted = dotted-prefix partition primary fallbacks key joined copy facts sibling.number dot sibling.dot_is in
            let most : count_of copy.prefix key ≤ count_brought key primary copy.diversion = subst (λ t. count_of copy.prefix key ≤ count_brought key t copy.diversion) e (brought-at key later copy before g.0) in
            quiet-since partition primary fallbacks key joined later copy before e g.0 q sibling.number dot few dotted between position is
            (known-come partition primary fallbacks key joined copy.diversion sibling.number dot facts.diversion dotted (omega (arith, most, few)) between position is known_end)
        at (Closed number) later before e q g inner p = absurd g

        by : Since key (GivesValue v l key dot value) primary → is_forgotten_in key between ≡ false
        by s =
            elim (part-at between position s.later s.entry s.before (is ∙ sym s.is)) [
              | inl (inner, p, q) ↦ none-left (forgets key) between inner (ap (is_forgotten_in key) (sym q) ∙ s.quiet)
              | inr (inner, p) ↦ at s.entry s.later s.before s.is s.quiet s.holds inner p
            ]

    -- a part of what lies between
    module _ (a : Log) (entry : LogEntry Content) (b : Log) (parts : a ++ entry ∷ b ≡ between) where
      whole : a ++ entry ∷ (b ++ position) ≡ primary
      whole = sym (append_assoc a (entry ∷ b) position) ∙ ap (λ t. t ++ position) parts ∙ is

      quiet_a : is_forgotten_in key a ≡ false
      quiet_a = none-left (forgets key) a (entry ∷ b) (ap (is_forgotten_in key) parts ∙ quiet_between)

      quiet_rest : is_forgotten_in key (entry ∷ b) ≡ false
      quiet_rest = none-right (forgets key) a (entry ∷ b) (ap (is_forgotten_in key) parts ∙ quiet_between)

      quiet_b : is_forgotten_in key b ≡ false
      quiet_b = none-right (forgets key) (entry ∷ []) b quiet_rest

    no-update : (a : Log) (event : Event Content Context) (b : Log) → a ++ Command event ∷ b ≡ between → IsUpdate v l key event → ⊥
    no-update a event b parts u =
        unknown-before partition primary fallbacks key joined a event (b ++ position) (whole a (Command event) b parts) u b position refl
        (known-there (dot_given v l key (b ++ position) event)
        (knows-since v l key (dot_given v l key (b ++ position) event) primary (record {
          entry = Command event;
          later = a;
          before = b ++ position;
          is = whole a (Command event) b parts;
          quiet = quiet_a a (Command event) b parts;
          holds = (u, inl (dot_eq-refl v l key (dot_given v l key (b ++ position) event)));
        })))

    no-change : (a : Log) (copy : Copy Content) (b : Log) → a ++ Copied copy ∷ b ≡ between → key_eq copy.key key ≡ true → clock (Copied copy ∷ b ++ position) ≡ clock (b ++ position)
    no-change a copy b parts e =
        copy-same a copy (b ++ position) (whole a (Copied copy) b parts) e (quiet_a a (Copied copy) b parts)
        (λ d k. knows-through v l key b position d (quiet_b a (Copied copy) b parts)
        (known-there d (knows-since v l key d primary (record {
          entry = Copied copy;
          later = a;
          before = b ++ position;
          is = whole a (Copied copy) b parts;
          quiet = quiet_a a (Copied copy) b parts;
          holds = (e, k);
        })))) names

    passes : (a : Log) (entry : LogEntry Content) (b : Log) → a ++ entry ∷ b ≡ between → PassesBy partition (b ++ position) key entry
    passes a (Command event) b parts = by (key_eq event.key key) refl (is_update event.operation) refl
      where
        by : (x : Bool) → key_eq event.key key ≡ x → (u : Bool) → is_update event.operation ≡ u → not (key_eq event.key key) ≡ true
        by true p true q = absurd (no-update a event b parts (p, q))
        by true p false q =
            let test : forgets key (Command event) ≡ true = (λ i. p i && not (q i)) in
            absurd (true_false (sym test ∙ first (forgets key (Command event)) (is_forgotten_in key b) (quiet_rest a (Command event) b parts)))
          where
            first : (x y : Bool) → (x || y) ≡ false → x ≡ false
            first true y h = h
            first false y h = refl
        by false p u q = ap not p
    passes a (Copied copy) b parts = by (key_eq copy.key key) refl
      where
        by : (x : Bool) → key_eq copy.key key ≡ x → (not (key_eq copy.key key) ≡ true) ⊎ (clock (Copied copy ∷ b ++ position) ≡ clock (b ++ position))
        by true p = inr (no-change a copy b parts p)
        by false p = inl (ap not p)
    passes a (Closed number) b parts = absurd (no-close partition primary fallbacks key joined a (b ++ position) number (whole a (Closed number) b parts))

    untouched-by : (a b : Log) → a ++ b ≡ between → IsUntouchedBy partition b position key
    untouched-by a [] parts = tt
    untouched-by a (entry ∷ b) parts = (passes a entry b parts, untouched-by (a ++ entry ∷ []) b (append_assoc a (entry ∷ []) b ∙ parts))

    pub untouched : IsUntouchedBy partition between position key
    untouched = untouched-by [] between refl
