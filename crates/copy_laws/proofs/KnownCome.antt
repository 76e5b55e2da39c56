-- A primary that knows the dot of a fallback's number had the number brought, or a command of it saw the number.
use Rattle.std.proofs.Common.{◌≡◌, ℕ, suc, ◌≤◌, Bool, true, false, ◌&&◌, [], ◌∷◌, ◌++◌, refl, sym, ◌∙◌, ap, arith, subst, inl, inr}
use Rattle.std.specs.Prelude.{◌⊎◌, ◌==◌, nat_le, Option, Some, None, MatchBool}
use Rattle.std.specs.Option.{option_map_or}
use Rattle.std.proofs.lemmas.List.{append_assoc}
use Rattle.riak_msgs.specs.declared.Key.{Key}
use Rattle.riak_msgs.specs.Contents.{Content}
use Rattle.riak_msgs.specs.KeyOrder.{key_eq}
use Rattle.sibling_register.specs.History.{Operation, Write, Tombstone, Reap, count_of, is_update}
use Rattle.actor_epoch.specs.declared.Dot.{Dot}
use Rattle.actor_epoch.specs.Dots.{dot_eq, covers}
use Rattle.actor_epoch.specs.Given.{Context}
use Rattle.dvv_set.proofs.Live.{dot_eq-same}
use Rattle.vnode_machine.specs.Machine.{clock_of, pairs_of}
use Rattle.vnode_machine.specs.Lives.{dot_of}
use Rattle.vnode_machine.specs.Replay.{replay}
use Rattle.vnode_machine.proofs.Keys.{key_eq-same}
use Rattle.vnode_machine.proofs.Tests.{nat_eq-same}
use Rattle.copy_laws.specs.Copies.{Copy, LogEntry, Command, Copied, Closed, commands_of, count_brought as brought_count}
use Rattle.copy_laws.specs.Sides.{Partition, Number, takes_all}
use Rattle.copy_laws.specs.Joining.{Log, Fallbacks, IsJoined, IsDiversion, HasCome, value_at}
use Rattle.copy_laws.proofs.Tests.{differs, not_zero, one_of_three, one_of_two}
use Rattle.copy_laws.proofs.Clocks.{knows, knows-sync, taken_pairs, clock-other, clock-reap, clock-uncopied}
use Rattle.copy_laws.proofs.Since.{Since, GivesValue, MakesKnown, state_at, clock_at, pairs_at, dot_given, IsUpdate, knows-at, knows-since, sync-at, value-since}
use Rattle.copy_laws.proofs.Fallback.{known-from}
use Rattle.copy_laws.proofs.Numbered.{number-within, number-known}
use Rattle.copy_laws.proofs.Brought.{count_brought, brought-more, brought-here, is_seen, seen-later, seen-here}
use Rattle.copy_laws.proofs.PrimaryDots.{own-number-dot}
use Rattle.copy_laws.proofs.Tracked.{exact-at}
use Rattle.copy_laws.proofs.JoinedFacts.{Dotted, IsOfFallback, of-fallback, fallback-number, dotted-prefix, copy-knows, copy-sibling}

module _ (partition : Partition) (primary : Log) (fallbacks : Fallbacks) (key : Key) (joined : IsJoined partition primary fallbacks key) where
  abbrev v : ℕ
  v = partition.primary

  abbrev l : ℕ
  l = partition.last_epoch

  -- a value that a copy has is known there
  pub copy-value-known : (copy : Copy Content) → IsOfFallback partition primary fallbacks key joined copy → (dot : Dot) (value : Option Content) → value_at copy.clock dot ≡ Some value → knows copy.clock dot ≡ true
  copy-value-known copy facts dot value h =
      let sibling = copy-sibling partition primary fallbacks key joined copy facts dot value h in
      copy-knows partition primary fallbacks key joined copy facts sibling.number dot
      (number-within partition.fallback (partition.opened copy.diversion) key copy.prefix sibling.number dot sibling.dot_is)
      (dotted-prefix partition primary fallbacks key joined copy facts sibling.number dot sibling.dot_is)

  -- and so at the primary
  pub value-known : (gap log : Log) → gap ++ log ≡ primary → (dot : Dot) (value : Option Content) → value_at (clock_at v l key log) dot ≡ Some value → knows (clock_at v l key log) dot ≡ true
  value-known gap log e dot value h = by (value-since v l key dot value log h)
    where
      makes : (entry : LogEntry Content) (later before : Log) → later ++ entry ∷ before ≡ log → GivesValue v l key dot value entry before → MakesKnown v l key dot entry before
      makes (Command event) later before is g = (g.0, inl g.1)
      makes (Copied copy) later before is g =
          (g.0, copy-value-known copy (of-fallback partition primary fallbacks key joined (gap ++ later) copy before (append_assoc gap later (Copied copy ∷ before) ∙ ap (λ t. gap ++ t) is ∙ e) g.0) dot value g.1)
      makes (Closed number) later before is g = absurd g

      by : Since key (GivesValue v l key dot value) log → knows (clock_at v l key log) dot ≡ true
      by s =
          knows-since v l key dot log
          (record { entry = s.entry; later = s.later; before = s.before; is = s.is; quiet = s.quiet; holds = makes s.entry s.later s.before s.is s.holds })

  module _ (n j : ℕ) (dot : Dot) (diversion : IsDiversion partition primary fallbacks key n) (dotted : Dotted partition primary fallbacks key joined n j dot) (came : j ≤ count_brought key primary n) where
    abbrev number : Number
    number = record { side = n; number = j }

    abbrev IsCome : Log → Type 0
    IsCome log = (j ≤ count_brought key log n) ⊎ (is_seen key number dot log ≡ true)

    come-at : (log : Log) → j ≤ count_brought key log n → HasCome partition primary fallbacks key log number
    come-at log h =
        subst (λ b. MatchBool b (j ≤ count_of (commands_of log) key) (j ≤ count_brought key log n)) (sym (not_zero n diversion.0)) h

    came-at : (log : Log) → HasCome partition primary fallbacks key log number → j ≤ count_brought key log n
    came-at log h =
        subst (λ b. MatchBool b (j ≤ count_of (commands_of log) key) (j ≤ count_brought key log n)) (not_zero n diversion.0) h

    more : (entry : LogEntry Content) (before : Log) → IsCome before → IsCome (entry ∷ before)
    more entry before (inl h) = let up = brought-more key entry before n in inl (omega (arith, h, up))
    more entry before (inr h) = inr (seen-later key number dot (entry ∷ []) before h)

    -- a copy that knows the dot brought the number, or it had come before
    copied : (gap : Log) (copy : Copy Content) (before : Log) → gap ++ Copied copy ∷ before ≡ primary → key_eq copy.key key ≡ true → knows copy.clock dot ≡ true → IsCome (Copied copy ∷ before)
    copied gap copy before e p h = by (copy.diversion == n) refl
      where
        facts : IsOfFallback partition primary fallbacks key joined copy
        facts = of-fallback partition primary fallbacks key joined gap copy before e p

        there : knows (clock_of (replay partition.fallback (partition.opened copy.diversion) copy.prefix) key) dot ≡ true
        there = ap (λ c. knows c dot) (sym facts.clock_is) ∙ h

        by : (b : Bool) → (copy.diversion == n) ≡ b → IsCome (Copied copy ∷ before)
        by true q =
            let same : copy.diversion ≡ n = nat_eq-same copy.diversion n q in
            let whole : dot_of partition.fallback (partition.opened copy.diversion) (facts.gap ++ copy.prefix) key j ≡ Some dot =
            ap (λ t. dot_of partition.fallback (partition.opened copy.diversion) t key j) facts.begins
            ∙ ap (λ s. dot_of partition.fallback (partition.opened s) (fallbacks s) key j) same ∙ fallback-number partition primary fallbacks key joined n j dot diversion.0 dotted in
            let reaches = number-known partition.fallback (partition.opened copy.diversion) key facts.gap copy.prefix facts.replays j dot whole there in
            let most : count_of copy.prefix key ≤ count_brought key (Copied copy ∷ before) n = subst (λ s. count_of copy.prefix key ≤ count_brought key (Copied copy ∷ before) s) same (brought-here key copy before p) in
            inl (omega (arith, reaches, most))
        by false q =
            elim (known-from partition.fallback (partition.opened copy.diversion) key copy.prefix facts.replays dot there) [
              | inl h ↦ absurd (differs copy.diversion n q
                  (joined.hand_off.apart (record { side = copy.diversion; number = h.0 }) number dot (dotted-prefix partition primary fallbacks key joined copy facts h.0 dot h.2) dotted))
              | inr h ↦ more (Copied copy) before
                  (inl (came-at before (joined.hand_off.contexts gap before copy (e, p) number dot dotted (λ x. differs copy.diversion n q (sym x)) h (come-at primary came))))
            ]

    pub known-come : (gap log : Log) → gap ++ log ≡ primary → knows (clock_at v l key log) dot ≡ true → IsCome log
    known-come gap [] e h = cc
    known-come gap (Command event ∷ before) e h =
        by (known-come (gap ++ Command event ∷ []) before (append_assoc gap (Command event ∷ []) before ∙ e)) (key_eq event.key key) refl (is_update event.operation) refl
      where
        own : IsUpdate v l key event → dot_eq (dot_given v l key before event) dot ≡ true → ⊥
        own u given =
            let has = own-number-dot partition primary fallbacks key joined gap event before e u dot
            (exact-at partition primary fallbacks key joined gap event before e u ∙ ap (λ d. Some d) (dot_eq-same (dot_given v l key before event) dot given)) in
            let zero_is : 0 ≡ n = joined.hand_off.apart (record { side = 0; number = suc (count_of (commands_of before) key) }) number dot has dotted in
            let one : 1 ≤ n = diversion.0 in omega (arith, zero_is, one)

        by_context : key_eq event.key key ≡ true → (context : Context) → event.context ≡ Some context → covers (pairs_of (Some context)) dot ≡ true → IsCome (Command event ∷ before)
        by_context p context q h =
            inr (seen-here key number dot event before p
            (ap (λ o. option_map_or (λ x. covers (pairs_of (Some x)) dot) o (takes_all event.operation && nat_le j (brought_count before event.key n))) q ∙ h))

        taken : (knows (clock_at v l key before) dot ≡ true → IsCome before) → key_eq event.key key ≡ true → (context : Option Context) → event.context ≡ context → (operation : Operation Content)
            → covers (taken_pairs (state_at v l key before) event.key context operation) dot ≡ true → IsCome (Command event ∷ before)
        taken rest p (Some context) q (Write content) h = by_context p context q h
        taken rest p (Some context) q Tombstone h = by_context p context q h
        taken rest p None q (Write content) h = cc
        taken rest p None q Tombstone h = more (Command event) before (rest (ap (λ x. knows (clock_of (state_at v l key before) x) dot) (sym (key_eq-same event.key key p)) ∙ h))
        taken rest p context q Reap h = cc

        by : (knows (clock_at v l key before) dot ≡ true → IsCome before) → (a : Bool) → key_eq event.key key ≡ a → (u : Bool) → is_update event.operation ≡ u → IsCome (Command event ∷ before)
        by rest true p true q =
            elim (one_of_three (dot_eq (dot_given v l key before event) dot) (knows (clock_at v l key before) dot) (covers (pairs_at v l key before event) dot) (sym (knows-at v l key event before (p, q) dot) ∙ h)) [
              | inl x ↦ absurd (own (p, q) x)
              | inr (inl x) ↦ more (Command event) before (rest x)
              | inr (inr x) ↦ taken rest p event.context refl event.operation x
            ]
        by rest true p false q = let no : false ≡ true = sym (ap (λ c. knows c dot) (clock-reap (state_at v l key before) event.key key event.context event.operation p q)) ∙ h in cc
        by rest false p u q = more (Command event) before (rest (sym (ap (λ c. knows c dot) (clock-other (state_at v l key before) event.key key event.context event.operation p)) ∙ h))
    known-come gap (Copied copy ∷ before) e h =
        by (known-come (gap ++ Copied copy ∷ []) before (append_assoc gap (Copied copy ∷ []) before ∙ e)) (key_eq copy.key key) refl
      where
        by : (knows (clock_at v l key before) dot ≡ true → IsCome before) → (a : Bool) → key_eq copy.key key ≡ a → IsCome (Copied copy ∷ before)
        by rest true p =
            elim (one_of_two (knows (clock_at v l key before) dot) (knows copy.clock dot) (sym (ap (λ c. knows c dot) (sync-at v l key copy before p) ∙ knows-sync (clock_at v l key before) copy.clock dot) ∙ h)) [
              | inl x ↦ more (Copied copy) before (rest x)
              | inr x ↦ copied gap copy before e p x
            ]
        by rest false p = more (Copied copy) before (rest (sym (ap (λ c. knows c dot) (clock-uncopied (state_at v l key before) copy.key key copy.clock p)) ∙ h))
    known-come gap (Closed closed ∷ before) e h = cc
