-- Of a hand-off: where the primary's clock has the last fallback's last dot of a key, copies brought all of the key.
use Rattle.std.proofs.Common.{◌≡◌, ℕ, ◌<◌, ◌≤◌, Bool, true, false, cond, [], ◌∷◌, ◌++◌, refl, sym, ◌∙◌, ap, arith, subst, inl, inr}
use Rattle.std.specs.Prelude.{Option, Some, None, MatchBool}
use Rattle.std.proofs.lemmas.List.{append_assoc}
use Rattle.std.proofs.lemmas.Bool.{cases_lt}
use Rattle.riak_msgs.specs.declared.Key.{Key}
use Rattle.riak_msgs.specs.Contents.{Content}
use Rattle.riak_msgs.specs.KeyOrder.{key_eq}
use Rattle.sibling_register.specs.History.{Event, Operation, Write, Tombstone, Reap, count_of, is_update}
use Rattle.actor_epoch.specs.declared.Dot.{Dot}
use Rattle.actor_epoch.specs.Dots.{dot_eq, covers}
use Rattle.actor_epoch.specs.Given.{Context}
use Rattle.dvv_set.proofs.Live.{dot_eq-same}
use Rattle.vnode_machine.specs.Machine.{clock_of, pairs_of}
use Rattle.vnode_machine.specs.Lives.{dot_of, lives_begun}
use Rattle.vnode_machine.specs.Replay.{replay, HasReplay}
use Rattle.vnode_machine.proofs.Keys.{key_eq-same}
use Rattle.vnode_machine.proofs.Updates.{closed-kept}
use Rattle.copy_laws.specs.Copies.{Copy, Command, Copied, Closed, commands_of, brought, count_brought as brought_count}
use Rattle.copy_laws.specs.Sides.{Partition, Number}
use Rattle.copy_laws.specs.CopyReplay.{primary_after, HasEntries}
use Rattle.copy_laws.specs.Joining.{Log, Fallbacks, IsHandOff, IsTrueCopy, HasDot, HasCome, NamesWhatCame, SidesRise}
use Rattle.copy_laws.specs.LastDots.{knows_last_dot, last_fallback, LastDotBringsAll}
use Rattle.copy_laws.proofs.Tests.{not_zero, one_of_three, one_of_two}
use Rattle.copy_laws.proofs.Clocks.{knows, knows-sync, taken_pairs, clock-other, clock-reap, clock-uncopied}
use Rattle.copy_laws.proofs.Since.{state_at, clock_at, pairs_at, dot_given, IsUpdate, knows-at, sync-at}
use Rattle.copy_laws.proofs.LifeDots.{IsOf, begun-more, dot-of, latest-of, one-number}
use Rattle.copy_laws.proofs.Later.{H, legal-before, replay-before}
use Rattle.copy_laws.proofs.Numbered.{number-known, unknown-to-come}
use Rattle.copy_laws.proofs.Brought.{count_brought, brought-more, brought-here}
use Rattle.copy_laws.proofs.Tracked.{exact-at}
use Rattle.copy_laws.proofs.Positions.{joined-then, brought-most}
use Rattle.copy_laws.proofs.LastDots.{last-known}

-- lives that began earlier began
begun-later : (later before : H) → lives_begun before ≤ lives_begun (later ++ before)
begun-later [] before = omega arith
begun-later (event ∷ later) before = let a = begun-later later before in let b = begun-more 0 0 event (later ++ before) in omega (arith, a, b)

module _ (partition : Partition) (primary : Log) (fallbacks : Fallbacks) (key : Key) (off : IsHandOff partition primary fallbacks key) (rise : SidesRise partition fallbacks)
    (came : NamesWhatCame partition primary fallbacks key) (some : 1 ≤ partition.diversions) where
  abbrev v : ℕ
  v = partition.primary

  abbrev l : ℕ
  l = partition.last_epoch

  abbrev w : ℕ
  w = partition.fallback

  abbrev n : ℕ
  n = partition.diversions

  module _ (j : ℕ) (dot : Dot) (dot_is : dot_of partition.fallback (partition.opened partition.diversions) (fallbacks partition.diversions) key j ≡ Some dot) where
    abbrev number : Number
    number = record { side = partition.diversions; number = j }

    of : IsOf w (partition.opened n) (lives_begun (fallbacks n)) dot
    of = dot-of w (partition.opened n) (fallbacks n) key j dot dot_is

    dotted : HasDot partition primary fallbacks key number dot
    dotted = ap (λ b. cond b (dot_of v l (commands_of primary) key j) (dot_of w (partition.opened n) (fallbacks n) key j)) (not_zero n some) ∙ dot_is

    -- no command of the primary has the dot
    not-own : (gap : Log) (event : Event Content Context) (before : Log) → gap ++ Command event ∷ before ≡ primary → IsUpdate v l key event → dot_eq (dot_given v l key before event) dot ≡ true → ⊥
    not-own gap event before e u given =
        let legal : HasEntries partition key (Command event ∷ before) = legal-before partition key gap (Command event ∷ before) (subst (HasEntries partition key) (sym e) off.primary_legal) in
        let open_then = closed-kept (primary_after partition before) event.key event.context event.operation ∙ legal.1 in
        let joined = joined-then partition primary fallbacks key off gap (Command event ∷ before) e open_then in
        let latest = exact-at partition (Command event ∷ before) (brought (Command event ∷ before) key) key joined [] event before refl u in
        let vnode = (latest-of v l (event ∷ commands_of before) key (dot_given v l key before event) latest).vnode_is in
        let here : dot.actor.vnode ≡ v = subst (λ (d : Dot). d.actor.vnode ≡ v) (dot_eq-same (dot_given v l key before event) dot given) vnode in
        let there = of.vnode_is in
        let ids = rise.ids in
        omega (arith, here, there, ids)

    -- who has the dot is the number
    same-number : (before : Log) (other : Number) → other.side ≡ n → HasDot partition primary fallbacks key other dot → HasCome partition primary fallbacks key before other → j ≤ count_brought key before n
    same-number before other same has come =
        let side : 1 ≤ other.side = omega (arith, some, same) in
        let there : dot_of w (partition.opened other.side) (fallbacks other.side) key other.number ≡ Some dot =
        sym (ap (λ b. cond b (dot_of v l (commands_of primary) key other.number) (dot_of w (partition.opened other.side) (fallbacks other.side) key other.number)) (not_zero other.side side)) ∙ has in
        let here : dot_of w (partition.opened n) (fallbacks n) key other.number ≡ Some dot = subst (λ s. dot_of w (partition.opened s) (fallbacks s) key other.number ≡ Some dot) same there in
        let one = one-number w (partition.opened n) (fallbacks n) key other.number j dot here dot_is in
        let reached : other.number ≤ count_brought key before other.side =
        subst (λ b. MatchBool b (other.number ≤ count_of (commands_of before) key) (other.number ≤ count_brought key before other.side)) (not_zero other.side side) come in
        let most : other.number ≤ count_brought key before n = subst (λ s. other.number ≤ count_brought key before s) same reached in
        omega (arith, one, most)

    -- a context that was given at the primary covers it where it was brought
    by-context : (gap : Log) (event : Event Content Context) (before : Log) → gap ++ Command event ∷ before ≡ primary → key_eq event.key key ≡ true → covers (pairs_of event.context) dot ≡ true
        → j ≤ count_brought key before n
    by-context gap event before e p h =
        let c = came.given gap before event e p dot of.vnode_is h in
        same-number before c.0 (off.apart c.0 number dot c.1 dotted) c.1 c.2

    -- so does a copy
    copied : (gap : Log) (copy : Copy Content) (before : Log) → gap ++ Copied copy ∷ before ≡ primary → key_eq copy.key key ≡ true → knows copy.clock dot ≡ true
        → j ≤ count_brought key (Copied copy ∷ before) n
    copied gap copy before e p h = elim (cases_lt copy.diversion n) [ inl lt ↦ absurd (earlier lt) | inr ge ↦ last ge ]
      where
        one : IsTrueCopy partition primary fallbacks key copy
        one = off.copies gap before copy (e, p)

        there : knows (clock_of (replay partition.fallback (partition.opened copy.diversion) copy.prefix) key) dot ≡ true
        there = ap (λ c. knows c dot) (sym one.clock) ∙ h

        replays : HasReplay partition.fallback (partition.opened copy.diversion) copy.prefix
        replays = replay-before w (partition.opened copy.diversion) one.begins.0 copy.prefix (subst (HasReplay w (partition.opened copy.diversion)) (sym one.begins.1) (off.fallbacks_legal copy.diversion one.diversion))

        earlier : copy.diversion < partition.diversions → ⊥
        earlier lt =
            let after = of.after in
            let until = of.until in
            let rises = rise.epochs copy.diversion n lt (omega (arith, after, until)) in
            let begun : lives_begun copy.prefix ≤ lives_begun (fallbacks copy.diversion) = subst (λ (t : H). lives_begun copy.prefix ≤ lives_begun t) one.begins.1 (begun-later one.begins.0 copy.prefix) in
            unknown-to-come w (partition.opened copy.diversion) key copy.prefix replays dot (of.vnode_is, inl (omega (arith, after, rises, begun))) there

        last : partition.diversions ≤ copy.diversion → j ≤ brought_count (Copied copy ∷ before) key partition.diversions
        last ge =
            let le : copy.diversion ≤ n = one.diversion.1 in
            let same : copy.diversion ≡ n = omega (arith, le, ge) in
            let whole : dot_of w (partition.opened copy.diversion) (one.begins.0 ++ copy.prefix) key j ≡ Some dot =
            ap (λ t. dot_of w (partition.opened copy.diversion) t key j) one.begins.1 ∙ ap (λ s. dot_of w (partition.opened s) (fallbacks s) key j) same ∙ dot_is in
            let reaches = number-known w (partition.opened copy.diversion) key one.begins.0 copy.prefix replays j dot whole there in
            let most : count_of copy.prefix key ≤ count_brought key (Copied copy ∷ before) n = subst (λ s. count_of copy.prefix key ≤ count_brought key (Copied copy ∷ before) s) same (brought-here key copy before p) in
            omega (arith, reaches, most)

    -- where the primary knows the dot, its number was brought
    known-brought : (gap log : Log) → gap ++ log ≡ primary → knows (clock_at v l key log) dot ≡ true → j ≤ count_brought key log n
    known-brought gap [] e h = cc
    known-brought gap (Command event ∷ before) e h =
        by (known-brought (gap ++ Command event ∷ []) before (append_assoc gap (Command event ∷ []) before ∙ e)) (key_eq event.key key) refl (is_update event.operation) refl
      where
        context : key_eq event.key key ≡ true → (given : Context) → event.context ≡ Some given → covers (pairs_of (Some given)) dot ≡ true → j ≤ brought_count before key partition.diversions
        context p given q h = by-context gap event before e p (ap (λ o. covers (pairs_of o) dot) q ∙ h)

        taken : (knows (clock_at partition.primary partition.last_epoch key before) dot ≡ true → j ≤ brought_count before key partition.diversions) → key_eq event.key key ≡ true
            → (given : Option Context) → event.context ≡ given → (operation : Operation Content)
            → covers (taken_pairs (state_at partition.primary partition.last_epoch key before) event.key given operation) dot ≡ true → j ≤ brought_count before key partition.diversions
        taken rest p (Some given) q (Write content) h = context p given q h
        taken rest p (Some given) q Tombstone h = context p given q h
        taken rest p None q (Write content) h = cc
        taken rest p None q Tombstone h = rest (ap (λ x. knows (clock_of (state_at v l key before) x) dot) (sym (key_eq-same event.key key p)) ∙ h)
        taken rest p given q Reap h = cc

        by : (knows (clock_at partition.primary partition.last_epoch key before) dot ≡ true → j ≤ brought_count before key partition.diversions) → (a : Bool) → key_eq event.key key ≡ a
            → (u : Bool) → is_update event.operation ≡ u → j ≤ brought_count before key partition.diversions
        by rest true p true q =
            elim (one_of_three (dot_eq (dot_given v l key before event) dot) (knows (clock_at v l key before) dot) (covers (pairs_at v l key before event) dot) (sym (knows-at v l key event before (p, q) dot) ∙ h)) [
              | inl x ↦ absurd (not-own gap event before e (p, q) x)
              | inr (inl x) ↦ rest x
              | inr (inr x) ↦ taken rest p event.context refl event.operation x
            ]
        by rest true p false q = let no : false ≡ true = sym (ap (λ c. knows c dot) (clock-reap (state_at v l key before) event.key key event.context event.operation p q)) ∙ h in cc
        by rest false p u q = rest (sym (ap (λ c. knows c dot) (clock-other (state_at v l key before) event.key key event.context event.operation p)) ∙ h)
    known-brought gap (Copied copy ∷ before) e h =
        by (known-brought (gap ++ Copied copy ∷ []) before (append_assoc gap (Copied copy ∷ []) before ∙ e)) (key_eq copy.key key) refl
      where
        more : j ≤ brought_count before key partition.diversions → j ≤ brought_count (Copied copy ∷ before) key partition.diversions
        more le = let up = brought-more key (Copied copy) before n in omega (arith, le, up)

        by : (knows (clock_at partition.primary partition.last_epoch key before) dot ≡ true → j ≤ brought_count before key partition.diversions) → (a : Bool) → key_eq copy.key key ≡ a
            → j ≤ brought_count (Copied copy ∷ before) key partition.diversions
        by rest true p =
            elim (one_of_two (knows (clock_at v l key before) dot) (knows copy.clock dot) (sym (ap (λ c. knows c dot) (sync-at v l key copy before p) ∙ knows-sync (clock_at v l key before) copy.clock dot) ∙ h)) [
              | inl x ↦ more (rest x)
              | inr x ↦ copied gap copy before e p x
            ]
        by rest false p = more (rest (sym (ap (λ c. knows c dot) (clock-uncopied (state_at v l key before) copy.key key copy.clock p)) ∙ h))
    known-brought gap (Closed closed ∷ before) e h = cc

  all-brought : count_of (fallbacks n) key ≤ count_brought key primary n → count_brought key primary n ≡ count_of (fallbacks n) key
  all-brought le = let most = brought-most partition primary fallbacks key off n in omega (arith, le, most)

  settled : knows_last_dot (clock_of (primary_after partition primary) key) (last_fallback partition primary fallbacks key) key ≡ true → count_brought key primary n ≡ count_of (fallbacks n) key
  settled h =
      let diversion : (1 ≤ n) × (n ≤ n) = (some, omega arith) in
      elim (last-known w (partition.opened n) key (fallbacks n) (off.fallbacks_legal n diversion) (off.unreaped n diversion) (clock_of (primary_after partition primary) key) h) [
        | inl none ↦ all-brought (omega (arith, none))
        | inr (dot, is, known) ↦ all-brought (known-brought (count_of (fallbacks n) key) dot is [] primary refl known)
      ]

pub last_dot_brings_all : (partition : Partition) (primary : Log) (fallbacks : Fallbacks) (key : Key) → LastDotBringsAll partition primary fallbacks key
last_dot_brings_all partition primary fallbacks key off rise came some h = settled partition primary fallbacks key off rise came some h
