-- Where contexts were shown, those of a log name what had come.
use Rattle.std.proofs.Common.{◌≡◌, ◌∙◌, ◌++◌, ◌≤◌, ◌<◌, ℕ, Bool, true, false, cond, List, [], ◌∷◌, append_assoc, length, length-append, ◌+◌, refl, sym, ap, subst, arith, inl, inr}
use Rattle.std.specs.Prelude.{◌⊎◌, ◌==◌, MatchBool, Option, Some, None, zero, suc}
use Rattle.std.specs.List.{list_any}
use Rattle.riak_msgs.specs.declared.Key.{Key}
use Rattle.riak_msgs.specs.Contents.{Content}
use Rattle.riak_msgs.specs.KeyOrder.{key_eq}
use Rattle.sibling_register.specs.History.{Event, Operation, Write, Tombstone, Reap, count_of, events_of, is_update}
use Rattle.actor_epoch.specs.declared.Dot.{Dot}
use Rattle.actor_epoch.specs.Dots.{dot_eq, covers}
use Rattle.actor_epoch.specs.Given.{Context, Pairs}
use Rattle.vnode_machine.proofs.Sights.{dot_eq-same}
use Rattle.vnode_machine.specs.Lives.{dot_of}
use Rattle.vnode_machine.specs.Machine.{clock_of, pairs_of}
use Rattle.vnode_machine.specs.Replay.{HasReplay, History, replay}
use Rattle.vnode_machine.proofs.Keys.{key_eq-same}
use Rattle.copy_laws.specs.Copies.{Copy, LogEntry, Command, Copied, Closed, commands_of, brought, count_brought as brought_count}
use Rattle.copy_laws.specs.CopyReplay.{primary_after}
use Rattle.copy_laws.specs.Joining.{Log, Fallbacks, HasCome, HasDot, IsJoined, IsTrueCopy, NamesWhatCame, SidesRise}
use Rattle.copy_laws.specs.LegalLogs.{IsLegalLog}
use Rattle.copy_laws.specs.Sides.{Partition, Number, is_covered_by}
use Rattle.copy_laws.proofs.Apart.{dots_stand_apart}
use Rattle.copy_laws.proofs.Brought.{brought-here, brought-later}
use Rattle.copy_laws.proofs.Clocks.{knows, knows-sync, taken_pairs, clock-other, clock-reap, clock-uncopied}
use Rattle.copy_laws.proofs.Fallback.{known-from}
use Rattle.copy_laws.proofs.Later.{count-later, dot-later, replay-before}
use Rattle.copy_laws.proofs.LifeDots.{dot-of, one-number}
use Rattle.copy_laws.proofs.Numbered.{number-within}
use Rattle.copy_laws.proofs.Positions.{joined-then}
use Rattle.copy_laws.proofs.PrimaryDots.{commands-append, own-number-came, own-number-dot}
use Rattle.copy_laws.proofs.Since.{clock_at, dot_given, knows-at, pairs_at, state_at, sync-at}
use Rattle.copy_laws.proofs.Tests.{not_zero, one_of_three, one_of_two}
use Rattle.copy_laws.proofs.Tracked.{exact-at}
use Rattle.handoff.specs.Joined.{CopiesNameWhatCame}
use Rattle.handoff.specs.Shown.{WasShown, WasShownBy}

-- a command of a key whose context covers a dot
record Covering (key : Key) (dot : Dot) (history : History) : Type 0 where
  pub later : History
  pub event : Event Content Context
  pub before : History
  pub is : later ++ event ∷ before ≡ history
  pub itself : key_eq event.key key ≡ true
  pub covers_it : covers (pairs_of event.context) dot ≡ true

covering : (key : Key) (dot : Dot) (history : History) → is_covered_by history key dot ≡ true → Covering key dot history
covering key dot [] h = cc
covering key dot (event ∷ before) h = by (covering key dot before) (key_eq event.key key) refl h
  where
    more : Covering key dot before → Covering key dot (event ∷ before)
    more c = record { later = event ∷ c.later; event = c.event; before = c.before; is = ap (λ (t : History). event ∷ t) c.is; itself = c.itself; covers_it = c.covers_it }

    by : (is_covered_by before key dot ≡ true → Covering key dot before) → (a : Bool) → key_eq event.key key ≡ a
        → list_any (λ (e : Event Content Context). covers (pairs_of e.context) dot) (cond a (event ∷ events_of before key) (events_of before key)) ≡ true → Covering key dot (event ∷ before)
    by rest true p h = elim (one_of_two (covers (pairs_of event.context) dot) (is_covered_by before key dot) h) [
      | inl x ↦ record { later = []; event = event; before = before; is = refl; itself = p; covers_it = x }
      | inr x ↦ more (rest x)
    ]
    by rest false p h = more (rest h)

module _ (partition : Partition) (fallbacks : Fallbacks) (key : Key) (rise : SidesRise partition fallbacks) where
  abbrev v : ℕ
  v = partition.primary

  abbrev l : ℕ
  l = partition.last_epoch

  abbrev w : ℕ
  w = partition.fallback

  -- a number with this dot stands in a log
  abbrev pub ComesBy : Log → Dot → Type 0
  ComesBy log dot = (number : Number) × HasDot partition log fallbacks key number dot × HasCome partition log fallbacks key log number

  dot-up : (gap log : Log) (number : Number) (dot : Dot) → HasDot partition log fallbacks key number dot → HasDot partition (gap ++ log) fallbacks key number dot
  dot-up gap log number dot h = by (number.side == 0) h
    where
      by : (b : Bool) → cond b (dot_of v l (commands_of log) key number.number) (dot_of w (partition.opened number.side) (fallbacks number.side) key number.number) ≡ Some dot
          → cond b (dot_of v l (commands_of (gap ++ log)) key number.number) (dot_of w (partition.opened number.side) (fallbacks number.side) key number.number) ≡ Some dot
      by true d =
          ap (λ t. dot_of v l t key number.number) (commands-append gap log)
          ∙ (dot-later key v l (commands_of gap) (commands_of log) number.number (number-within v l key (commands_of log) number.number dot d) ∙ d)
      by false d = d

  pub come-up : (gap log : Log) (number : Number) → HasCome partition log fallbacks key log number → HasCome partition (gap ++ log) fallbacks key (gap ++ log) number
  come-up gap log number h = by (number.side == 0) h
    where
      by : (b : Bool) → MatchBool b (number.number ≤ count_of (commands_of log) key) (number.number ≤ brought_count log key number.side)
          → MatchBool b (number.number ≤ count_of (commands_of (gap ++ log)) key) (number.number ≤ brought_count (gap ++ log) key number.side)
      by true c =
          let more : count_of (commands_of log) key ≤ count_of (commands_of (gap ++ log)) key
          = subst (λ t. count_of (commands_of log) key ≤ count_of t key) (sym (commands-append gap log)) (count-later key (commands_of gap) (commands_of log)) in
          omega (arith, c, more)
      by false c = let more = brought-later key gap log number.side in omega (arith, c, more)

  pub comes-later : (gap log : Log) (dot : Dot) → ComesBy log dot → ComesBy (gap ++ log) dot
  comes-later gap log dot came = (came.0, dot-up gap log came.0 dot came.1, come-up gap log came.0 came.2)

  -- what the contexts of a copy cover came before it, but numbers of its own side
  abbrev pub CoversCame : Copy Content → Log → Type 0
  CoversCame copy before =
      key_eq copy.key key ≡ true → (1 ≤ copy.diversion)
      × ((dot : Dot) → is_covered_by copy.prefix key dot ≡ true
      → (number : Number) × HasDot partition before fallbacks key number dot × ((number.side ≡ copy.diversion) ⊎ HasCome partition before fallbacks key before number))

  -- so it is with each copy and command of a log
  abbrev pub AreNamed : Log → Type 0
  AreNamed [] = Unit {0}
  AreNamed (Command event ∷ before) = (key_eq event.key key ≡ true → (dot : Dot) → covers (pairs_of event.context) dot ≡ true → ComesBy before dot) × AreNamed before
  AreNamed (Copied copy ∷ before) = CoversCame copy before × AreNamed before
  AreNamed (Closed number ∷ before) = AreNamed before

  named-behind : (later log : Log) → AreNamed (later ++ log) → AreNamed log
  named-behind [] log named = named
  named-behind (Command event ∷ later) log named = named-behind later log named.1
  named-behind (Copied copy ∷ later) log named = named-behind later log named.1
  named-behind (Closed number ∷ later) log named = named-behind later log named

  -- a number of a fallback has its vnode
  side-dot : (log : Log) (number : Number) (dot : Dot) → 1 ≤ number.side → HasDot partition log fallbacks key number dot → dot_of w (partition.opened number.side) (fallbacks number.side) key number.number ≡ Some dot
  side-dot log number dot some has =
      sym (ap (λ b. cond b (dot_of v l (commands_of log) key number.number) (dot_of w (partition.opened number.side) (fallbacks number.side) key number.number)) (not_zero number.side some)) ∙ has

  up-through : (log later : Log) (entry : LogEntry Content) (before : Log) → later ++ entry ∷ before ≡ log → (number : Number) (dot : Dot)
      → HasDot partition before fallbacks key number dot → HasDot partition log fallbacks key number dot
  up-through log later entry before is number dot has =
      subst (λ (t : Log). HasDot partition t fallbacks key number dot) (append_assoc later (entry ∷ []) before ∙ is) (dot-up (later ++ entry ∷ []) before number dot has)

  pub named-came : (log : Log) → AreNamed log → NamesWhatCame partition log fallbacks key
  named-came log named = record {
    given = λ later before event is itself dot vnode h.
        let found = (named-behind later (Command event ∷ before) (subst AreNamed (sym is) named)).0 itself dot h in
        (found.0, up-through log later (Command event) before is found.0 dot found.1, found.2);
    copied = λ later before copy stands dot vnode h.
        let one = (named-behind later (Copied copy ∷ before) (subst AreNamed (sym stands.0) named)).0 stands.1 in
        let found = one.1 dot h in
        (found.0, up-through log later (Copied copy) before stands.0 found.0 dot found.1, elim found.2 [ inl same ↦ absurd (other before copy found.0 dot one.0 same found.1 vnode) | inr came ↦ came ]);
  }
    where
      other : (before : Log) (copy : Copy Content) (number : Number) (dot : Dot) → 1 ≤ copy.diversion → number.side ≡ copy.diversion → HasDot partition before fallbacks key number dot → dot.actor.vnode ≡ partition.primary → ⊥
      other before copy number dot some same has vnode =
          let there = (dot-of w (partition.opened number.side) (fallbacks number.side) key number.number dot (side-dot before number dot (omega (arith, some, same)) has)).vnode_is in
          let ids = rise.ids in
          omega (arith, there, vnode, ids)

  -- two numbers with one dot are one
  one-of-side : (log : Log) (side n m : ℕ) (dot : Dot) → HasDot partition log fallbacks key (record { side = side; number = n }) dot → HasDot partition log fallbacks key (record { side = side; number = m }) dot → n ≡ m
  one-of-side log side n m dot h k = by (side == 0) h k
    where
      by : (b : Bool) → cond b (dot_of v l (commands_of log) key n) (dot_of w (partition.opened side) (fallbacks side) key n) ≡ Some dot
          → cond b (dot_of v l (commands_of log) key m) (dot_of w (partition.opened side) (fallbacks side) key m) ≡ Some dot → n ≡ m
      by true h k = one-number v l (commands_of log) key n m dot h k
      by false h k = one-number w (partition.opened side) (fallbacks side) key n m dot h k

  come-same : (log before : Log) (found number : Number) (dot : Dot) → HasDot partition log fallbacks key found dot → HasDot partition log fallbacks key number dot → found.side ≡ number.side
      → HasCome partition before fallbacks key before found → HasCome partition before fallbacks key before number
  come-same log before found number dot has also sides come =
      let same : found.number ≡ number.number
      = one-of-side log number.side found.number number.number dot (subst (λ s. HasDot partition log fallbacks key (record { side = s; number = found.number }) dot) sides has) also in
      subst (λ n. HasCome partition before fallbacks key before (record { side = number.side; number = n })) same
      (subst (λ s. HasCome partition before fallbacks key before (record { side = s; number = found.number })) sides come)

  pub named-contexts : (log : Log) → AreNamed log → CopiesNameWhatCame partition log fallbacks key
  named-contexts log named later before copy stands number dot has ne covered come =
      let one = (named-behind later (Copied copy ∷ before) (subst AreNamed (sym stands.0) named)).0 stands.1 in
      let found = one.1 dot covered in
      let here = up-through log later (Copied copy) before stands.0 found.0 dot found.1 in
      let sides : found.0.side ≡ number.side = dots_stand_apart partition log fallbacks key rise found.0 number dot here has in
      elim found.2 [
        | inl same ↦ absurd (ne (sym sides ∙ same))
        | inr there ↦ come-same log before found.0 number dot here has sides there
      ]

  -- what the primary knows at the positions of a log had come there
  abbrev pub IsKnown : Log → Type 0
  IsKnown log = (later position : Log) → later ++ position ≡ log → (dot : Dot) → knows (clock_at partition.primary partition.last_epoch key position) dot ≡ true → ComesBy position dot

  known-more : (entry : LogEntry Content) (log : Log) → IsKnown log → ((dot : Dot) → knows (clock_at partition.primary partition.last_epoch key (entry ∷ log)) dot ≡ true → ComesBy (entry ∷ log) dot)
      → IsKnown (entry ∷ log)
  known-more entry log known here [] position is dot h =
      subst (λ (t : Log). ComesBy t dot) (sym is) (here dot (subst (λ (t : Log). knows (clock_at partition.primary partition.last_epoch key t) dot ≡ true) is h))
  known-more entry log known here (x ∷ later) position is dot h = known later position (cc is) dot h

  pub known-none : IsKnown []
  known-none [] position is dot h = let no : knows (clock_at partition.primary partition.last_epoch key []) dot ≡ true = subst (λ (t : Log). knows (clock_at partition.primary partition.last_epoch key t) dot ≡ true) is h in cc no
  known-none (x ∷ later) position is dot h = absurd (cc is)

  -- with a command more
  pub known-command : (event : Event Content Context) (log : Log) → IsKnown log → IsLegalLog partition (Command event ∷ log) fallbacks key
      → (key_eq event.key key ≡ true → (dot : Dot) → covers (pairs_of event.context) dot ≡ true → ComesBy log dot) → IsKnown (Command event ∷ log)
  known-command event log known legal named = known-more (Command event) log known here
    where
      still : (dot : Dot) → ComesBy log dot → ComesBy (Command event ∷ log) dot
      still dot came = comes-later (Command event ∷ []) log dot came

      own : (dot : Dot) → key_eq event.key key ≡ true → is_update event.operation ≡ true → dot_eq (dot_given v l key log event) dot ≡ true → ComesBy (Command event ∷ log) dot
      own dot p q given =
          let joined : IsJoined partition (Command event ∷ log) (brought (Command event ∷ log) key) key
          = joined-then partition (Command event ∷ log) fallbacks key legal.hand_off [] (Command event ∷ log) refl legal.open_still in
          let latest = exact-at partition (Command event ∷ log) (brought (Command event ∷ log) key) key joined [] event log refl (p, q) in
          let has = own-number-dot partition (Command event ∷ log) (brought (Command event ∷ log) key) key joined [] event log refl (p, q) dot
          (latest ∙ ap (λ (d : Dot). Some d) (dot_eq-same (dot_given v l key log event) dot given)) in
          let come = own-number-came partition (Command event ∷ log) (brought (Command event ∷ log) key) key joined [] event log refl (p, q) in
          (record { side = 0; number = suc (count_of (commands_of log) key) }, has, come)

      context : (dot : Dot) → key_eq event.key key ≡ true → (given : Context) → event.context ≡ Some given → covers (pairs_of (Some given)) dot ≡ true → ComesBy (Command event ∷ log) dot
      context dot p given q h = still dot (named p dot (ap (λ (o : Option Context). covers (pairs_of o) dot) q ∙ h))

      before : (dot : Dot) → knows (clock_at partition.primary partition.last_epoch key log) dot ≡ true → ComesBy (Command event ∷ log) dot
      before dot h = still dot (known [] log refl dot h)

      taken : (dot : Dot) → key_eq event.key key ≡ true → (given : Option Context) → event.context ≡ given → (operation : Operation Content)
          → covers (taken_pairs (state_at partition.primary partition.last_epoch key log) event.key given operation) dot ≡ true → ComesBy (Command event ∷ log) dot
      taken dot p (Some given) q (Write content) h = context dot p given q h
      taken dot p (Some given) q Tombstone h = context dot p given q h
      taken dot p None q (Write content) h = cc
      taken dot p None q Tombstone h = before dot (ap (λ x. knows (clock_of (state_at v l key log) x) dot) (sym (key_eq-same event.key key p)) ∙ h)
      taken dot p given q Reap h = cc

      here : (dot : Dot) → knows (clock_at partition.primary partition.last_epoch key (Command event ∷ log)) dot ≡ true → ComesBy (Command event ∷ log) dot
      here dot h = by (key_eq event.key key) refl (is_update event.operation) refl
        where
          by : (a : Bool) → key_eq event.key key ≡ a → (u : Bool) → is_update event.operation ≡ u → ComesBy (Command event ∷ log) dot
          by true p true q =
              elim (one_of_three (dot_eq (dot_given v l key log event) dot) (knows (clock_at v l key log) dot) (covers (pairs_at v l key log event) dot) (sym (knows-at v l key event log (p, q) dot) ∙ h)) [
                | inl x ↦ own dot p q x
                | inr (inl x) ↦ before dot x
                | inr (inr x) ↦ taken dot p event.context refl event.operation x
              ]
          by true p false q = let no : false ≡ true = sym (ap (λ c. knows c dot) (clock-reap (state_at v l key log) event.key key event.context event.operation p q)) ∙ h in cc
          by false p u q = before dot (sym (ap (λ c. knows c dot) (clock-other (state_at v l key log) event.key key event.context event.operation p)) ∙ h)

  -- what a fallback knows came to the primary before its partition was diverted, or is one of its own numbers
  abbrev pub ComesThere : (start : Log) (n : ℕ) → History → Dot → Type 0
  ComesThere start n place dot = ComesBy start dot ⊎ ((j : ℕ) × (j ≤ count_of place key) × (dot_of partition.fallback (partition.opened n) (fallbacks n) key j ≡ Some dot))

  abbrev pub IsKnownThere : (start : Log) (n : ℕ) → Type 0
  IsKnownThere start n =
      (later place : History) → later ++ place ≡ fallbacks n → (dot : Dot) → knows (clock_of (replay partition.fallback (partition.opened n) place) key) dot ≡ true → ComesThere start n place dot

  -- with a copy more
  pub known-copy : (copy : Copy Content) (log start gap : Log) → IsKnown log → gap ++ start ≡ log → (key_eq copy.key key ≡ true → IsTrueCopy partition log fallbacks key copy) → IsKnownThere start copy.diversion
      → IsKnown (Copied copy ∷ log)
  known-copy copy log start gap known is true_copy there = known-more (Copied copy) log known here
    where
      before : (dot : Dot) → ComesBy log dot → ComesBy (Copied copy ∷ log) dot
      before dot came = comes-later (Copied copy ∷ []) log dot came

      copied : (dot : Dot) → key_eq copy.key key ≡ true → knows copy.clock dot ≡ true → ComesBy (Copied copy ∷ log) dot
      copied dot p h =
          let one = true_copy p in
          elim (there one.begins.0 copy.prefix one.begins.1 dot (ap (λ c. knows c dot) (sym one.clock) ∙ h)) [
            | inl came ↦ before dot (subst (λ (t : Log). ComesBy t dot) is (comes-later gap start dot came))
            | inr (j, le, d) ↦ own dot p one.diversion.0 j le d
          ]
        where
          own : (dot : Dot) → key_eq copy.key key ≡ true → 1 ≤ copy.diversion → (j : ℕ) → j ≤ count_of copy.prefix key → dot_of w (partition.opened copy.diversion) (fallbacks copy.diversion) key j ≡ Some dot → ComesBy (Copied copy ∷ log) dot
          own dot p some j le d =
              let most = brought-here key copy log p in (
                record { side = copy.diversion; number = j },
                ap (λ b. cond b (dot_of v l (commands_of log) key j) (dot_of w (partition.opened copy.diversion) (fallbacks copy.diversion) key j)) (not_zero copy.diversion some) ∙ d,
                subst (λ b. MatchBool b (j ≤ count_of (commands_of log) key) (j ≤ brought_count (Copied copy ∷ log) key copy.diversion)) (sym (not_zero copy.diversion some)) (omega (arith, le, most)),
              )

      here : (dot : Dot) → knows (clock_at partition.primary partition.last_epoch key (Copied copy ∷ log)) dot ≡ true → ComesBy (Copied copy ∷ log) dot
      here dot h = by (key_eq copy.key key) refl
        where
          by : (a : Bool) → key_eq copy.key key ≡ a → ComesBy (Copied copy ∷ log) dot
          by true p =
              elim (one_of_two (knows (clock_at v l key log) dot) (knows copy.clock dot) (sym (ap (λ c. knows c dot) (sync-at v l key copy log p) ∙ knows-sync (clock_at v l key log) copy.clock dot) ∙ h)) [
                | inl x ↦ before dot (known [] log refl dot x)
                | inr x ↦ copied dot p x
              ]
          by false p = before dot (known [] log refl dot (sym (ap (λ c. knows c dot) (clock-uncopied (state_at v l key log) copy.key key copy.clock p)) ∙ h))

  -- what the fallbacks of the first diversions know had come to this log
  abbrev pub AreKnownThere : (most : ℕ) → Log → Type 0
  AreKnownThere most log =
      (n : ℕ) → 1 ≤ n → n ≤ most → (later place : History) → later ++ place ≡ fallbacks n → (dot : Dot) → knows (clock_of (replay partition.fallback (partition.opened n) place) key) dot ≡ true → ComesBy log dot

  pairs-known : (context : Context) (known : List Dot) (dot : Dot) → context ≡ Pairs known → covers (pairs_of (Some context)) dot ≡ true → covers known dot ≡ true
  pairs-known context known dot is h = sym (ap (λ c. covers (pairs_of (Some c)) dot) is) ∙ h

  -- so a context that was shown covers what had come
  pub shown-comes : (most : ℕ) (log : Log) → IsKnown log → AreKnownThere most log → (context : Context) → WasShown partition fallbacks key most log context → (dot : Dot) → covers (pairs_of (Some context)) dot ≡ true
      → ComesBy log dot
  shown-comes most log known there context (inl here) dot h =
      subst (λ (t : Log). ComesBy t dot) here.is
      (comes-later here.later here.position dot (known here.later here.position here.is dot (pairs-known context (clock_of (primary_after partition here.position) key).known dot here.shows h)))
  shown-comes most log known there context (inr by) dot h =
      there by.diversion by.first by.last by.shown.later by.shown.place by.shown.is dot
      (pairs-known context (clock_of (replay partition.fallback (partition.opened by.diversion) by.shown.place) key).known dot by.shown.shows h)

  -- so does a fallback's own, with its own numbers
  module _ (start : Log) (n most : ℕ) (replays : HasReplay partition.fallback (partition.opened n) (fallbacks n)) (known : IsKnown start) (there : AreKnownThere most start)
      (shown : (later before : History) (event : Event Content Context) → later ++ event ∷ before ≡ fallbacks n → key_eq event.key key ≡ true → (context : Context) → event.context ≡ Some context
      → WasShown partition fallbacks key most start context ⊎ WasShownBy partition fallbacks key n before context) where
    abbrev KnownTo : ℕ → Type 0
    KnownTo size =
        (later place : History) → length place < size → later ++ place ≡ fallbacks n → (dot : Dot) → knows (clock_of (replay partition.fallback (partition.opened n) place) key) dot ≡ true → ComesThere start n place dot

    -- what a context covers in a history of which the places before are known
    covers-there : (size : ℕ) → KnownTo size → (later place : History) → length place ≤ size → later ++ place ≡ fallbacks n → (dot : Dot) → is_covered_by place key dot ≡ true → ComesThere start n place dot
    covers-there size rec later place few is dot h = by (covering key dot place h)
      where
        by : Covering key dot place → ComesThere start n place dot
        by c = at c.event.context refl c.covers_it
          where
            stands : (later ++ c.later) ++ c.event ∷ c.before ≡ fallbacks n
            stands = append_assoc later c.later (c.event ∷ c.before) ∙ (ap (λ (t : History). later ++ t) c.is ∙ is)

            given : (context : Context) → covers (pairs_of (Some context)) dot ≡ true → WasShown partition fallbacks key most start context ⊎ WasShownBy partition fallbacks key n c.before context → ComesThere start n place dot
            given context h (inl elsewhere) = inl (shown-comes most start known there context elsewhere dot h)
            given context h (inr own) = more (rec ((later ++ c.later ++ c.event ∷ []) ++ own.later) own.place short whole dot (pairs-known context (clock_of (replay w (partition.opened n) own.place) key).known dot own.shows h))
              where
                before_is : (later ++ c.later ++ c.event ∷ []) ++ c.before ≡ fallbacks n
                before_is = append_assoc (later ++ c.later) (c.event ∷ []) c.before ∙ stands

                whole : ((later ++ c.later ++ c.event ∷ []) ++ own.later) ++ own.place ≡ fallbacks n
                whole = append_assoc (later ++ c.later ++ c.event ∷ []) own.later own.place ∙ (ap (λ (t : History). (later ++ c.later ++ c.event ∷ []) ++ t) own.is ∙ before_is)

                short : length own.place < size
                short =
                    let a : length c.before ≡ length own.later + length own.place = ap length (sym own.is) ∙ length-append own.later own.place in
                    let b : length place ≡ length c.later + length (c.event ∷ c.before) = ap length (sym c.is) ∙ length-append c.later (c.event ∷ c.before) in
                    omega (arith, a, b, few)

                more : ComesThere start n own.place dot → ComesThere start n place dot
                more (inl came) = inl came
                more (inr (j, le, d)) =
                    let up : count_of own.place key ≤ count_of c.before key = subst (λ (t : History). count_of own.place key ≤ count_of t key) own.is (count-later key own.later own.place) in
                    let up' : count_of c.before key ≤ count_of place key
                    = subst (λ (t : History). count_of c.before key ≤ count_of t key) (append_assoc c.later (c.event ∷ []) c.before ∙ c.is) (count-later key (c.later ++ c.event ∷ []) c.before) in
                    inr (j, omega (arith, le, up, up'), d)

            at : (given' : Option Context) → c.event.context ≡ given' → covers (pairs_of given') dot ≡ true → ComesThere start n place dot
            at None q h = cc
            at (Some context) q h = given context h (shown (later ++ c.later) c.before c.event stands c.itself context q)

    known-to : (size : ℕ) → KnownTo size
    known-to zero later place few is dot h = absurd (omega (arith, few))
    known-to (suc size) later place few is dot h =
        elim (known-from partition.fallback (partition.opened n) key place (replay-before partition.fallback (partition.opened n) later place (subst (HasReplay partition.fallback (partition.opened n)) (sym is) replays)) dot h) [
          | inl (j, le, d) ↦ inr (j, le, ap (λ t. dot_of partition.fallback (partition.opened n) t key j) (sym is) ∙ (dot-later key partition.fallback (partition.opened n) later place j le ∙ d))
          | inr covered ↦ covers-there size (known-to size) later place (omega (arith, few)) is dot covered
        ]

    pub known-there : IsKnownThere start n
    known-there later place is dot h = known-to (suc (length place)) later place (omega arith) is dot h

    pub covers-known : (later place : History) → later ++ place ≡ fallbacks n → (dot : Dot) → is_covered_by place key dot ≡ true → ComesThere start n place dot
    covers-known later place is dot h = covers-there (length place) (known-to (length place)) later place (omega arith) is dot h
