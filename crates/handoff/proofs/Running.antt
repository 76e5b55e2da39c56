-- The diversions of a partition, one behind another, join its keys.
use Rattle.std.proofs.Common.{◌≡◌, ◌∙◌, ◌+◌, ◌++◌, ◌≤◌, ◌<◌, ℕ, Bool, true, false, cond, List, [], ◌∷◌, append_assoc, length, refl, sym, ap, subst, arith, inl, inr}
use Rattle.std.specs.Prelude.{◌==◌, IsTrue, None, suc}
use Rattle.std.specs.List.{list_all}
use Rattle.std.proofs.lemmas.Bool.{cases_lt}
use mathlib.Core.List.{IsPrefix}
use Rattle.ring_map.specs.Ring.{id_of}
use Rattle.riak_msgs.specs.declared.Key.{Key}
use Rattle.riak_msgs.specs.Contents.{Content}
use Rattle.riak_msgs.specs.KeyOrder.{key_eq}
use Rattle.sibling_register.specs.History.{count_of, events_of, is_update}
use Rattle.vnode_machine.specs.Lives.{lives_begun}
use Rattle.vnode_machine.specs.Machine.{State, clock_of, is_held}
use Rattle.vnode_machine.specs.Replay.{HasReplay, History, IsWithinLimits, replay}
use Rattle.vnode_machine.proofs.Keys.{key_eq-same}
use Rattle.vnode_machine.proofs.Tests.{nat_eq-refl, nat_eq-same}
use Rattle.copy_laws.specs.Copies.{Copy, count_brought}
use Rattle.copy_laws.specs.CopyReplay.{HasEntries, primary_after}
use Rattle.copy_laws.specs.Joining.{Log, Fallbacks, IsHandOff, IsJoined, IsTrueCopy, NamesWhatCame, SidesRise}
use Rattle.copy_laws.specs.LastDots.{knows_last_dot}
use Rattle.copy_laws.specs.LegalLogs.{IsLegalLog}
use Rattle.copy_laws.specs.Sides.{Partition}
use Rattle.copy_laws.proofs.Apart.{dots_stand_apart}
use Rattle.copy_laws.proofs.Brought.{brought-later}
use Rattle.copy_laws.proofs.JoinLaw.{copies_join}
use Rattle.copy_laws.proofs.LastBrought.{last_dot_brings_all}
use Rattle.copy_laws.proofs.LogBefore.{logs_were_legal}
use Rattle.copy_laws.proofs.Positions.{brought-most}
use Rattle.rw_gate.specs.Views.{GateId}
use Rattle.vnode_core.specs.declared.entry.Entry.{Entry}
use Rattle.vnode_core.specs.declared.entry.Entry.TheVariants.{Copied}
use Rattle.vnode_core.specs.KeyCopies.{KeyCopyView}
use Rattle.vnode_core.specs.Events.{IsMadeNew, all_commands, commands_of, history_after}
use Rattle.vnode_core.specs.Plans.{View}
use Rattle.vnode_core.proofs.Entries.{commands_before, commands_of-all_commands}
use Rattle.vnode_core.proofs.Lefts.{none-left-known}
use Rattle.handoff.specs.Copying.{IsCopyOf}
use Rattle.handoff.specs.Joined.{AreMade, CopiesNameWhatCame, IsJoinedIn, IsOfPrimary, log_after}
use Rattle.handoff.specs.Meeting.{IsOfFallback, copy_of}
use Rattle.handoff.specs.Partitions.{fallback_id, number_of}
use Rattle.handoff.specs.Running.{Diversion, HasReturnedBehind, HaveReturned, RunningHandOffsJoin, fallbacks_of, last_fallback, log_of, opened_at, opened_in, partition_of, seen_here}
use Rattle.handoff.specs.Sights.{Sight}
use Rattle.handoff.specs.Started.{all_copies}
use Rattle.handoff.proofs.Blocks.{commands-each, commands-turn, copies-each, copies-turn, copy-number, log-append, log-grows}
use Rattle.handoff.proofs.Fewer.{IsAmong, fewer, fewer-came, fewer-hand-off, fewer-rise}
use Rattle.handoff.proofs.Joined.{shown-legal, shown-state, turns-spare}
use Rattle.handoff.proofs.Meeting.{history-begins, true-copy, true-held}
use Rattle.handoff.proofs.Returns.{are-made, commands-since, gate-is, gate-there, history-is, limits-there, made-there, new-at, next-opened, number-next, replays, seen-is, there-is, unreaped}
use Rattle.handoff.proofs.Turns.{EachCopy, InTurns, IsEarlier, copy-in, each-weaker, earlier-at-commands, turn-at}

-- the fallback's history of a diversion
abbrev pub history_of : (run index : ℕ) → Diversion → History
history_of run index one = history_after (fallback_id run index) (opened_at one.fallback.gate) [] (commands_of one.passes.fallback.prefix)

-- these are the epochs and the histories of all of these diversions, by their numbers
abbrev pub AreOf : (run index : ℕ) → (ℕ → ℕ) → Fallbacks → List Diversion → Type 0
AreOf run index opened fallbacks [] = (opened 0 ≡ 0) × (fallbacks 0 ≡ [])
AreOf run index opened fallbacks (one ∷ earlier) =
    (opened (length (one ∷ earlier)) ≡ opened_at one.fallback.gate) × (fallbacks (length (one ∷ earlier)) ≡ history_of run index one) × AreOf run index opened fallbacks earlier

module _ (run index : ℕ) where
  same-below : (opened more : ℕ → ℕ) (fallbacks others : Fallbacks) (diversions : List Diversion) → ((n : ℕ) → n ≤ length diversions → (more n ≡ opened n) × (others n ≡ fallbacks n))
      → AreOf run index opened fallbacks diversions → AreOf run index more others diversions
  same-below opened more fallbacks others [] same are = let here = same 0 (omega arith) in (here.0 ∙ are.0, here.1 ∙ are.1)
  same-below opened more fallbacks others (one ∷ earlier) same are =
      let here = same (length (one ∷ earlier)) (omega arith) in (
        here.0 ∙ are.0,
        here.1 ∙ are.1,
        same-below opened more fallbacks others earlier (λ n le. same n (omega (arith, le))) are.2,
      )

  other : (n m : ℕ) → n ≤ m → (n == suc m) ≡ false
  other n m le = by (n == suc m) refl
    where
      by : (b : Bool) → (n == suc m) ≡ b → b ≡ false
      by true is = let same = nat_eq-same n (suc m) is in absurd (omega (arith, same, le))
      by false is = refl

  pub are-of : (diversions : List Diversion) → AreOf run index (opened_in run index diversions) (fallbacks_of run index diversions) diversions
  are-of [] = (refl, refl)
  are-of (one ∷ earlier) =
      let n = length (one ∷ earlier) in
      let here : (length (one ∷ earlier) == length (one ∷ earlier)) ≡ true = nat_eq-refl (length (one ∷ earlier)) in (
        ap (λ b. cond b (opened_at one.fallback.gate) (opened_in run index earlier (length (one ∷ earlier)))) here,
        ap (λ b. cond b (history_of run index one) (fallbacks_of run index earlier (length (one ∷ earlier)))) here,
        same-below (opened_in run index earlier) (opened_in run index (one ∷ earlier)) (fallbacks_of run index earlier) (fallbacks_of run index (one ∷ earlier)) earlier
            (λ m le. (
              ap (λ b. cond b (opened_at one.fallback.gate) (opened_in run index earlier m)) (other m (length earlier) le),
              ap (λ b. cond b (history_of run index one) (fallbacks_of run index earlier m)) (other m (length earlier) le),
            ))
            (are-of earlier),
      )

  -- behind them there is no history
  none-behind : (diversions : List Diversion) (n : ℕ) → length diversions < n → fallbacks_of run index diversions n ≡ []
  none-behind [] n lt = refl
  none-behind (one ∷ earlier) n lt = by (none-behind earlier n (omega (arith, lt))) (n == length (one ∷ earlier)) refl
    where
      by : fallbacks_of run index earlier n ≡ [] → (b : Bool) → (n == length (one ∷ earlier)) ≡ b → cond b (history_of run index one) (fallbacks_of run index earlier n) ≡ []
      by rest true is = let same = nat_eq-same n (length (one ∷ earlier)) is in absurd (omega (arith, same, lt))
      by rest false is = rest

module _ (run index : ℕ) (primary : GateId View) (new : IsMadeNew (id_of run index) 0 primary) (opened : ℕ → ℕ) (most : ℕ) (fallbacks : Fallbacks) where
  abbrev pub partition : Partition
  partition = record { primary = id_of run index; last_epoch = 0; fallback = fallback_id run index; opened = opened; diversions = most }

  abbrev pub Of : List Diversion → Type 0
  Of diversions = AreOf run index opened fallbacks diversions

  abbrev pub Back : List Diversion → Type 0
  Back diversions = HaveReturned run index primary diversions

  abbrev pub log-by : List Diversion → Log
  log-by diversions = log_after partition [] (seen_here diversions)

  pub numbers : (diversions : List Diversion) → Back diversions → number_of (last_fallback diversions) ≡ length diversions
  numbers [] back = refl
  numbers (one ∷ earlier) (back, rest) =
      let next = number-next run index primary earlier one back in
      let before = numbers earlier rest in
      omega (arith, next, before)

  -- of each diversion the fallback's history is the machine's, and has no reap
  abbrev pub IsLegalAt : Key → ℕ → Type 0
  IsLegalAt key n = HasReplay (fallback_id run index) (opened n) (fallbacks n) × IsTrue (list_all (λ event. is_update event.operation) (events_of (fallbacks n) key))

  pub each-legal : (key : Key) (diversions : List Diversion) → Back diversions → Of diversions → (n : ℕ) → 1 ≤ n → n ≤ length diversions → IsLegalAt key n
  each-legal key [] back of n first last = absurd (omega (arith, first, last))
  each-legal key (one ∷ earlier) (back, rest) of n first last =
      elim (cases_lt n (length (one ∷ earlier))) [ inl lt ↦ each-legal key earlier rest of.2 n first (omega (arith, lt)) | inr ge ↦ here ge ]
    where
      its : IsLegalAt key (length (one ∷ earlier))
      its = (
        subst (λ e. HasReplay (fallback_id run index) e (fallbacks (length (one ∷ earlier)))) (sym of.0)
            (subst (λ (h : History). HasReplay (fallback_id run index) (opened_at one.fallback.gate) h) (sym of.1) (replays run index primary earlier one back)),
        subst (λ (h : History). IsTrue (list_all (λ event. is_update event.operation) (events_of h key))) (sym of.1) (unreaped run index primary earlier one back key),
      )

      here : length (one ∷ earlier) ≤ n → IsLegalAt key n
      here ge = let same : length (one ∷ earlier) ≡ n = omega (arith, ge, last) in subst (IsLegalAt key) same its

  -- the epochs of later ones begin behind those of earlier ones
  next-rises : (one : Diversion) (earlier : List Diversion) → Back (one ∷ earlier) → Of (one ∷ earlier) → opened (length earlier) + lives_begun (fallbacks (length earlier)) ≤ opened (length (one ∷ earlier))
  next-rises one [] back of = let none : lives_begun (fallbacks 0) ≡ 0 = ap lives_begun of.2.1 in let zeroth = of.2.0 in omega (arith, none, zeroth)
  next-rises one (before ∷ earlier) (back, (was, rest)) of =
      let next = next-opened run index primary before earlier one back was in
      let here = of.0 in
      let there = of.2.0 in
      let lives : lives_begun (fallbacks (length (before ∷ earlier))) ≡ lives_begun (history_of run index before) = ap lives_begun of.2.1 in
      omega (arith, next, here, there, lives)

  rises : (diversions : List Diversion) → Back diversions → Of diversions → (n m : ℕ) → n < m → m ≤ length diversions → opened n + lives_begun (fallbacks n) ≤ opened m
  rises [] back of n m lt le = absurd (omega (arith, lt, le))
  rises (one ∷ earlier) back of n m lt le =
      elim (cases_lt m (length (one ∷ earlier))) [
        | inl less ↦ rises earlier back.1 of.2 n m lt (omega (arith, less))
        | inr ge ↦ here (λ k lt' le'. rises earlier back.1 of.2 n k lt' le') ge
      ]
    where
      step : opened (length earlier) + lives_begun (fallbacks (length earlier)) ≤ opened (length (one ∷ earlier))
      step = next-rises one earlier back of

      last : ((k : ℕ) → n < k → k ≤ length earlier → opened n + lives_begun (fallbacks n) ≤ opened k) → n < length (one ∷ earlier)
          → opened n + lives_begun (fallbacks n) ≤ opened (length (one ∷ earlier))
      last rec lt' = elim (cases_lt n (length earlier)) [
        | inl less ↦ let up = rec (length earlier) less (omega arith) in omega (arith, up, step)
        | inr ge ↦ let same : length earlier ≡ n = omega (arith, ge, lt') in subst (λ k. opened k + lives_begun (fallbacks k) ≤ opened (length (one ∷ earlier))) same step
      ]

      here : ((k : ℕ) → n < k → k ≤ length earlier → opened n + lives_begun (fallbacks n) ≤ opened k) → length (one ∷ earlier) ≤ m
          → opened n + lives_begun (fallbacks n) ≤ opened m
      here rec ge =
          let same : length (one ∷ earlier) ≡ m = omega (arith, ge, le) in
          subst (λ k. opened n + lives_begun (fallbacks n) ≤ opened k) same (last rec (omega (arith, lt, same)))

  module _ (whole : Log) (key : Key) where
    -- a copy is of one of the first diversions, and a true one of the key
    abbrev pub IsOne : ℕ → Copy Content → Type 0
    IsOne n copy =
        (copy.diversion ≤ n)
        × (IsTrue (key_eq copy.key key) → IsTrueCopy partition whole fallbacks key copy × IsTrue (is_held (replay (fallback_id run index) (opened copy.diversion) copy.prefix) key))

    module _ (one : Diversion) (earlier : List Diversion) (back : HasReturnedBehind run index primary earlier one) (rest : Back earlier) (of : Of (one ∷ earlier)) (le : length (one ∷ earlier) ≤ most) where
      number : one.fallback.diversion ≡ length (one ∷ earlier)
      number = numbers (one ∷ earlier) (back, rest)

      of-fallback : (their : Sight) → their.gate ≡ one.fallback.gate → IsPrefix their.prefix back.returned.of_gates.sees.ended.before → IsOfFallback partition fallbacks (length (one ∷ earlier)) their
      of-fallback their gate begins =
          let end = back.returned.of_gates.sees.ended in record {
            first = omega arith;
            last = le;
            limits = subst (λ e. IsWithinLimits (fallback_id run index) e) (sym of.0) (limits-there run index primary earlier one back);
            made_new = subst (λ e. IsMadeNew (fallback_id run index) e their.gate) (sym of.0)
                (subst (λ (g : GateId View). IsMadeNew (fallback_id run index) (opened_at one.fallback.gate) g) (gate-there run index primary earlier one back ∙ sym gate) (made-there run index primary earlier one back));
            commands = commands_before their.prefix end.before begins (end.events, end.plain);
            begins = history-begins (fallback_id run index) (opened (length (one ∷ earlier))) (fallbacks (length (one ∷ earlier))) their.prefix end.before begins (
              [],
              ap (λ es. history_after (fallback_id run index) (opened (length (one ∷ earlier))) [] es) (ap commands_of end.plain ∙ commands_of-all_commands end.events)
                  ∙ (ap (λ e. history_after (fallback_id run index) e [] end.events) of.0 ∙ (history-is run index primary earlier one back ∙ sym of.1)),
            );
          }

      one-copy : (copy : KeyCopyView) (their : Sight) → IsCopyOf (length (one ∷ earlier)) their (Copied copy) → their.gate ≡ one.fallback.gate → IsPrefix their.prefix back.returned.of_gates.sees.ended.before
          → IsOne (length (one ∷ earlier)) (copy_of partition copy)
      one-copy copy their made gate begins =
          let same = copy-number (length (one ∷ earlier)) their copy made in
          let is : made.copy ≡ copy = sym (cc made.is) in
          let its : IsOfFallback partition fallbacks made.copy.diversion their = subst (λ m. IsOfFallback partition fallbacks m their) (sym made.number) (of-fallback their gate begins) in (
            omega (arith, same),
            λ itself.
                let key_is = ap (λ (c : KeyCopyView). c.key) is ∙ key_eq-same copy.key key itself in (
                  subst (λ (c : KeyCopyView). IsTrueCopy partition whole fallbacks key (copy_of partition c)) is (true-copy partition whole fallbacks their (Copied copy) (length (one ∷ earlier)) made its key key_is),
                  subst (λ (c : KeyCopyView). is_held (replay (fallback_id run index) (opened c.diversion) (copy_of partition c).prefix) key ≡ true) is
                      (true-held partition whole fallbacks their (Copied copy) (length (one ∷ earlier)) made its key key_is),
                ),
          )

    -- so are all copies of the log, and those of each diversion stand together
    blocks : (diversions : List Diversion) → Back diversions → Of diversions → length diversions ≤ most → InTurns (log-by diversions) × EachCopy (IsOne (length diversions)) (log-by diversions)
    blocks [] back of le = (tt, tt)
    blocks (one ∷ earlier) (back, rest) of le =
        let before = blocks earlier rest of.2 (omega (arith, le)) in
        let since = commands-since run index primary earlier one new back rest in
        let copies = back.returned.of_gates.sees.since.copies in
        let middle : Log = log_after partition (log-by earlier) (all_commands since.0) in
        let turns = commands-turn partition since.0 (log-by earlier) before.0 in
        let each = commands-each partition (IsOne (length earlier)) since.0 (log-by earlier) before.1 in
        let made : AreMade (length (one ∷ earlier)) one.fallback.gate back.returned.of_gates.sees.ended.before copies
        = subst (λ n. AreMade n one.fallback.gate back.returned.of_gates.sees.ended.before copies) (number one earlier back rest of le) (are-made run index primary earlier one back) in
        let behind = earlier-at-commands (length (one ∷ earlier)) middle (each-weaker (IsOne (length earlier)) (IsEarlier (length (one ∷ earlier))) (λ copy is. let few = is.0 in omega (arith, few)) middle each) in
        let is : log_after partition middle (all_copies copies) ≡ log-by (one ∷ earlier)
        = sym (ap (λ (es : List Entry). log_after partition [] es) (seen-is run index primary earlier one back ∙ ap (λ (es : List Entry). es ++ all_copies copies) since.1)
        ∙ (log-append partition (seen_here earlier ++ all_commands since.0) (all_copies copies) []
        ∙ ap (λ (l : Log). log_after partition l (all_copies copies)) (log-append partition (seen_here earlier) (all_commands since.0) []))) in (
          subst InTurns is (copies-turn partition (length (one ∷ earlier)) one.fallback.gate back.returned.of_gates.sees.ended.before copies middle made behind turns),
          subst (EachCopy (IsOne (length (one ∷ earlier)))) is
              (copies-each partition (length (one ∷ earlier)) one.fallback.gate back.returned.of_gates.sees.ended.before (IsOne (length (one ∷ earlier))) (one-copy one earlier back rest of le) copies middle
              (each-weaker (IsOne (length earlier)) (IsOne (length (one ∷ earlier))) (λ copy is. (let few = is.0 in omega (arith, few), is.1)) middle each) made),
        )

  module _ (key : Key) where
    pub of-primary : (one : Diversion) (earlier : List Diversion) → HasReturnedBehind run index primary earlier one → IsOfPrimary partition (log-by (one ∷ earlier)) one.passes.primary
    of-primary one earlier back = record {
      made_new = subst (λ (g : GateId View). IsMadeNew (id_of run index) 0 g) (sym (gate-is run index primary earlier one back)) new;
      log = refl;
    }

    -- the return of the last one has brought all that its fallback accepted
    pub brought-by-return : (one : Diversion) (earlier : List Diversion) → Back (one ∷ earlier) → Of (one ∷ earlier) → length (one ∷ earlier) ≤ most → IsLegalLog partition (log-by (one ∷ earlier)) fallbacks key
        → count_brought (log-by (one ∷ earlier)) key (length (one ∷ earlier)) ≡ count_of (fallbacks (length (one ∷ earlier))) key
    brought-by-return one earlier (back, rest) of le legal =
        let log = log-by (one ∷ earlier) in
        let n = length (one ∷ earlier) in
        let end = back.returned.of_gates.sees.ended in
        let each = each-weaker (IsOne log key n) (IsAmong partition n le) (λ copy is. is.0) log (blocks log key (one ∷ earlier) (back, rest) of le).1 in
        let here = shown-state partition log one.passes.primary end.primary (of-primary one earlier back) end.shows in
        let there : end.fallback ≡ replay (fallback_id run index) (opened (length (one ∷ earlier))) (fallbacks (length (one ∷ earlier)))
        = there-is run index primary earlier one back
        ∙ (ap (λ (h : History). replay (fallback_id run index) (opened_at one.fallback.gate) h) (sym of.1) ∙ ap (λ e. replay (fallback_id run index) e (fallbacks (length (one ∷ earlier)))) (sym of.0)) in
        last_dot_brings_all (fewer partition n le) log fallbacks key (fewer-hand-off partition n le log fallbacks key each legal.hand_off) (fewer-rise partition n le log fallbacks key legal.rise)
        (fewer-came partition n le log fallbacks key legal.came) (omega arith)
        (subst (λ (f : State Content). knows_last_dot (clock_of (primary_after partition (log-by (one ∷ earlier))) key) f key ≡ true) there
        (subst (λ (p : State Content). knows_last_dot (clock_of p key) back.returned.of_gates.sees.ended.fallback key ≡ true) here
        (none-left-known end.primary end.fallback end.copied key)))

    -- so had each return
    pub each-brought : (diversions : List Diversion) → Back diversions → Of diversions → length diversions ≤ most → IsLegalLog partition (log-by diversions) fallbacks key → (n : ℕ) → 1 ≤ n → n ≤ length diversions
        → count_brought (log-by diversions) key n ≡ count_of (fallbacks n) key
    each-brought [] back of le legal n first last = absurd (omega (arith, first, last))
    each-brought (one ∷ earlier) (back, rest) of le legal n first last =
        elim (cases_lt n (length (one ∷ earlier))) [
          | inl lt ↦ before (λ was. each-brought earlier rest of.2 (omega (arith, le)) was n first (omega (arith, lt)))
          | inr ge ↦ here ge
        ]
      where
        grown : (gap : Log) × (gap ++ log-by earlier ≡ log-by (one ∷ earlier))
        grown =
            let since = commands-since run index primary earlier one new back rest in
            let behind : List Entry = all_commands since.0 ++ all_copies back.returned.of_gates.sees.since.copies in
            let is : one.passes.primary.prefix ≡ seen_here earlier ++ behind
            = seen-is run index primary earlier one back ∙ (ap (λ (es : List Entry). es ++ all_copies back.returned.of_gates.sees.since.copies) since.1
            ∙ append_assoc (seen_here earlier) (all_commands since.0) (all_copies back.returned.of_gates.sees.since.copies)) in
            let rest' = log-grows partition behind (log-by earlier) in
            (rest'.0, rest'.1 ∙ sym (ap (λ (es : List Entry). log_after partition [] es) is ∙ log-append partition (seen_here earlier) behind []))

        before : (IsLegalLog partition (log-by earlier) fallbacks key → count_brought (log-by earlier) key n ≡ count_of (fallbacks n) key)
            → count_brought (log-by (one ∷ earlier)) key n ≡ count_of (fallbacks n) key
        before rec =
            let was = rec (logs_were_legal partition (log-by (one ∷ earlier)) fallbacks key legal grown.0 (log-by earlier) grown.1) in
            let up : count_brought (log-by earlier) key n ≤ count_brought (log-by (one ∷ earlier)) key n
            = subst (λ (l : Log). count_brought (log-by earlier) key n ≤ count_brought l key n) grown.1 (brought-later key grown.0 (log-by earlier) n) in
            let few = brought-most partition (log-by (one ∷ earlier)) fallbacks key legal.hand_off n in
            omega (arith, was, up, few)

        here : length (one ∷ earlier) ≤ n → count_brought (log-by (one ∷ earlier)) key n ≡ count_of (fallbacks n) key
        here ge =
            let same : length (one ∷ earlier) ≡ n = omega (arith, ge, last) in
            subst (λ k. count_brought (log-by (one ∷ earlier)) key k ≡ count_of (fallbacks k) key) same (brought-by-return one earlier (back, rest) of le legal)

module _ (run index : ℕ) (primary : GateId View) (new : IsMadeNew (id_of run index) 0 primary) (last : Diversion) (earlier : List Diversion) (back : HaveReturned run index primary (last ∷ earlier)) where
  abbrev diversions : List Diversion
  diversions = last ∷ earlier

  abbrev P : Partition
  P = partition_of run index (last ∷ earlier)

  abbrev L : Log
  L = log_of run index (last ∷ earlier)

  abbrev F : Fallbacks
  F = fallbacks_of run index (last ∷ earlier)

  pub rise : SidesRise P F
  rise = record { ids = omega arith; epochs = epochs }
    where
      epochs : (n m : ℕ) → n < m → 1 ≤ lives_begun (F m) → P.opened n + lives_begun (F n) ≤ P.opened m
      epochs n m lt one = elim (cases_lt (length (last ∷ earlier)) m) [
        | inl beyond ↦ let none : lives_begun (fallbacks_of run index (last ∷ earlier) m) ≡ 0 = ap lives_begun (none-behind run index (last ∷ earlier) m beyond) in absurd (omega (arith, one, none))
        | inr within ↦ rises run index primary new (opened_in run index diversions) (length diversions) F diversions back (are-of run index diversions) n m lt within
      ]

  module _ (key : Key) where
    abbrev o : ℕ → ℕ
    o = opened_in run index (last ∷ earlier)

    pub facts : InTurns L × EachCopy (IsOne run index primary new (opened_in run index (last ∷ earlier)) (length (last ∷ earlier)) F L key (length (last ∷ earlier))) L
    facts = blocks run index primary new o (length diversions) F L key diversions back (are-of run index diversions) (omega arith)

    abbrev Is : Copy Content → Type 0
    Is = IsOne run index primary new (opened_in run index (last ∷ earlier)) (length (last ∷ earlier)) F L key (length (last ∷ earlier))

    pub here : back.0.returned.of_gates.sees.ended.primary ≡ primary_after P L
    here =
        let end = back.0.returned.of_gates.sees.ended in
        shown-state P L last.passes.primary end.primary (of-primary run index primary new o (length diversions) F key last earlier back.0) end.shows

    pub legal-entries : HasEntries P key L
    legal-entries =
        let end = back.0.returned.of_gates.sees.ended in
        shown-legal P key L last.passes.primary end.primary (of-primary run index primary new o (length diversions) F key last earlier back.0) end.shows

    pub legal-there : (n : ℕ) → 1 ≤ n → n ≤ length (last ∷ earlier) → IsLegalAt run index primary new (opened_in run index (last ∷ earlier)) (length (last ∷ earlier)) F key n
    legal-there n first most = each-legal run index primary new o (length diversions) F key diversions back (are-of run index diversions) n first most

    pub open-still : (primary_after P L).closed ≡ None
    open-still = sym (ap (λ (s : State Content). s.closed) here) ∙ back.0.returned.of_gates.sees.ended.open_still

    module _ (came : NamesWhatCame P L F key) (contexts : CopiesNameWhatCame P L F key) where
      hand-off : IsHandOff P L F key
      hand-off = record {
        primary_legal = legal-entries;
        fallbacks_legal = λ n diversion. (legal-there n diversion.0 diversion.1).0;
        copies = λ later before copy stands. ((copy-in Is L later before copy facts.1 stands.0).1 stands.1).0;
        apart = dots_stand_apart P L F key rise;
        unreaped = λ n diversion. (legal-there n diversion.0 diversion.1).1;
        reaps = turns-spare P L F key rise came (λ later before event is n. turn-at key n later event before (subst InTurns (sym is) facts.0));
        contexts = contexts;
      }

      legal : IsLegalLog P L F key
      legal = record {
        hand_off = hand-off;
        rise = rise;
        came = came;
        had = λ later before copy stands. ((copy-in Is L later before copy facts.1 stands.0).1 stands.1).1;
        open_still = open-still;
      }

      joined : IsJoined P L F key
      joined = record {
        hand_off = hand-off;
        open_still = open-still;
        settled = λ n diversion. each-brought run index primary new o (length diversions) F key diversions back (are-of run index diversions) (omega arith) legal n diversion.0 diversion.1;
      }

      pub joined-behind : IsJoinedIn P L F key back.0.returned.of_gates.sees.ended.primary × IsLegalLog P L F key
      joined-behind = (record { is = here; joined = joined; siblings = copies_join P L F key joined }, legal)

pub running-hand-offs-join : (run index : ℕ) (primary : GateId View) (last : Diversion) (earlier : List Diversion) → RunningHandOffsJoin run index primary last earlier
running-hand-offs-join run index primary last earlier new_run back key came contexts =
    joined-behind run index primary (new-at run index last.ended.gates primary new_run.made_new back.0.gate) last earlier back key came contexts
