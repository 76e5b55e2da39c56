-- Each position of a legal log is a legal log.
use Rattle.std.proofs.Common.{◌≡◌, ℕ, ◌≤◌, ◌≢◌, Bool, true, false, cond, [], ◌∷◌, ◌++◌, sym, ◌∙◌, ap, arith, subst}
use Rattle.std.specs.Prelude.{◌==◌, ◌⊎◌, Some, MatchBool}
use Rattle.std.proofs.lemmas.List.{append_assoc}
use Rattle.riak_msgs.specs.declared.Key.{Key}
use Rattle.riak_msgs.specs.Contents.{Content}
use Rattle.riak_msgs.specs.KeyOrder.{key_eq}
use Rattle.sibling_register.specs.History.{Event, count_of}
use Rattle.actor_epoch.specs.declared.Dot.{Dot}
use Rattle.actor_epoch.specs.Dots.{covers}
use Rattle.actor_epoch.specs.Given.{Context}
use Rattle.vnode_machine.specs.Machine.{pairs_of}
use Rattle.vnode_machine.specs.Lives.{dot_of}
use Rattle.copy_laws.specs.Copies.{Copy, LogEntry, Command, Copied, commands_of}
use Rattle.copy_laws.specs.Sides.{Partition, Number, is_covered_by, is_seen_by_primary}
use Rattle.copy_laws.specs.CopyReplay.{primary_after, HasEntries}
use Rattle.copy_laws.specs.Joining.{Log, Fallbacks, IsHandOff, IsTrueCopy, HasDot, HasCome, StandsCopy, StandsReap}
use Rattle.copy_laws.specs.LegalLogs.{IsLegalLog, LogsWereLegal}
use Rattle.copy_laws.proofs.Apart.{dots_stand_apart}
use Rattle.copy_laws.proofs.Brought.{count_brought, brought-later}
use Rattle.copy_laws.proofs.Later.{dot-later, count-later, legal-before, open-before}
use Rattle.copy_laws.proofs.Numbered.{number-within}
use Rattle.copy_laws.proofs.PrimaryDots.{commands-append}

module _ (partition : Partition) (primary : Log) (fallbacks : Fallbacks) (key : Key) (legal : IsLegalLog partition primary fallbacks key) (later position : Log) (is : later ++ position ≡ primary) where
  abbrev v : ℕ
  v = partition.primary

  abbrev l : ℕ
  l = partition.last_epoch

  abbrev off : IsHandOff partition primary fallbacks key
  off = legal.hand_off

  whole : (part : Log) (entry : LogEntry Content) (before : Log) → part ++ entry ∷ before ≡ position → (later ++ part) ++ entry ∷ before ≡ primary
  whole part entry before e = append_assoc later part (entry ∷ before) ∙ ap (λ t. later ++ t) e ∙ is

  commands_are : commands_of primary ≡ commands_of later ++ commands_of position
  commands_are = ap commands_of (sym is) ∙ commands-append later position

  count-more : (gap part : Log) → count_of (commands_of part) key ≤ count_of (commands_of (gap ++ part)) key
  count-more gap part = subst (λ t. count_of (commands_of part) key ≤ count_of t key) (sym (commands-append gap part)) (count-later key (commands_of gap) (commands_of part))

  -- a number that stands at the position has the same dot there and at the end
  own-same : (n : ℕ) → n ≤ count_of (commands_of position) key → dot_of v l (commands_of primary) key n ≡ dot_of v l (commands_of position) key n
  own-same n h = ap (λ t. dot_of v l t key n) commands_are ∙ dot-later key v l (commands_of later) (commands_of position) n h

  dot-up : (number : Number) (dot : Dot) → HasDot partition position fallbacks key number dot → HasDot partition primary fallbacks key number dot
  dot-up number dot h = by (number.side == 0) h
    where
      by : (b : Bool) → cond b (dot_of v l (commands_of position) key number.number) (dot_of partition.fallback (partition.opened number.side) (fallbacks number.side) key number.number) ≡ Some dot
          → cond b (dot_of v l (commands_of primary) key number.number) (dot_of partition.fallback (partition.opened number.side) (fallbacks number.side) key number.number) ≡ Some dot
      by true d = own-same number.number (number-within v l key (commands_of position) number.number dot d) ∙ d
      by false d = d

  dot-down : (number : Number) (dot : Dot) (gap before : Log) → gap ++ before ≡ position → HasCome partition primary fallbacks key before number
      → HasDot partition primary fallbacks key number dot → HasDot partition position fallbacks key number dot
  dot-down number dot gap before e come h = by (number.side == 0) come h
    where
      by : (b : Bool) → MatchBool b (number.number ≤ count_of (commands_of before) key) (number.number ≤ count_brought key before number.side)
          → cond b (dot_of v l (commands_of primary) key number.number) (dot_of partition.fallback (partition.opened number.side) (fallbacks number.side) key number.number) ≡ Some dot
          → cond b (dot_of v l (commands_of position) key number.number) (dot_of partition.fallback (partition.opened number.side) (fallbacks number.side) key number.number) ≡ Some dot
      by true c d =
          let more : count_of (commands_of before) key ≤ count_of (commands_of position) key = subst (λ t. count_of (commands_of before) key ≤ count_of (commands_of t) key) e (count-more gap before) in
          sym (own-same number.number (omega (arith, c, more))) ∙ d
      by false c d = d

  come-up : (number : Number) → HasCome partition position fallbacks key position number → HasCome partition primary fallbacks key primary number
  come-up number h = by (number.side == 0) h
    where
      by : (b : Bool) → MatchBool b (number.number ≤ count_of (commands_of position) key) (number.number ≤ count_brought key position number.side)
          → MatchBool b (number.number ≤ count_of (commands_of primary) key) (number.number ≤ count_brought key primary number.side)
      by true c =
          let more : count_of (commands_of position) key ≤ count_of (commands_of primary) key = subst (λ t. count_of (commands_of position) key ≤ count_of (commands_of t) key) is (count-more later position) in
          omega (arith, c, more)
      by false c =
          let more : count_brought key position number.side ≤ count_brought key primary number.side = subst (λ t. count_brought key position number.side ≤ count_brought key t number.side) is (brought-later key later position number.side) in
          omega (arith, c, more)

  reaps : (part before : Log) (reap : Event Content Context) → StandsReap partition position fallbacks key part reap before → (number : Number) (dot : Dot)
      → HasDot partition position fallbacks key number dot → number.side ≢ 0 → HasCome partition position fallbacks key before number ⊎ (is_seen_by_primary before key number dot ≡ true)
      → count_brought key part number.side ≡ 0
  reaps part before reap s number dot h side come =
      let none : count_brought key (later ++ part) number.side ≡ 0 = off.reaps (later ++ part) before reap (whole part (Command reap) before s.0, s.1, s.2) number dot (dot-up number dot h) side come in
      let more = brought-later key later part number.side in
      omega (arith, none, more)

  abbrev ComesBy : Log → Dot → Type 0
  ComesBy before dot = (number : Number) × HasDot partition position fallbacks key number dot × HasCome partition position fallbacks key before number

  given : (part before : Log) (event : Event Content Context) → part ++ Command event ∷ before ≡ position → key_eq event.key key ≡ true → (dot : Dot) → dot.actor.vnode ≡ partition.fallback
      → covers (pairs_of event.context) dot ≡ true → ComesBy before dot
  given part before event e itself dot vnode h =
      let found = legal.came.given (later ++ part) before event (whole part (Command event) before e) itself dot vnode h in
      (found.0, dot-down found.0 dot (part ++ Command event ∷ []) before (append_assoc part (Command event ∷ []) before ∙ e) found.2 found.1, found.2)

  copied : (part before : Log) (copy : Copy Content) → StandsCopy partition position fallbacks key part copy before → (dot : Dot) → dot.actor.vnode ≡ partition.primary
      → is_covered_by copy.prefix key dot ≡ true → ComesBy before dot
  copied part before copy s dot vnode h =
      let found = legal.came.copied (later ++ part) before copy (whole part (Copied copy) before s.0, s.1) dot vnode h in
      (found.0, dot-down found.0 dot (part ++ Copied copy ∷ []) before (append_assoc part (Copied copy ∷ []) before ∙ s.0) found.2 found.1, found.2)

  legal-then : IsLegalLog partition position fallbacks key
  legal-then = record {
    hand_off = record {
      primary_legal = legal-before partition key later position (subst (HasEntries partition key) (sym is) off.primary_legal);
      fallbacks_legal = off.fallbacks_legal;
      copies = λ part before copy s.
          let one : IsTrueCopy partition primary fallbacks key copy = off.copies (later ++ part) before copy (whole part (Copied copy) before s.0, s.1) in
          record { diversion = one.diversion; begins = one.begins; clock = one.clock };
      apart = λ a b dot h k. dots_stand_apart partition position fallbacks key legal.rise a b dot h k;
      unreaped = off.unreaped;
      reaps = reaps;
      contexts = λ part before copy s number dot h side covered come.
          off.contexts (later ++ part) before copy (whole part (Copied copy) before s.0, s.1) number dot (dot-up number dot h) side covered (come-up number come);
    };
    rise = legal.rise;
    came = record { given = given; copied = copied };
    had = λ part before copy s. legal.had (later ++ part) before copy (whole part (Copied copy) before s.0, s.1);
    open_still = open-before partition key later position (subst (HasEntries partition key) (sym is) off.primary_legal) (ap (λ t. (primary_after partition t).closed) is ∙ legal.open_still);
  }

pub logs_were_legal : (partition : Partition) (log : Log) (fallbacks : Fallbacks) → LogsWereLegal partition log fallbacks
logs_were_legal partition log fallbacks key legal later position is = legal-then partition log fallbacks key legal later position is
