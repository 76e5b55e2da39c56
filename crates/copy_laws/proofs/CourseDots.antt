-- What came in a course and when; where what is known came, the course is a hand-off of the key.
use Rattle.std.proofs.Common.{◌≡◌, ◌≢◌, ℕ, ◌+◌, ◌<◌, ◌≤◌, Bool, true, false, ◌&&◌, cond, List, [], ◌∷◌, ◌++◌, length, refl, sym, ◌∙◌, ap, arith, subst, inl, inr, length-append}
use Rattle.std.specs.Prelude.{◌⊎◌, ◌==◌, nat_le, Option, Some, None, MatchBool}
use Rattle.std.specs.Option.{option_map_or}
use Rattle.std.proofs.lemmas.List.{append_assoc}
use Rattle.std.proofs.lemmas.Bool.Decides.{nat_tests}
use Rattle.std.proofs.lemmas.Bool.{cases_lt}
use Rattle.riak_msgs.specs.declared.Key.{Key}
use Rattle.riak_msgs.specs.Contents.{Content}
use Rattle.riak_msgs.specs.KeyOrder.{key_eq}
use Rattle.sibling_register.specs.History.{Event, count_of}
use Rattle.actor_epoch.specs.declared.Dot.{Dot}
use Rattle.actor_epoch.specs.Dots.{covers}
use Rattle.actor_epoch.specs.Given.{Context, Pairs}
use Rattle.vnode_machine.specs.Machine.{clock_of, pairs_of}
use Rattle.vnode_machine.specs.Lives.{dot_of}
use Rattle.vnode_machine.proofs.Keys.{key_eq-same}
use Rattle.vnode_machine.proofs.Tests.{nat_eq-same}
use Rattle.copy_laws.specs.Copies.{Copy, Command, Copied, commands_of, count_brought as brought_count}
use Rattle.copy_laws.specs.Sides.{Partition, Number, is_covered_by, takes_all}
use Rattle.copy_laws.specs.CopyReplay.{primary_after}
use Rattle.copy_laws.specs.Joining.{Log, IsHandOff, IsTrueCopy, HasDot, HasCome}
use Rattle.copy_laws.specs.Diversions.{Happening, AtPrimary, AtFallback, CopyBack, Course, diversions_of, is_diverted, fallback_of, fallback_state, copy_of, primary_of, WasShownInCourse, HappensTo}
use Rattle.copy_laws.proofs.Tests.{not_zero, test-le}
use Rattle.copy_laws.proofs.Splits.{tail-same, Compared, compare}
use Rattle.copy_laws.proofs.Clocks.{knows}
use Rattle.copy_laws.proofs.Since.{clock_at}
use Rattle.copy_laws.proofs.LifeDots.{one-number}
use Rattle.copy_laws.proofs.Later.{count-later, dot-later}
use Rattle.copy_laws.proofs.Numbered.{number-within, number-positive}
use Rattle.copy_laws.proofs.Brought.{BroughtBy, count_brought, brought-by, is_seen, SeenBy, seen-by}
use Rattle.copy_laws.proofs.PrimaryDots.{commands-append}
use Rattle.copy_laws.proofs.Apart.{dots_stand_apart}
use Rattle.copy_laws.proofs.Courses.{diversions-grow, diverted-some, diverted-since, Grown, fallback-grows, none-yet, happens-before, it-happens, LogGrown, primary-grows, within, legal-primary, legal-fallback, all-updates, settled, sides-rise, CopyMade, copy-made, CommandMade, command-made, Covering, covering}

nonzero : (n : ℕ) → (n == 0) ≡ false → 1 ≤ n
nonzero n h = grind (arith, nat_tests)

pub none_some : (dot : Dot) → None ≡ Some dot → ⊥
none_some dot e = cc

module _ (partition : Partition) (key : Key) (ids : partition.primary < partition.fallback) where
  abbrev v : ℕ
  v = partition.primary

  abbrev l : ℕ
  l = partition.last_epoch

  abbrev pub primary_log : Course → Log
  primary_log course = primary_of partition course

  abbrev pub DotIn : Course → Number → Dot → Type 0
  DotIn course number dot = HasDot partition (primary_log course) (fallback_of course) key number dot

  -- some number that was issued has the dot
  abbrev pub Came : Course → Dot → Type 0
  Came course dot = (number : Number) × DotIn course number dot

  -- its number and dot stay
  pub dot-stays : (later moment : Course) (number : Number) (dot : Dot) → DotIn moment number dot → DotIn (later ++ moment) number dot
  dot-stays later moment number dot h = by (number.side == 0) h
    where
      own : dot_of v l (commands_of (primary_log moment)) key number.number ≡ Some dot → dot_of v l (commands_of (primary_log (later ++ moment))) key number.number ≡ Some dot
      own d =
          let g : LogGrown partition (primary_log moment) (primary_log (later ++ moment)) = primary-grows partition later moment in
          ap (λ t. dot_of v l t key number.number) (ap commands_of (sym g.is) ∙ commands-append g.gap (primary_log moment))
          ∙ dot-later key v l (commands_of g.gap) (commands_of (primary_log moment)) number.number (number-within v l key (commands_of (primary_log moment)) number.number dot d) ∙ d

      other : dot_of partition.fallback (partition.opened number.side) (fallback_of moment number.side) key number.number ≡ Some dot
          → dot_of partition.fallback (partition.opened number.side) (fallback_of (later ++ moment) number.side) key number.number ≡ Some dot
      other d =
          let g : Grown (fallback_of moment number.side) (fallback_of (later ++ moment) number.side) = fallback-grows later moment number.side in
          ap (λ t. dot_of partition.fallback (partition.opened number.side) t key number.number) (sym g.is)
          ∙ dot-later key partition.fallback (partition.opened number.side) g.gap (fallback_of moment number.side) number.number
          (number-within partition.fallback (partition.opened number.side) key (fallback_of moment number.side) number.number dot d) ∙ d

      by : (b : Bool) → cond b (dot_of v l (commands_of (primary_log moment)) key number.number) (dot_of partition.fallback (partition.opened number.side) (fallback_of moment number.side) key number.number) ≡ Some dot
          → cond b (dot_of v l (commands_of (primary_log (later ++ moment))) key number.number) (dot_of partition.fallback (partition.opened number.side) (fallback_of (later ++ moment) number.side) key number.number) ≡ Some dot
      by true d = own d
      by false d = other d

  pub came-later : (later moment : Course) (dot : Dot) → Came moment dot → Came (later ++ moment) dot
  came-later later moment dot h = (h.0, dot-stays later moment h.0 dot h.1)

  -- and it is the one number with that dot
  one-of-side : (course : Course) (side n m : ℕ) (dot : Dot) → DotIn course (record { side = side; number = n }) dot → DotIn course (record { side = side; number = m }) dot → n ≡ m
  one-of-side course side n m dot h k = by (side == 0) h k
    where
      by : (b : Bool)
          → cond b (dot_of v l (commands_of (primary_log course)) key n) (dot_of partition.fallback (partition.opened side) (fallback_of course side) key n) ≡ Some dot
          → cond b (dot_of v l (commands_of (primary_log course)) key m) (dot_of partition.fallback (partition.opened side) (fallback_of course side) key m) ≡ Some dot → n ≡ m
      by true h k = one-number v l (commands_of (primary_log course)) key n m dot h k
      by false h k = one-number partition.fallback (partition.opened side) (fallback_of course side) key n m dot h k

  -- a number with this dot at a moment, where it has it now
  pub there-then : (later moment : Course) → HappensTo partition key (later ++ moment) → (number : Number) (dot : Dot) → DotIn (later ++ moment) number dot → Came moment dot → DotIn moment number dot
  there-then later moment h number dot has (other, d) =
      let now = dot-stays later moment other dot d in
      let sides : other.side ≡ number.side = dots_stand_apart partition (primary_log (later ++ moment)) (fallback_of (later ++ moment)) key (sides-rise partition (later ++ moment) ids (it-happens partition key (later ++ moment) h)) other number dot now has in
      let same : other.number ≡ number.number =
      one-of-side (later ++ moment) number.side other.number number.number dot (subst (λ s. DotIn (later ++ moment) (record { side = s; number = other.number }) dot) sides now) has in
      subst (λ n. DotIn moment (record { side = number.side; number = n }) dot) same (subst (λ s. DotIn moment (record { side = s; number = other.number }) dot) sides d)

  -- what is known came
  pub record KnownCame (course : Course) : Type 0 where
    pub primary : (dot : Dot) → knows (clock_at v l key (primary_log course)) dot ≡ true → Came course dot
    pub fallback : (dot : Dot) → knows (clock_of (fallback_state partition course) key) dot ≡ true → Came course dot

  abbrev pub AllCame : Course → Type 0
  AllCame [] = KnownCame []
  AllCame (happening ∷ before) = KnownCame (happening ∷ before) × AllCame before

  abbrev pub CameBelow : Course → Type 0
  CameBelow [] = Unit {0}
  CameBelow (happening ∷ before) = AllCame before

  pub came-now : (course : Course) → AllCame course → KnownCame course
  came-now [] h = h
  came-now (happening ∷ before) h = h.0

  pub all-before : (later moment : Course) → AllCame (later ++ moment) → AllCame moment
  all-before [] moment h = h
  all-before (happening ∷ later) moment h = all-before later moment h.1

  below : (course : Course) → CameBelow course → (later : Course) (happening : Happening) (moment : Course) → later ++ happening ∷ moment ≡ course → AllCame moment
  below [] c [] happening moment e = cc
  below [] c (x ∷ later) happening moment e = cc
  below (first ∷ course) c [] happening moment e = subst AllCame (sym (tail-same happening first moment course e)) c
  below (first ∷ course) c (x ∷ later) happening moment e = all-before (later ++ happening ∷ []) moment (subst AllCame (sym (append_assoc later (happening ∷ []) moment ∙ tail-same x first (later ++ happening ∷ moment) course e)) c)

  -- what a context covers came before it was shown
  pub record CameBy (course : Course) (dot : Dot) : Type 0 where
    pub later : Course
    pub moment : Course
    pub is : later ++ moment ≡ course
    pub came : Came moment dot

  pub context-came : (course : Course) (at : Key) (given : Option Context) → key_eq at key ≡ true → AllCame course → ((context : Context) → given ≡ Some context → WasShownInCourse partition course at context)
      → (dot : Dot) → covers (pairs_of given) dot ≡ true → CameBy course dot
  context-came course at None e all shown dot h = cc
  context-came course at (Some context) e all shown dot h = by (subst (λ k. WasShownInCourse partition course k context) (key_eq-same at key e) (shown context refl))
    where
      pairs : (known : List Dot) → context ≡ Pairs known → covers known dot ≡ true
      pairs known p = sym (ap (λ c. covers (pairs_of (Some c)) dot) p) ∙ h

      came_at : (w : WasShownInCourse partition course key context) → KnownCame w.moment → Came w.moment dot
      came_at w k = elim w.shown [ inl p ↦ k.primary dot (pairs (clock_of (primary_after partition (primary_log w.moment)) key).known p) | inr p ↦ k.fallback dot (pairs (clock_of (fallback_state partition w.moment) key).known p) ]

      by : WasShownInCourse partition course key context → CameBy course dot
      by w = record { later = w.later; moment = w.moment; is = w.is; came = came_at w (came-now w.moment (all-before w.later w.moment (subst AllCame (sym w.is) all))) }

  -- what a fallback's context covered came before the context was shown
  pub covering-came : (course : Course) → HappensTo partition key course → CameBelow course → (c : Course) (dot : Dot) (later : Course) → later ++ c ≡ course → Covering c key dot → CameBy c dot
  covering-came course h all c dot later e g =
      let whole : (later ++ g.later) ++ AtFallback g.event ∷ g.moment ≡ course = append_assoc later g.later (AtFallback g.event ∷ g.moment) ∙ ap (λ t. later ++ t) g.is ∙ e in
      let may = (happens-before partition key (later ++ g.later) (AtFallback g.event ∷ g.moment) (subst (HappensTo partition key) (sym whole) h)).2 in
      let by = context-came g.moment g.event.key g.event.context g.itself (below course all (later ++ g.later) (AtFallback g.event) g.moment whole) (may g.itself) dot g.covers_it in
      record {
        later = (g.later ++ AtFallback g.event ∷ []) ++ by.later;
        moment = by.moment;
        is = append_assoc (g.later ++ AtFallback g.event ∷ []) by.later by.moment ∙ ap (λ t. (g.later ++ AtFallback g.event ∷ []) ++ t) by.is ∙ append_assoc g.later (AtFallback g.event ∷ []) g.moment ∙ g.is;
        came = by.came;
      }

  module _ (course : Course) (happens : HappensTo partition key course) (all : CameBelow course) where
    abbrev log : Log
    log = primary_log course

    -- a number of a fallback at a moment: its diversion had come
    pub side-came : (moment : Course) (number : Number) (dot : Dot) → number.side ≢ 0 → DotIn moment number dot → number.side ≤ diversions_of moment
    side-came moment number dot ne d = elim (cases_lt (diversions_of moment) number.side) [ inl lt ↦ absurd (none lt) | inr le ↦ le ]
      where
        there : (b : Bool) → (number.side == 0) ≡ b
            → cond b (dot_of v l (commands_of (primary_log moment)) key number.number) (dot_of partition.fallback (partition.opened number.side) (fallback_of moment number.side) key number.number) ≡ Some dot
            → dot_of partition.fallback (partition.opened number.side) (fallback_of moment number.side) key number.number ≡ Some dot
        there true e d = absurd (ne (nat_eq-same number.side 0 e))
        there false e d = d

        none : diversions_of moment < number.side → ⊥
        none lt =
            none_some dot
            (sym (ap (λ t. dot_of partition.fallback (partition.opened number.side) t key number.number) (none-yet moment number.side lt)) ∙ there (number.side == 0) refl d)

    -- a copy in the log of a moment is of a diversion that had come
    pub copy-came : (moment : Course) (later : Log) (copy : Copy Content) (before : Log) → later ++ Copied copy ∷ before ≡ primary_log moment → copy.diversion ≤ diversions_of moment
    copy-came moment later copy before e =
        let m : CopyMade partition moment copy before = copy-made partition moment later copy before e in
        let grow : diversions_of (CopyBack m.key ∷ m.moment) ≤ diversions_of moment = subst (λ t. diversions_of (CopyBack m.key ∷ m.moment) ≤ diversions_of t) m.is (diversions-grow m.later (CopyBack m.key ∷ m.moment)) in
        let is : copy.diversion ≡ diversions_of m.moment = ap (λ (c : Copy Content). c.diversion) m.copy_is in
        omega (arith, grow, is)

    true-copy : (later : Log) (copy : Copy Content) (before : Log) → later ++ Copied copy ∷ before ≡ log → key_eq copy.key key ≡ true → IsTrueCopy partition log (fallback_of course) key copy
    true-copy later copy before e p =
        let m : CopyMade partition course copy before = copy-made partition course later copy before e in
        subst (IsTrueCopy partition log (fallback_of course) key) (sym m.copy_is) (made m (sym (ap (λ (c : Copy Content). key_eq c.key key) m.copy_is) ∙ p))
      where
        made : (m : CopyMade partition course copy before) → key_eq m.key key ≡ true → IsTrueCopy partition log (fallback_of course) key (copy_of partition m.moment m.key)
        made m q =
            let n : ℕ = diversions_of m.moment in
            let may = (happens-before partition key m.later (CopyBack m.key ∷ m.moment) (subst (HappensTo partition key) (sym m.is) happens)).1 in
            let grow : diversions_of (CopyBack m.key ∷ m.moment) ≤ diversions_of course = subst (λ t. diversions_of (CopyBack m.key ∷ m.moment) ≤ diversions_of t) m.is (diversions-grow m.later (CopyBack m.key ∷ m.moment)) in
            let all_within = within partition course (it-happens partition key course happens) in
            let g : Grown (fallback_of m.moment n) (fallback_of course n) = subst (λ t. Grown (fallback_of m.moment n) (fallback_of t n)) m.is (fallback-grows m.later (CopyBack m.key ∷ m.moment) n) in
            record {
              diversion = (diverted-some m.moment may.0, omega (arith, grow, all_within));
              begins = (g.gap, g.is);
              clock = ap (clock_of (fallback_state partition m.moment)) (key_eq-same m.key key q);
            }

    -- what a copied context covers had come before the copy
    contexts-came : (later before : Log) (copy : Copy Content) → later ++ Copied copy ∷ before ≡ log → (number : Number) (dot : Dot) → DotIn course number dot → number.side ≢ copy.diversion
        → is_covered_by copy.prefix key dot ≡ true → HasCome partition log (fallback_of course) key before number
    contexts-came later before copy e number dot has ne covered = came (copy-made partition course later copy before e)
      where
        came : CopyMade partition course copy before → HasCome partition log (fallback_of course) key before number
        came m = by (covering-came course happens all m.moment dot (m.later ++ CopyBack m.key ∷ []) (append_assoc m.later (CopyBack m.key ∷ []) m.moment ∙ m.is) (covering m.moment n key dot there))
          where
            n : ℕ
            n = diversions_of m.moment

            there : is_covered_by (fallback_of m.moment (diversions_of m.moment)) key dot ≡ true
            there = sym (ap (λ (c : Copy Content). is_covered_by c.prefix key dot) m.copy_is) ∙ covered

            whole : (w : CameBy m.moment dot) → (m.later ++ CopyBack m.key ∷ w.later) ++ w.moment ≡ course
            whole w = append_assoc m.later (CopyBack m.key ∷ w.later) w.moment ∙ ap (λ t. m.later ++ CopyBack m.key ∷ t) w.is ∙ m.is

            own : (w : CameBy m.moment dot) → dot_of v l (commands_of (primary_log w.moment)) key number.number ≡ Some dot → number.number ≤ count_of (commands_of before) key
            own w d =
                let few = number-within v l key (commands_of (primary_log w.moment)) number.number dot d in
                let g : LogGrown partition (primary_log w.moment) (primary_log m.moment) = subst (λ t. LogGrown partition (primary_log w.moment) (primary_log t)) w.is (primary-grows partition w.later w.moment) in
                let more = count-later key (commands_of g.gap) (commands_of (primary_log w.moment)) in
                let same : count_of (commands_of before) key ≡ count_of (commands_of g.gap ++ commands_of (primary_log w.moment)) key =
                ap (λ t. count_of (commands_of t) key) (m.before_is ∙ sym g.is) ∙ ap (λ t. count_of t key) (commands-append g.gap (primary_log w.moment)) in
                omega (arith, few, more, same)

            brought : (w : CameBy m.moment dot) → number.side ≢ 0 → DotIn w.moment number dot → dot_of partition.fallback (partition.opened number.side) (fallback_of w.moment number.side) key number.number ≡ Some dot
                → number.number ≤ brought_count before key number.side
            brought w nz here d =
                let few = number-within partition.fallback (partition.opened number.side) key (fallback_of w.moment number.side) number.number dot d in
                let g : Grown (fallback_of w.moment number.side) (fallback_of m.moment number.side) = subst (λ t. Grown (fallback_of w.moment number.side) (fallback_of t number.side)) w.is (fallback-grows w.later w.moment number.side) in
                let more : count_of (fallback_of w.moment number.side) key ≤ count_of (fallback_of m.moment number.side) key = subst (λ t. count_of (fallback_of w.moment number.side) key ≤ count_of t key) g.is (count-later key g.gap (fallback_of w.moment number.side)) in
                let begun : number.side ≤ diversions_of w.moment = side-came w.moment number dot nz here in
                let grow : diversions_of w.moment ≤ diversions_of m.moment = subst (λ t. diversions_of w.moment ≤ diversions_of t) w.is (diversions-grow w.later w.moment) in
                let other : number.side ≢ diversions_of m.moment = λ q. ne (q ∙ sym (ap (λ (c : Copy Content). c.diversion) m.copy_is)) in
                let past : number.side < diversions_of m.moment = omega (arith, begun, grow, other) in
                let all_settled : brought_count (primary_log m.moment) key number.side ≡ count_of (fallback_of m.moment number.side) key =
                settled partition key m.moment (happens-before partition key (m.later ++ CopyBack m.key ∷ []) m.moment (subst (HappensTo partition key) (sym (append_assoc m.later (CopyBack m.key ∷ []) m.moment ∙ m.is)) happens)) number.side (inl past) in
                let same : brought_count before key number.side ≡ brought_count (primary_log m.moment) key number.side = ap (λ t. brought_count t key number.side) m.before_is in
                omega (arith, few, more, all_settled, same)

            nonzero_side : (number.side == 0) ≡ false → number.side ≢ 0
            nonzero_side q z = let one = nonzero number.side q in omega (arith, one, z)

            at : (w : CameBy m.moment dot) → DotIn w.moment number dot → (b : Bool) → (number.side == 0) ≡ b
                → cond b (dot_of v l (commands_of (primary_log w.moment)) key number.number) (dot_of partition.fallback (partition.opened number.side) (fallback_of w.moment number.side) key number.number) ≡ Some dot
                → MatchBool b (number.number ≤ count_of (commands_of before) key) (number.number ≤ brought_count before key number.side)
            at w here true q d = own w d
            at w here false q d = brought w (nonzero_side q) here d

            by : CameBy m.moment dot → HasCome partition log (fallback_of course) key before number
            by w =
                let here : DotIn w.moment number dot =
                there-then (m.later ++ CopyBack m.key ∷ w.later) w.moment (subst (HappensTo partition key) (sym (whole w)) happens) number dot (subst (λ t. DotIn t number dot) (sym (whole w)) has) w.came in
                at w here (number.side == 0) refl here

    -- what had come or was seen at the primary before a reap is of a diversion that had come
    bounded : (moment : Course) (later' : Course) → later' ++ moment ≡ course → (before : Log) → before ≡ primary_log moment → (number : Number) (dot : Dot) → DotIn course number dot → number.side ≢ 0
        → HasCome partition log (fallback_of course) key before number ⊎ (is_seen key number dot before ≡ true) → number.side ≤ diversions_of moment
    bounded moment later' e before b number dot has ne h = elim h [ inl c ↦ by_copy [] before refl (come c) | inr s ↦ by_command (seen-by key number dot before s) ]
      where
        side_false : (number.side == 0) ≡ false
        side_false = not_zero number.side (let one : number.side ≢ 0 = ne in omega (arith, one))

        positive : 1 ≤ number.number
        positive =
            number-positive partition.fallback (partition.opened number.side) key (fallback_of course number.side) number.number dot
            (sym (ap (λ x. cond x (dot_of v l (commands_of log) key number.number) (dot_of partition.fallback (partition.opened number.side) (fallback_of course number.side) key number.number)) side_false) ∙ has)

        come : HasCome partition log (fallback_of course) key before number → number.number ≤ count_brought key before number.side
        come c = subst (λ x. MatchBool x (number.number ≤ count_of (commands_of before) key) (number.number ≤ brought_count before key number.side)) side_false c

        by_copy : (gap part : Log) → gap ++ part ≡ before → number.number ≤ count_brought key part number.side → number.side ≤ diversions_of moment
        by_copy gap part g c =
            let copy : BroughtBy key part number.side number.number = brought-by key part number.side number.number positive c in
            let at : (gap ++ copy.later) ++ Copied copy.copy ∷ copy.before ≡ primary_log moment = append_assoc gap copy.later (Copied copy.copy ∷ copy.before) ∙ ap (λ t. gap ++ t) copy.is ∙ g ∙ b in
            let le = copy-came moment (gap ++ copy.later) copy.copy copy.before at in
            let is = copy.side in
            omega (arith, le, is)

        by_context : (w : CameBy moment dot) → number.side ≤ diversions_of moment
        by_context w =
            let whole : (later' ++ w.later) ++ w.moment ≡ course = append_assoc later' w.later w.moment ∙ ap (λ t. later' ++ t) w.is ∙ e in
            let here : DotIn w.moment number dot = there-then (later' ++ w.later) w.moment (subst (HappensTo partition key) (sym whole) happens) number dot (subst (λ t. DotIn t number dot) (sym whole) has) w.came in
            let begun = side-came w.moment number dot ne here in
            let grow : diversions_of w.moment ≤ diversions_of moment = subst (λ t. diversions_of w.moment ≤ diversions_of t) w.is (diversions-grow w.later w.moment) in
            omega (arith, begun, grow)

        by_command : SeenBy key number dot before → number.side ≤ diversions_of moment
        by_command s = at s.event.context refl s.saw
          where
            m : CommandMade partition moment s.event s.before
            m = command-made partition moment s.later s.event s.before (s.is ∙ b)

            whole : (later' ++ m.later) ++ AtPrimary s.event ∷ m.moment ≡ course
            whole = append_assoc later' m.later (AtPrimary s.event ∷ m.moment) ∙ ap (λ t. later' ++ t) m.is ∙ e

            shown : (context : Context) → s.event.context ≡ Some context → WasShownInCourse partition m.moment s.event.key context
            shown = ((happens-before partition key (later' ++ m.later) (AtPrimary s.event ∷ m.moment) (subst (HappensTo partition key) (sym whole) happens)).2 s.itself).1

            lifted : CameBy m.moment dot → CameBy moment dot
            lifted w = record {
              later = (m.later ++ AtPrimary s.event ∷ []) ++ w.later;
              moment = w.moment;
              is = append_assoc (m.later ++ AtPrimary s.event ∷ []) w.later w.moment ∙ ap (λ t. (m.later ++ AtPrimary s.event ∷ []) ++ t) w.is ∙ append_assoc m.later (AtPrimary s.event ∷ []) m.moment ∙ m.is;
              came = w.came;
            }

            second : (x y : Bool) → (x && y) ≡ true → y ≡ true
            second true y h = h
            second false y h = cc

            at : (given : Option Context) → s.event.context ≡ given
                → option_map_or (λ context. covers (pairs_of (Some context)) dot) given (takes_all s.event.operation && nat_le number.number (brought_count s.before s.event.key number.side)) ≡ true → number.side ≤ diversions_of moment
            at (Some context) p h =
                by_context (lifted (context-came m.moment s.event.key s.event.context s.itself (below course all (later' ++ m.later) (AtPrimary s.event) m.moment whole) shown dot (ap (λ g. covers (pairs_of g) dot) p ∙ h)))
            at None p h =
                let reached : number.number ≤ brought_count s.before s.event.key number.side = test-le number.number (brought_count s.before s.event.key number.side) (second (takes_all s.event.operation) (nat_le number.number (brought_count s.before s.event.key number.side)) h) in
                by_copy (s.later ++ Command s.event ∷ []) s.before (append_assoc s.later (Command s.event ∷ []) s.before ∙ s.is) (subst (λ k. number.number ≤ brought_count s.before k number.side) (key_eq-same s.event.key key s.itself) reached)

    reaps-came : (later before : Log) (event : Event Content Context) → later ++ Command event ∷ before ≡ log → (number : Number) (dot : Dot) → DotIn course number dot → number.side ≢ 0
        → HasCome partition log (fallback_of course) key before number ⊎ (is_seen key number dot before ≡ true) → count_brought key later number.side ≡ 0
    reaps-came later before event e number dot has ne h = elim (cases_lt 0 (count_brought key later number.side)) [ inl lt ↦ absurd (some lt) | inr le ↦ omega (arith, le) ]
      where
        m : CommandMade partition course event before
        m = command-made partition course later event before e

        bound : number.side ≤ diversions_of m.moment
        bound = bounded m.moment (m.later ++ AtPrimary event ∷ []) (append_assoc m.later (AtPrimary event ∷ []) m.moment ∙ m.is) before m.before_is number dot has ne h

        undiverted : is_diverted m.moment ≡ false
        undiverted = (happens-before partition key m.later (AtPrimary event ∷ m.moment) (subst (HappensTo partition key) (sym m.is) happens)).1.0

        after : (c : BroughtBy key later number.side 1) (mc : CopyMade partition course c.copy (c.before ++ Command event ∷ before))
            → Compared mc.later (CopyBack mc.key) mc.moment m.later (AtPrimary event) m.moment → ⊥
        after c mc (inl (x, y, z)) = cc
        after c mc (inr (inl (between, y, z))) =
            let diverted : is_diverted mc.moment ≡ true = (happens-before partition key mc.later (CopyBack mc.key ∷ mc.moment) (subst (HappensTo partition key) (sym mc.is) happens)).1.0 in
            let since = diverted-since between (AtPrimary event ∷ m.moment) undiverted (ap is_diverted (sym y) ∙ diverted) in
            let same : diversions_of mc.moment ≡ diversions_of (between ++ AtPrimary event ∷ m.moment) = ap diversions_of y in
            let copy_is : c.copy.diversion ≡ diversions_of mc.moment = ap (λ (x : Copy Content). x.diversion) mc.copy_is in
            let side_is = c.side in
            let limit = bound in
            omega (arith, since, same, copy_is, side_is, limit)
        after c mc (inr (inr (between, y, z))) =
            let g : LogGrown partition (primary_log (CopyBack mc.key ∷ mc.moment)) (primary_log m.moment) =
            subst (λ t. LogGrown partition (primary_log (CopyBack mc.key ∷ mc.moment)) (primary_log t)) (sym y) (primary-grows partition between (CopyBack mc.key ∷ mc.moment)) in
            let long : length before ≡ length g.gap + length (primary_log (CopyBack mc.key ∷ mc.moment)) = ap length (m.before_is ∙ sym g.is) ∙ length-append g.gap (primary_log (CopyBack mc.key ∷ mc.moment)) in
            let short : length (primary_log mc.moment) ≡ length c.before + length (Command event ∷ before) = ap length (sym mc.before_is) ∙ length-append c.before (Command event ∷ before) in
            omega (arith, long, short)

        some : 0 < count_brought key later number.side → ⊥
        some lt =
            let c : BroughtBy key later number.side 1 = brought-by key later number.side 1 (omega arith) (omega (arith, lt)) in
            let whole : c.later ++ Copied c.copy ∷ (c.before ++ Command event ∷ before) ≡ log = sym (append_assoc c.later (Copied c.copy ∷ c.before) (Command event ∷ before)) ∙ ap (λ t. t ++ Command event ∷ before) c.is ∙ e in
            let mc = copy-made partition course c.later c.copy (c.before ++ Command event ∷ before) whole in
            after c mc (compare mc.later (CopyBack mc.key) mc.moment m.later (AtPrimary event) m.moment (mc.is ∙ sym m.is))

    pub hand-off : IsHandOff partition log (fallback_of course) key
    hand-off = record {
      primary_legal = legal-primary partition key course happens;
      fallbacks_legal = λ n diversion. legal-fallback partition course (it-happens partition key course happens) n;
      copies = λ later before copy stands. true-copy later copy before stands.0 stands.1;
      apart = dots_stand_apart partition log (fallback_of course) key (sides-rise partition course ids (it-happens partition key course happens));
      unreaped = λ n diversion. all-updates partition course (it-happens partition key course happens) n key;
      reaps = λ later before event stands number dot has ne h. reaps-came later before event stands.0 number dot has ne h;
      contexts = λ later before copy stands number dot has ne covered come. contexts-came later before copy stands.0 number dot has ne covered;
    }
