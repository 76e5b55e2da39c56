-- Where a number of the primary's own stands in its log, and which positions know its dot.
use Rattle.std.proofs.Common.{◌≡◌, ℕ, suc, ◌≤◌, true, false, [], ◌∷◌, ◌++◌, refl, sym, ◌∙◌, ap, arith, subst, inl, inr}
use Rattle.std.specs.Prelude.{Option, Some}
use Rattle.riak_msgs.specs.declared.Key.{Key}
use Rattle.riak_msgs.specs.Contents.{Content}
use Rattle.sibling_register.specs.History.{Event, count_of}
use Rattle.sibling_register.proofs.Following.{count_of-own}
use Rattle.actor_epoch.specs.declared.Dot.{Dot}
use Rattle.actor_epoch.specs.Dots.{dot_eq}
use Rattle.actor_epoch.specs.Given.{Context}
use Rattle.dvv_set.proofs.Live.{dot_eq-same}
use Rattle.vnode_machine.specs.Lives.{latest_dot}
use Rattle.copy_laws.specs.Copies.{LogEntry, Command, Copied, Closed, commands_of}
use Rattle.copy_laws.specs.Sides.{Partition}
use Rattle.copy_laws.specs.Joining.{Log, Fallbacks, IsJoined, value_at}
use Rattle.copy_laws.proofs.Splits.{head-same, tail-same, none-right}
use Rattle.copy_laws.proofs.Clocks.{knows}
use Rattle.copy_laws.proofs.Since.{Since, forgets, is_forgotten_in, clock_at, dot_given, IsUpdate, GivesValue, knows-since, value-since}
use Rattle.copy_laws.proofs.LifeDots.{some-same, one-number}
use Rattle.copy_laws.proofs.Later.{H, count-later}
use Rattle.copy_laws.proofs.Fallback.{dot_eq-refl}
use Rattle.copy_laws.proofs.Numbered.{IsNumbered, numbered}
use Rattle.copy_laws.proofs.PrimaryDots.{commands-append, own-number-dot}
use Rattle.copy_laws.proofs.Tracked.{exact-at, unknown-before}
use Rattle.copy_laws.proofs.OwnCommands.{part-at}
use Rattle.copy_laws.proofs.JoinedFacts.{Dotted, of-fallback, dotted-prefix, copy-sibling}

-- a command of a log, where it stands among the commands
record CommandAt (log : Log) (event : Event Content Context) (rest : H) : Type 0 where
  later : Log
  before : Log
  is : later ++ Command event ∷ before ≡ log
  rest_is : commands_of before ≡ rest

command-at : (log : Log) (later : H) (event : Event Content Context) (rest : H) → later ++ event ∷ rest ≡ commands_of log → CommandAt log event rest
command-at [] [] event rest e = cc
command-at [] (x ∷ later) event rest e = cc
command-at (Command c ∷ log) [] event rest e =
    record { later = []; before = log; is = ap (λ x. Command x ∷ log) (head-same event c rest (commands_of log) e); rest_is = sym (tail-same event c rest (commands_of log) e) }
command-at (Command c ∷ log) (x ∷ later) event rest e =
    let at = command-at log later event rest (tail-same x c (later ++ event ∷ rest) (commands_of log) e) in
    record { later = Command c ∷ at.later; before = at.before; is = ap (λ t. Command c ∷ t) at.is; rest_is = at.rest_is }
command-at (Copied copy ∷ log) later event rest e =
    let at = command-at log later event rest e in record { later = Copied copy ∷ at.later; before = at.before; is = ap (λ t. Copied copy ∷ t) at.is; rest_is = at.rest_is }
command-at (Closed number ∷ log) later event rest e =
    let at = command-at log later event rest e in record { later = Closed number ∷ at.later; before = at.before; is = ap (λ t. Closed number ∷ t) at.is; rest_is = at.rest_is }

module _ (partition : Partition) (primary : Log) (fallbacks : Fallbacks) (key : Key) (joined : IsJoined partition primary fallbacks key) where
  abbrev v : ℕ
  v = partition.primary

  abbrev l : ℕ
  l = partition.last_epoch

  -- the command that has the number, and gave the dot
  pub record IsOwnNumber (k : ℕ) (dot : Dot) : Type 0 where
    pub event : Event Content Context
    pub later : Log
    pub before : Log
    pub is : later ++ Command event ∷ before ≡ primary
    pub update : IsUpdate v l key event
    pub k_is : k ≡ suc (count_of (commands_of before) key)
    pub given_is : dot_given v l key before event ≡ dot

  pub own-number : (k : ℕ) (dot : Dot) → Dotted partition primary fallbacks key joined 0 k dot → IsOwnNumber k dot
  own-number k dot dotted = at (numbered v l key (commands_of primary) k dot dotted)
    where
      at : IsNumbered v l key (commands_of primary) k dot → IsOwnNumber k dot
      at n =
          let log : CommandAt primary n.event n.before = command-at primary n.later n.event n.before n.is in
          record {
            event = n.event;
            later = log.later;
            before = log.before;
            is = log.is;
            update = (n.itself, n.update);
            k_is = n.number_is ∙ ap (λ t. suc (count_of t key)) (sym log.rest_is);
            given_is = some-same (dot_given v l key log.before n.event) dot
                (sym (exact-at partition primary fallbacks key joined log.later n.event log.before log.is (n.itself, n.update)) ∙ ap (λ t. latest_dot v l (n.event ∷ t) key) log.rest_is ∙ n.latest);
          }

  module _ (k : ℕ) (dot : Dot) (n : IsOwnNumber k dot) where
    pub own-positive : 1 ≤ k
    own-positive = let e = n.k_is in omega (arith, e)

    pub own-counted : (between : Log) → k ≤ count_of (commands_of (between ++ Command n.event ∷ n.before)) key
    own-counted between =
        let more = count-later key (commands_of between) (n.event ∷ commands_of n.before) in
        let same : count_of (commands_of (between ++ Command n.event ∷ n.before)) key ≡ count_of (commands_of between ++ n.event ∷ commands_of n.before) key = ap (λ t. count_of t key) (commands-append between (Command n.event ∷ n.before)) in
        let own = count_of-own n.event (commands_of n.before) key n.update.0 in
        let e = n.k_is in omega (arith, more, same, own, e)

    -- no part of the log before it knew its dot
    pub own-unknown : (gap position : Log) → gap ++ position ≡ n.before → knows (clock_at v l key position) dot ≡ true → ⊥
    own-unknown gap position e h = unknown-before partition primary fallbacks key joined n.later n.event n.before n.is n.update gap position e (ap (knows (clock_at v l key position)) n.given_is ∙ h)

    -- so each that knows it has the number
    pub known-counted : (gap position : Log) → gap ++ position ≡ primary → knows (clock_at v l key position) dot ≡ true → k ≤ count_of (commands_of position) key
    known-counted gap position e h =
        elim (part-at gap position n.later (Command n.event) n.before (e ∙ sym n.is)) [
          | inl (inner, is, all) ↦ subst (λ t. k ≤ count_of (commands_of t) key) (sym is) (own-counted inner)
          | inr (inner, is) ↦ absurd (own-unknown inner position is h)
        ]

    -- and while the key isn't forgotten after it, each that has the number knows it
    pub counted-known : is_forgotten_in key n.later ≡ false → (gap position : Log) → gap ++ position ≡ primary → k ≤ count_of (commands_of position) key → knows (clock_at v l key position) dot ≡ true
    counted-known quiet gap position e h =
        elim (part-at gap position n.later (Command n.event) n.before (e ∙ sym n.is)) [
          | inl (inner, is, all) ↦ subst (λ t. knows (clock_at v l key t) dot ≡ true) (sym is) (known-from inner (none-right (forgets key) gap inner (ap (is_forgotten_in key) (sym all) ∙ quiet)))
          | inr (inner, is) ↦ absurd (less inner is)
        ]
      where
        known-from : (between : Log) → is_forgotten_in key between ≡ false → knows (clock_at v l key (between ++ Command n.event ∷ n.before)) dot ≡ true
        known-from between q =
            knows-since v l key dot (between ++ Command n.event ∷ n.before) (record {
              entry = Command n.event;
              later = between;
              before = n.before;
              is = refl;
              quiet = q;
              holds = (n.update, inl (ap (λ d. dot_eq d dot) n.given_is ∙ dot_eq-refl v l key dot));
            })

        less : (inner : Log) → inner ++ position ≡ n.before → ⊥
        less inner is =
            let more = count-later key (commands_of inner) (commands_of position) in
            let same : count_of (commands_of n.before) key ≡ count_of (commands_of inner ++ commands_of position) key = ap (λ t. count_of (commands_of t) key) (sym is) ∙ ap (λ t. count_of t key) (commands-append inner position) in
            let is_k = n.k_is in omega (arith, more, same, h, is_k)

  -- a number whose dot has a value was given since the key was last forgotten
  pub record IsRecent (k : ℕ) (dot : Dot) : Type 0 where
    pub number : IsOwnNumber k dot
    pub quiet : is_forgotten_in key number.later ≡ false

  pub recent : (k : ℕ) (dot : Dot) (value : Option Content) → Dotted partition primary fallbacks key joined 0 k dot → value_at (clock_at v l key primary) dot ≡ Some value → IsRecent k dot
  recent k dot value dotted h = by (value-since v l key dot value primary h)
    where
      at : (entry : LogEntry Content) (later before : Log) → later ++ entry ∷ before ≡ primary → is_forgotten_in key later ≡ false → GivesValue v l key dot value entry before → IsRecent k dot
      at (Command event) later before is quiet holds =
          let given : dot_given v l key before event ≡ dot = dot_eq-same (dot_given v l key before event) dot holds.1 in
          let there : Dotted partition primary fallbacks key joined 0 (suc (count_of (commands_of before) key)) dot =
          own-number-dot partition primary fallbacks key joined later event before is holds.0 dot (exact-at partition primary fallbacks key joined later event before is holds.0 ∙ ap (λ d. Some d) given) in
          record {
            number = record { event = event; later = later; before = before; is = is; update = holds.0; k_is = one-number v l (commands_of primary) key k (suc (count_of (commands_of before) key)) dot dotted there; given_is = given };
            quiet = quiet;
          }
      at (Copied copy) later before is quiet holds =
          let facts = of-fallback partition primary fallbacks key joined later copy before is holds.0 in
          let sibling = copy-sibling partition primary fallbacks key joined copy facts dot value holds.1 in
          let same : 0 ≡ copy.diversion =
          joined.hand_off.apart (record { side = 0; number = k }) (record { side = copy.diversion; number = sibling.number }) dot dotted
          (dotted-prefix partition primary fallbacks key joined copy facts sibling.number dot sibling.dot_is) in
          let one : 1 ≤ copy.diversion = facts.diversion.0 in
          absurd (omega (arith, same, one))
      at (Closed number) later before is quiet holds = absurd holds

      by : Since key (GivesValue v l key dot value) primary → IsRecent k dot
      by s = at s.entry s.later s.before s.is s.quiet s.holds
