-- A legal log with one command more is legal.
use Rattle.std.proofs.Common.{◌≡◌, ℕ, ◌≤◌, ◌≢◌, Bool, true, false, cond, [], ◌∷◌, ◌++◌, refl, sym, ◌∙◌, ap, arith, subst, inl, inr}
use Rattle.std.specs.Prelude.{◌==◌, ◌⊎◌, Some, MatchBool}
use Rattle.riak_msgs.specs.declared.Key.{Key}
use Rattle.riak_msgs.specs.Contents.{Content}
use Rattle.riak_msgs.specs.KeyOrder.{key_eq}
use Rattle.sibling_register.specs.History.{Event, Operation, Write, Tombstone, Reap, count_of}
use Rattle.actor_epoch.specs.declared.Dot.{Dot}
use Rattle.actor_epoch.specs.Dots.{covers}
use Rattle.actor_epoch.specs.Given.{Context}
use Rattle.vnode_machine.specs.Machine.{State, pairs_of, apply_operation}
use Rattle.vnode_machine.specs.Lives.{dot_of}
use Rattle.vnode_machine.proofs.Tests.{nat_eq-same}
use Rattle.copy_laws.specs.Copies.{Copy, LogEntry, Command, Copied, commands_of, count_brought as brought_count}
use Rattle.copy_laws.specs.Sides.{Partition, Number, is_covered_by, is_seen_by_primary}
use Rattle.copy_laws.specs.CopyReplay.{primary_after, AcceptsEntry}
use Rattle.copy_laws.specs.Joining.{Log, Fallbacks, IsHandOff, IsTrueCopy, HasDot, HasCome, StandsCopy, StandsReap}
use Rattle.copy_laws.specs.LegalLogs.{IsLegalLog, CoversBrought, LogsGoOn}
use Rattle.copy_laws.proofs.Apart.{dots_stand_apart}
use Rattle.copy_laws.proofs.Later.{dot-later}
use Rattle.copy_laws.proofs.LifeDots.{dot-of, one-number}
use Rattle.copy_laws.proofs.Numbered.{number-within}
use Rattle.copy_laws.proofs.Splits.{head-same, tail-same}

still-open : (state : State Content) (at : Key) (given : _) (operation : Operation Content) → (apply_operation state at given operation).closed ≡ state.closed
still-open state at given (Write content) = refl
still-open state at given Tombstone = refl
still-open state at given Reap = refl

module _ (partition : Partition) (log : Log) (fallbacks : Fallbacks) (key : Key) (legal : IsLegalLog partition log fallbacks key) (event : Event Content Context)
    (accepts : AcceptsEntry partition key log (Command event)) (brings : key_eq event.key key ≡ true → CoversBrought partition log fallbacks key event.context) where
  abbrev v : ℕ
  v = partition.primary

  abbrev l : ℕ
  l = partition.last_epoch

  abbrev after : Log
  after = Command event ∷ log

  abbrev off : IsHandOff partition log fallbacks key
  off = legal.hand_off

  -- an entry of it is the command, or stands in the log
  abbrev Stands : Log → LogEntry Content → Log → Type 0
  Stands later entry before = ((later ≡ []) × (entry ≡ Command event) × (before ≡ log)) ⊎ ((inner : Log) × (later ≡ Command event ∷ inner) × (inner ++ entry ∷ before ≡ log))

  stands : (later : Log) (entry : LogEntry Content) (before : Log) → later ++ entry ∷ before ≡ after → Stands later entry before
  stands [] entry before e = inl (refl, head-same entry (Command event) before log e, tail-same entry (Command event) before log e)
  stands (x ∷ inner) entry before e =
      inr (inner, (λ i. head-same x (Command event) (inner ++ entry ∷ before) log e i ∷ inner), tail-same x (Command event) (inner ++ entry ∷ before) log e)

  older : (later : Log) (copy : Copy Content) (before : Log) → later ++ Copied copy ∷ before ≡ after → (inner : Log) × (inner ++ Copied copy ∷ before ≡ log)
  older later copy before e = by (stands later (Copied copy) before e)
    where
      by : Stands later (Copied copy) before → (inner : Log) × (inner ++ Copied copy ∷ before ≡ log)
      by (inl h) = let no = h.1 in cc
      by (inr h) = (h.0, h.2)

  -- dots stay
  dot-more : (number : Number) (dot : Dot) → HasDot partition log fallbacks key number dot → HasDot partition after fallbacks key number dot
  dot-more number dot h = by (number.side == 0) h
    where
      by : (b : Bool) → cond b (dot_of v l (commands_of log) key number.number) (dot_of partition.fallback (partition.opened number.side) (fallbacks number.side) key number.number) ≡ Some dot
          → cond b (dot_of v l (event ∷ commands_of log) key number.number) (dot_of partition.fallback (partition.opened number.side) (fallbacks number.side) key number.number) ≡ Some dot
      by true d = dot-later key v l (event ∷ []) (commands_of log) number.number (number-within v l key (commands_of log) number.number dot d) ∙ d
      by false d = d

  other-dot : (number : Number) (dot : Dot) → number.side ≢ 0 → HasDot partition after fallbacks key number dot → HasDot partition log fallbacks key number dot
  other-dot number dot side h = by (number.side == 0) refl h
    where
      by : (b : Bool) → (number.side == 0) ≡ b
          → cond b (dot_of v l (event ∷ commands_of log) key number.number) (dot_of partition.fallback (partition.opened number.side) (fallbacks number.side) key number.number) ≡ Some dot
          → cond b (dot_of v l (commands_of log) key number.number) (dot_of partition.fallback (partition.opened number.side) (fallbacks number.side) key number.number) ≡ Some dot
      by true z d = absurd (side (nat_eq-same number.side 0 z))
      by false z d = d

  reaps : (later before : Log) (reap : Event Content Context) → StandsReap partition after fallbacks key later reap before → (number : Number) (dot : Dot)
      → HasDot partition after fallbacks key number dot → number.side ≢ 0 → HasCome partition after fallbacks key before number ⊎ (is_seen_by_primary before key number dot ≡ true)
      → brought_count later key number.side ≡ 0
  reaps later before reap s number dot h side come = by (stands later (Command reap) before s.0)
    where
      by : Stands later (Command reap) before → brought_count later key number.side ≡ 0
      by (inl e) = ap (λ t. brought_count t key number.side) e.0
      by (inr e) = ap (λ t. brought_count t key number.side) e.1 ∙ off.reaps e.0 before reap (e.2, s.1, s.2) number dot (other-dot number dot side h) side come

  contexts : (later before : Log) (copy : Copy Content) → StandsCopy partition after fallbacks key later copy before → (number : Number) (dot : Dot)
      → HasDot partition after fallbacks key number dot → number.side ≢ copy.diversion → is_covered_by copy.prefix key dot ≡ true
      → HasCome partition after fallbacks key after number → HasCome partition after fallbacks key before number
  contexts later before copy s number dot h side covered come = by (number.side == 0) refl h come
    where
      old : (inner : Log) × (inner ++ Copied copy ∷ before ≡ log)
      old = older later copy before s.0

      by : (b : Bool) → (number.side == 0) ≡ b
          → cond b (dot_of v l (event ∷ commands_of log) key number.number) (dot_of partition.fallback (partition.opened number.side) (fallbacks number.side) key number.number) ≡ Some dot
          → MatchBool b (number.number ≤ count_of (event ∷ commands_of log) key) (number.number ≤ brought_count log key number.side)
          → MatchBool b (number.number ≤ count_of (commands_of before) key) (number.number ≤ brought_count before key number.side)
      by true z d c = own (legal.came.copied old.0 before copy (old.1, s.1) dot (dot-of v l (event ∷ commands_of log) key number.number dot d).vnode_is covered)
        where
          own : (other : Number) × HasDot partition log fallbacks key other dot × HasCome partition log fallbacks key before other → number.number ≤ count_of (commands_of before) key
          own (other, has, came) = at (other.side == 0) has came
            where
              at : (b : Bool) → cond b (dot_of v l (commands_of log) key other.number) (dot_of partition.fallback (partition.opened other.side) (fallbacks other.side) key other.number) ≡ Some dot
                  → MatchBool b (other.number ≤ count_of (commands_of before) key) (other.number ≤ brought_count before key other.side) → number.number ≤ count_of (commands_of before) key
              at true e c =
                  let whole : dot_of v l (event ∷ commands_of log) key other.number ≡ Some dot = dot-later key v l (event ∷ []) (commands_of log) other.number (number-within v l key (commands_of log) other.number dot e) ∙ e in
                  let one : number.number ≡ other.number = one-number v l (event ∷ commands_of log) key number.number other.number dot d whole in
                  omega (arith, one, c)
              at false e c =
                  let there = (dot-of partition.fallback (partition.opened other.side) (fallbacks other.side) key other.number dot e).vnode_is in
                  let here = (dot-of v l (event ∷ commands_of log) key number.number dot d).vnode_is in
                  let ids = legal.rise.ids in
                  absurd (omega (arith, there, here, ids))
      by false z d c =
          let has : HasDot partition log fallbacks key number dot =
          ap (λ b. cond b (dot_of v l (commands_of log) key number.number) (dot_of partition.fallback (partition.opened number.side) (fallbacks number.side) key number.number)) z ∙ d in
          let here : HasCome partition log fallbacks key log number = subst (λ b. MatchBool b (number.number ≤ count_of (commands_of log) key) (number.number ≤ brought_count log key number.side)) (sym z) c in
          subst (λ b. MatchBool b (number.number ≤ count_of (commands_of before) key) (number.number ≤ brought_count before key number.side)) z (off.contexts old.0 before copy (old.1, s.1) number dot has side covered here)

  abbrev ComesBy : Log → Dot → Type 0
  ComesBy before dot = (number : Number) × HasDot partition after fallbacks key number dot × HasCome partition after fallbacks key before number

  given : (later before : Log) (other : Event Content Context) → later ++ Command other ∷ before ≡ after → key_eq other.key key ≡ true → (dot : Dot) → dot.actor.vnode ≡ partition.fallback
      → covers (pairs_of other.context) dot ≡ true → ComesBy before dot
  given later before other e itself dot vnode h = by (stands later (Command other) before e)
    where
      inner : (a b : Event Content Context) → Command a ≡ Command b → a ≡ b
      inner a b e = cc

      by : Stands later (Command other) before → ComesBy before dot
      by (inl s) =
          let same : other ≡ event = inner other event s.1 in
          let found = brings (ap (λ (x : Event Content Context). key_eq x.key key) (sym same) ∙ itself) dot vnode (ap (λ (x : Event Content Context). covers (pairs_of x.context) dot) (sym same) ∙ h) in
          (found.0, dot-more found.0 dot found.1, subst (λ t. HasCome partition after fallbacks key t found.0) (sym s.2) found.2)
      by (inr s) = let found = legal.came.given s.0 before other s.2 itself dot vnode h in (found.0, dot-more found.0 dot found.1, found.2)

  copied : (later before : Log) (copy : Copy Content) → StandsCopy partition after fallbacks key later copy before → (dot : Dot) → dot.actor.vnode ≡ partition.primary
      → is_covered_by copy.prefix key dot ≡ true → ComesBy before dot
  copied later before copy s dot vnode h =
      let old = older later copy before s.0 in
      let found = legal.came.copied old.0 before copy (old.1, s.1) dot vnode h in
      (found.0, dot-more found.0 dot found.1, found.2)

  pub legal-next : IsLegalLog partition after fallbacks key
  legal-next = record {
    hand_off = record {
      primary_legal = (off.primary_legal, legal.open_still, accepts);
      fallbacks_legal = off.fallbacks_legal;
      copies = λ later before copy s. let old = older later copy before s.0 in
          let one : IsTrueCopy partition log fallbacks key copy = off.copies old.0 before copy (old.1, s.1) in
          record { diversion = one.diversion; begins = one.begins; clock = one.clock };
      apart = λ a b dot h k. dots_stand_apart partition after fallbacks key legal.rise a b dot h k;
      unreaped = off.unreaped;
      reaps = reaps;
      contexts = contexts;
    };
    rise = legal.rise;
    came = record { given = given; copied = copied };
    had = λ later before copy s. let old = older later copy before s.0 in legal.had old.0 before copy (old.1, s.1);
    open_still = still-open (primary_after partition log) event.key event.context event.operation ∙ legal.open_still;
  }

pub logs_go_on : (partition : Partition) (log : Log) (fallbacks : Fallbacks) → LogsGoOn partition log fallbacks
logs_go_on partition log fallbacks key legal event accepts brings = legal-next partition log fallbacks key legal event accepts brings
