-- The command of a fallback that took a dot away.
use Rattle.std.proofs.Common.{◌≡◌, ℕ, suc, ◌≤◌, true, [], ◌∷◌, ◌++◌, refl, sym, ◌∙◌, ap, arith, subst}
use Rattle.std.specs.Prelude.{Some, None}
use Rattle.riak_msgs.specs.declared.Key.{Key}
use Rattle.riak_msgs.specs.Contents.{Content}
use Rattle.riak_msgs.specs.KeyOrder.{key_eq}
use Rattle.sibling_register.specs.History.{Event, count_of, is_update}
use Rattle.sibling_register.proofs.Following.{count_of-own}
use Rattle.actor_epoch.specs.declared.Dot.{Dot}
use Rattle.actor_epoch.specs.Dots.{covers}
use Rattle.actor_epoch.specs.Given.{Context}
use Rattle.vnode_machine.specs.Machine.{opening, clock_of}
use Rattle.vnode_machine.specs.Lives.{dot_of}
use Rattle.vnode_machine.specs.Replay.{HasReplay, replay}
use Rattle.vnode_machine.proofs.Numbers.{dot_of-own}
use Rattle.copy_laws.specs.Copies.{LogEntry, Command, Copied, Closed, all_commands}
use Rattle.copy_laws.specs.CopyReplay.{state_with}
use Rattle.copy_laws.specs.Joining.{Log, value_at}
use Rattle.copy_laws.proofs.Splits.{head-same, tail-same}
use Rattle.copy_laws.proofs.Clocks.{knows, taken_pairs, given_dot}
use Rattle.copy_laws.proofs.Since.{Since, since-here, TakesAway, state_at, gone-since, gone-through, taken-since}
use Rattle.copy_laws.proofs.Later.{H, are_updates, replay-before, dot-later, count-later}
use Rattle.copy_laws.proofs.Fallback.{log-replay, quiet-commands, all-commands-append, latest-given}

-- a write or delete of the key whose pairs cover a dot
pub record Taker (v l : ℕ) (key : Key) (history : H) (dot : Dot) : Type 0 where
  pub event : Event Content Context
  pub later : H
  pub before : H
  pub is : later ++ event ∷ before ≡ history
  pub itself : key_eq event.key key ≡ true
  pub update : is_update event.operation ≡ true
  pub takes : covers (taken_pairs (replay v l before) event.key event.context event.operation) dot ≡ true

record SplitCommands (history : H) (entry : LogEntry Content) (before : Log) : Type 0 where
  event : Event Content Context
  later_of : H
  before_of : H
  is : later_of ++ event ∷ before_of ≡ history
  entry_is : entry ≡ Command event
  before_is : before ≡ all_commands before_of

split-commands : (history : H) (later : Log) (entry : LogEntry Content) (before : Log) → later ++ entry ∷ before ≡ all_commands history → SplitCommands history entry before
split-commands [] [] entry before e = cc
split-commands [] (x ∷ later) entry before e = cc
split-commands (event ∷ history) [] entry before e = record {
  event = event;
  later_of = [];
  before_of = history;
  is = refl;
  entry_is = head-same entry (Command event) before (all_commands history) e;
  before_is = tail-same entry (Command event) before (all_commands history) e;
}
split-commands (event ∷ history) (x ∷ later) entry before e =
    let s = split-commands history later entry before (tail-same x (Command event) (later ++ entry ∷ before) (all_commands history) e) in
    record { event = s.event; later_of = event ∷ s.later_of; before_of = s.before_of; is = ap (λ t. event ∷ t) s.is; entry_is = s.entry_is; before_is = s.before_is }

module _ (v l : ℕ) (key : Key) where
  at-log : (history : H) → clock_of (state_with (opening v l) (all_commands history)) key ≡ clock_of (replay v l history) key
  at-log history = ap (λ s. clock_of s key) (log-replay v l history)

  -- what is known there and has no value was taken away by one
  pub taker : (history : H) (dot : Dot) → knows (clock_of (replay v l history) key) dot ≡ true → value_at (clock_of (replay v l history) key) dot ≡ None → Taker v l key history dot
  taker history dot k none =
      by (taken-since v l key dot (all_commands history) (ap (λ c. knows c dot) (at-log history) ∙ k, ap (λ c. value_at c dot) (at-log history) ∙ none))
    where
      inner : (a b : Event Content Context) → Command a ≡ Command b → a ≡ b
      inner a b e = cc

      state : (before : Log) (before_of : H) → before ≡ all_commands before_of → state_at v l key before ≡ replay v l before_of
      state before before_of e = ap (state_with (opening v l)) e ∙ log-replay v l before_of

      at : (entry : LogEntry Content) (before : Log) → TakesAway v l key dot entry before → SplitCommands history entry before → Taker v l key history dot
      at (Command c) before h s =
          let same : c ≡ s.event = inner c s.event s.entry_is in
          let there : state_at v l key before ≡ replay v l s.before_of = state before s.before_of s.before_is in
          record {
            event = s.event;
            later = s.later_of;
            before = s.before_of;
            is = s.is;
            itself = ap (λ e. key_eq e.key key) (sym same) ∙ h.0.0;
            update = ap (λ e. is_update e.operation) (sym same) ∙ h.0.1;
            takes = sym (λ i. covers (taken_pairs (there i) (same i).key (same i).context (same i).operation) dot) ∙ h.1;
          }
      at (Copied copy) before h s = let no = s.entry_is in cc
      at (Closed number) before h s = absurd h

      by : Since key (TakesAway v l key dot) (all_commands history) → Taker v l key history dot
      by s = at s.entry s.before s.holds (split-commands history s.later s.entry s.before s.is)

  module _ (history : H) (dot : Dot) (t : Taker v l key history dot) where
    -- its own dot, and number
    abbrev pub taker_dot : Dot
    taker_dot = given_dot (replay v l t.before) t.event.key t.event.context t.event.operation

    abbrev pub taker_number : ℕ
    taker_number = suc (count_of t.before key)

    own-count : count_of (t.event ∷ t.before) key ≡ taker_number
    own-count = count_of-own t.event t.before key t.itself

    pub taker-dot : HasReplay v l history → dot_of v l history key taker_number ≡ Some taker_dot
    taker-dot replays =
        ap (λ h. dot_of v l h key taker_number) (sym t.is)
        ∙ dot-later key v l t.later (t.event ∷ t.before) taker_number (let e = own-count in omega (arith, e))
        ∙ dot_of-own t.event t.before key v l t.itself t.update
        ∙ latest-given v l key t.event t.before (replay-before v l t.later (t.event ∷ t.before) (subst (HasReplay v l) (sym t.is) replays)) t.itself t.update

    pub taker-within : taker_number ≤ count_of history key
    taker-within =
        let more : count_of (t.event ∷ t.before) key ≤ count_of history key = subst (λ h. count_of (t.event ∷ t.before) key ≤ count_of h key) t.is (count-later key t.later (t.event ∷ t.before)) in
        let e = own-count in omega (arith, more, e)

    -- from then on the dot is gone
    pub gone-taken : (gap : H) → are_updates key (gap ++ t.event ∷ t.before) ≡ true
        → (knows (clock_of (replay v l (gap ++ t.event ∷ t.before)) key) dot ≡ true) × (value_at (clock_of (replay v l (gap ++ t.event ∷ t.before)) key) dot ≡ None)
    gone-taken gap updates =
        let here : Since key (TakesAway v l key dot) (Command t.event ∷ all_commands t.before) =
        since-here key (TakesAway v l key dot) (Command t.event) (all_commands t.before)
        ((t.itself, t.update), ap (λ s. covers (taken_pairs s t.event.key t.event.context t.event.operation) dot) (log-replay v l t.before) ∙ t.takes) in
        let gone = gone-through v l key (all_commands gap) (all_commands (t.event ∷ t.before)) dot (quiet-commands v l key gap (t.event ∷ t.before) updates) (gone-since v l key dot (Command t.event ∷ all_commands t.before) here) in
        let to : clock_of (state_with (opening v l) (all_commands gap ++ all_commands (t.event ∷ t.before))) key ≡ clock_of (replay v l (gap ++ t.event ∷ t.before)) key =
        ap (λ log. clock_of (state_with (opening v l) log) key) (sym (all-commands-append v l key gap (t.event ∷ t.before))) ∙ at-log (gap ++ t.event ∷ t.before) in
        (sym (ap (λ c. knows c dot) to) ∙ gone.0, sym (ap (λ c. value_at c dot) to) ∙ gone.1)
