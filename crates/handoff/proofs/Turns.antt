-- Where the copies of each diversion stand together in a log, no command stands between two of them.
use Rattle.std.proofs.Common.{◌≡◌, ◌<◌, ◌++◌, ℕ, Bool, true, false, ◌&&◌, cond, [], ◌∷◌, refl, sym, subst, arith, inl, inr}
use Rattle.std.specs.Prelude.{◌⊎◌, ◌==◌, max}
use Rattle.riak_msgs.specs.declared.Key.{Key}
use Rattle.riak_msgs.specs.Contents.{Content}
use Rattle.riak_msgs.specs.KeyOrder.{key_eq}
use Rattle.sibling_register.specs.History.{Event, count_of}
use Rattle.actor_epoch.specs.Given.{Context}
use Rattle.vnode_machine.proofs.Tests.{nat_eq-same}
use Rattle.copy_laws.specs.Copies.{Copy, LogEntry, Command, Copied, Closed, count_brought}
use Rattle.copy_laws.specs.Joining.{Log}

-- so is each copy of a log
abbrev pub EachCopy : (Copy Content → Type 0) → Log → Type 0
EachCopy Is [] = Unit {0}
EachCopy Is (Command event ∷ log) = EachCopy Is log
EachCopy Is (Copied copy ∷ log) = Is copy × EachCopy Is log
EachCopy Is (Closed number ∷ log) = EachCopy Is log

pub each-before : (Is : Copy Content → Type 0) (entry : LogEntry Content) (log : Log) → EachCopy Is (entry ∷ log) → EachCopy Is log
each-before Is (Command event) log each = each
each-before Is (Copied copy) log each = each.1
each-before Is (Closed number) log each = each

pub each-behind : (Is : Copy Content → Type 0) (later before : Log) → EachCopy Is (later ++ before) → EachCopy Is before
each-behind Is [] before each = each
each-behind Is (entry ∷ later) before each = each-behind Is later before (each-before Is entry (later ++ before) each)

pub copy-in : (Is : Copy Content → Type 0) (log later before : Log) (copy : Copy Content) → EachCopy Is log → later ++ Copied copy ∷ before ≡ log → Is copy
copy-in Is log later before copy each is = (each-behind Is later (Copied copy ∷ before) (subst (EachCopy Is) (sym is) each)).0

pub each-weaker : (Is Also : Copy Content → Type 0) → ((copy : Copy Content) → Is copy → Also copy) → (log : Log) → EachCopy Is log → EachCopy Also log
each-weaker Is Also so [] each = tt
each-weaker Is Also so (Command event ∷ log) each = each-weaker Is Also so log each
each-weaker Is Also so (Copied copy ∷ log) each = (so copy each.0, each-weaker Is Also so log each.1)
each-weaker Is Also so (Closed number ∷ log) each = each-weaker Is Also so log each

-- copies of earlier diversions alone stand before each command
abbrev pub IsEarlier : ℕ → Copy Content → Type 0
IsEarlier n copy = copy.diversion < n

abbrev pub AtCommandsEarlier : ℕ → Log → Type 0
AtCommandsEarlier n [] = Unit {0}
AtCommandsEarlier n (Command event ∷ log) = EachCopy (IsEarlier n) log
AtCommandsEarlier n (Copied copy ∷ log) = AtCommandsEarlier n log
AtCommandsEarlier n (Closed number ∷ log) = AtCommandsEarlier n log

-- so it is before each copy, by its diversion
abbrev pub InTurns : Log → Type 0
InTurns [] = Unit {0}
InTurns (Command event ∷ log) = InTurns log
InTurns (Copied copy ∷ log) = AtCommandsEarlier copy.diversion log × InTurns log
InTurns (Closed number ∷ log) = InTurns log

pub turns-behind : (later before : Log) → InTurns (later ++ before) → InTurns before
turns-behind [] before turns = turns
turns-behind (Command event ∷ later) before turns = turns-behind later before turns
turns-behind (Copied copy ∷ later) before turns = turns-behind later before turns.1
turns-behind (Closed number ∷ later) before turns = turns-behind later before turns

pub earlier-at-commands : (n : ℕ) (log : Log) → EachCopy (IsEarlier n) log → AtCommandsEarlier n log
earlier-at-commands n [] each = tt
earlier-at-commands n (Command event ∷ log) each = each
earlier-at-commands n (Copied copy ∷ log) each = earlier-at-commands n log each.1
earlier-at-commands n (Closed number ∷ log) each = earlier-at-commands n log each

at-command : (n : ℕ) (later : Log) (event : Event Content Context) (before : Log) → AtCommandsEarlier n (later ++ Command event ∷ before) → EachCopy (IsEarlier n) before
at-command n [] event before earlier = earlier
at-command n (Command other ∷ later) event before earlier = each-behind (IsEarlier n) later (Command event ∷ before) earlier
at-command n (Copied copy ∷ later) event before earlier = at-command n later event before earlier
at-command n (Closed number ∷ later) event before earlier = at-command n later event before earlier

module _ (key : Key) (n : ℕ) where
  none-brought : (log : Log) → EachCopy (IsEarlier n) log → count_brought log key n ≡ 0
  none-brought [] each = refl
  none-brought (Command event ∷ log) each = none-brought log each
  none-brought (Copied copy ∷ log) each = by (none-brought log each.1) (key_eq copy.key key) (copy.diversion == n) refl
    where
      by : count_brought log key n ≡ 0 → (a b : Bool) → (copy.diversion == n) ≡ b → cond (a && b) (max (count_brought log key n) (count_of copy.prefix key)) (count_brought log key n) ≡ 0
      by rest true true q = let same = nat_eq-same copy.diversion n q in let less = each.0 in absurd (omega (arith, same, less))
      by rest true false q = rest
      by rest false b q = rest
  none-brought (Closed number ∷ log) each = none-brought log each

  -- a command stands behind all copies of a diversion, or before them
  pub turn-at : (later : Log) (event : Event Content Context) (before : Log) → InTurns (later ++ Command event ∷ before) → (count_brought later key n ≡ 0) ⊎ (count_brought before key n ≡ 0)
  turn-at [] event before turns = inl refl
  turn-at (Command other ∷ later) event before turns = turn-at later event before turns
  turn-at (Copied copy ∷ later) event before turns = by (turn-at later event before turns.1) (key_eq copy.key key) (copy.diversion == n) refl
    where
      by : (count_brought later key n ≡ 0) ⊎ (count_brought before key n ≡ 0) → (a b : Bool) → (copy.diversion == n) ≡ b
          → (cond (a && b) (max (count_brought later key n) (count_of copy.prefix key)) (count_brought later key n) ≡ 0) ⊎ (count_brought before key n ≡ 0)
      by rest true true q =
          let same = nat_eq-same copy.diversion n q in
          inr (none-brought before (subst (λ m. EachCopy (IsEarlier m) before) same (at-command copy.diversion later event before turns.0)))
      by rest true false q = rest
      by rest false b q = rest
  turn-at (Closed number ∷ later) event before turns = turn-at later event before turns
