-- The calls of a clock as operations on sets of dots.
use Rattle.std.specs.Prelude.{◌≡◌, Bool, not, ◌&&◌, ◌||◌, nat_le, IsTrue, T, ◌+◌, ◌≤◌, length, List}
use Rattle.std.specs.List.{list_all}
use Rattle.std.specs.FinMap.Entries.{is_sorted}
use Rattle.actor_epoch.specs.declared.Actor.{Actor}
use Rattle.actor_epoch.specs.declared.Dot.{Dot}
use Rattle.actor_epoch.specs.Dots.{dot_eq, covers, counter_in}
use Rattle.actor_epoch.specs.Limits.{max_actors}
use Rattle.actor_epoch.specs.Contexts.{is_rising}
use Rattle.dvv_set.specs.Clocks.{DotState, show_cmp, sync, discard, event, is_live}

module _ {V : Type 0} where
  -- a live dot is known
  abbrev pub KnowsItsLive : DotState V → Type 0
  KnowsItsLive clock = (dot : Dot) → IsTrue (is_live clock dot) → IsTrue (covers clock.known dot)

  -- two clocks know the same dots, and the same dots are live
  pub record SameDots (a b : DotState V) : Type 0 where
    pub known : (dot : Dot) → covers a.known dot ≡ covers b.known dot
    pub live : (dot : Dot) → is_live a dot ≡ is_live b dot

  -- a sync knows what either side knows
  abbrev pub SyncKnows : DotState V → DotState V → Dot → Type 0
  SyncKnows own other dot = covers (sync own other).known dot ≡ (covers own.known dot || covers other.known dot)

  -- live where both have it live, or one has it live and the other doesn't know it
  abbrev pub is_synced : DotState V → DotState V → Dot → Bool
  is_synced own other dot =
      (is_live own dot && is_live other dot)
      || ((is_live own dot && not (covers other.known dot)) || (is_live other dot && not (covers own.known dot)))

  abbrev pub SyncKeeps : DotState V → DotState V → Dot → Type 0
  SyncKeeps own other dot = is_live (sync own other) dot ≡ is_synced own other dot

  -- a discard knows the context's dots too, and none of them is live
  abbrev pub DiscardKnows : List Dot → DotState V → Dot → Type 0
  DiscardKnows pairs clock dot = covers (discard pairs clock).known dot ≡ (covers clock.known dot || covers pairs dot)

  abbrev pub DiscardKeeps : List Dot → DotState V → Dot → Type 0
  DiscardKeeps pairs clock dot = is_live (discard pairs clock) dot ≡ (is_live clock dot && not (covers pairs dot))

  -- an event makes the next dot of its actor known and live, a dot that was not known
  abbrev pub next_dot : Actor → DotState V → Dot
  next_dot actor clock = record { actor = actor; counter = counter_in clock.known actor + 1 }

  abbrev pub EventKnows : Actor → V → DotState V → Dot → Type 0
  EventKnows actor value clock dot = covers (event actor value clock).known dot ≡ (dot_eq (next_dot actor clock) dot || covers clock.known dot)

  abbrev pub EventKeeps : Actor → V → DotState V → Dot → Type 0
  EventKeeps actor value clock dot = is_live (event actor value clock) dot ≡ (dot_eq (next_dot actor clock) dot || is_live clock dot)

  -- what each clock is: its pairs strictly rise by actor, 64 at most, with counters from 1 on; its live dots are known, and
  -- stand in the order in which they are shown
  pub record IsClock (clock : DotState V) : Type 0 where
    pub rising : IsTrue (is_rising clock.known)
    pub few : length clock.known ≤ max_actors
    pub positive : IsTrue (list_all (λ pair. nat_le 1 pair.counter) clock.known)
    pub live_known : KnowsItsLive clock
    pub shown : T (is_sorted show_cmp clock.live)
