-- The word of a gate's slot: its state, how many readers are in, and which word may follow.
use Rattle.std.specs.Prelude.{◌≡◌, ◌+◌, ◌/◌, ◌%◌, ◌==◌, ◌&&◌, ◌||◌, ℕ, Bool, true, nat_lt}
use Rattle.counted_slot.specs.Counting.{readers}

-- the low two bits: 0 where nothing is in place, 1 where the state is, 2 where it is marked, 3 while a
-- writer moves it
abbrev pub slot_state : ℕ → ℕ
slot_state word = word % 4

-- the high half, which a gate leaves as it is
abbrev pub high_half : ℕ → ℕ
high_half word = word / 4294967296

abbrev pub max_readers : ℕ
max_readers = 1073741823

-- a reader may come in: the state is in place and unmarked, and fewer than the limit are in
abbrev pub admits_reader : ℕ → Bool
admits_reader word = (slot_state word == 1) && nat_lt (readers word) max_readers

-- a writer may take the state: it is in place, marked or not, and no reader is in
abbrev pub admits_writer : ℕ → Bool
admits_writer word = ((slot_state word == 1) || (slot_state word == 2)) && (readers word == 0)

-- a reader comes in, and nothing else changes
pub record Enters (old new : ℕ) : Type 0 where
  pub admitted : admits_reader old ≡ true
  pub unmarked : slot_state new ≡ 1
  pub one_more : readers new ≡ readers old + 1
  pub kept : high_half new ≡ high_half old

-- the mark is set, and nothing else changes
pub record Marks (old new : ℕ) : Type 0 where
  pub unmarked : slot_state old ≡ 1
  pub marked : slot_state new ≡ 2
  pub same : readers new ≡ readers old
  pub kept : high_half new ≡ high_half old

-- the mark is taken away, and nothing else changes
pub record Unmarks (old new : ℕ) : Type 0 where
  pub marked : slot_state old ≡ 2
  pub unmarked : slot_state new ≡ 1
  pub same : readers new ≡ readers old
  pub kept : high_half new ≡ high_half old
