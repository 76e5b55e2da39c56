-- What a worker counts by its share of the book.
use Rattle.std.specs.Prelude.{◌≡◌, ◌⊎◌, ℕ, Bool, true, Option, Some, None}
use Rattle.stats_book.specs.declared.totals.Totals.{Totals}
use Rattle.stats_book.specs.declared.quantity.Quantity.{Quantity}
use Rattle.stats_book.specs.declared.quantity.Quantity.TheVariants.{Reaps}
use Rattle.stats_book.specs.Counting.{IsFull, both, raised}

-- what was counted, and whether the book had no room for some of what was to be counted
pub record Count : Type 0 where
  pub counted : Totals
  pub book_full : Bool

-- the count, where so much was counted before it
abbrev pub count_after : Totals → Count → Count
count_after before c = record c { counted = both before c.counted }

-- so many more of a quantity are counted; or they would pass the last number, and that is kept
abbrev pub Counts : Quantity → ℕ → Count → Count → Type 0
Counts quantity n old new =
    (new ≡ record old { counted = raised quantity n old.counted })
    ⊎ (IsFull quantity old.counted n × (new ≡ record old { book_full = true }))

-- a reply is counted as one of its quantity, where it has one
abbrev pub CountsReply : Option Quantity → Count → Count → Type 0
CountsReply None old new = new ≡ old
CountsReply (Some quantity) old new = Counts quantity 1 old new

-- a reply is counted, and then the dead keys that were forgotten
pub record CountsAnswer (quantity : Option Quantity) (reaps : ℕ) (old new : Count) : Type 0 where
  pub replied : Count
  pub reply : CountsReply quantity old replied
  pub forgotten : Counts Reaps reaps replied new
