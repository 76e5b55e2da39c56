-- Numbers of the five quantities, and what adding makes of them.
use Rattle.std.specs.Prelude.{ℕ, ◌+◌, ◌≤◌, ◌^◌, List, [], ◌∷◌}
use Rattle.stats_book.specs.declared.totals.Totals.{Totals}
use Rattle.stats_book.specs.declared.quantity.Quantity.{Quantity}
use Rattle.stats_book.specs.declared.quantity.Quantity.TheVariants.{Gets, Puts, Deletes, Refusals, Reaps}

-- the number of a quantity
abbrev pub number_of : Quantity → Totals → ℕ
number_of Gets t = t.gets
number_of Puts t = t.puts
number_of Deletes t = t.deletes
number_of Refusals t = t.refusals
number_of Reaps t = t.reaps

-- the numbers with so many more of a quantity, and the others as they are
abbrev pub raised : Quantity → ℕ → Totals → Totals
raised Gets n t = record t { gets = t.gets + n }
raised Puts n t = record t { puts = t.puts + n }
raised Deletes n t = record t { deletes = t.deletes + n }
raised Refusals n t = record t { refusals = t.refusals + n }
raised Reaps n t = record t { reaps = t.reaps + n }

-- so many more of a quantity would pass the last number, 18,446,744,073,709,551,615
abbrev pub IsFull : Quantity → Totals → ℕ → Type 0
IsFull quantity t n = 2 ^ 64 ≤ number_of quantity t + n

-- one number for each quantity
abbrev pub numbers : (gets puts deletes refusals reaps : ℕ) → Totals
numbers g p d f r = record { gets = g; puts = p; deletes = d; refusals = f; reaps = r }

-- nothing was counted
abbrev pub zeros : Totals
zeros = numbers 0 0 0 0 0

-- two counts together
abbrev pub both : Totals → Totals → Totals
both a b = numbers (a.gets + b.gets) (a.puts + b.puts) (a.deletes + b.deletes) (a.refusals + b.refusals) (a.reaps + b.reaps)

-- the sums of many counts
abbrev pub sum_of : List Totals → Totals
sum_of [] = zeros
sum_of (t ∷ ts) = both t (sum_of ts)

-- of some quantity these two counts together would pass the last number
abbrev pub ArePastFull : Totals → Totals → Type 0
ArePastFull t more = (quantity : Quantity) × IsFull quantity t (number_of quantity more)
