-- Counting nothing.
use Rattle.std.proofs.Common.{◌≡◌, ◌+◌, ap, arith}
use Rattle.stats_book.specs.declared.totals.Totals.{Totals}
use Rattle.stats_book.specs.declared.quantity.Quantity.{Quantity}
use Rattle.stats_book.specs.declared.quantity.Quantity.TheVariants.{Gets, Puts, Deletes, Refusals, Reaps}
use Rattle.stats_book.specs.Counting.{raised}

pub raised_none : (quantity : Quantity) (t : Totals) → raised quantity 0 t ≡ t
raised_none Gets t = let e : t.gets + 0 ≡ t.gets = omega arith in ap (λ n. record t { gets = n }) e
raised_none Puts t = let e : t.puts + 0 ≡ t.puts = omega arith in ap (λ n. record t { puts = n }) e
raised_none Deletes t = let e : t.deletes + 0 ≡ t.deletes = omega arith in ap (λ n. record t { deletes = n }) e
raised_none Refusals t = let e : t.refusals + 0 ≡ t.refusals = omega arith in ap (λ n. record t { refusals = n }) e
raised_none Reaps t = let e : t.reaps + 0 ≡ t.reaps = omega arith in ap (λ n. record t { reaps = n }) e
