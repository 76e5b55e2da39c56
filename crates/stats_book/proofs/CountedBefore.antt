-- What is counted where so much was counted before.
use Rattle.std.proofs.Common.{◌≡◌, ◌+◌, ◌≤◌, ◌^◌, ◌∙◌, ap, arith, inl, inr}
use Rattle.std.specs.Prelude.{ℕ, Option, Some, None}
use Rattle.stats_book.specs.declared.totals.Totals.{Totals}
use Rattle.stats_book.specs.declared.quantity.Quantity.{Quantity}
use Rattle.stats_book.specs.declared.quantity.Quantity.TheVariants.{Gets, Puts, Deletes, Refusals, Reaps}
use Rattle.stats_book.specs.Counter.{Count, Counts, CountsReply, CountsAnswer, count_after}
use Rattle.stats_book.specs.Counting.{IsFull, both, raised}

raised_after : (quantity : Quantity) (n : ℕ) (before t : Totals) → both before (raised quantity n t) ≡ raised quantity n (both before t)
raised_after Gets n before t = let e : before.gets + (t.gets + n) ≡ (before.gets + t.gets) + n = omega arith in ap (λ k. record (both before t) { gets = k }) e
raised_after Puts n before t = let e : before.puts + (t.puts + n) ≡ (before.puts + t.puts) + n = omega arith in ap (λ k. record (both before t) { puts = k }) e
raised_after Deletes n before t = let e : before.deletes + (t.deletes + n) ≡ (before.deletes + t.deletes) + n = omega arith in ap (λ k. record (both before t) { deletes = k }) e
raised_after Refusals n before t = let e : before.refusals + (t.refusals + n) ≡ (before.refusals + t.refusals) + n = omega arith in ap (λ k. record (both before t) { refusals = k }) e
raised_after Reaps n before t = let e : before.reaps + (t.reaps + n) ≡ (before.reaps + t.reaps) + n = omega arith in ap (λ k. record (both before t) { reaps = k }) e

full_after : (quantity : Quantity) (n : ℕ) (before t : Totals) → IsFull quantity t n → IsFull quantity (both before t) n
full_after Gets n before t full = let more : 2 ^ 64 ≤ (before.gets + t.gets) + n = omega (arith, full) in more
full_after Puts n before t full = let more : 2 ^ 64 ≤ (before.puts + t.puts) + n = omega (arith, full) in more
full_after Deletes n before t full = let more : 2 ^ 64 ≤ (before.deletes + t.deletes) + n = omega (arith, full) in more
full_after Refusals n before t full = let more : 2 ^ 64 ≤ (before.refusals + t.refusals) + n = omega (arith, full) in more
full_after Reaps n before t full = let more : 2 ^ 64 ≤ (before.reaps + t.reaps) + n = omega (arith, full) in more

counts_after : (quantity : Quantity) (n : ℕ) (before : Totals) (old new : Count) → Counts quantity n old new → Counts quantity n (count_after before old) (count_after before new)
counts_after quantity n before old new (inl is) = inl (ap (count_after before) is ∙ ap (λ t. record old { counted = t }) (raised_after quantity n before old.counted))
counts_after quantity n before old new (inr (full, is)) = inr (full_after quantity n before old.counted full, ap (count_after before) is)

reply_after : (quantity : Option Quantity) (before : Totals) (old new : Count) → CountsReply quantity old new → CountsReply quantity (count_after before old) (count_after before new)
reply_after None before old new is = ap (count_after before) is
reply_after (Some quantity) before old new counts = counts_after quantity 1 before old new counts

pub answer_after : (quantity : Option Quantity) (reaps : ℕ) (before : Totals) (old new : Count) → CountsAnswer quantity reaps old new
    → CountsAnswer quantity reaps (count_after before old) (count_after before new)
answer_after quantity reaps before old new counts = record {
  replied = count_after before counts.replied;
  reply = reply_after quantity before old counts.replied counts.reply;
  forgotten = counts_after Reaps reaps before counts.replied new counts.forgotten;
}
