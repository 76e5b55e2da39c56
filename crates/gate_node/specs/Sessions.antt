-- What a session over gates counts, as far as its replies show it.
use Rattle.std.specs.Prelude.{◌≡◌, ◌+◌, ◌≤◌, ℕ, true, false, List, [], ◌∷◌}
use Rattle.riak_msgs.specs.declared.Reply.{Reply}
use Rattle.riak_msgs.specs.declared.Reply.TheVariants as replies
use Rattle.stats_book.specs.declared.quantity.Quantity.{Quantity}
use Rattle.stats_book.specs.declared.quantity.Quantity.TheVariants.{Gets, Puts, Deletes, Refusals, Reaps}
use Rattle.stats_book.specs.Counting.{number_of}
use Rattle.stats_book.specs.Counter.{Count}

-- how many of a quantity a reply may be counted as: one of its own kind, and as many dead keys as the budget allows
abbrev pub reply_most : (budget : ℕ) → Quantity → Reply → ℕ
reply_most budget Gets (replies.Get reply) = 1
reply_most budget Gets reply = 0
reply_most budget Puts (replies.Put reply) = 1
reply_most budget Puts reply = 0
reply_most budget Deletes replies.Del = 1
reply_most budget Deletes reply = 0
reply_most budget Refusals (replies.Error text) = 1
reply_most budget Refusals reply = 0
reply_most budget Reaps reply = budget

-- and these replies together
abbrev pub most_of : (budget : ℕ) → List Reply → Quantity → ℕ
most_of budget [] quantity = 0
most_of budget (reply ∷ replies) quantity = reply_most budget quantity reply + most_of budget replies quantity

-- No number falls, and none rises by more than so much; the gets and the puts rise by just so much, unless the book had no
-- room for something. That it had none is not forgotten.
pub record CountsUpTo (most : Quantity → ℕ) (old new : Count) : Type 0 where
  pub kept : (quantity : Quantity) → number_of quantity old.counted ≤ number_of quantity new.counted
  pub bound : (quantity : Quantity) → number_of quantity new.counted ≤ number_of quantity old.counted + most quantity
  pub gets : new.book_full ≡ false → new.counted.gets ≡ old.counted.gets + most Gets
  pub puts : new.book_full ≡ false → new.counted.puts ≡ old.counted.puts + most Puts
  pub full : old.book_full ≡ true → new.book_full ≡ true
