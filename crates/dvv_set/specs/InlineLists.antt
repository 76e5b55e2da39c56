-- What an inline list ends as, where one of its items is lent.
use Rattle.std.specs.Prelude.{ℕ, Option}
use Rattle.std.specs.Borrow.{LendsIf, Fml, RattleType, MutBor}
use Rattle.smallvec.specs.SmallVec.{SmallVec, with_item}
use Rattle.dvv_set.specs.contracts.inline.InlineList.{the_row}

-- the item at an index is the last that was written through r; at `None` the list stays as it is
abbrev pub LendsItem : (T N : RattleType) → MutBor (SmallVec T.Denot) → ℕ → Option (MutBor T.Denot) → Fml
LendsItem T N list at r = LendsIf (the_row T N) T list r (with_item list.now at) list.now
