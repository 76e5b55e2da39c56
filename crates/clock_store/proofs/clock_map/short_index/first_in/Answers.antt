use Rattle.std.proofs.Common.{◌∙◌, sym, ap}
use Rattle.std.specs.Prelude.{None}
use Rattle.clock_store.specs.Index.{first_marked}
use Rattle.clock_store.proofs.Marks.{first_head}
use Rattle.clock_store.proofs.clock_map.short_index.first_in.Goals as goal

pub returns-then-is_mark : goal.returns-then-is_mark
returns-then-is_mark c =
    sym (first_head c.args.spare (c.in-Some.key.now, c.in-Some.place.now) c.next.new.self (sym c.is_mark.ensures ∙ c.if-is_mark.true))
    ∙ ap (first_marked c.args.spare None) (sym c.in-Some.ensures.steps) ∙ c.loop-key.invariant.0
    ∙ ap (first_marked c.args.spare None) c.into_iter-key-iterator.ensures.into_iter_gives
