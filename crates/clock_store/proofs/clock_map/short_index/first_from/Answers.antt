use Rattle.std.proofs.Common.{◌∙◌, sym, ap}
use Rattle.std.specs.Prelude.{Some}
use Rattle.clock_store.specs.Index.{first_marked}
use Rattle.clock_store.proofs.Marks.{first_head_from}
use Rattle.clock_store.proofs.clock_map.short_index.first_from.Goals as goal

pub returns-then-is_dead_from : goal.returns-then-is_dead_from
returns-then-is_dead_from c =
    sym (first_head_from c.args.spare (Some c.args.from.now) (c.in-Some.key.now, c.in-Some.place.now) c.next.new.self (sym c.is_dead_from.ensures ∙ c.if-is_dead_from.true))
    ∙ ap (first_marked c.args.spare (Some c.args.from.now)) (sym c.in-Some.ensures.steps) ∙ c.loop-key.invariant.0
    ∙ ap (first_marked c.args.spare (Some c.args.from.now)) c.into_iter-key-iterator.ensures.into_iter_gives
