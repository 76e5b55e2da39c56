use Rattle.std.proofs.Common.{◌∙◌, sym, ap}
use Rattle.std.specs.Prelude.{Some, None}
use Rattle.std.specs.Ordering.{is_le}
use Rattle.riak_msgs.specs.KeyOrder.{key_cmp}
use Rattle.clock_store.specs.Index.{first_marked}
use Rattle.clock_store.proofs.Marks.{first_within, and_true, all_in}
use Rattle.names.proofs.ShortKeys.{of_some}
use Rattle.clock_store.proofs.clock_map.short_index.first_at.Goals as goal

pub returns-in-Some : goal.returns-in-Some
returns-in-Some c =
    c.first_in.ensures ∙ ap (first_marked c.args.spare None) (c.range.ensures.between tt)
    ∙ first_within c.args.spare _ (Some c.in-Some.short) (λ k. and_true (is_le (key_cmp c.in-Some.short k))) c.args.index.now.entries
    ∙ ap (λ from. first_marked c.args.spare (Some from) c.args.index.now.entries) (of_some c.args.from.now c.in-Some.short (sym c.in-Some.is ∙ c.of.ensures)).1

pub returns-in-None : goal.returns-in-None
returns-in-None c =
    c.first_from.ensures ∙ ap (first_marked c.args.spare (Some c.args.from.now)) (c.range-in-None.ensures.between tt ∙ all_in c.args.index.now.entries)
