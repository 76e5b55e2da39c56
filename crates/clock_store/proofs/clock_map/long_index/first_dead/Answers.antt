use Rattle.std.proofs.Common.{◌∙◌, refl, sym, ap}
use Rattle.std.specs.Prelude.{Some, None}
use Rattle.std.specs.Ordering.{is_le}
use Rattle.riak_msgs.specs.KeyOrder.{key_cmp}
use Rattle.clock_store.specs.Forgetting.{key_given}
use Rattle.clock_store.specs.Index.{first_marked}
use Rattle.clock_store.proofs.Marks.{first_within, and_true}
use Rattle.clock_store.proofs.clock_map.long_index.first_dead.Goals as goal

pub returns-in-None : goal.returns-in-None
returns-in-None c =
    c.first_in.ensures ∙ ap (first_marked c.args.spare None) (c.range.ensures.between tt)
    ∙ first_within c.args.spare _ None (λ k. refl) c.args.index.now.entries
    ∙ ap (λ from. first_marked c.args.spare (key_given from) c.args.index.now.entries) (sym c.in-None.is)

pub returns-in-Some : goal.returns-in-Some
returns-in-Some c =
    c.first_in-in-Some.ensures ∙ ap (first_marked c.args.spare None) (c.range-in-Some.ensures.between tt)
    ∙ first_within c.args.spare _ (Some c.in-Some.from.now) (λ k. and_true (is_le (key_cmp c.in-Some.from.now k))) c.args.index.now.entries
    ∙ ap (λ from. first_marked c.args.spare (key_given from) c.args.index.now.entries) (sym c.in-Some.is)
