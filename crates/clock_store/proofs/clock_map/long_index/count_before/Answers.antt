use Rattle.std.proofs.Common.{◌∙◌, sym, ap, drop}
use Rattle.std.specs.Prelude.{None}
use Rattle.std.proofs.lemmas.Iterator.Consumers.{count_from_yields_List, YieldsList-from_rest}
use Rattle.clock_store.specs.Forgetting.{key_given}
use Rattle.clock_store.specs.Index.{first_marked}
use Rattle.clock_store.proofs.Passed.{first_passed}
use Rattle.clock_store.proofs.clock_map.long_index.count_before.Goals as goal

pub returns-in-Some : goal.returns-in-Some
returns-in-Some c = record {
  first =
      ap (λ n. first_marked None None (drop n c.args.index.now.entries)) (count_from_yields_List c.range.result _ c.count.ensures.ran (YieldsList-from_rest _ (c.range.ensures.between tt)))
      ∙ first_passed c.in-Some.from.now c.args.index.now.entries c.range.ensures.ordered
      ∙ ap (λ from. first_marked None (key_given from) c.args.index.now.entries) (sym c.in-Some.is);
}
