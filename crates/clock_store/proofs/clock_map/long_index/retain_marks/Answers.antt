use Rattle.std.proofs.Common.{rules}
use Rattle.std.proofs.lemmas.Map.Made.{filter_same_pairs}
use Rattle.clock_store.specs.Index.{is_mark}
use Rattle.clock_store.proofs.Marks.{filtered}
use Rattle.clock_store.proofs.clock_map.long_index.retain_marks.Goals as goal

pub returns-clause-left : goal.returns-clause-left
returns-clause-left c =
    filtered c.args.spare c.args.index.now.entries c.retain.new.self.entries c.retain.ensures.was_ordered
    (filter_same_pairs _ (λ e. is_mark c.args.spare e.1) _ (λ k v b w f' t. search rules) _ _ c.retain.ensures.filtered)
