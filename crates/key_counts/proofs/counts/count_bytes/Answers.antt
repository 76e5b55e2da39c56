use Rattle.std.proofs.Common.{◌∙◌, ◌+◌, ◌-◌, ◌^◌, List, ap, sym, min}
use Rattle.std.specs.Prelude.{Option}
use Rattle.std.specs.List.{sum_by}
use Rattle.riak_msgs.specs.Contents.{Content}
use Rattle.key_counts.specs.Stored.{value_len}
use Rattle.key_counts.proofs.Sums.{min-last}
use Rattle.key_counts.proofs.Walks.{sum_by-map}
use Rattle.key_counts.proofs.counts.count_bytes.Goals as goal

pub returns : goal.returns
returns c =
    let count = c.loop-sibling.count in
    let most = 2 ^ 64 - 1 in
    sym (min-last count most c.loop-sibling.invariant.0) ∙ ap (λ (vs : List (Option Content)). min (count + sum_by value_len vs) most) (sym c.in-None.ensures.steps.0) ∙ c.loop-sibling.invariant.1
    ∙ ap (λ (vs : List (Option Content)). min (sum_by value_len vs) most) (c.into_iter-sibling-iterator.ensures.into_iter_gives ∙ c.values-sibling-items.ensures)
    ∙ ap (λ n. min n most) (sum_by-map value_len (λ entry. entry.1) c.args.stored.now.clock.meaning.live)
