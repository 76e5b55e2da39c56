use Rattle.std.proofs.Common.{◌∙◌, ap, sym}
use Rattle.std.specs.Prelude.{Option}
use Rattle.std.specs.Option.{option_map_or}
use Rattle.key_counts.specs.declared.counts.KeyCounts.{KeyCounts}
use Rattle.key_counts.specs.declared.looks.Counted.{Counted}
use Rattle.key_counts.specs.Sums.{capped, no_counts, plus}
use Rattle.key_counts.proofs.Sums.{capped-more, capped-none}
use Rattle.key_counts.proofs.partitions.add_partition.Goals as goal

-- a total with a primary's counts and those of a fallback, where there is one
abbrev together : (total primary : KeyCounts) → Option Counted → KeyCounts
together total primary fallback = capped (plus total (plus primary (option_map_or (λ f. f.counts) fallback no_counts)))

pub returns-in-None : goal.returns-in-None
returns-in-None c =
    let total = c.args.total in
    let primary = c.args.partition.now.primary.counts in
    c.plus-total.ensures ∙ capped-none total primary ∙ ap (together total primary) (sym c.in-None.is)

pub returns-in-Some : goal.returns-in-Some
returns-in-Some c =
    let total = c.args.total in
    let primary = c.args.partition.now.primary.counts in
    let fallback = c.in-Some.fallback.counts in
    c.plus.ensures ∙ ap (λ t. capped (plus t fallback)) c.plus-total.ensures ∙ capped-more total primary fallback ∙ ap (together total primary) (sym c.in-Some.is)
