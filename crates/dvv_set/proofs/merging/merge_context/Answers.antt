use Rattle.std.proofs.Common.{◌∙◌, ap, arith, length}
use Rattle.actor_epoch.specs.Contexts.{is_well_formed}
use Rattle.dvv_set.specs.Held.{pairs_of}
use Rattle.dvv_set.specs.ClockEntries.{merge_all, entries_of_pairs, entries_without}
use Rattle.dvv_set.specs.Stored.{clock_entries}
use Rattle.dvv_set.proofs.merging.merge_context.Goals as goal

pub merge_pairs-requires : goal.merge_pairs-requires
merge_pairs-requires g c =
    let entries = clock_entries c.args.entries.now.items in
    let given = ap (λ context. length (entries_without (pairs_of context) entries)) c.in-Some.is in
    let pairs = ap (λ ps. length (merge_all (entries_of_pairs ps) entries)) c.pairs.ensures.pairs in
    let fits = c.well_formed in
    (omega arith, (omega arith, (c.requires.entries, (ap is_well_formed c.pairs.ensures.pairs ∙ c.pairs.ensures.of_form, omega (arith, given, pairs, c.requires.room)))))
