use Rattle.std.proofs.Common.{[], ◌∙◌, ap, arith}
use Rattle.std.specs.Prelude.{unwrap_or}
use Rattle.dvv_set.specs.Held.{pairs_of, uncovered}
use Rattle.dvv_set.specs.ClockEntries.{count_uncovered}
use Rattle.dvv_set.specs.Stored.{clock_entries}
use Rattle.dvv_set.proofs.Emptied.{length-uncovered}
use Rattle.dvv_set.proofs.clock.Clock.uncovered.Goals as goal

pub returns : goal.returns
returns g c =
    let pairs = unwrap_or (pairs_of c.args.context) [] in
    c.uncovered.ensures
    ∙ ap (λ entries. count_uncovered pairs (clock_entries entries)) c.deref.ensures
    ∙ length-uncovered pairs (clock_entries c.self.inside.entries.items) c.self.invariant.entries.each
    ∙ ap (λ held. uncovered pairs held.meaning) c.self.view_is

pub deref-requires : goal.deref-requires
deref-requires g c = omega arith

pub uncovered-requires : goal.uncovered-requires
uncovered-requires g c = (omega arith, rw c.deref.ensures c.self.invariant.few)
