use Rattle.std.proofs.Common.{◌∙◌, sym}
use Rattle.handoff.proofs.Stopping.{no-start, not-begun, still-same, was-closed}
use Rattle.handoff.proofs.returning.has_stayed.Goals as goal

pub returns-in_default : goal.returns-in_default
returns-in_default c = no-start c.args.start.now c.args.primary.now.state c.args.mine.now c.in_default.is

pub returns-in-Some-closed_at : goal.returns-in-Some-closed_at
returns-in-Some-closed_at c =
    was-closed c.args.start.now c.args.primary.now.state c.args.mine.now c.in-Some-closed_at.field-0 (sym c.closed_at.ensures ∙ c.in-Some-closed_at.is)

pub returns-then-not-begins : goal.returns-then-not-begins
returns-then-not-begins c =
    not-begun c.args.start.now c.args.primary.now.state c.args.mine.now c.in-Some.from c.in-Some.is c.begins.result c.if-not-begins.true c.begins.ensures.1

pub returns : goal.returns
returns c =
    let state = c.args.primary.now.state in
    let from = c.in-Some.from in
    let counts = c.tally-tally.ensures in (
      λ all. record {
        from = from;
        is = c.in-Some.is;
        begins = c.begins.ensures.0 c.if-not-begins.false;
        open_still = sym c.closed_at.ensures ∙ c.in-None.is;
        tally = c.tally-tally.result;
        writes = counts.writes;
        tombstones = counts.tombstones;
        reaps = counts.reaps;
        same = c.is_same_below.ensures.0 all;
      },
      λ stayed. c.is_same_below.ensures.1 (still-same c.args.start.now state c.args.mine.now from c.in-Some.is c.tally-tally.result counts.writes counts.tombstones counts.reaps stayed),
    )
