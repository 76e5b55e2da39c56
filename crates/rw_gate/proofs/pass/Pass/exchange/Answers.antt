use Rattle.std.proofs.Common.{◌∙◌, ap, sym}
use Rattle.rw_gate.proofs.Appending.{may_follow, moves_on}
use Rattle.rw_gate.proofs.pass.Pass.exchange.Goals as goal

pub compare_exchange-requires : goal.compare_exchange-requires
compare_exchange-requires g c =
    let word = c.requires.word in
    let offer = c.plain-offer.ensures in
    let pen = c.no_pen-pen.ensures in
    let v = c.args.both.now.log in
    let e = g.S.Kept.event c.args.change.now in
    let next = g.met.S.Kept.sound c.args.state.now c.args.change.now c.requires.ready in
    let book = sym (ap (λ w. w.book) word) in
    let may = may_follow g.S.Kept.content g.S.Kept.accepts c.args.seen.now.log v e (g.S.Kept.content c.args.state.now) next.0 c.args.count c.requires.counted c.requires.leads next.1 c.requires.run c.requires.begins in (
      ap (λ w. w.tracked) word,
      book,
      pen.0 ∙ book,
      offer.0,
      rw (ap (λ w. w.key) word, pen.1, offer.1, offer.3) (moves_on g.S.Kept.content g.S.Kept.accepts v e c.args.count may),
    )

pub returns-clause-hit : goal.returns-clause-hit
returns-clause-hit g c = λ found.
    let hit = c.compare_exchange.ensures.7.hit found in
    (rw (← c.plain-offer.ensures.1) hit.0, hit.1 ∙ found)

pub returns-clause-missed : goal.returns-clause-missed
returns-clause-missed g c = c.compare_exchange.ensures.7.missed

pub returns-clause-run : goal.returns-clause-run
returns-clause-run g c = c.compare_exchange.ensures.7.legal

pub returns-clause-more : goal.returns-clause-more
returns-clause-more g c = c.compare_exchange.ensures.6
