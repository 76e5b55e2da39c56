use Rattle.std.proofs.Common.{◌≡◌, ◌+◌, [], ◌∷◌, ◌++◌, length, ap, sym, ◌∙◌, subst, arith}
use mathlib.Core.List.{IsPrefix}
use Rattle.rw_gate.specs.declared.log.GateEntry.TheVariants.{Made}
use Rattle.rw_gate.specs.Logs.{events}
use Rattle.rw_gate.specs.Steps.{length_word}
use Rattle.rw_gate.proofs.Prefixes.{prefix_trans, prefix_length}
use Rattle.rw_gate.proofs.Logs.{events_prefix, events_made, run_whole}
use Rattle.rw_gate.proofs.Below.{below_more, below_push}
use Rattle.rw_gate.proofs.pass.Pass.publish.Goals as goal

pub exchange-found-requires-clause-word : goal.exchange-found-requires-clause-word
exchange-found-requires-clause-word g c = c.requires.word ∙ ap length_word (sym (c.learn.ensures.0 ∙ ap (λ s. s.book) c.again-both.ensures))

pub exchange-found-requires-clause-begins : goal.exchange-found-requires-clause-begins
exchange-found-requires-clause-begins g c = subst (λ s. IsPrefix s.log c.learn.new.self.log) c.again-both.ensures c.learn.ensures.2

pub exchange-found-requires-clause-run : goal.exchange-found-requires-clause-run
exchange-found-requires-clause-run g c = c.learn.ensures.4.1.run

pub invariant_of-self-2 : goal.invariant_of-self-2
invariant_of-self-2 g c =
    let own = c.self.inside in
    let v = c.learn.new.self.log in
    let w = c.exchange-found.new.both.log in
    let hit = c.exchange-found.ensures.hit c.if-found-count.false in
    let counted : length (events w) ≡ length (events v) + 1 = rw hit.0 (events_made v (g.S.Kept.event c.args.change.now)) in
    let longer = prefix_length _ _ (events_prefix own.seen.log v c.learn.ensures.3) in (
      rw c.again.ensures (omega (arith, counted, hit.1)),
      rw c.again.ensures c.exchange-found.ensures.run,
      rw c.push.ensures (below_push own.count (c.args.count + 1) c.args.count own.own (omega (arith, hit.1, longer, c.self.invariant.0)) (omega arith) c.self.invariant.2),
    )

pub invariant_of-self : goal.invariant_of-self
invariant_of-self g c =
    let own = c.self.inside in
    let w = c.exchange-found.new.both.log in
    let found = c.exchange-found.ensures.missed c.if-found-count.true in
    let longer = prefix_length _ _ (events_prefix own.seen.log w (prefix_trans own.seen.log c.learn.new.self.log w c.learn.ensures.3 c.exchange-found.ensures.more)) in
    (sym found, c.exchange-found.ensures.run, below_more own.count c.exchange-found.result own.own (omega (arith, found, longer, c.self.invariant.0)) c.self.invariant.2)

pub returns-clause-more : goal.returns-clause-more
returns-clause-more g c =
    let own = c.self.inside in
    let w = c.exchange-found.new.both.log in
    rw (← c.self.view_is, c.again.ensures) (events_prefix own.seen.log w (prefix_trans own.seen.log c.learn.new.self.log w c.learn.ensures.3 c.exchange-found.ensures.more))

pub returns-then-found-count-clause-more : goal.returns-then-found-count-clause-more
returns-then-found-count-clause-more g c =
    let own = c.self.inside in
    let w = c.exchange-found.new.both.log in
    rw (← c.self.view_is) (events_prefix own.seen.log w (prefix_trans own.seen.log c.learn.new.self.log w c.learn.ensures.3 c.exchange-found.ensures.more))

pub returns-then-found-count-clause-err : goal.returns-then-found-count-clause-err
returns-then-found-count-clause-err g c =
    let v = c.learn.new.self.log in
    let w = c.exchange-found.new.both.log in
    let mine = c.args.seen.now.log in
    let found = c.exchange-found.ensures.missed c.if-found-count.true in
    let begins : IsPrefix mine v = subst (λ s. IsPrefix s.log v) c.again-both.ensures c.learn.ensures.2 in
    let on = events_prefix mine w (prefix_trans mine v w begins c.exchange-found.ensures.more) in
    let longer = prefix_length (events mine) (events w) on in
    record {
      counted = sym found;
      begins = on;
      longer = omega (arith, found, longer, c.requires.counted, c.if-found-count.true);
    }

pub returns-clause-before : goal.returns-clause-before
returns-clause-before g c =
    let v = c.learn.new.self.log in
    let mine = c.args.seen.now.log in
    let hit = c.exchange-found.ensures.hit c.if-found-count.false in
    let begins : IsPrefix mine v = subst (λ s. IsPrefix s.log v) c.again-both.ensures c.learn.ensures.2 in
    let whole : mine ≡ v = run_whole g.S.Kept.content g.S.Kept.accepts mine v (g.S.Kept.content c.args.state.now, c.requires.leads) c.learn.ensures.4.1.run begins (omega (arith, hit.1, c.requires.counted)) in
    rw (← c.self.view_is, whole) (events_prefix _ _ c.learn.ensures.3)

pub returns-clause-log : goal.returns-clause-log
returns-clause-log g c =
    let v = c.learn.new.self.log in
    let mine = c.args.seen.now.log in
    let hit = c.exchange-found.ensures.hit c.if-found-count.false in
    let begins : IsPrefix mine v = subst (λ s. IsPrefix s.log v) c.again-both.ensures c.learn.ensures.2 in
    let whole : mine ≡ v = run_whole g.S.Kept.content g.S.Kept.accepts mine v (g.S.Kept.content c.args.state.now, c.requires.leads) c.learn.ensures.4.1.run begins (omega (arith, hit.1, c.requires.counted)) in
    hit.0 ∙ ap (λ l. l ++ Made (g.S.Kept.event c.args.change.now) ∷ []) (sym whole)
