use Rattle.std.proofs.Common.{◌≡◌, ℕ, ◌-◌, ◌∙◌, true, [], length, sym, ap, arith}
use Rattle.std.specs.Prelude.{unwrap_or, min, ◌==◌}
use Rattle.std.proofs.lemmas.Bool.{eqb-true}
use Rattle.actor_epoch.specs.Dots.{counter_in}
use Rattle.dvv_set.specs.Held.{pairs_of}
use Rattle.dvv_set.specs.Stored.{actor_of}
use Rattle.dvv_set.proofs.room.newer.Goals.{in-None, in-Some}
use Rattle.dvv_set.proofs.room.newer.Goals as goal

-- an entry without values has none that are newer
none_newer : (n k : ℕ) → (n == 0) ≡ true → 0 ≡ min n k
none_newer n k h = let none : n ≡ 0 = eqb-true n 0 h in omega (arith, none)

pub returns-then-is_empty-clause-newer : goal.returns-then-is_empty-clause-newer
returns-then-is_empty-clause-newer g c =
    none_newer (length c.args.entry.now.values.items) (c.args.entry.now.pair.counter - counter_in (unwrap_or (pairs_of c.args.context) []) (actor_of c.args.entry.now.pair))
    (sym c.is_empty.ensures ∙ c.if-is_empty.true)

pub returns-clause-newer : goal.returns-clause-newer
returns-clause-newer g c =
    let seen : c.match-context.seen ≡ counter_in (unwrap_or (pairs_of c.args.context) []) (actor_of c.args.entry.now.pair) =
    elim c.match-context.branch [
      | in-None w ↦ w.seen-is ∙ ap (λ context. counter_in (unwrap_or (pairs_of context) []) (actor_of c.args.entry.now.pair)) (sym w.in-None.is)
      | in-Some w ↦ w.seen-is ∙ w.counter_of-seen.ensures ∙ ap (counter_in w.in-Some.context.now) w.actor.ensures ∙ ap (λ context. counter_in (unwrap_or (pairs_of context) []) (actor_of c.args.entry.now.pair)) (sym w.in-Some.is)
    ] in
    c.min.ensures ∙ (λ i. min (c.len.ensures i) ((c.saturating_sub-above.ensures ∙ ap (λ n. c.args.entry.now.pair.counter - n) seen) i))
