use Rattle.std.proofs.Common.{◌≡◌, ◌∙◌, ◌+◌, sym, ap, arith, cond, drop}
use Rattle.std.proofs.lemmas.List.{at_drop_all}
use Rattle.std.specs.Prelude.{is_some}
use Rattle.std.specs.FinMap.Entries.{find}
use Rattle.actor_epoch.specs.Dots.{actor_cmp}
use Rattle.dvv_set.specs.ClockEntries.{count_new}
use Rattle.dvv_set.specs.Stored.{actor_of, clock_entries}
use Rattle.dvv_set.proofs.Counts.{count_new-next}
use Rattle.dvv_set.proofs.room.count_new.Goals.{then-not-has, else-not-has}
use Rattle.dvv_set.proofs.room.count_new.Goals as goal

pub loop-other-preserved : goal.loop-other-preserved
loop-other-preserved g c =
    let entries = clock_entries c.args.entries.now in
    let rest = count_new (clock_entries (drop (c.loop-other.other-index + 1) c.args.others.now)) entries in
    let was = c.loop-other.invariant in
    let next : count_new (clock_entries (drop c.loop-other.other-index c.args.others.now)) entries ≡ cond c.has.result 0 1 + rest =
    count_new-next c.args.others.now entries c.loop-other.other-index c.other-item.result c.loop-other-test.true
    ∙ ap (λ b. cond b 0 1 + rest) (ap (λ other. is_some (find actor_cmp (actor_of other.pair) entries)) (sym c.other-item.is) ∙ ap (λ actor. is_some (find actor_cmp actor entries)) (sym c.actor.ensures) ∙ sym c.has.ensures) in
    elim c.if-not-has.branch [
      | then-not-has w ↦ let step = next ∙ ap (λ b. cond b 0 1 + rest) w.if-not-has.true in (omega (arith, was.0, w.new-is), omega (arith, was.1, step, w.new-is))
      | else-not-has w ↦ let step = next ∙ ap (λ b. cond b 0 1 + rest) w.if-not-has.false in (omega (arith, was.0, w.new-is), omega (arith, was.1, step, w.new-is))
    ]

pub loop-other-init : goal.loop-other-init
loop-other-init g c = (omega arith, omega arith)

pub offset_bounds-others-other-index : goal.offset_bounds-others-other-index
offset_bounds-others-other-index g c = omega (arith, c.loop-other-test.true)

pub bounds-others-other-index : goal.bounds-others-other-index
bounds-others-other-index g c = c.loop-other-test.true

pub has-requires : goal.has-requires
has-requires g c = omega arith

pub loop-other-smaller : goal.loop-other-smaller
loop-other-smaller g c = omega (arith, c.loop-other-test.true)

pub overflow_add-new : goal.overflow_add-new
overflow_add-new g c = omega (arith, c.loop-other.invariant.0, c.loop-other-test.true)

pub returns : goal.returns
returns g c =
    let entries = clock_entries c.args.entries.now in
    let none : count_new (clock_entries (drop c.loop-other.other-index c.args.others.now)) entries ≡ 0 =
    at_drop_all (λ others. count_new (clock_entries others) entries) c.args.others.now c.loop-other.other-index (omega (arith, c.loop-other-test.false)) in
    omega (arith, c.loop-other.invariant.1, none)
