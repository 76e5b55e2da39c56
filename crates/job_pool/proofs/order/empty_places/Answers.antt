use Rattle.std.proofs.Common.{◌≡◌, ◌+◌, ◌∙◌, None, ap, sym, subst, refl, length, length-append, arith}
use Rattle.job_pool.specs.Lists.{Every}
use Rattle.job_pool.proofs.Lists.{all_snoc}
use Rattle.job_pool.proofs.order.empty_places.Goals as goal

pub loop-init : goal.loop-init
loop-init g c =
    let items = c.new-places.ensures.items in
    (ap length items, subst (λ ps. Every (λ place. place ≡ None) ps) (sym items) tt)

pub loop-preserved : goal.loop-preserved
loop-preserved g c =
    let was = c.loop.invariant in
    let items = c.in_ok-push.ensures.items in (
      ap length items ∙ length-append c.loop.places.items _ ∙ ap (λ n. n + 1) was.0,
      subst (λ ps. Every (λ place. place ≡ None) ps) (sym items) (all_snoc (λ place. place ≡ None) c.loop.places.items None was.1 refl),
    )

pub returns-clause-len : goal.returns-clause-len
returns-clause-len g c = omega (arith, c.loop.invariant.0, c.loop-test.false, c.loop.auto.counter-end)

pub returns-clause-empty : goal.returns-clause-empty
returns-clause-empty g c = c.loop.invariant.1
