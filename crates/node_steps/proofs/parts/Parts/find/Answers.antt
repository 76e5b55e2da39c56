use Rattle.std.proofs.Common.{suc, sym, ◌∙◌, ap, subst, arith}
use Rattle.node_steps.specs.Parts.{Finds}
use Rattle.node_steps.proofs.Finding.{without_call, without_vnode, number_is, stands}
use Rattle.node_steps.proofs.parts.Parts.find.Goals as goal
use Rattle.node_steps.proofs.Lists.{found_below}

pub returns-in_err-index : goal.returns-in_err-index
returns-in_err-index c =
    let number = number_is c.args.worker c.in_ok-checked_sub.field-0 c.checked_sub.result c.checked_sub.ensures c.in_ok-checked_sub.was
    ∙ ap (λ n. suc n) (sym c.from-place.ensures) in
    let here = stands c.deref.result.now c.args.self.now.workers.items c.from-place.result c.in_ok-phase.phase.now
    c.deref.ensures.value c.in_ok-phase.ensures.lookup.3.0 c.in_ok-phase.ensures.lookup.1 in
    subst (λ r. Finds c.args.self.now c.args.worker r) (sym c.from_residual-in_err-index.ensures)
    (without_call c.args.self.now c.args.worker c.from-place.result c.in_ok-phase.phase.now number here (sym c.index.ensures ∙ c.in_err-index.was))

pub returns-then-index-len : goal.returns-then-index-len
returns-then-index-len c =
    let number = number_is c.args.worker c.in_ok-checked_sub.field-0 c.checked_sub.result c.checked_sub.ensures c.in_ok-checked_sub.was
    ∙ ap (λ n. suc n) (sym c.from-place.ensures) in
    let here = stands c.deref.result.now c.args.self.now.workers.items c.from-place.result c.in_ok-phase.phase.now
    c.deref.ensures.value c.in_ok-phase.ensures.lookup.3.0 c.in_ok-phase.ensures.lookup.1 in
    let about = sym c.index.ensures ∙ c.in_ok-index.was in
    without_vnode c.args.self.now c.args.worker c.from-place.result c.in_ok-phase.phase.now number here c.in_ok-index.index about
    (omega (arith, c.if-index-len.true, c.len.ensures))

pub returns : goal.returns
returns c =
    let there = found_below c.args.self.now.sites.items c.in_ok-index.index (omega (arith, c.if-index-len.false, c.len.ensures)) in
    record {
      phase = c.in_ok-phase.phase.now;
      site = there.0;
      number = number_is c.args.worker c.in_ok-checked_sub.field-0 c.checked_sub.result c.checked_sub.ensures c.in_ok-checked_sub.was
          ∙ ap (λ n. suc n) (sym c.from-place.ensures);
      here = stands c.deref.result.now c.args.self.now.workers.items c.from-place.result c.in_ok-phase.phase.now
          c.deref.ensures.value c.in_ok-phase.ensures.lookup.3.0 c.in_ok-phase.ensures.lookup.1;
      about = sym c.index.ensures ∙ c.in_ok-index.was;
      there = there.1;
    }
