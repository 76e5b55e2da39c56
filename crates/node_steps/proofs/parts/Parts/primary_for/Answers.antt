use Rattle.std.proofs.Common.{◌≡◌, ◌∙◌, sym, ap, subst, inr, arith}
use Rattle.node_steps.specs.Hands.{HandView}
use Rattle.node_steps.specs.Running.{vnode_of}
use Rattle.node_steps.specs.World.{Taken}
use Rattle.node_steps.proofs.Finding.{stands}
use Rattle.node_steps.proofs.Looking.{in_hand, in_place}
use Rattle.node_steps.proofs.Taking.{some_same}
use Rattle.node_steps.proofs.parts.Parts.primary_for.Goals as goal
use Rattle.node_steps.proofs.Lists.{found_below}

pub returns-in-Some : goal.returns-in-Some
returns-in-Some c =
    let sites = c.args.self.now.sites.items in
    let beside = found_below sites c.args.from (omega (arith, c.if-from-len.false, c.len.ensures)) in
    record {
      site = c.in_ok-hand.field-0.now;
      there = stands c.deref.result.now sites c.args.own c.in_ok-hand.field-0.now c.deref.ensures.value c.in_ok-hand.ensures.lookup.3.0 c.in_ok-hand.ensures.lookup.1;
      place_is = in_place c.in_ok-hand.field-0.now c.in-Some.hand c.in-Some.is ∙ ap (λ (h : HandView). h.state) (sym c.deref-in-Some.ensures);
      fallback = beside.0;
      beside = beside.1;
    }

pub returns-in-None : goal.returns-in-None
returns-in-None c =
    let sites = c.args.self.now.sites.items in
    let there = stands c.deref.result.now sites c.args.own c.in_ok-hand.field-0.now c.deref.ensures.value c.in_ok-hand.ensures.lookup.3.0 c.in_ok-hand.ensures.lookup.1 in
    inr (λ primary here. subst (λ s. (vnode_of s).word ≡ Taken) (some_same c.in_ok-hand.field-0.now primary (sym there ∙ here)) (in_hand c.in_ok-hand.field-0.now c.in-None.is))
