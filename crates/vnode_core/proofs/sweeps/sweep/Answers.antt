use Rattle.std.proofs.Common.{◌∙◌, sym, ap, subst}
use Rattle.vnode_machine.specs.Dead.{swept_keys}
use Rattle.vnode_core.specs.Reaping.{key_given}
use Rattle.vnode_core.specs.Sweeps.{RegistersReaps}
use Rattle.vnode_core.proofs.Sweeping.{sweep-begins, sweep-goes-on, spent, used-up}
use Rattle.vnode_core.proofs.sweeps.sweep.Goals.{then-loop-reaped-test+else-reap_first, else-loop-reaped-test}
use Rattle.vnode_core.proofs.sweeps.sweep.Goals as goal

pub loop-reaped-init : goal.loop-reaped-init
loop-reaped-init c = sweep-begins c.args.vnode.now (key_given c.args.from) c.args.budget

pub loop-reaped-preserved : goal.loop-reaped-preserved
loop-reaped-preserved c =
    let reap = c.reap_first.ensures in
    sweep-goes-on c.args.vnode.now c.loop-reaped.vnode (key_given c.args.from) c.args.budget c.loop-reaped.reaped c.loop-reaped.invariant c.reap_first.new.self c.loop-reaped-test.true
    (sym reap.found ∙ c.if-reap_first.true) reap.state reap.left reap.ended reap.register

pub returns-clause-state : goal.returns-clause-state
returns-clause-state c = elim c.loop-reaped-test.branch [
  | then-loop-reaped-test+else-reap_first w ↦
      let reap = w.reap_first.ensures in
      let all = used-up c.args.vnode.now c.loop-reaped.vnode (key_given c.args.from) c.args.budget c.loop-reaped.reaped c.loop-reaped.invariant w.reap_first.new.self w.loop-reaped-test.true
      (sym reap.found ∙ w.if-reap_first.false) reap.state reap.ended in
      ap (λ v. v.state) w.vnode-is ∙ all.0
  | else-loop-reaped-test w ↦
      let all = spent c.args.vnode.now c.loop-reaped.vnode (key_given c.args.from) c.args.budget c.loop-reaped.reaped c.loop-reaped.invariant w.loop-reaped-test.false in
      ap (λ v. v.state) w.vnode-is ∙ all.0
]

pub returns-clause-reaped : goal.returns-clause-reaped
returns-clause-reaped c = elim c.loop-reaped-test.branch [
  | then-loop-reaped-test+else-reap_first w ↦
      let reap = w.reap_first.ensures in
      let all = used-up c.args.vnode.now c.loop-reaped.vnode (key_given c.args.from) c.args.budget c.loop-reaped.reaped c.loop-reaped.invariant w.reap_first.new.self w.loop-reaped-test.true
      (sym reap.found ∙ w.if-reap_first.false) reap.state reap.ended in
      all.1
  | else-loop-reaped-test w ↦
      let all = spent c.args.vnode.now c.loop-reaped.vnode (key_given c.args.from) c.args.budget c.loop-reaped.reaped c.loop-reaped.invariant w.loop-reaped-test.false in
      all.1
]

pub returns-clause-prepared : goal.returns-clause-prepared
returns-clause-prepared c = elim c.loop-reaped-test.branch [
  | then-loop-reaped-test+else-reap_first w ↦
      let reap = w.reap_first.ensures in
      let all = used-up c.args.vnode.now c.loop-reaped.vnode (key_given c.args.from) c.args.budget c.loop-reaped.reaped c.loop-reaped.invariant w.reap_first.new.self w.loop-reaped-test.true
      (sym reap.found ∙ w.if-reap_first.false) reap.state reap.ended in
      ap (λ v. v.prepared) w.vnode-is ∙ all.2
  | else-loop-reaped-test w ↦
      let all = spent c.args.vnode.now c.loop-reaped.vnode (key_given c.args.from) c.args.budget c.loop-reaped.reaped c.loop-reaped.invariant w.loop-reaped-test.false in
      ap (λ v. v.prepared) w.vnode-is ∙ all.2
]

pub returns-clause-register : goal.returns-clause-register
returns-clause-register c = elim c.loop-reaped-test.branch [
  | then-loop-reaped-test+else-reap_first w ↦
      let reap = w.reap_first.ensures in
      let all = used-up c.args.vnode.now c.loop-reaped.vnode (key_given c.args.from) c.args.budget c.loop-reaped.reaped c.loop-reaped.invariant w.reap_first.new.self w.loop-reaped-test.true
      (sym reap.found ∙ w.if-reap_first.false) reap.state reap.ended in
      subst (λ v. RegistersReaps c.args.vnode.now.state (swept_keys c.args.vnode.now.state (key_given c.args.from) c.args.budget) v.state) (sym w.vnode-is) all.3
  | else-loop-reaped-test w ↦
      let all = spent c.args.vnode.now c.loop-reaped.vnode (key_given c.args.from) c.args.budget c.loop-reaped.reaped c.loop-reaped.invariant w.loop-reaped-test.false in
      subst (λ v. RegistersReaps c.args.vnode.now.state (swept_keys c.args.vnode.now.state (key_given c.args.from) c.args.budget) v.state) (sym w.vnode-is) all.3
]
