use Rattle.std.proofs.Common.{◌∙◌, sym, ap, subst, refl, inl}
use Rattle.std.specs.Prelude.{Some}
use Rattle.vnode_machine.specs.Dead.{first_dead}
use Rattle.vnode_core.specs.Reaping.{key_given}
use Rattle.vnode_core.specs.Plans.{View}
use Rattle.vnode_core.specs.Vnodes.{fields, IsReadyFor, state_of}
use Rattle.vnode_core.proofs.Reaping.{accepts-some, none-first}
use Rattle.vnode_core.proofs.vnode.VnodeOver.make_first_reap_ready.Goals as goal

pub invariant_of-self : goal.invariant_of-self
invariant_of-self g c =
    let v = fields c.self.inside.id c.self.inside.epochs c.self.inside.writes c.self.inside.tombstones c.self.inside.reaps (g.S.ClockStore.shows c.self.inside.store) c.self.inside.ready c.self.inside.prepared c.self.inside.closed in
    let opened = ap (λ (w : View). w.state.closed) c.self.view_is ∙ c.requires.opened in
    record {
      sound = c.self.invariant.sound;
      ready =
          subst (IsReadyFor (state_of v) v.store v.ready) (sym (c.some.ensures ∙ ap Some c.requires.is))
          (opened, accepts-some (state_of v) c.self.invariant.sound (key_given c.args.from) (sym c.if-has_dead.true ∙ c.has_dead.ensures));
    }

pub returns-then-has_dead-clause-plans : goal.returns-then-has_dead-clause-plans
returns-then-has_dead-clause-plans g c =
    let v = fields c.self.inside.id c.self.inside.epochs c.self.inside.writes c.self.inside.tombstones c.self.inside.reaps (g.S.ClockStore.shows c.self.inside.store) c.self.inside.ready c.self.inside.prepared c.self.inside.closed in
    let opened = ap (λ (w : View). w.state.closed) c.self.view_is ∙ c.requires.opened in
    record {
      is = refl;
      prepared = c.some.ensures ∙ ap Some c.requires.is;
      accepted = (opened, accepts-some (state_of v) c.self.invariant.sound (key_given c.args.from) (sym c.if-has_dead.true ∙ c.has_dead.ensures));
    }

pub returns-clause-plans : goal.returns-clause-plans
returns-clause-plans g c =
    let v = fields c.self.inside.id c.self.inside.epochs c.self.inside.writes c.self.inside.tombstones c.self.inside.reaps (g.S.ClockStore.shows c.self.inside.store) c.self.inside.ready c.self.inside.prepared c.self.inside.closed in
    let none = none-first (state_of v) (key_given c.args.from) (sym c.has_dead.ensures ∙ c.if-has_dead.false) in
    let here = ap (λ (w : View). first_dead w.state (key_given c.args.from)) (sym c.self.view_is) ∙ none in
    record { prepared = c.requires.ended; answered = inl (c.requires.opened, (refl, here)) }
