use Rattle.std.proofs.Common.{◌∙◌, [], ◌∷◌, ◌++◌, ap, length, subst, sym}
use Rattle.std.proofs.lemmas.List.{append-nil}
use Rattle.clock_store.specs.Keys.{stored_of}
use Rattle.rw_gate.specs.Views.{GateId}
use Rattle.vnode_core.specs.Plans.{View}
use Rattle.vnode_machine.specs.Machine.{stored}
use Rattle.vnode_core.specs.declared.entry.Entry.{Entry}
use Rattle.handoff.specs.Copying.{IsCopyOf}
use Rattle.handoff.specs.Sights.{LeadsVnodeTo}
use Rattle.handoff.proofs.Copies.{entry-copied, held-copy, told-stuck}
use Rattle.handoff.proofs.copy_step.copy_to.Goals as goal

pub returns-in-Made-clause-step : goal.returns-in-Made-clause-step
returns-in-Made-clause-step c =
    let next = c.in-Made.ensures.follows in
    let copy = c.in_ok-copy.copy in
    let from = c.args.from.now.state in
    let held = ap (stored from) (c.in_ok-copy.ensures.key ∙ c.of-parts.ensures) ∙ c.requires.held.held in
    let number = c.in_ok-copy.ensures.diversion in
    let of_fallback = held-copy c.args.diversion c.args.theirs.now from copy (stored_of c.args.left.stored.now) c.requires.shown c.requires.unclosed number
    (c.in_ok-copy.ensures.prefix ∙ c.commands_seen.ensures) held c.in_ok-copy.ensures.clock in
    record {
      position = c.look.new.pass.prefix;
      entry = next.event;
      begins = c.look.ensures.more;
      seen = next.seen;
      own = next.own ∙ ap (λ ks. ks ++ length c.look.new.pass.prefix ∷ []) c.look.ensures.own;
      copy = subst (λ (e : Entry). IsCopyOf c.args.diversion c.args.theirs.now e) (sym (entry-copied next.event copy next.asked)) of_fallback;
    }

pub returns-in-Told-clause-step : goal.returns-in-Told-clause-step
returns-in-Told-clause-step c =
    let said = c.in-Told.ensures.outcome in
    let copy = c.in_ok-copy.copy in
    let from = c.args.from.now.state in
    let seen = c.ask_shown.new.pass in
    let held = ap (stored from) (c.in_ok-copy.ensures.key ∙ c.of-parts.ensures) ∙ c.requires.held.held in (
      said.own ∙ c.look.ensures.own,
      copy,
      record {
        of_fallback = held-copy c.args.diversion c.args.theirs.now from copy (stored_of c.args.left.stored.now) c.requires.shown c.requires.unclosed c.in_ok-copy.ensures.diversion
            (c.in_ok-copy.ensures.prefix ∙ c.commands_seen.ensures) held c.in_ok-copy.ensures.clock;
        prefix = seen.prefix;
        begins = ([], append-nil seen.prefix);
        state = said.state;
        leads = subst (λ (g : GateId View). LeadsVnodeTo g seen.prefix said.state) (sym c.ask_shown.ensures.gate) said.leads;
        stuck = told-stuck said.state copy _ said.says;
      },
    )
