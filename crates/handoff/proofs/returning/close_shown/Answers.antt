use Rattle.std.proofs.Common.{◌≡◌, ◌∙◌, [], ◌∷◌, ◌++◌, ap, sym, subst, length, true, false, inl, inr}
use Rattle.std.specs.Prelude.{None, Some, IfSome}
use Rattle.clock_store.specs.Keys.{Keys, stored_of}
use Rattle.rw_gate.specs.Views.{GateId}
use Rattle.vnode_core.specs.declared.entry.Entry.TheVariants.{Closed}
use Rattle.vnode_core.specs.Plans.{View}
use Rattle.vnode_core.proofs.Lefts.{behind-none}
use Rattle.handoff.specs.declared.left.Left.{Left}
use Rattle.handoff.specs.declared.gates.Start.{Start}
use Rattle.handoff.specs.declared.fault.Stop.TheVariants as stops
use Rattle.handoff.specs.Endings.{IsEndStop}
use Rattle.handoff.specs.Left.{IsFirstLeft, IsNextLeft}
use Rattle.handoff.specs.Returning.{EndsDiversion}
use Rattle.handoff.specs.Sights.{IsOfVnode, LeadsVnodeTo}
use Rattle.handoff.specs.Started.{IsStartOf}
use Rattle.handoff.proofs.Between.{took-copies}
use Rattle.handoff.proofs.Counted.{seen-updates}
use Rattle.handoff.proofs.Copies.{if-none, if-some}
use Rattle.handoff.proofs.Showing.{shown, shown-sound}
use Rattle.handoff.proofs.Stopping.{close-stop, if-err-one, went-on}
use Rattle.handoff.proofs.returning.close_shown.Goals as goal

pub first_left-requires : goal.first_left-requires
first_left-requires c = record {
  sound = shown-sound c.args.writer.now c.in_ok-from.from.now c.requires.vnode c.in_ok-from.ensures.replay c.in_ok-from.ensures.shown;
}

pub returns-in-Some-left-clause-ending : goal.returns-in-Some-left-clause-ending
returns-in-Some-left-clause-ending c =
    let primary = c.in_ok-to.to.now.state in
    let fallback = c.in_ok-from.from.now.state in
    let left = c.in-Some-left.field-0 in
    let found = if-some (λ (l : Left). IsNextLeft primary fallback None l.key (stored_of l.stored.now)) c.in_ok-left.left left c.in-Some-left.is c.in_ok-left.ensures.some in
    record {
      primary = primary;
      fallback = fallback;
      shows = shown c.args.reader.now c.look.new.pass c.in_ok-to.to.now c.look.ensures.replay (c.look.ensures.gate ∙ c.requires.mine) c.in_ok-to.ensures.seen c.in_ok-to.ensures.shown;
      shows_there = shown c.args.writer.now c.look-2.new.pass c.in_ok-from.from.now c.look-2.ensures.replay (c.look-2.ensures.gate ∙ c.requires.theirs) c.in_ok-from.ensures.seen c.in_ok-from.ensures.shown;
      unclosed = sym c.closed_at.ensures ∙ c.in-None.is;
      key = left.key;
      there = stored_of left.stored.now;
      left = subst (λ (keys : Keys). IsFirstLeft primary keys (left.key, stored_of left.stored.now)) (behind-none fallback) found.first;
      own = c.look-2.ensures.own ∙ c.requires.own_there;
      own_here = c.look.ensures.own ∙ c.requires.own;
    }

pub has_stayed-requires : goal.has_stayed-requires
has_stayed-requires c = subst (λ (g : GateId View). IfSome c.args.start.now (IsStartOf g)) (sym (c.look.ensures.gate ∙ c.requires.mine)) c.requires.start

pub returns-clause-ending : goal.returns-clause-ending
returns-clause-ending c =
    let primary = c.in_ok-to.to.now.state in
    let fallback = c.in_ok-from.from.now.state in
    let before = c.look-2.new.pass.prefix in
    let closes = c.in_ok-close.ensures.closed in
    let mine = c.look.new.pass in
    let here = shown c.args.reader.now mine c.in_ok-to.to.now c.look.ensures.replay (c.look.ensures.gate ∙ c.requires.mine) c.in_ok-to.ensures.seen c.in_ok-to.ensures.shown in
    let there = shown c.args.writer.now c.look-2.new.pass c.in_ok-from.from.now c.look-2.ensures.replay (c.look-2.ensures.gate ∙ c.requires.theirs) c.in_ok-from.ensures.seen c.in_ok-from.ensures.shown in
    let stayed = c.has_stayed.ensures.0 c.if-not-has_stayed.false in
    let vnode = subst IsOfVnode (sym (c.look-2.ensures.gate ∙ c.requires.theirs)) c.requires.vnode in
    let took = seen-updates vnode.id vnode.last_epoch c.look-2.new.pass.gate before fallback vnode.made_new there (c.took_updates_alone.ensures.0 c.if-not-took_updates_alone.false) in
    let starts : (from : Start) → c.args.start.now ≡ Some from → IsStartOf mine.gate from
    = λ from is. if-some (IsStartOf mine.gate) c.args.start.now from is (subst (λ (g : GateId View). IfSome c.args.start.now (IsStartOf g)) (sym (c.look.ensures.gate ∙ c.requires.mine)) c.requires.start) in
    let ended : EndsDiversion mine c.close.new.theirs = record {
      before = before;
      primary = primary;
      fallback = fallback;
      shows = here;
      leads = subst (λ (gate : GateId View). LeadsVnodeTo gate before fallback) (sym c.close.ensures.gate) there;
      unclosed = sym c.closed_at.ensures ∙ c.in-None.is;
      open_still = stayed.open_still;
      events = took.0;
      plain = took.1;
      updates = took.2;
      copied = if-none c.in_ok-left.left c.in-None-left.is c.in_ok-left.ensures.none;
      seen = closes.seen ∙ ap (λ n. before ++ Closed n ∷ []) c.seen.ensures.length;
      own = closes.own ∙ ap (λ ks. ks ++ length before ∷ []) (c.look-2.ensures.own ∙ c.requires.own_there);
      own_here = c.look.ensures.own ∙ c.requires.own;
    } in
    record { ended = ended; since = took-copies c.args.start.now primary mine stayed starts here }

pub returns-in_err-to-clause-stop : goal.returns-in_err-to-clause-stop
returns-in_err-to-clause-stop c =
    if-err-one c.from_residual.result (IsEndStop c.args.start.now c.args.reader.now c.args.writer.now c.look.new.pass c.args.theirs.now) stops.GateStopped c.from_residual.ensures.1
    (inl (went-on c.args.reader.now c.look.new.pass _ c.in_err-to.ensures.moved))

pub returns-in_err-from-clause-stop : goal.returns-in_err-from-clause-stop
returns-in_err-from-clause-stop c =
    if-err-one c.from_residual-in_err-from.result (IsEndStop c.args.start.now c.args.reader.now c.args.writer.now c.look.new.pass c.look-2.new.pass) stops.GateStopped c.from_residual-in_err-from.ensures.1
    (inr (inr (inl (went-on c.args.writer.now c.look-2.new.pass _ c.in_err-from.ensures.moved))))

pub returns-then-not-has_stayed-clause-stop : goal.returns-then-not-has_stayed-clause-stop
returns-then-not-has_stayed-clause-stop c =
    inr (inl (record {
      state = c.in_ok-to.to.now.state;
      shows = shown c.args.reader.now c.look.new.pass c.in_ok-to.to.now c.look.ensures.replay (c.look.ensures.gate ∙ c.requires.mine) c.in_ok-to.ensures.seen c.in_ok-to.ensures.shown;
      changed = λ stayed. let both : true ≡ false = sym (c.has_stayed.ensures.1 stayed) ∙ c.if-not-has_stayed.true in cc both;
    }))

pub returns-then-not-took_updates_alone-clause-stop : goal.returns-then-not-took_updates_alone-clause-stop
returns-then-not-took_updates_alone-clause-stop c =
    inr (inr (inr (inr (record {
      state = c.in_ok-from.from.now.state;
      shows = shown c.args.writer.now c.look-2.new.pass c.in_ok-from.from.now c.look-2.ensures.replay (c.look-2.ensures.gate ∙ c.requires.theirs) c.in_ok-from.ensures.seen c.in_ok-from.ensures.shown;
      others = λ all. let both : true ≡ false = sym (c.took_updates_alone.ensures.1 all) ∙ c.if-not-took_updates_alone.true in cc both;
    }))))

pub returns-in_err-close-clause-stop : goal.returns-in_err-close-clause-stop
returns-in_err-close-clause-stop c =
    let theirs = c.close.new.theirs in
    if-err-one c.from_residual-in_err-close.result (IsEndStop c.args.start.now c.args.reader.now c.args.writer.now c.look.new.pass theirs) c.in_err-close.field-0.0 c.from_residual-in_err-close.ensures.1
    (close-stop c.args.start.now c.args.reader.now c.args.writer.now c.look.new.pass theirs c.in_err-close.field-0.0 c.in_err-close.ensures.stop)
