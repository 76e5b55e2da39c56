-- What one diversion of a partition says that has returned.
use Rattle.std.proofs.Common.{◌≡◌, ◌∙◌, ◌+◌, ◌++◌, ℕ, List, [], ◌∷◌, append_assoc, length, length-append, refl, sym, ap, subst, arith}
use Rattle.std.specs.Prelude.{IsTrue, Option, Some, None, IfSome, slice_get, zero, suc}
use Rattle.std.specs.List.{list_all}
use Rattle.std.specs.Option.{option_map_or}
use mathlib.Core.List.{IsPrefix}
pub use Rattle.ghost_state.proofs.Lists.{set-here}
pub use Rattle.rw_gate.proofs.Prefixes.{prefix_shorter, prefix_trans}
use Rattle.ring_map.specs.Ring.{id_of}
use Rattle.riak_msgs.specs.declared.Key.{Key}
use Rattle.riak_msgs.specs.Contents.{Content}
use Rattle.sibling_register.specs.History.{events_of, is_update}
use Rattle.vnode_machine.specs.Lives.{lives_begun}
use Rattle.vnode_machine.specs.Machine.{State}
use Rattle.vnode_machine.specs.Replay.{HasReplay, History, IsWithinLimits, replay}
use Rattle.vnode_machine.proofs.Steps.{known}
use Rattle.rw_gate.specs.Machines.{MachineRun}
use Rattle.rw_gate.specs.Views.{GateId}
use Rattle.vnode_core.specs.declared.entry.Entry.{Entry}
use Rattle.vnode_core.specs.declared.entry.Entry.TheVariants.{Closed}
use Rattle.vnode_core.specs.declared.event.VnodeEvent.{VnodeEvent}
use Rattle.vnode_core.specs.Events.{GoesOnTo, IsMadeNew, Makes, all_commands, commands_of, history_after}
use Rattle.vnode_core.specs.Plans.{View}
use Rattle.vnode_core.proofs.Events.{gate-history-is-legal}
use Rattle.handoff.specs.declared.gates.Fallback.{Fallback}
use Rattle.handoff.specs.declared.gates.Start.{Start}
use Rattle.handoff.specs.Joined.{AreMade}
use Rattle.handoff.specs.Partitions.{AreMadeNew, BeginsBehind, HandoffView, fallback_id, number_in, number_of}
use Rattle.handoff.specs.Returning.{EndsDiversion}
use Rattle.handoff.specs.Running.{Diversion, HasReturnedBehind, HaveReturned, commands_in, last_fallback, opened_at, seen_here}
use Rattle.handoff.specs.Sights.{Sight, ClosedBehind, LeadsVnodeTo}
use Rattle.handoff.specs.Started.{IsTallied, TookCopiesAlone, all_copies, commands_counted}
use Rattle.handoff.proofs.Between.{copies-count, lead-split}
use Rattle.handoff.proofs.CallsMade.{copies-are-of-calls}
use Rattle.handoff.proofs.Counted.{IsAny, counts-all, counts-commands, seen-commands}
use Rattle.handoff.proofs.Joined.{all-unreaped, ended-events}
use Rattle.handoff.proofs.Opened.{none_some}

-- the primary of an index is of a new vnode
made-new-at : (run index i : ℕ) (gates : List (GateId View)) (gate : GateId View) → AreMadeNew run index gates → slice_get gates i ≡ Some gate → IsMadeNew (id_of run (index + i)) 0 gate
made-new-at run index i [] gate all at = absurd (none_some gate at)
made-new-at run index zero (g ∷ gates) gate all at =
    let same : g ≡ gate = cc at in
    let here : index ≡ index + 0 = omega arith in
    subst (λ (x : GateId View). IsMadeNew (id_of run (index + 0)) 0 x) same (subst (λ n. IsMadeNew (id_of run n) 0 g) here all.0)
made-new-at run index (suc i) (g ∷ gates) gate all at =
    let next : (index + 1) + i ≡ index + suc i = omega arith in subst (λ n. IsMadeNew (id_of run n) 0 gate) next (made-new-at run (index + 1) i gates gate all.1 at)

pub new-at : (run index : ℕ) (gates : List (GateId View)) (gate : GateId View) → AreMadeNew run 0 gates → slice_get gates index ≡ Some gate → IsMadeNew (id_of run index) 0 gate
new-at run index gates gate all at = let here : 0 + index ≡ index = omega arith in subst (λ n. IsMadeNew (id_of run n) 0 gate) here (made-new-at run 0 index gates gate all at)

module _ (run index : ℕ) (primary : GateId View) (earlier : List Diversion) (one : Diversion) (back : HasReturnedBehind run index primary earlier one) where
  abbrev pub ended : EndsDiversion one.passes.primary one.passes.fallback
  ended = back.returned.of_gates.sees.ended

  abbrev since : TookCopiesAlone back.returned.fallback.start one.passes.primary
  since = back.returned.of_gates.sees.since

  abbrev opened : ℕ
  opened = opened_at one.fallback.gate

  -- the history of the fallback
  abbrev pub history : History
  history = history_after (fallback_id run index) (opened_at one.fallback.gate) [] (commands_of one.passes.fallback.prefix)

  fallback-is : back.returned.fallback ≡ one.fallback
  fallback-is = let both : Some (Some back.returned.fallback) ≡ Some (Some one.fallback) = sym back.returned.diverted ∙ back.stands_still in cc both

  pub gate-is : one.passes.primary.gate ≡ primary
  gate-is =
      let both : Some back.returned.primary ≡ Some primary = sym back.returned.stands ∙ back.gate in
      let same : back.returned.primary ≡ primary = cc both in
      back.returned.of_gates.gate ∙ same

  pub gate-there : one.passes.fallback.gate ≡ one.fallback.gate
  gate-there = back.returned.of_gates.gate_there ∙ ap (λ (f : Fallback). f.gate) fallback-is

  -- what the primary had, and the copies that came behind it
  start-is : since.from ≡ one.start
  start-is = let both : Some since.from ≡ Some one.start = sym since.is ∙ (ap (λ (f : Fallback). f.start) fallback-is ∙ back.starts) in cc both

  pub start-tallied : IsTallied one.start.pass one.start.tally
  start-tallied = subst (λ (s : Start). IsTallied s.pass s.tally) start-is since.tallied

  pub start-gate : one.start.pass.gate ≡ primary
  start-gate = ap (λ (s : Start). s.pass.gate) (sym start-is) ∙ (since.of_gate ∙ gate-is)

  pub seen-is : one.passes.primary.prefix ≡ one.start.pass.prefix ++ all_copies back.returned.of_gates.sees.since.copies
  seen-is = since.seen ∙ ap (λ (s : Start). s.pass.prefix ++ all_copies since.copies) start-is

  pub are-made : AreMade one.fallback.diversion one.fallback.gate back.returned.of_gates.sees.ended.before back.returned.of_gates.sees.since.copies
  are-made =
      let took : TookCopiesAlone one.fallback.start one.passes.primary
      = record { from = one.start; is = back.starts; of_gate = start-gate ∙ sym gate-is; tallied = start-tallied; copies = since.copies; seen = seen-is } in
      copies-are-of-calls primary one.fallback one.passes.primary ended.before one.calls took back.turns back.total

  -- the fallback that stood there is the one that `divert` made
  new-is : back.diverted.fallback ≡ one.fallback
  new-is =
      let both : Some (Some back.diverted.fallback) ≡ Some (Some one.fallback)
      = sym (set-here one.found.fallbacks index (last_fallback earlier) (Some back.diverted.fallback) back.stood)
      ∙ (ap (λ (h : HandoffView). slice_get h.fallbacks index) (sym back.diverted.is) ∙ back.stands) in
      cc both

  pub number-next : one.fallback.diversion ≡ number_of (last_fallback earlier) + 1
  number-next = ap (λ (f : Fallback). f.diversion) (sym new-is) ∙ (back.diverted.next ∙ ap (λ o. number_in o + 1) back.stood)

  made-at : IsMadeNew (fallback_id run index) back.diverted.is_new.last_epoch one.fallback.gate
  made-at =
      subst (λ (f : Fallback). IsMadeNew (fallback_id run index) back.diverted.is_new.last_epoch f.gate) new-is
      (subst (λ r. IsMadeNew (fallback_id r index) back.diverted.is_new.last_epoch back.diverted.fallback.gate) back.of_run back.diverted.is_new.made_new)

  epoch-is : opened_at one.fallback.gate ≡ back.diverted.is_new.last_epoch
  epoch-is = ap (λ (o : Option View). option_map_or (λ v. v.state.last_epoch) o 0) made-at.made ∙ ap (λ (s : State Content). s.last_epoch) made-at.new

  pub made-there : IsMadeNew (fallback_id run index) (opened_at one.fallback.gate) one.passes.fallback.gate
  made-there =
      subst (λ (g : GateId View). IsMadeNew (fallback_id run index) (opened_at one.fallback.gate) g) (sym gate-there)
      (subst (λ e. IsMadeNew (fallback_id run index) e one.fallback.gate) (sym epoch-is) made-at)

  pub limits-there : IsWithinLimits (fallback_id run index) (opened_at one.fallback.gate)
  limits-there =
      subst (λ e. IsWithinLimits (fallback_id run index) e) (sym epoch-is)
      (subst (λ r. IsWithinLimits (fallback_id r index) back.diverted.is_new.last_epoch) back.of_run back.diverted.is_new.limits)

  -- its history is the machine's, has no reap, and leads to the state that was closed
  pub history-is : history_after (fallback_id run index) (opened_at one.fallback.gate) [] back.returned.of_gates.sees.ended.events ≡ history
  history-is = ap (history_after (fallback_id run index) (opened_at one.fallback.gate) []) (sym (ended-events one.passes.primary one.passes.fallback ended))

  goes : GoesOnTo (fallback_id run index) (opened_at one.fallback.gate) [] back.returned.of_gates.sees.ended.events back.returned.of_gates.sees.ended.fallback
  goes =
      let vnode : View = record { state = ended.fallback; prepared = None } in
      gate-history-is-legal (fallback_id run index) opened one.passes.fallback.gate ended.events vnode limits-there made-there
      (subst (λ (es : List Entry). LeadsVnodeTo one.passes.fallback.gate es ended.fallback) ended.plain ended.leads)

  pub replays : HasReplay (fallback_id run index) (opened_at one.fallback.gate) history
  replays = subst (HasReplay (fallback_id run index) opened) history-is goes.after.replays

  pub there-is : back.returned.of_gates.sees.ended.fallback ≡ replay (fallback_id run index) (opened_at one.fallback.gate) history
  there-is = goes.after.is ∙ ap (replay (fallback_id run index) opened) history-is

  pub unreaped : (key : Key) → IsTrue (list_all (λ event. is_update event.operation) (events_of history key))
  unreaped key =
      subst (λ (h : History). IsTrue (list_all (λ event. is_update event.operation) (events_of h key))) history-is
      (all-unreaped (fallback_id run index) opened key [] ended.events refl ended.updates)

  epoch-there : back.returned.of_gates.sees.ended.fallback.last_epoch ≡ opened_at one.fallback.gate + lives_begun history
  epoch-there = ap (λ (s : State Content). s.last_epoch) there-is ∙ (known (fallback_id run index) opened history replays).epochs

  -- the primary counts what it did when it was diverted
  pub counted-still : commands_counted back.returned.of_gates.sees.ended.primary ≡ commands_in one.start.tally
  counted-still =
      let had = start-tallied in
      let first = subst (λ (g : GateId View). LeadsVnodeTo g one.start.pass.prefix had.state) start-gate had.shows in
      let last = subst (λ (es : List Entry). LeadsVnodeTo primary es ended.primary) seen-is (subst (λ (g : GateId View). LeadsVnodeTo g one.passes.primary.prefix ended.primary) gate-is ended.shows) in
      let same = copies-count since.copies had.state ended.primary (lead-split primary one.start.pass.prefix (all_copies since.copies) had.state ended.primary first last) in
      let writes = had.writes in let tombstones = had.tombstones in let reaps = had.reaps in
      omega (arith, same, writes, tombstones, reaps)

  -- who saw it closed, and no less than the return, saw the epoch that it gave last
  closed-epoch : (pass : Sight) (e : ℕ) → pass.gate ≡ one.fallback.gate → IsPrefix one.passes.fallback.prefix pass.prefix → ClosedBehind pass e → e ≡ opened_at one.fallback.gate + lives_begun history
  closed-epoch pass e of_gate (rest, is) (shown, last) =
      let whole : pass.prefix ≡ ended.before ++ Closed (length one.passes.primary.prefix) ∷ rest = sym is ∙ (ap (λ es. es ++ rest) ended.seen ∙ cut ended.before (Closed (length one.passes.primary.prefix)) rest) in
      let first = subst (λ (g : GateId View). LeadsVnodeTo g ended.before ended.fallback) gate-there ended.leads in
      let end = subst (λ (es : List Entry). LeadsVnodeTo one.fallback.gate es shown.state) whole (subst (λ (g : GateId View). LeadsVnodeTo g pass.prefix shown.state) of_gate shown.shows) in
      let run = lead-split one.fallback.gate ended.before (Closed (length one.passes.primary.prefix) ∷ rest) ended.fallback shown.state first end in
      last ∙ (behind-close rest (length one.passes.primary.prefix) ended.fallback shown.state run ∙ epoch-there)
    where
      cut : (xs : List Entry) (x : Entry) (ys : List Entry) → (xs ++ x ∷ []) ++ ys ≡ xs ++ x ∷ ys
      cut xs x ys = append_assoc xs (x ∷ []) ys

      behind-close : (entries : List Entry) (number : ℕ) (s t : State Content) → MachineRun Makes s (Closed number ∷ entries) t → t.last_epoch ≡ s.last_epoch
      behind-close [] number s t (m, makes, run) = ap (λ (x : State Content). x.last_epoch) (sym run) ∙ ap (λ (x : State Content). x.last_epoch) makes.1
      behind-close (entry ∷ entries) number s t (m, makes, (next, more, run)) =
          let shut : Some number ≡ None = sym (ap (λ (x : State Content). x.closed) makes.1) ∙ more.0 in cc shut

-- the next fallback begins its epochs behind the last one's
pub next-opened : (run index : ℕ) (primary : GateId View) (before : Diversion) (earlier : List Diversion) (one : Diversion)
    → HasReturnedBehind run index primary (before ∷ earlier) one → (was : HasReturnedBehind run index primary earlier before)
    → opened_at one.fallback.gate ≡ opened_at before.fallback.gate + lives_begun (history run index primary earlier before was)
next-opened run index primary before earlier one back was =
    epoch-is run index primary (before ∷ earlier) one back
    ∙ closed-epoch run index primary earlier before was begins.0 back.diverted.is_new.last_epoch begins.2 seen begins.3
  where
    stood : back.diverted.before ≡ Some before.fallback
    stood = let both : Some back.diverted.before ≡ Some (Some before.fallback) = sym back.diverted.stood ∙ back.stood in cc both

    begins : BeginsBehind (Some before.fallback) one.fallback.before back.diverted.is_new.last_epoch
    begins =
        subst (λ (f : Fallback). BeginsBehind (Some before.fallback) f.before back.diverted.is_new.last_epoch) (new-is run index primary (before ∷ earlier) one back)
        (subst (λ (o : Option Fallback). BeginsBehind o back.diverted.fallback.before back.diverted.is_new.last_epoch) stood back.diverted.begins)

    seen : IsPrefix before.passes.fallback.prefix begins.0.prefix
    seen = subst (λ (o : Option Sight). IfSome o (λ pass. IsPrefix before.passes.fallback.prefix pass.prefix)) begins.1 back.closed

-- since the return before commands alone came to the primary, until it was diverted
pub commands-since : (run index : ℕ) (primary : GateId View) (earlier : List Diversion) (one : Diversion) → IsMadeNew (id_of run index) 0 primary
    → HasReturnedBehind run index primary earlier one → HaveReturned run index primary earlier → (events : List VnodeEvent) × (one.start.pass.prefix ≡ seen_here earlier ++ all_commands events)
commands-since run index primary [] one new back returned =
    let had = start-tallied run index primary [] one back in
    let gate = start-gate run index primary [] one back in
    let writes = had.writes in let tombstones = had.tombstones in let reaps = had.reaps in
    let counted = back.commands in
    seen-commands (id_of run index) 0 one.start.pass.gate one.start.pass.prefix had.state (subst (λ (g : GateId View). IsMadeNew (id_of run index) 0 g) (sym gate) new) had.shows
    (omega (arith, writes, tombstones, reaps, counted))
commands-since run index primary (before ∷ earlier) one new back (was, returned) =
    let had = start-tallied run index primary (before ∷ earlier) one back in
    let ended_before = was.returned.of_gates.sees.ended in
    let first = subst (λ (g : GateId View). LeadsVnodeTo g before.passes.primary.prefix ended_before.primary) (gate-is run index primary earlier before was) ended_before.shows in
    let last = subst (λ (es : List Entry). LeadsVnodeTo primary es had.state) (sym back.begins.1)
    (subst (λ (g : GateId View). LeadsVnodeTo g one.start.pass.prefix had.state) (start-gate run index primary (before ∷ earlier) one back) had.shows) in
    let led = lead-split primary before.passes.primary.prefix back.begins.0 ended_before.primary had.state first last in
    let still = counted-still run index primary earlier before was in
    let writes = had.writes in let tombstones = had.tombstones in let reaps = had.reaps in
    let counted = back.commands in
    let sizes : length before.passes.primary.prefix + length back.begins.0 ≡ length one.start.pass.prefix = sym (length-append before.passes.primary.prefix back.begins.0) ∙ ap length back.begins.1 in
    let found = counts-all commands_counted IsAny counts-commands back.begins.0 ended_before.primary had.state led (omega (arith, still, writes, tombstones, reaps, counted, sizes)) in
    (found.0, sym back.begins.1 ∙ ap (λ es. before.passes.primary.prefix ++ es) found.1)
