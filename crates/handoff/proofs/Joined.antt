-- Where a diversion has ended, copies brought all that its fallback accepted.
use Rattle.std.proofs.Common.{◌≡◌, ◌≢◌, ◌∙◌, ◌++◌, ◌≤◌, ◌<◌, ℕ, Bool, true, false, not, cond, ◌&&◌, List, [], ◌∷◌, append_assoc, length, refl, sym, ap, subst, arith, inl, inr}
use Rattle.std.specs.Prelude.{if◌then◌else◌, ◌==◌, is_none, nat_le, IsTrue, MatchBool, Option, Some, None}
use Rattle.std.specs.List.{list_all}
use Rattle.std.specs.Option.{option_map_or}
use Rattle.std.proofs.lemmas.List.{append-nil}
use Rattle.std.proofs.lemmas.Bool.{cases_lt}
use Rattle.riak_msgs.specs.declared.Key.{Key}
use Rattle.riak_msgs.specs.Contents.{Content}
use Rattle.sibling_register.specs.Answers.{RegisterAsk, AskGet, AskPut, AskDel, AskReap}
use Rattle.riak_msgs.specs.KeyOrder.{key_eq}
use Rattle.sibling_register.specs.History.{Event, Operation, Write, Tombstone, Reap, count_of, events_of, is_update}
use Rattle.actor_epoch.specs.declared.Dot.{Dot}
use Rattle.actor_epoch.specs.Dots.{covers}
use Rattle.actor_epoch.specs.Given.{Context}
use Rattle.vnode_machine.specs.Copying.{is_stuck}
use Rattle.vnode_machine.specs.Lives.{dot_of}
use Rattle.vnode_machine.specs.Machine.{State, clock_of, is_held, is_bad_context, holds_dead, pairs_of, del_pairs, put_check, del_check, update_check, room_checks, apply_operation}
use Rattle.vnode_machine.specs.Registers.{key_of, context_in_ask}
use Rattle.vnode_machine.specs.Replay.{AcceptsEvent, HasReplay, History, replay}
use Rattle.vnode_machine.proofs.Formed.{without_options}
use Rattle.vnode_machine.proofs.Keys.{key_eq-same}
use Rattle.vnode_machine.proofs.Tests.{and_both, and_right, nat_eq-same}
use Rattle.vnode_machine.specs.Step.{Response, DelDone, ReapDone, ReapKept, MachineOutcome, Answered, Accepted, outcome, unless_refused}
use Rattle.copy_laws.specs.Copies.{Command as LawCommand, commands_of as commands_in, count_brought}
use Rattle.copy_laws.specs.CopyReplay.{AcceptsEntry, HasEntries, apply_entry, primary_after}
use Rattle.copy_laws.specs.Joining.{Log, Fallbacks, HasCome, HasDot, IsDiversion, IsHandOff, IsJoined, NamesWhatCame, SidesRise}
use Rattle.copy_laws.specs.LastDots.{knows_last_dot}
use Rattle.copy_laws.specs.Sides.{Partition, Number, is_seen_by_primary, takes_all}
use Rattle.copy_laws.proofs.Apart.{dots_stand_apart}
use Rattle.copy_laws.proofs.Brought.{SeenBy, brought-later, seen-by}
use Rattle.copy_laws.proofs.LifeDots.{dot-of}
use Rattle.copy_laws.proofs.Numbered.{number-positive}
use Rattle.copy_laws.proofs.Tests.{test-le}
use Rattle.copy_laws.proofs.JoinLaw.{copies_join}
use Rattle.copy_laws.proofs.LastBrought.{last_dot_brings_all}
use Rattle.rw_gate.specs.Machines.{MachineRun}
use Rattle.vnode_core.specs.declared.entry.Entry.{Entry}
use Rattle.vnode_core.specs.declared.entry.Entry.TheVariants.{Command, Copied, Closed}
use Rattle.vnode_core.specs.declared.event.VnodeEvent.{VnodeEvent}
use Rattle.vnode_core.specs.declared.event.VnodeEvent.TheVariants as events
use Rattle.vnode_core.specs.Events.{GoesOnTo, Makes, commands_of, event_command, event_deed, history_after, register_event}
use Rattle.vnode_core.specs.Plans.{View}
use Rattle.vnode_core.proofs.Entries.{commands_of-all_commands, commands_of-append}
use Rattle.vnode_core.proofs.Events.{gate-history-is-legal}
use Rattle.vnode_core.proofs.Lefts.{none-left-known}
use Rattle.handoff.specs.Joined.{IsHandedOff, IsJoinedIn, IsOfLastFallback, IsOfPrimary, ReturnJoinsKeys, TurnsSpareReaps, log_after, log_entry}
use Rattle.handoff.specs.Returning.{EndsDiversion}
use Rattle.handoff.specs.Sights.{Sight, LeadsVnodeTo, ShowsState}
use Rattle.handoff.specs.Started.{EachIs, IsUpdate}

-- what an accepted command changes
module _ (state : State Content) where
  pub command-applies : (command : RegisterAsk Content Context) (operation : Operation Content) (response : Response) (next : State Content)
      → outcome state command ≡ Accepted operation response next → next ≡ apply_operation state (key_of command) (context_in_ask command) operation
  command-applies (AskGet get) operation response next h = cc
  command-applies (AskPut put) operation response next h = by (put_check state put) _ _ refl h
    where
      by : (o : Option ℕ) (reply : Response) (made : State Content) → made ≡ apply_operation state put.key put.context (Write put.value)
          → unless_refused o (Accepted (Write put.value) reply made) ≡ Accepted operation response next → next ≡ apply_operation state put.key put.context operation
      by None reply made is h =
          let same : made ≡ next = cc in let deed : Write put.value ≡ operation = cc in
          sym same ∙ is ∙ ap (apply_operation state put.key put.context) deed
      by (Some number) reply made is h = cc
  command-applies (AskDel del) operation response next h = by (is_none del.context && not (is_held state del.key)) (del_check state del) _ refl h
    where
      by : (idle : Bool) (o : Option ℕ) (made : State Content) → made ≡ apply_operation state del.key del.context Tombstone
          → (let r : MachineOutcome = if idle then Answered DelDone else unless_refused o (Accepted Tombstone DelDone made) in r) ≡ Accepted operation response next
          → next ≡ apply_operation state del.key del.context operation
      by true o made is h = cc
      by false None made is h =
          let same : made ≡ next = cc in let deed : Tombstone ≡ operation = cc in
          sym same ∙ is ∙ ap (apply_operation state del.key del.context) deed
      by false (Some number) made is h = cc
  command-applies (AskReap key) operation response next h = by (holds_dead state key) _ refl h
    where
      by : (dead : Bool) (made : State Content) → made ≡ apply_operation state key None Reap
          → (let r : MachineOutcome = if dead then Accepted Reap ReapDone made else Answered ReapKept in r) ≡ Accepted operation response next
          → next ≡ apply_operation state key None operation
      by true made is h =
          let same : made ≡ next = cc in let deed : Reap ≡ operation = cc in
          sym same ∙ is ∙ ap (apply_operation state key None) deed
      by false made is h = cc

-- and what is accepted the law's machine accepts
module _ (state : State Content) where
  command-accepted : (command : RegisterAsk Content Context) (operation : Operation Content) (response : Response) (next : State Content)
      → outcome state command ≡ Accepted operation response next → AcceptsEvent state (key_of command) (context_in_ask command) operation
  command-accepted (AskGet get) operation response next h = cc
  command-accepted (AskPut put) operation response next h = by (put_check state put) _ _ refl h
    where
      by : (o : Option ℕ) (reply : Response) (made : State Content) → put_check state put ≡ o
          → unless_refused o (Accepted (Write put.value) reply made) ≡ Accepted operation response next → AcceptsEvent state put.key put.context operation
      by None reply made none h =
          let deed : Write put.value ≡ operation = cc in
          subst (AcceptsEvent state put.key put.context) deed (without_options (is_bad_context state put.key put.context) _ _ _ 4 1 3 2 (room_checks state put.key (pairs_of put.context)) none)
      by (Some number) reply made none h = cc
  command-accepted (AskDel del) operation response next h = by (is_none del.context && not (is_held state del.key)) (del_check state del) _ refl refl h
    where
      held : (b : Bool) → (true && not b) ≡ false → b ≡ true
      held true h = refl
      held false h = cc

      accepts : (given : Option Context) → (is_none given && not (is_held state del.key)) ≡ false → update_check state del.key given (del_pairs state del.key given) ≡ None → AcceptsEvent state del.key given Tombstone
      accepts None does h = (held (is_held state del.key) does, h)
      accepts (Some context) does h = h

      by : (idle : Bool) (o : Option ℕ) (made : State Content) → (is_none del.context && not (is_held state del.key)) ≡ idle → del_check state del ≡ o
          → (let r : MachineOutcome = if idle then Answered DelDone else unless_refused o (Accepted Tombstone DelDone made) in r) ≡ Accepted operation response next
          → AcceptsEvent state del.key del.context operation
      by true o made does none h = cc
      by false None made does none h = let deed : Tombstone ≡ operation = cc in subst (AcceptsEvent state del.key del.context) deed (accepts del.context does none)
      by false (Some number) made does none h = cc
  command-accepted (AskReap key) operation response next h = by (holds_dead state key) _ refl h
    where
      by : (dead : Bool) (made : State Content) → holds_dead state key ≡ dead
          → (let r : MachineOutcome = if dead then Accepted Reap ReapDone made else Answered ReapKept in r) ≡ Accepted operation response next → AcceptsEvent state key None operation
      by true made is h = let deed : Reap ≡ operation = cc in subst (AcceptsEvent state key None) deed is
      by false made is h = cc

module _ (partition : Partition) where
  -- an entry that a vnode takes changes what it changes in the law
  entry-applies : (log : Log) (state next : State Content) (entry : Entry) → Makes state entry next → next ≡ apply_entry state (log_entry partition log entry)
  entry-applies log state next (Command event) (opened, made) = command-applies state (event_command event) _ _ next made
  entry-applies log state next (Copied copy) (opened, (form, unstuck, made)) = made
  entry-applies log state next (Closed number) (opened, made) = made

  -- so entries lead to the state after their log
  log-leads : (entries : List Entry) (log : Log) (first last : State Content) → first ≡ primary_after partition log → MachineRun Makes first entries last
      → last ≡ primary_after partition (log_after partition log entries)
  log-leads [] log first last is run = sym run ∙ is
  log-leads (entry ∷ entries) log first last is (mid, makes, run) =
      log-leads entries (log_entry partition log entry ∷ log) mid last
      (entry-applies log first mid entry makes ∙ ap (λ (s : State Content). apply_entry s (log_entry partition log entry)) is) run

  -- and that log is one that the law's machine accepts
  entry-accepted : (key : Key) (log : Log) (state next : State Content) (entry : Entry) → state ≡ primary_after partition log → Makes state entry next → AcceptsEntry partition key log (log_entry partition log entry)
  entry-accepted key log state next (Command event) is (opened, made) = (
    subst (λ (s : State Content). AcceptsEvent s (key_of (event_command event)) (context_in_ask (event_command event)) (event_deed event)) is (command-accepted state (event_command event) _ _ next made),
    λ itself. refl,
  )
  entry-accepted key log state next (Copied copy) is (opened, (form, unstuck, made)) = subst (λ (s : State Content). IsTrue (not (is_stuck s copy.key copy.clock))) is unstuck
  entry-accepted key log state next (Closed number) is made = tt

  log-legal : (key : Key) (entries : List Entry) (log : Log) (first last : State Content) → first ≡ primary_after partition log → HasEntries partition key log → MachineRun Makes first entries last
      → HasEntries partition key (log_after partition log entries)
  log-legal key [] log first last is legal run = legal
  log-legal key (entry ∷ entries) log first last is legal (mid, makes, run) =
      log-legal key entries (log_entry partition log entry ∷ log) mid last
      (entry-applies log first mid entry makes ∙ ap (λ (s : State Content). apply_entry s (log_entry partition log entry)) is)
      (legal, sym (ap (λ (s : State Content). s.closed) is) ∙ makes.0, entry-accepted key log first mid entry is makes) run

  pub shown-legal : (key : Key) (primary : Log) (mine : Sight) (state : State Content) → IsOfPrimary partition primary mine → ShowsState mine state → HasEntries partition key primary
  shown-legal key primary mine state of shows =
      let first = of.made_new.first in
      let run : MachineRun Makes first.state mine.prefix state =
      subst (λ (o : Option View). LeadsVnodeTo (record { book = mine.gate.book; opening = o }) mine.prefix state) of.made_new.made shows in
      subst (HasEntries partition key) of.log (log-legal key mine.prefix [] first.state state of.made_new.new tt run)

  -- a pass of the primary shows that state
  pub shown-state : (primary : Log) (mine : Sight) (state : State Content) → IsOfPrimary partition primary mine → ShowsState mine state → state ≡ primary_after partition primary
  shown-state primary mine state of shows =
      let first = of.made_new.first in
      let run : MachineRun Makes first.state mine.prefix state =
      subst (λ (o : Option View). LeadsVnodeTo (record { book = mine.gate.book; opening = o }) mine.prefix state) of.made_new.made shows in
      log-leads mine.prefix [] first.state state of.made_new.new run ∙ ap (primary_after partition) of.log

-- a history of writes and deletes has no reap of a key
module _ (v l : ℕ) (key : Key) where
  abbrev IsUnreaped : History → Type 0
  IsUnreaped history = IsTrue (list_all (λ event. is_update event.operation) (events_of history key))

  update-deed : (event : VnodeEvent) → IsUpdate event → is_update (event_deed event) ≡ true
  update-deed (events.Put put reply) is = refl
  update-deed (events.Del del) is = refl
  update-deed (events.Reap key) is = absurd is

  one-unreaped : (event : Event Content Context) (before : History) → is_update event.operation ≡ true → IsUnreaped before → IsUnreaped (event ∷ before)
  one-unreaped event before is rest = by (key_eq event.key key) (is_update event.operation) is
    where
      by : (own update : Bool) → update ≡ true → IsTrue (list_all (λ e. is_update e.operation) (cond own (event ∷ events_of before key) (events_of before key)))
      by true update is' = and_both (is_update event.operation) (list_all (λ e. is_update e.operation) (events_of before key)) is rest
      by false update is' = rest

  pub all-unreaped : (before : History) (events : List VnodeEvent) → IsUnreaped before → EachIs IsUpdate events → IsUnreaped (history_after v l before events)
  all-unreaped before [] rest are = rest
  all-unreaped before (event ∷ events) rest are = all-unreaped (register_event v l before event ∷ before) events (one-unreaped (register_event v l before event) before (update-deed event are.0) rest) are.1

-- the commands of a closed fallback's pass
pub ended-events : (mine theirs : Sight) (ended : EndsDiversion mine theirs) → commands_of theirs.prefix ≡ ended.events
ended-events mine theirs ended =
    ap commands_of ended.seen ∙ (commands_of-append ended.before (Closed (length mine.prefix) ∷ []) ∙ (append-nil (commands_of ended.before) ∙ (ap commands_of ended.plain ∙ commands_of-all_commands ended.events)))

module _ (partition : Partition) (primary : Log) (fallbacks : Fallbacks) (mine theirs : Sight) (ended : EndsDiversion mine theirs)
    (of_primary : IsOfPrimary partition primary mine) (of_fallback : IsOfLastFallback partition fallbacks theirs) where
  last : ℕ
  last = partition.diversions

  opened : ℕ
  opened = partition.opened last

  pub history-is : history_after partition.fallback (partition.opened partition.diversions) [] ended.events ≡ fallbacks partition.diversions
  history-is = ap (history_after partition.fallback (partition.opened partition.diversions) []) (sym (ended-events mine theirs ended)) ∙ of_fallback.whole

  here : ended.primary ≡ primary_after partition primary
  here = shown-state partition primary mine ended.primary of_primary ended.shows

  -- the fallback that was closed is the law's last one
  goes : GoesOnTo partition.fallback (partition.opened partition.diversions) [] ended.events ended.fallback
  goes =
      let vnode : View = record { state = ended.fallback; prepared = None } in
      gate-history-is-legal partition.fallback (partition.opened partition.diversions) theirs.gate ended.events vnode of_fallback.limits of_fallback.made_new
      (subst (λ (es : List Entry). LeadsVnodeTo theirs.gate es ended.fallback) ended.plain ended.leads)

  there : ended.fallback ≡ replay partition.fallback (partition.opened partition.diversions) (fallbacks partition.diversions)
  there = goes.after.is ∙ ap (replay partition.fallback (partition.opened partition.diversions)) history-is

  module _ (key : Key) (handed : IsHandedOff partition primary fallbacks key) where
    -- of each diversion, an earlier one or the last
    each : (Holds : ℕ → Type 0) → ((n : ℕ) → IsDiversion partition primary fallbacks key n → n < partition.diversions → Holds n) → Holds partition.diversions
        → (n : ℕ) → IsDiversion partition primary fallbacks key n → Holds n
    each Holds earlier at_last n diversion = elim (cases_lt n partition.diversions) [ inl lt ↦ earlier n diversion lt | inr ge ↦ by ge ]
      where
        by : partition.diversions ≤ n → Holds n
        by ge =
            let le : n ≤ partition.diversions = diversion.1 in
            let same : partition.diversions ≡ n = omega (arith, le, ge) in
            subst Holds same at_last

    hand_off : IsHandOff partition primary fallbacks key
    hand_off = record {
      primary_legal = shown-legal partition key primary mine ended.primary of_primary ended.shows;
      fallbacks_legal = each (λ n. HasReplay partition.fallback (partition.opened n) (fallbacks n)) (λ n d lt. (handed.earlier n d lt).legal)
          (subst (HasReplay partition.fallback (partition.opened partition.diversions)) history-is goes.after.replays);
      copies = handed.copies;
      apart = dots_stand_apart partition primary fallbacks key handed.rise;
      unreaped = each (λ n. IsTrue (list_all (λ event. is_update event.operation) (events_of (fallbacks n) key))) (λ n d lt. (handed.earlier n d lt).unreaped)
          (subst (λ (h : History). IsTrue (list_all (λ event. is_update event.operation) (events_of h key))) history-is
          (all-unreaped partition.fallback (partition.opened partition.diversions) key [] ended.events refl ended.updates));
      reaps = handed.reaps;
      contexts = handed.contexts;
    }

    last-brought : count_brought primary key partition.diversions ≡ count_of (fallbacks partition.diversions) key
    last-brought =
        last_dot_brings_all partition primary fallbacks key hand_off handed.rise handed.came of_fallback.diverted
        (subst (λ (f : State Content). knows_last_dot (clock_of (primary_after partition primary) key) f key ≡ true) there
        (subst (λ (p : State Content). knows_last_dot (clock_of p key) ended.fallback key ≡ true) here
        (none-left-known ended.primary ended.fallback ended.copied key)))

    joined : IsJoined partition primary fallbacks key
    joined = record {
      hand_off = hand_off;
      open_still = sym (ap (λ (s : State Content). s.closed) here) ∙ ended.open_still;
      settled = each (λ n. count_brought primary key n ≡ count_of (fallbacks n) key) (λ n d lt. (handed.earlier n d lt).settled) last-brought;
    }

    pub joined-in : IsJoinedIn partition primary fallbacks key ended.primary
    joined-in = record { is = here; joined = joined; siblings = copies_join partition primary fallbacks key joined }

pub returns-join : (partition : Partition) (primary : Log) (fallbacks : Fallbacks) (mine theirs : Sight) → ReturnJoinsKeys partition primary fallbacks mine theirs
returns-join partition primary fallbacks mine theirs ended of_primary of_fallback key handed =
    joined-in partition primary fallbacks mine theirs ended of_primary of_fallback key handed

-- where copies of a diversion stand together, no reap stands between what came and a copy
module _ (partition : Partition) (primary : Log) (fallbacks : Fallbacks) (key : Key) (rise : SidesRise partition fallbacks) (came : NamesWhatCame partition primary fallbacks key) where
  has-number : (number : Number) (dot : Dot) → number.side ≢ 0 → HasDot partition primary fallbacks key number dot → 1 ≤ number.number
  has-number number dot ne has = by (number.side == 0) refl has
    where
      by : (own : Bool) → (number.side == 0) ≡ own
          → cond own (dot_of partition.primary partition.last_epoch (commands_in primary) key number.number) (dot_of partition.fallback (partition.opened number.side) (fallbacks number.side) key number.number) ≡ Some dot
          → 1 ≤ number.number
      by true is has = absurd (ne (nat_eq-same number.side 0 is))
      by false is has = number-positive partition.fallback (partition.opened number.side) key (fallbacks number.side) number.number dot has

  dot-vnode : (number : Number) (dot : Dot) → number.side ≢ 0 → HasDot partition primary fallbacks key number dot → dot.actor.vnode ≡ partition.fallback
  dot-vnode number dot ne has = by (number.side == 0) refl has
    where
      by : (own : Bool) → (number.side == 0) ≡ own
          → cond own (dot_of partition.primary partition.last_epoch (commands_in primary) key number.number) (dot_of partition.fallback (partition.opened number.side) (fallbacks number.side) key number.number) ≡ Some dot
          → dot.actor.vnode ≡ partition.fallback
      by true is has = absurd (ne (nat_eq-same number.side 0 is))
      by false is has = (dot-of partition.fallback (partition.opened number.side) (fallbacks number.side) key number.number dot has).vnode_is

  -- a number of another side that has come was brought
  come-brought : (log : Log) (number : Number) → number.side ≢ 0 → HasCome partition primary fallbacks key log number → number.number ≤ count_brought log key number.side
  come-brought log number ne come = by (number.side == 0) refl come
    where
      by : (own : Bool) → (number.side == 0) ≡ own → MatchBool own (number.number ≤ count_of (commands_in log) key) (number.number ≤ count_brought log key number.side) → number.number ≤ count_brought log key number.side
      by true is come = absurd (ne (nat_eq-same number.side 0 is))
      by false is come = come

  not-come : (before : Log) (number : Number) (dot : Dot) → HasDot partition primary fallbacks key number dot → number.side ≢ 0 → count_brought before key number.side ≡ 0 → HasCome partition primary fallbacks key before number → ⊥
  not-come before number dot has ne none come =
      let one = has-number number dot ne has in
      let few = come-brought before number ne come in
      omega (arith, one, few, none)

  -- nor was it seen there
  not-seen : (later before : Log) → later ++ before ≡ primary → (number : Number) (dot : Dot) → HasDot partition primary fallbacks key number dot → number.side ≢ 0 → count_brought before key number.side ≡ 0
      → is_seen_by_primary before key number dot ≡ true → ⊥
  not-seen later before is number dot has ne none seen = by found.event.context refl found.saw
    where
      found : SeenBy key number dot before
      found = seen-by key number dot before seen

      few : count_brought found.before key number.side ≤ count_brought before key number.side
      few = subst (λ (log : Log). count_brought found.before key number.side ≤ count_brought log key number.side)
          (append_assoc found.later (LawCommand found.event ∷ []) found.before ∙ found.is)
          (brought-later key (found.later ++ LawCommand found.event ∷ []) found.before number.side)

      stands : (later ++ found.later) ++ LawCommand found.event ∷ found.before ≡ primary
      stands = append_assoc later found.later (LawCommand found.event ∷ found.before) ∙ (ap (λ (log : Log). later ++ log) found.is ∙ is)

      one : 1 ≤ number.number
      one = has-number number dot ne has

      by : (given : Option Context) → found.event.context ≡ given
          → option_map_or (λ context. covers (pairs_of (Some context)) dot) given (takes_all found.event.operation && nat_le number.number (count_brought found.before found.event.key number.side)) ≡ true → ⊥
      by None is' saw =
          let same : count_brought found.before found.event.key number.side ≡ count_brought found.before key number.side
          = ap (λ (k : Key). count_brought found.before k number.side) (key_eq-same found.event.key key found.itself) in
          let le = test-le number.number (count_brought found.before found.event.key number.side) (and_right (takes_all found.event.operation) (nat_le number.number (count_brought found.before found.event.key number.side)) saw) in
          omega (arith, le, same, few, none, one)
      by (Some context) is' saw =
          let named = came.given (later ++ found.later) found.before found.event stands found.itself dot (dot-vnode number dot ne has)
          (subst (λ (o : Option Context). IsTrue (covers (pairs_of o) dot)) (sym is') saw) in
          let side : named.0.side ≡ number.side = dots_stand_apart partition primary fallbacks key rise named.0 number dot named.1 has in
          let ne' : named.0.side ≢ 0 = λ e. ne (sym side ∙ e) in
          let number' = has-number named.0 dot ne' named.1 in
          let there = come-brought found.before named.0 ne' named.2 in
          let same : count_brought found.before key named.0.side ≡ count_brought found.before key number.side = ap (count_brought found.before key) side in
          omega (arith, number', there, same, few, none)

pub turns-spare : (partition : Partition) (primary : Log) (fallbacks : Fallbacks) (key : Key) → TurnsSpareReaps partition primary fallbacks key
turns-spare partition primary fallbacks key rise came turns later before event stands number dot has ne come =
    elim (turns later before event stands.0 number.side) [
      | inl none ↦ none
      | inr none ↦ absurd (elim come [
        | inl there ↦ not-come partition primary fallbacks key rise came before number dot has ne none there
        | inr seen ↦ not-seen partition primary fallbacks key rise came (later ++ LawCommand event ∷ []) before (append_assoc later (LawCommand event ∷ []) before ∙ stands.0) number dot has ne none seen
      ])
    ]
