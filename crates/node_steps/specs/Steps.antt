-- The steps: where each is possible, and what it changes. A step is one worker's, at the vnode of one site, or one partition's.
--
-- A line of a schedule's text, the action that it asks of its worker W, or the step that it asks of the partition P, and the equations
-- below that say where it is possible and what it changes (no equation: it is never possible in that phase):
--
--   ask W H, reap W H   Asks        turn_of Asks Idle; routed
--   enter W             Enters      turn_of Enters (Asked a get), entered
--   leave W             Leaves      turn_of Leaves (Reading, and Done without a state in hand), left
--   mark W              Marks       turn_of Marks Asked, marked
--   unmark W            Unmarks     turn_of Unmarks Asked, unmarked
--   take W              Takes       turn_of Takes Asked, taken
--   put W               Puts        turn_of Puts (Holding, and Done with a state in hand), lays
--   look W              Looks       turn_of Looks (Reading, and Holding without a plan), answers, looks_by
--   publish W           Publishes   turn_of Publishes (Holding with a plan), publishes_by
--   divert P            Diverts     diverted, diverted_by
--   copy W H            Copies      turn_of CopiesFrom Idle; routed
--     its enter         Enters      turn_of Enters CopyAsked, entered
--     its look          Looks       turn_of Looks CopyInside, finds_by; then turn_of Looks CopyTaken, syncs_by
--     its take          Takes       turn_of Takes CopyLooked, taken
--     its publish       Publishes   turn_of Publishes CopyTaken with a plan, copies_by
--     its put, leave    Puts, ..    turn_of Puts, turn_of Leaves CopyDone, with the primary's state in hand and without
--   close W P           Closes      turn_of ClosesFrom Idle; routed
--     its take          Takes       turn_of Takes CloseAsked, taken
--     its enter         Enters      turn_of Enters CloseTaken, entered
--     its look          Looks       closes CloseInside, judged
--     its publish       Publishes   closes CloseLooked
--     its leave, put    Leaves, ..  turn_of Leaves, turn_of Puts CloseDone, inside the primary and not any more
--   leave W, put W where the fallback was found closed: turn_of Leaves, turn_of Puts Turned
use Rattle.std.specs.Prelude.{Bool, true, false, not, if◌then◌else◌, ◌==◌, ◌&&◌, ◌||◌, ◌+◌, ◌-◌, ◌^◌, ◌++◌, List, [], ◌∷◌, ℕ, length, min, zero, suc, pred, Option, Some, None, is_some, Result, Ok, Err, option_map, option_and_then, slice_get, slice_set}
use Rattle.std.specs.Option.{option_map_or}
use Rattle.std.specs.List.{list_all}
use Rattle.riak_msgs.specs.declared.Key.{Key}
use Rattle.riak_msgs.specs.Contents.{Content}
use Rattle.sibling_register.specs.History.{Event}
use Rattle.sibling_register.specs.Answers.{RegisterAsk, AskGet, AskReap, GetCommand}
use Rattle.actor_epoch.specs.Given.{Context}
use Rattle.dvv_set.specs.Clocks.{DotState}
use Rattle.vnode_machine.specs.Copying.{is_stuck, apply_copy, apply_close}
use Rattle.vnode_machine.specs.Machine.{State, clock_of, is_held}
use Rattle.vnode_machine.specs.Replies.{get_reply}
use Rattle.vnode_machine.specs.Step.{Response, GetDone, MachineOutcome, Refused, Answered, Accepted, outcome as outcome_of_ask}
use Rattle.vnode_machine.specs.Registers.{key_of, context_in_ask}
use Rattle.sibling_register.specs.History.{Operation}
use Rattle.copy_laws.specs.Copies.{Copy, Command, Copied, Closed}
use Rattle.copy_laws.specs.Joining.{Log}
pub use Rattle.node_steps.specs.Partitions.{fallback_ids}
pub use Rattle.node_steps.specs.Actions.{Action, Asks, AsksNowhere, Copies, CopiesFrom, Closes, ClosesFrom, Enters, Leaves, Marks, Unmarks, Takes, Puts, Looks, Publishes, Step, By, Diverts, number_of, Outcome, NotPossible, Happened, Replied, NotHeld, StuckThere, CopiedBack, Elsewhere, LeftThere}
use Rattle.node_steps.specs.HeldNames.{saw_held}
use Rattle.node_steps.specs.World.{Word, Open, Taken, PlannedCommand, CopyStage, CopyAsked, CopyInside, CopyLooked, CopyTaken, CopyDone, CloseStage, CloseAsked, CloseTaken, CloseInside, CloseLooked, CloseDone, Phase, Idle, Asked, Reading, Holding, Done, Turned, Copying, Closing, Brought, SiteVnode, Worker, World, fresh_vnode, seen_at, diversions_at, brought_by, worker_at, route}
use Rattle.vnode_core.specs.Left.{count_left}

-- what a step makes of its worker and of the vnode, the front of the vnode's log that the worker has then seen, and what comes
-- of the step
pub record WorkerTurn : Type 0 where
  pub phase : Phase
  pub seen : Log
  pub vnode : SiteVnode
  pub outcome : Outcome

-- one reader more, where the word is neither marked nor taken
abbrev pub entered : Word → Option Word
entered (Open readers false) = Some (Open (readers + 1) false)
entered (Open readers true) = None
entered Taken = None

-- one reader less
abbrev pub left : Word → Word
left (Open readers marked) = Open (readers - 1) marked
left Taken = Taken

-- marked, where it is neither marked nor taken
abbrev pub marked : Word → Option Word
marked (Open readers false) = Some (Open readers true)
marked (Open readers true) = None
marked Taken = None

-- not marked, where it is marked
abbrev pub unmarked : Word → Option Word
unmarked (Open readers false) = None
unmarked (Open readers true) = Some (Open readers false)
unmarked Taken = None

-- taken, where it has no readers and is not taken
abbrev pub taken : Word → Option Word
taken (Open zero mark) = Some Taken
taken (Open (suc readers) mark) = None
taken Taken = None

-- the event of an ask that does this operation at the end of a log
abbrev pub event_at : (id last_epoch : ℕ) → Log → RegisterAsk Content Context → Operation Content → Event Content Context
event_at id last_epoch log ask operation = record {
  key = key_of ask;
  operation = operation;
  context = context_in_ask ask;
  saw = saw_held id last_epoch log (key_of ask) (context_in_ask ask) operation;
}

module _ (seen : Log) (brought : Brought) (vnode : SiteVnode) where
  -- the worker goes to a phase, and the vnode's word is this
  abbrev pub moves : Phase → Word → WorkerTurn
  moves phase word = record { phase = phase; seen = seen; vnode = record vnode { word = word }; outcome = Happened }

  -- the state in the worker's hand is in place again: no readers, not marked
  abbrev pub lays : Phase → State Content → WorkerTurn
  lays phase hand =
      record { phase = phase; seen = seen; vnode = record vnode { word = Open 0 false; place = hand }; outcome = Happened }

  -- the worker has seen the vnode's whole log, and its call is answered
  abbrev pub answers : Phase → Result Response ℕ → WorkerTurn
  answers phase reply = record { phase = phase; seen = vnode.log; vnode = vnode; outcome = Replied reply }

  -- a holder's look, by what comes of its call in the state in its hand: it is answered, or keeps the plan
  abbrev pub looks_by : ℕ → RegisterAsk Content Context → State Content → MachineOutcome → WorkerTurn
  looks_by site ask hand (Refused number) = answers (Done site (Some hand)) (Err number)
  looks_by site ask hand (Answered response) = answers (Done site (Some hand)) (Ok response)
  looks_by site ask hand (Accepted operation response next) =
      let plan : PlannedCommand = record { operation = operation; response = response; next = next } in
      record { phase = Holding site ask hand (Some plan); seen = vnode.log; vnode = vnode; outcome = Happened }

  -- the planned operation is the log's next entry, and so the history's next event, the state in hand is the one after it, and the call is answered
  abbrev pub publishes_by : ℕ → RegisterAsk Content Context → PlannedCommand → WorkerTurn
  publishes_by site ask plan =
      let event : Event Content Context = event_at vnode.id vnode.last_epoch vnode.log ask plan.operation in
      record {
        phase = Done site (Some plan.next);
        seen = Command event ∷ vnode.log;
        vnode = record vnode { log = Command event ∷ vnode.log };
        outcome = Replied (Ok plan.response);
      }

  -- a worker has seen the vnode's whole log, and goes on, is turned away or is done
  abbrev pub sees : Phase → Outcome → WorkerTurn
  sees phase came = record { phase = phase; seen = vnode.log; vnode = vnode; outcome = came }

  -- a reader's look: where the fallback is closed it is turned away
  abbrev pub reads_by : (site : ℕ) (get : GetCommand Context) (closed : Bool) → WorkerTurn
  reads_by site get true = sees (Turned vnode.own site (AskGet get) None) Elsewhere
  reads_by site get false = answers (Done site None) (Ok (GetDone (get_reply vnode.place get)))

  -- and a holder's
  abbrev pub holds_by : (site : ℕ) (ask : RegisterAsk Content Context) (hand : State Content) (closed : Bool) → WorkerTurn
  holds_by site ask hand true = sees (Turned vnode.own site ask (Some hand)) Elsewhere
  holds_by site ask hand false = looks_by site ask hand (outcome_of_ask hand ask)

  -- a copier's look at the fallback: it keeps the key's clock, where the key is held
  abbrev pub finds_by : (own site : ℕ) (key : Key) (held : Bool) → WorkerTurn
  finds_by own site key true = sees (Copying own site key (CopyLooked (clock_of vnode.place key))) Happened
  finds_by own site key false = sees (Copying own site key (CopyDone None)) NotHeld

  -- where the fallback is closed it is done
  abbrev pub finds_open : (own site : ℕ) (key : Key) (closed : Bool) → WorkerTurn
  finds_open own site key true = sees (Copying own site key (CopyDone None)) Elsewhere
  finds_open own site key false = finds_by own site key (is_held vnode.place key)

  -- its look at the primary: it keeps the state after the copy, unless that is stuck
  abbrev pub syncs_by : (own site : ℕ) (key : Key) (clock : DotState (Option Content)) (hand : State Content) (stuck : Bool) → WorkerTurn
  syncs_by own site key clock hand true = sees (Copying own site key (CopyDone (Some hand))) StuckThere
  syncs_by own site key clock hand false = sees (Copying own site key (CopyTaken clock hand (Some (apply_copy hand key clock)))) Happened

  -- its publish: the copy is the log's next entry
  abbrev pub copies_by : (own site : ℕ) (key : Key) (clock : DotState (Option Content)) (next : State Content) → WorkerTurn
  copies_by own site key clock next =
      let copy : Copy Content = record { key = key; clock = clock; diversion = brought.diversion; prefix = brought.prefix } in
      record {
        phase = Copying own site key (CopyDone (Some next));
        seen = Copied copy ∷ vnode.log;
        vnode = record vnode { log = Copied copy ∷ vnode.log };
        outcome = CopiedBack;
      }

  -- the turn of a worker in a phase, where the step is possible
  abbrev pub turn_of : Action → Phase → Option WorkerTurn
  turn_of (Asks site ask) Idle = Some (moves (Asked site ask) vnode.word)
  turn_of Enters (Asked site (AskGet get)) = option_map (moves (Reading site get)) (entered vnode.word)
  turn_of Leaves (Reading site get) = Some (moves (Asked site (AskGet get)) (left vnode.word))
  turn_of Leaves (Done site None) = Some (moves Idle (left vnode.word))
  turn_of Marks (Asked site ask) = option_map (moves (Asked site ask)) (marked vnode.word)
  turn_of Unmarks (Asked site ask) = option_map (moves (Asked site ask)) (unmarked vnode.word)
  turn_of Takes (Asked site ask) = option_map (moves (Holding site ask vnode.place None)) (taken vnode.word)
  turn_of Puts (Holding site ask hand plan) = Some (lays (Asked site ask) hand)
  turn_of Puts (Done site (Some hand)) = Some (lays Idle hand)
  turn_of Looks (Reading site get) = Some (reads_by site get (is_some vnode.place.closed))
  turn_of Looks (Holding site ask hand None) = Some (holds_by site ask hand (is_some hand.closed))
  turn_of Leaves (Turned own site ask None) = Some (moves (Asked own ask) (left vnode.word))
  turn_of Puts (Turned own site ask (Some hand)) = Some (lays (Asked own ask) hand)
  turn_of Publishes (Holding site ask hand (Some plan)) = Some (publishes_by site ask plan)
  turn_of (CopiesFrom own site key) Idle = Some (moves (Copying own site key CopyAsked) vnode.word)
  turn_of Enters (Copying own site key CopyAsked) = option_map (moves (Copying own site key CopyInside)) (entered vnode.word)
  turn_of Looks (Copying own site key CopyInside) = Some (finds_open own site key (is_some vnode.place.closed))
  turn_of Takes (Copying own site key (CopyLooked clock)) = option_map (moves (Copying own site key (CopyTaken clock vnode.place None))) (taken vnode.word)
  turn_of Looks (Copying own site key (CopyTaken clock hand None)) = Some (syncs_by own site key clock hand (is_stuck hand key clock))
  turn_of Publishes (Copying own site key (CopyTaken clock hand (Some next))) = Some (copies_by own site key clock next)
  turn_of Puts (Copying own site key (CopyDone (Some hand))) = Some (lays (Copying own site key (CopyDone None)) hand)
  turn_of Leaves (Copying own site key (CopyDone None)) = Some (moves Idle (left vnode.word))
  turn_of (ClosesFrom own site) Idle = Some (moves (Closing own site CloseAsked) vnode.word)
  turn_of Takes (Closing own site CloseAsked) = option_map (moves (Closing own site (CloseTaken vnode.place))) (taken vnode.word)
  turn_of Enters (Closing own site (CloseTaken hand)) = option_map (moves (Closing own site (CloseInside hand))) (entered vnode.word)
  turn_of Leaves (Closing own site (CloseDone hand true)) = Some (moves (Closing own site (CloseDone hand false)) (left vnode.word))
  turn_of Puts (Closing own site (CloseDone hand false)) = Some (lays Idle hand)
  turn_of action phase = None

abbrev pub is_reap : RegisterAsk Content Context → Bool
is_reap (AskReap key) = true
is_reap ask = false

-- an ask for a partition, sent to this site; a reap is asked at the partition's own site alone
abbrev pub sent : (index site : ℕ) → RegisterAsk Content Context → Action
sent index site ask = if not (site == index) && is_reap ask then AsksNowhere else Asks site ask

-- a copy for a partition, from this site, where that isn't its own
abbrev pub sent_copy : (index site : ℕ) → Key → Action
sent_copy index site key = if site == index then AsksNowhere else CopiesFrom index site key

-- a close of a partition's fallback at this site, where that isn't the partition's own
abbrev pub sent_close : (index site : ℕ) → Action
sent_close index site = if site == index then AsksNowhere else ClosesFrom index site

-- the action with its call sent to the site that the partition's calls go to; a copy's and a close's sites are found so alone
abbrev pub routed : (route : ℕ → Option ℕ) → Action → Action
routed route (Asks index ask) = option_map_or (λ site. sent index site ask) (route index) AsksNowhere
routed route (Copies index key) = option_map_or (λ site. sent_copy index site key) (route index) AsksNowhere
routed route (CopiesFrom own site key) = AsksNowhere
routed route (Closes index) = option_map_or (λ site. sent_close index site) (route index) AsksNowhere
routed route (ClosesFrom own site) = AsksNowhere
routed route action = action

-- the site of a copier's next step: the fallback's, but for the steps with the primary's state in its hand and the one by which it
-- gets there
abbrev pub copy_site : (own site : ℕ) → CopyStage → ℕ
copy_site own site CopyAsked = site
copy_site own site CopyInside = site
copy_site own site (CopyLooked clock) = own
copy_site own site (CopyTaken clock hand plan) = own
copy_site own site (CopyDone None) = site
copy_site own site (CopyDone (Some hand)) = own

-- the site of a closer's next step; of its look and its publish, which are about two sites, see below
abbrev pub close_site : (own site : ℕ) → CloseStage → ℕ
close_site own site CloseAsked = site
close_site own site (CloseTaken hand) = own
close_site own site (CloseInside hand) = own
close_site own site (CloseLooked hand number) = site
close_site own site (CloseDone hand true) = own
close_site own site (CloseDone hand false) = site

-- the site that an action is about: that of the call, or of a copier's or a closer's next step
abbrev pub site_of : Action → Phase → Option ℕ
site_of (Asks site ask) Idle = Some site
site_of (CopiesFrom own site key) Idle = Some site
site_of (ClosesFrom own site) Idle = Some site
site_of action Idle = None
site_of action (Asked site ask) = Some site
site_of action (Reading site get) = Some site
site_of action (Holding site ask hand plan) = Some site
site_of action (Done site hand) = Some site
site_of action (Turned own site ask hand) = Some site
site_of action (Copying own site key stage) = Some (copy_site own site stage)
site_of action (Closing own site stage) = Some (close_site own site stage)

-- a worker has seen this front at a site, and elsewhere what it had seen
abbrev pub seeing : List Log → (site : ℕ) → Log → List Log
seeing [] zero front = front ∷ []
seeing [] (suc site) front = [] ∷ seeing [] site front
seeing (other ∷ seen) zero front = front ∷ seen
seeing (other ∷ seen) (suc site) front = other ∷ seeing seen site front

-- the world after a worker's turn at a site
abbrev pub turned : World → (place site : ℕ) → Worker → WorkerTurn → World
turned w place site worker turn = record w {
  vnodes = slice_set w.vnodes site turn.vnode;
  workers = slice_set w.workers place (record { phase = turn.phase; seen = seeing worker.seen site turn.seen });
}

-- what a worker does, its call being sent: the world after it and what comes of it, or nothing where it isn't possible, as without
-- such a worker or site
abbrev pub does : World → (number : ℕ) → Action → Option (World × Outcome)
does w number action =
    option_and_then (λ worker.
    option_and_then (λ site.
    option_and_then (λ vnode.
    option_map (λ turn. (turned w (pred number) site worker turn, turn.outcome))
    (turn_of (seen_at worker.seen site) (brought_by w worker) vnode action worker.phase))
    (slice_get w.vnodes site))
    (site_of action worker.phase))
    (worker_at w number)

-- how many keys of a fallback the primary doesn't have as they are there now
abbrev pub left_in : (primary fallback : State Content) → ℕ
left_in primary fallback = count_left primary fallback.keys

-- how many commands a vnode has accepted, up to the greatest number that a close can carry
abbrev pub accepted_in : State Content → ℕ
accepted_in state = min (state.writes + state.tombstones + state.reaps) (2 ^ 64 - 1)

-- a closer's look at both: it is done where the fallback is closed, or something is left
abbrev pub judged : (own site : ℕ) (hand primary : State Content) (closed : Bool) (left : ℕ) → Phase × Outcome
judged own site hand primary true left = (Closing own site (CloseDone hand true), Elsewhere)
judged own site hand primary false zero = (Closing own site (CloseLooked hand (accepted_in primary)), Happened)
judged own site hand primary false (suc left) = (Closing own site (CloseDone hand true), LeftThere (suc left))

-- the world after a closer's look, by which it has seen both logs
abbrev pub judged_by : World → (place own site : ℕ) → Worker → (primary fallback : SiteVnode) → Phase → World
judged_by w place own site worker primary fallback phase = record w {
  workers = slice_set w.workers place (record { phase = phase; seen = seeing (seeing worker.seen site fallback.log) own primary.log });
}

-- and after its publish: the close is the last entry of the fallback's log, and its closer has seen it; the calls go to the partition's own
-- site again
abbrev pub closed_by : World → (place own site : ℕ) → Worker → (fallback : SiteVnode) (hand : State Content) (number : ℕ) → World
closed_by w place own site worker fallback hand number = record w {
  vnodes = slice_set w.vnodes site (record fallback { log = Closed number ∷ fallback.log });
  routes = slice_set w.routes own own;
  epochs = slice_set w.epochs own hand.last_epoch;
  workers = slice_set w.workers place (record { phase = Closing own site (CloseDone (apply_close hand number) true); seen = seeing worker.seen site (Closed number ∷ fallback.log) });
}

-- a closer's look and its publish: the two steps that are about two sites
abbrev pub closes : World → (number : ℕ) → Worker → Action → Phase → Option (World × Outcome)
closes w number worker Looks (Closing own site (CloseInside hand)) =
    option_and_then (λ fallback.
    option_map (λ primary.
    let came = judged own site hand primary.place (is_some hand.closed) (left_in primary.place hand) in
    (judged_by w (pred number) own site worker primary fallback came.0, came.1))
    (slice_get w.vnodes own))
    (slice_get w.vnodes site)
closes w number worker Publishes (Closing own site (CloseLooked hand count)) =
    option_map (λ fallback. (closed_by w (pred number) own site worker fallback hand count, Happened)) (slice_get w.vnodes site)
closes w number worker action phase = None

-- what a worker does at one site, or a closer at two
abbrev pub acts : World → (number : ℕ) → Action → Option (World × Outcome)
acts w number action =
    option_and_then (λ worker. option_map_or (λ came. Some came) (closes w number worker action worker.phase) (does w number action)) (worker_at w number)

-- a worker in this phase has a call at the site, or copies or closes there
abbrev pub is_about : (site : ℕ) → Phase → Bool
is_about site Idle = false
is_about site (Asked other ask) = other == site
is_about site (Reading other get) = other == site
is_about site (Holding other ask hand plan) = other == site
is_about site (Done other hand) = other == site
is_about site (Turned own other ask hand) = (own == site) || (other == site)
is_about site (Copying own other key stage) = (own == site) || (other == site)
is_about site (Closing own other stage) = (own == site) || (other == site)

-- it has to do with the partition: with a site of it
abbrev pub is_for : List SiteVnode → (index : ℕ) → (site : ℕ) → Phase → Bool
is_for [] index site phase = false
is_for (vnode ∷ vnodes) index site phase = ((vnode.own == index) && is_about site phase) || is_for vnodes index (suc site) phase

-- the partition's primary stands at its own site: then a fallback is opened at a new site, behind the epochs of the earlier ones, and
-- the calls go there
abbrev pub diverted_by : World → (index epoch : ℕ) → SiteVnode → World
diverted_by w index epoch primary = record w {
  vnodes = w.vnodes ++ fresh_vnode (primary.place.vnode + fallback_ids) index epoch ∷ [];
  routes = slice_set w.routes index (length w.vnodes);
  diversions = slice_set w.diversions index (diversions_at w index + 1);
}

-- a partition is diverted where its calls go to its own site, and no worker has to do with it
abbrev pub diverted : World → (index : ℕ) → Option World
diverted w index =
    option_and_then (λ site.
    option_and_then (λ epoch.
    option_and_then (λ vnode.
    if (site == index) && list_all (λ worker. not (is_for w.vnodes index 0 worker.phase)) w.workers then Some (diverted_by w index epoch vnode) else None)
    (slice_get w.vnodes index))
    (slice_get w.epochs index))
    (slice_get w.routes index)

-- a step: the world after it and what comes of it, or nothing where it isn't possible
abbrev pub happens : World → Step → Option (World × Outcome)
happens w (By number action) = acts w number (routed (route w) action)
happens w (Diverts index) = option_map (λ next. (next, Happened)) (diverted w index)

-- a step that isn't possible changes nothing
abbrev pub after : World → Step → World
after w step = option_map_or (λ r. r.0) (happens w step) w

abbrev pub outcome : World → Step → Outcome
outcome w step = option_map_or (λ r. r.1) (happens w step) NotPossible
