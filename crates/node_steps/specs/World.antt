-- The world of workers and sites: what each of them is at one moment. A site is a place where a vnode stands. Each partition has one
-- for its own vnode, the primary; each time that it is diverted it gets one more, for a fallback, to which its calls go until a closer
-- closes it.
use Rattle.std.specs.Prelude.{◌≡◌, Bool, false, ◌+◌, ◌*◌, List, [], ◌∷◌, ℕ, zero, suc, Option, Some, None, slice_get, replicate}
use Rattle.std.specs.Option.{option_map_or}
use Rattle.riak_msgs.specs.declared.Key.{Key}
use Rattle.riak_msgs.specs.Contents.{Content}
use Rattle.sibling_register.specs.History.{Operation}
use Rattle.sibling_register.specs.Answers.{RegisterAsk, AskGet, GetCommand}
use Rattle.actor_epoch.specs.Given.{Context}
use Rattle.dvv_set.specs.Clocks.{DotState}
use Rattle.vnode_machine.specs.Machine.{State, opening}
use Rattle.vnode_machine.specs.Replay.{History}
use Rattle.vnode_machine.specs.Step.{Response}
use Rattle.copy_laws.specs.Copies.{commands_of, all_commands}
use Rattle.copy_laws.specs.Joining.{Log}

-- the word of a vnode: so many readers are inside, and it is marked or not; or it is taken
pub data Word : Type 0 where
  Open : (readers : ℕ) (marked : Bool) → Word
  Taken : Word

-- what a worker keeps of a look whose command the machine accepts: the operation, the response, and the state after it
pub record PlannedCommand : Type 0 where
  pub operation : Operation Content
  pub response : Response
  pub next : State Content

-- how far a worker is that copies a key back: it reads the key's clock at the fallback, where it stays inside until it is done, and
-- syncs the primary's with it
pub data CopyStage : Type 0 where
  -- it is outside
  CopyAsked : CopyStage
  -- it is inside the fallback as a reader, and has not looked
  CopyInside : CopyStage
  -- the fallback holds the key, with this clock
  CopyLooked : (clock : DotState (Option Content)) → CopyStage
  -- it has the primary's state in its hand too; where it has looked, the state after the copy
  CopyTaken : (clock : DotState (Option Content)) (hand : State Content) (plan : Option (State Content)) → CopyStage
  -- it is done, and is inside the fallback, with the primary's state in its hand or without it
  CopyDone : (hand : Option (State Content)) → CopyStage

-- how far a worker is that closes a fallback: with its state in hand it reads the primary, and closes it where nothing is left
pub data CloseStage : Type 0 where
  -- it is outside
  CloseAsked : CloseStage
  -- it has the fallback's state in its hand
  CloseTaken : (hand : State Content) → CloseStage
  -- it is inside the primary too, as a reader, and has not looked
  CloseInside : (hand : State Content) → CloseStage
  -- all was copied, and the primary has accepted so many commands
  CloseLooked : (hand : State Content) (number : ℕ) → CloseStage
  -- it is done, and is inside the primary or not any more
  CloseDone : (hand : State Content) (inside : Bool) → CloseStage

-- the phase of a worker, with its call: the site that it goes to, and what is asked there
pub data Phase : Type 0 where
  -- it has no call
  Idle : Phase
  -- it has a call, and is outside
  Asked : (site : ℕ) (ask : RegisterAsk Content Context) → Phase
  -- it is inside as a reader, and has not looked
  Reading : (site : ℕ) (get : GetCommand Context) → Phase
  -- it is inside with the state in its hand; it has a plan where it has looked
  Holding : (site : ℕ) (ask : RegisterAsk Content Context) (hand : State Content) (plan : Option PlannedCommand) → Phase
  -- its call is answered, and it is inside as a reader, or with the state in its hand
  Done : (site : ℕ) (hand : Option (State Content)) → Phase
  -- it has found the fallback at a site closed, and is inside there as a reader or with the state in its hand; then its call is for the
  -- partition's own site
  Turned : (own site : ℕ) (ask : RegisterAsk Content Context) (hand : Option (State Content)) → Phase
  -- it copies a key from the fallback at a site to a partition's own
  Copying : (own site : ℕ) (key : Key) (stage : CopyStage) → Phase
  -- it closes the fallback at a site, of the partition with this own one
  Closing : (own site : ℕ) (stage : CloseStage) → Phase

-- the vnode at a site: its id, its partition's own site, the last epoch that had been given when it was opened, its word, the log of
-- what it accepted, newest entry first, and the state in place; while it is taken nobody is shown what was in place
pub record SiteVnode : Type 0 where
  pub id : ℕ
  pub own : ℕ
  pub last_epoch : ℕ
  pub word : Word
  pub log : Log
  pub place : State Content

-- the history of a vnode: the commands of its log
abbrev pub history_of : SiteVnode → History
history_of vnode = commands_of vnode.log

-- a log of commands alone: no entry is a copy or a close
abbrev pub CommandsAlone : Log → Type 0
CommandsAlone log = log ≡ all_commands (commands_of log)

-- a worker: its phase, and site by site the front of the log there that it has seen; of a site that it doesn't know, nothing
pub record Worker : Type 0 where
  pub phase : Phase
  pub seen : List Log

pub record World : Type 0 where
  pub vnodes : List SiteVnode
  -- for each partition the site that its calls go to
  pub routes : List ℕ
  -- the last epoch that its fallbacks gave before they were closed
  pub epochs : List ℕ
  -- and how many of them there were
  pub diversions : List ℕ
  pub workers : List Worker

-- a vnode of this id before any event, of the partition with this own site, opened behind an epoch
abbrev pub fresh_vnode : (id own last_epoch : ℕ) → SiteVnode
fresh_vnode id own last_epoch =
    record { id = id; own = own; last_epoch = last_epoch; word = Open 0 false; log = []; place = opening id last_epoch }

-- the id of a partition's own vnode, by the index in a run's ring
abbrev pub id_of : (run index : ℕ) → ℕ
id_of run index = run * 65536 + index

-- so many partitions' own vnodes from this index on
abbrev pub opening_vnodes : (run index : ℕ) → ℕ → List SiteVnode
opening_vnodes run index zero = []
opening_vnodes run index (suc more) = fresh_vnode (id_of run index) index 0 ∷ opening_vnodes run (index + 1) more

-- so many partitions' own sites from this index on
abbrev pub own_sites : (index : ℕ) → ℕ → List ℕ
own_sites index zero = []
own_sites index (suc more) = index ∷ own_sites (index + 1) more

-- a worker that has no call and has seen nothing
abbrev pub fresh_worker : Worker
fresh_worker = record { phase = Idle; seen = [] }

-- before any step
abbrev pub opening_world : (run workers vnodes : ℕ) → World
opening_world run workers vnodes = record {
  vnodes = opening_vnodes run 0 vnodes;
  routes = own_sites 0 vnodes;
  epochs = replicate vnodes 0;
  diversions = replicate vnodes 0;
  workers = replicate workers fresh_worker;
}

-- the worker of a number, counted from 1
abbrev pub worker_at : World → ℕ → Option Worker
worker_at w zero = None
worker_at w (suc place) = slice_get w.workers place

-- the site that the calls of a partition go to; none where there is no such partition
abbrev pub route : World → (index : ℕ) → Option ℕ
route w index = slice_get w.routes index

-- the id of the vnode at a site, its partition's own site, the epoch that it was opened behind, its log and its history, empty where
-- there is no such site
abbrev pub id_at : World → ℕ → ℕ
id_at w site = option_map_or (λ vnode. vnode.id) (slice_get w.vnodes site) 0

abbrev pub own_at : World → ℕ → ℕ
own_at w site = option_map_or (λ vnode. vnode.own) (slice_get w.vnodes site) 0

abbrev pub last_epoch_at : World → ℕ → ℕ
last_epoch_at w site = option_map_or (λ vnode. vnode.last_epoch) (slice_get w.vnodes site) 0

abbrev pub log_at : World → ℕ → Log
log_at w site = option_map_or (λ vnode. vnode.log) (slice_get w.vnodes site) []

abbrev pub history_at : World → ℕ → History
history_at w site = option_map_or (λ vnode. history_of vnode) (slice_get w.vnodes site) []

-- the front that was seen at a site; past the end of the list nothing was
abbrev pub seen_at : List Log → (site : ℕ) → Log
seen_at [] site = []
seen_at (front ∷ seen) zero = front
seen_at (front ∷ seen) (suc site) = seen_at seen site

-- the site that a worker in this phase copies from; the first where it copies nothing
abbrev pub copied_from : Phase → ℕ
copied_from (Copying own site key stage) = site
copied_from phase = zero

-- and the one that it copies to
abbrev pub copied_to : Phase → ℕ
copied_to (Copying own site key stage) = own
copied_to phase = zero

-- what a copy brings beside a key's clock: the number of the diversion, and the commands that its worker has seen of the fallback
pub record Brought : Type 0 where
  pub diversion : ℕ
  pub prefix : History

-- where nothing is copied
abbrev pub nothing_brought : Brought
nothing_brought = record { diversion = 0; prefix = [] }

-- how many fallbacks the partition of an index has had
abbrev pub diversions_at : World → (index : ℕ) → ℕ
diversions_at w index = option_map_or (λ n. n) (slice_get w.diversions index) 0

abbrev pub brought_by : World → Worker → Brought
brought_by w worker = record { diversion = diversions_at w (copied_to worker.phase); prefix = commands_of (seen_at worker.seen (copied_from worker.phase)) }

-- the front of a site's log that the worker of a number has seen
abbrev pub front_at : World → (number site : ℕ) → Log
front_at w number site = option_map_or (λ worker. seen_at worker.seen site) (worker_at w number) []

-- a call: the site that it goes to, and what is asked there
pub record Call : Type 0 where
  pub site : ℕ
  pub ask : RegisterAsk Content Context

-- the call of a worker in this phase, until it is answered
abbrev pub call_of : Phase → Option Call
call_of Idle = None
call_of (Asked site ask) = Some (record { site = site; ask = ask })
call_of (Reading site get) = Some (record { site = site; ask = AskGet get })
call_of (Holding site ask hand plan) = Some (record { site = site; ask = ask })
call_of (Done site hand) = None
call_of (Turned own site ask hand) = Some (record { site = site; ask = ask })
call_of (Copying own site key stage) = None
call_of (Closing own site stage) = None

-- the call of the worker of a number
abbrev pub call_at : World → ℕ → Option Call
call_at w number = option_map_or (λ worker. call_of worker.phase) (worker_at w number) None
