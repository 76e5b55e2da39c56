-- Who is inside a vnode, and what is always true of words, hands and fronts.
use Rattle.std.proofs.Common.{◌≡◌, ◌≢◌, ℕ, Bool, true, false, ◌||◌, [], ◌∷◌, refl, sym, ◌∙◌, ap}
use Rattle.std.specs.Prelude.{◌==◌, Option, Some, None}
use Rattle.riak_msgs.specs.declared.Key.{Key}
use Rattle.riak_msgs.specs.Contents.{Content}
use Rattle.sibling_register.specs.History.{Event, Operation, Write, Tombstone, Reap}
use Rattle.sibling_register.specs.Answers.{RegisterAsk}
use Rattle.actor_epoch.specs.Given.{Context}
use Rattle.vnode_machine.specs.Machine.{State, opening, clock_of, is_held, apply_operation}
use Rattle.vnode_machine.specs.Replay.{History, replay, HasReplay, IsWithinLimits}
use Rattle.vnode_machine.specs.Step.{Accepted, outcome}
use Rattle.copy_laws.specs.Copies.{Copy, Command, Copied, Closed, all_commands, commands_of}
use Rattle.copy_laws.specs.CopyReplay.{state_with}
use Rattle.copy_laws.specs.Joining.{Log}
use Rattle.copy_laws.proofs.Fallback.{log-replay}
use Rattle.dvv_set.specs.Clocks.{DotState}
use Rattle.vnode_machine.specs.Copying.{is_stuck, apply_copy}
use Rattle.vnode_machine.proofs.Updates.{closed-kept}
pub use Rattle.node_steps.proofs.Mapped.{same_test, other_test}
use Rattle.node_steps.proofs.Numbers.{apart}
use Rattle.node_steps.specs.World.{Word, Open, Taken, PlannedCommand, CopyStage, CopyAsked, CopyInside, CopyLooked, CopyTaken, CopyDone, CloseStage, CloseAsked, CloseTaken, CloseInside, CloseLooked, CloseDone, Phase, Idle, Asked, Reading, Holding, Done, Turned, Copying, Closing, SiteVnode, Worker, CommandsAlone, fresh_vnode, seen_at}
use Rattle.node_steps.specs.Steps.{Enters, copy_site, close_site, site_of, is_about}
use Rattle.node_steps.specs.Schedules.{Begins}
use Rattle.std.proofs.lemmas.Option.{same_Some as some_site}
pub use Rattle.std.proofs.lemmas.Bool.{or_right as or_true}

-- inside the vnode of this index as a reader
abbrev pub is_reader : ℕ → Phase → Bool
is_reader index Idle = false
is_reader index (Asked other ask) = false
is_reader index (Reading other get) = other == index
is_reader index (Holding other ask hand plan) = false
is_reader index (Done other None) = other == index
is_reader index (Done other (Some hand)) = false
is_reader index (Turned own other ask None) = other == index
is_reader index (Turned own other ask (Some hand)) = false
is_reader index (Copying own other key CopyAsked) = false
is_reader index (Copying own other key CopyInside) = other == index
is_reader index (Copying own other key (CopyLooked clock)) = other == index
is_reader index (Copying own other key (CopyTaken clock hand plan)) = other == index
is_reader index (Copying own other key (CopyDone hand)) = other == index
is_reader index (Closing own other CloseAsked) = false
is_reader index (Closing own other (CloseTaken hand)) = false
is_reader index (Closing own other (CloseInside hand)) = own == index
is_reader index (Closing own other (CloseLooked hand number)) = own == index
is_reader index (Closing own other (CloseDone hand true)) = own == index
is_reader index (Closing own other (CloseDone hand false)) = false

-- inside it with its state in hand
abbrev pub is_holder : ℕ → Phase → Bool
is_holder index Idle = false
is_holder index (Asked other ask) = false
is_holder index (Reading other get) = false
is_holder index (Holding other ask hand plan) = other == index
is_holder index (Done other None) = false
is_holder index (Done other (Some hand)) = other == index
is_holder index (Turned own other ask None) = false
is_holder index (Turned own other ask (Some hand)) = other == index
is_holder index (Copying own other key CopyAsked) = false
is_holder index (Copying own other key CopyInside) = false
is_holder index (Copying own other key (CopyLooked clock)) = false
is_holder index (Copying own other key (CopyTaken clock hand plan)) = own == index
is_holder index (Copying own other key (CopyDone None)) = false
is_holder index (Copying own other key (CopyDone (Some hand))) = own == index
is_holder index (Closing own other CloseAsked) = false
is_holder index (Closing own other (CloseTaken hand)) = other == index
is_holder index (Closing own other (CloseInside hand)) = other == index
is_holder index (Closing own other (CloseLooked hand number)) = other == index
is_holder index (Closing own other (CloseDone hand inside)) = other == index

abbrev pub reads : ℕ → Worker → Bool
reads index worker = is_reader index worker.phase

abbrev pub holds : ℕ → Worker → Bool
holds index worker = is_holder index worker.phase

-- the word counts the readers, and one holder where it is taken
abbrev pub FitsWord : Word → (readers holders : ℕ) → Type 0
FitsWord (Open n mark) readers holders = (readers ≡ n) × (holders ≡ 0)
FitsWord Taken readers holders = (readers ≡ 0) × (holders ≡ 1)

-- a vnode by its parts
abbrev pub vnode_in : (id home epoch : ℕ) → Log → State Content → Word → SiteVnode
vnode_in id home epoch log place word = record { id = id; own = home; last_epoch = epoch; word = word; log = log; place = place }

-- the state after a vnode's log
abbrev pub state_of : (id epoch : ℕ) → Log → State Content
state_of id epoch log = state_with (opening id epoch) log

-- no command gives a vnode another id
pub vnode-kept : (state : State Content) (key : Key) (given : Option Context) (operation : Operation Content) → (apply_operation state key given operation).vnode ≡ state.vnode
vnode-kept state key given (Write content) = refl
vnode-kept state key given Tombstone = refl
vnode-kept state key given Reap = refl

-- it has the vnode's id, whatever the entries
pub state-vnode : (id epoch : ℕ) (log : Log) → (state_of id epoch log).vnode ≡ id
state-vnode id epoch [] = refl
state-vnode id epoch (Command event ∷ before) = vnode-kept (state_of id epoch before) event.key event.context event.operation ∙ state-vnode id epoch before
state-vnode id epoch (Copied copy ∷ before) = state-vnode id epoch before
state-vnode id epoch (Closed number ∷ before) = state-vnode id epoch before

-- it is the replay of the log's commands, where there are no other entries
pub replayed : (id epoch : ℕ) (log : Log) → log ≡ all_commands (commands_of log) → state_of id epoch log ≡ replay id epoch (commands_of log)
replayed id epoch log only = ap (state_of id epoch) only ∙ log-replay id epoch (commands_of log)

-- where it is not taken, the state after the log is in place
abbrev pub IsInPlace : (id epoch : ℕ) → Word → Log → State Content → Type 0
IsInPlace id epoch (Open n mark) log place = place ≡ state_of id epoch log
IsInPlace id epoch Taken log place = Unit {0}

-- a vnode with this log isn't closed
abbrev pub IsOpenAt : (id epoch : ℕ) → Log → Type 0
IsOpenAt id epoch log = (state_of id epoch log).closed ≡ None

-- a plan is what came of the call in the state in hand, which isn't closed
abbrev pub IsPlanOf : RegisterAsk Content Context → State Content → Option PlannedCommand → Type 0
IsPlanOf ask hand None = Unit {0}
IsPlanOf ask hand (Some plan) = (outcome hand ask ≡ Accepted plan.operation plan.response plan.next) × (hand.closed ≡ None)

-- a clock is the one that a key has at the end of the log, where it is held, and nothing is closed
abbrev pub IsClockAt : (id epoch : ℕ) → Log → Key → DotState (Option Content) → Type 0
IsClockAt id epoch log key clock =
    (clock ≡ clock_of (state_of id epoch log) key) × (is_held (state_of id epoch log) key ≡ true) × IsOpenAt id epoch log

-- the state after a copy that isn't stuck
abbrev pub IsCopyPlan : Key → DotState (Option Content) → State Content → Option (State Content) → Type 0
IsCopyPlan key clock hand None = Unit {0}
IsCopyPlan key clock hand (Some next) = (next ≡ apply_copy hand key clock) × (is_stuck hand key clock ≡ false)

-- the state in hand is the one after the log, and a plan was made from it; a clock that is to be copied is the one there
abbrev pub IsInHand : (id epoch index : ℕ) → Log → Phase → Type 0
IsInHand id epoch index log Idle = Unit {0}
IsInHand id epoch index log (Asked other ask) = Unit {0}
IsInHand id epoch index log (Reading other get) = Unit {0}
IsInHand id epoch index log (Holding other ask hand plan) = other ≡ index → (hand ≡ state_of id epoch log) × IsPlanOf ask hand plan
IsInHand id epoch index log (Done other None) = Unit {0}
IsInHand id epoch index log (Done other (Some hand)) = other ≡ index → hand ≡ state_of id epoch log
IsInHand id epoch index log (Turned own other ask None) = Unit {0}
IsInHand id epoch index log (Turned own other ask (Some hand)) = other ≡ index → hand ≡ state_of id epoch log
IsInHand id epoch index log (Copying own other key CopyAsked) = Unit {0}
IsInHand id epoch index log (Copying own other key CopyInside) = Unit {0}
IsInHand id epoch index log (Copying own other key (CopyLooked clock)) = other ≡ index → IsClockAt id epoch log key clock
IsInHand id epoch index log (Copying own other key (CopyTaken clock hand plan)) =
    (other ≡ index → IsClockAt id epoch log key clock)
    × (own ≡ index → (hand ≡ state_of id epoch log) × IsCopyPlan key clock hand plan)
IsInHand id epoch index log (Copying own other key (CopyDone None)) = Unit {0}
IsInHand id epoch index log (Copying own other key (CopyDone (Some hand))) = own ≡ index → hand ≡ state_of id epoch log
IsInHand id epoch index log (Closing own other CloseAsked) = Unit {0}
IsInHand id epoch index log (Closing own other (CloseTaken hand)) = other ≡ index → hand ≡ state_of id epoch log
IsInHand id epoch index log (Closing own other (CloseInside hand)) = other ≡ index → hand ≡ state_of id epoch log
IsInHand id epoch index log (Closing own other (CloseLooked hand number)) = other ≡ index → (hand ≡ state_of id epoch log) × (hand.closed ≡ None)
IsInHand id epoch index log (Closing own other (CloseDone hand inside)) = other ≡ index → hand ≡ state_of id epoch log

-- a copier that has a clock has seen the log of the vnode that it is of
abbrev pub HasSeen : (index : ℕ) → Phase → (front log : Log) → Type 0
HasSeen index (Copying own other key (CopyLooked clock)) front log = other ≡ index → front ≡ log
HasSeen index (Copying own other key (CopyTaken clock hand plan)) front log = other ≡ index → front ≡ log
HasSeen index phase front log = Unit {0}

-- the phase's next step is at this vnode
abbrev pub IsAbout : ℕ → Phase → Type 0
IsAbout index Idle = Unit {0}
IsAbout index (Asked other ask) = other ≡ index
IsAbout index (Reading other get) = other ≡ index
IsAbout index (Holding other ask hand plan) = other ≡ index
IsAbout index (Done other hand) = other ≡ index
IsAbout index (Turned own other ask hand) = other ≡ index
IsAbout index (Copying own other key stage) = copy_site own other stage ≡ index
IsAbout index (Closing own other stage) = close_site own other stage ≡ index

-- the phase is about one vnode: it isn't turned away, and copies and closes nothing
abbrev pub IsOfOne : Phase → Type 0
IsOfOne (Turned own other ask hand) = ⊥
IsOfOne (Copying own other key stage) = ⊥
IsOfOne (Closing own other stage) = ⊥
IsOfOne phase = Unit {0}

-- elsewhere it is nobody's
pub elsewhere : (index other : ℕ) (phase : Phase) → IsOfOne phase → IsAbout index phase → index ≢ other → (is_reader other phase ≡ false) × (is_holder other phase ≡ false)
elsewhere index other Idle one about n = (refl, refl)
elsewhere index other (Asked at ask) one about n = (refl, refl)
elsewhere index other (Reading at get) one about n = (other_test at other (apart at index other about n), refl)
elsewhere index other (Holding at ask hand plan) one about n = (refl, other_test at other (apart at index other about n))
elsewhere index other (Done at None) one about n = (other_test at other (apart at index other about n), refl)
elsewhere index other (Done at (Some hand)) one about n = (refl, other_test at other (apart at index other about n))
elsewhere index other (Turned own at ask hand) one about n = absurd one
elsewhere index other (Copying own at key stage) one about n = absurd one
elsewhere index other (Closing own at stage) one about n = absurd one

pub false_true : (b : Bool) → b ≡ false → b ≡ true → ⊥
false_true b f t = let e : false ≡ true = sym f ∙ t in cc

-- a phase that is not inside there has nothing in hand of it
pub no_hand : (id epoch index : ℕ) (log : Log) (phase : Phase) → is_reader index phase ≡ false → is_holder index phase ≡ false → IsInHand id epoch index log phase
no_hand id epoch index log Idle r h = tt
no_hand id epoch index log (Asked other ask) r h = tt
no_hand id epoch index log (Reading other get) r h = tt
no_hand id epoch index log (Holding other ask hand plan) r h = λ e. absurd (false_true (other == index) h (same_test other index e))
no_hand id epoch index log (Done other None) r h = tt
no_hand id epoch index log (Done other (Some hand)) r h = λ e. absurd (false_true (other == index) h (same_test other index e))
no_hand id epoch index log (Turned own other ask None) r h = tt
no_hand id epoch index log (Turned own other ask (Some hand)) r h = λ e. absurd (false_true (other == index) h (same_test other index e))
no_hand id epoch index log (Copying own other key CopyAsked) r h = tt
no_hand id epoch index log (Copying own other key CopyInside) r h = tt
no_hand id epoch index log (Copying own other key (CopyLooked clock)) r h = λ e. absurd (false_true (other == index) r (same_test other index e))
no_hand id epoch index log (Copying own other key (CopyTaken clock hand plan)) r h =
    (λ e. absurd (false_true (other == index) r (same_test other index e)), λ e. absurd (false_true (own == index) h (same_test own index e)))
no_hand id epoch index log (Copying own other key (CopyDone None)) r h = tt
no_hand id epoch index log (Copying own other key (CopyDone (Some hand))) r h = λ e. absurd (false_true (own == index) h (same_test own index e))
no_hand id epoch index log (Closing own other CloseAsked) r h = tt
no_hand id epoch index log (Closing own other (CloseTaken hand)) r h = λ e. absurd (false_true (other == index) h (same_test other index e))
no_hand id epoch index log (Closing own other (CloseInside hand)) r h = λ e. absurd (false_true (other == index) h (same_test other index e))
no_hand id epoch index log (Closing own other (CloseLooked hand number)) r h = λ e. absurd (false_true (other == index) h (same_test other index e))
no_hand id epoch index log (Closing own other (CloseDone hand inside)) r h = λ e. absurd (false_true (other == index) h (same_test other index e))

-- nor need have seen its log
pub no_whole : (index : ℕ) (phase : Phase) (front history : Log) → is_reader index phase ≡ false → HasSeen index phase front history
no_whole index Idle front history r = tt
no_whole index (Asked other ask) front history r = tt
no_whole index (Reading other get) front history r = tt
no_whole index (Holding other ask hand plan) front history r = tt
no_whole index (Done other hand) front history r = tt
no_whole index (Turned own other ask hand) front history r = tt
no_whole index (Closing own other stage) front history r = tt
no_whole index (Copying own other key CopyAsked) front history r = tt
no_whole index (Copying own other key CopyInside) front history r = tt
no_whole index (Copying own other key (CopyLooked clock)) front history r = λ e. absurd (false_true (other == index) r (same_test other index e))
no_whole index (Copying own other key (CopyTaken clock hand plan)) front history r = λ e. absurd (false_true (other == index) r (same_test other index e))
no_whole index (Copying own other key (CopyDone hand)) front history r = tt

-- a phase has at a site what it had before: it is inside there as it was, has no other state or clock of it in hand, and has seen what
-- it had to see
pub record StaysAt (site : ℕ) (before after : Phase) : Type 0 where
  pub reader : is_reader site after ≡ is_reader site before
  pub holder : is_holder site after ≡ is_holder site before
  pub hand : (id epoch : ℕ) (log : Log) → IsInHand id epoch site log before → IsInHand id epoch site log after
  pub whole : (front history : Log) → HasSeen site before front history → HasSeen site after front history

-- a phase that was about one site, and is about no other, has elsewhere what it had
pub stays : (index other : ℕ) (before after : Phase) → IsOfOne before → IsOfOne after → IsAbout index before → IsAbout index after → index ≢ other → StaysAt other before after
stays index other before after one_before one_after was is n = record {
  reader = (elsewhere index other after one_after is n).0 ∙ sym (elsewhere index other before one_before was n).0;
  holder = (elsewhere index other after one_after is n).1 ∙ sym (elsewhere index other before one_before was n).1;
  hand = λ id epoch log had. no_hand id epoch other log after (elsewhere index other after one_after is n).0 (elsewhere index other after one_after is n).1;
  whole = λ front history had. no_whole other after front history (elsewhere index other after one_after is n).0;
}

not_about : (index other : ℕ) (phase : Phase) → IsOfOne phase → IsAbout index phase → index ≢ other → is_about other phase ≡ false
not_about index other Idle one about n = refl
not_about index other (Asked at ask) one about n = other_test at other (apart at index other about n)
not_about index other (Reading at get) one about n = other_test at other (apart at index other about n)
not_about index other (Holding at ask hand plan) one about n = other_test at other (apart at index other about n)
not_about index other (Done at hand) one about n = other_test at other (apart at index other about n)
not_about index other (Turned own at ask hand) one about n = absurd one
not_about index other (Copying own at key stage) one about n = absurd one
not_about index other (Closing own at stage) one about n = absurd one

-- so it is about no other
pub about_one : (index other : ℕ) (phase : Phase) → IsOfOne phase → IsAbout index phase → is_about other phase ≡ true → index ≢ other → ⊥
about_one index other phase one about is n = false_true (is_about other phase) (not_about index other phase one about n) is

pub about_own : (site own other : ℕ) → own ≡ site → ((own == site) || (other == site)) ≡ true
about_own site own other e = ap (λ b. b || (other == site)) (same_test own site e)

pub about_other : (site own other : ℕ) → other ≡ site → ((own == site) || (other == site)) ≡ true
about_other site own other e = or_true (own == site) (other == site) (same_test other site e)

-- who acts at a site is about it
pub about_there : (site : ℕ) (phase : Phase) → site_of Enters phase ≡ Some site → is_about site phase ≡ true
about_there site Idle h = cc
about_there site (Asked other ask) h = same_test other site (some_site other site h)
about_there site (Reading other get) h = same_test other site (some_site other site h)
about_there site (Holding other ask hand plan) h = same_test other site (some_site other site h)
about_there site (Done other hand) h = same_test other site (some_site other site h)
about_there site (Turned own other ask hand) h = or_true (own == site) (other == site) (same_test other site (some_site other site h))
about_there site (Copying own other key stage) h = by stage (some_site (copy_site own other stage) site h)
  where
    by : (s : CopyStage) → copy_site own other s ≡ site → is_about site (Copying own other key stage) ≡ true
    by CopyAsked e = about_other site own other e
    by CopyInside e = about_other site own other e
    by (CopyLooked clock) e = about_own site own other e
    by (CopyTaken clock hand plan) e = about_own site own other e
    by (CopyDone None) e = about_other site own other e
    by (CopyDone (Some hand)) e = about_own site own other e
about_there site (Closing own other stage) h = by stage (some_site (close_site own other stage) site h)
  where
    by : (s : CloseStage) → close_site own other s ≡ site → is_about site (Closing own other stage) ≡ true
    by CloseAsked e = about_other site own other e
    by (CloseTaken hand) e = about_own site own other e
    by (CloseInside hand) e = about_own site own other e
    by (CloseLooked hand number) e = about_other site own other e
    by (CloseDone hand true) e = about_own site own other e
    by (CloseDone hand false) e = about_other site own other e

-- what is true of a vnode of this id, opened behind this epoch, by how many readers and holders there are
pub record IsSoundAs (id epoch readers holders : ℕ) (vnode : SiteVnode) : Type 0 where
  pub limits : IsWithinLimits id epoch
  pub word : FitsWord vnode.word readers holders
  pub place : IsInPlace id epoch vnode.word vnode.log vnode.place

-- what is always true of a vnode
abbrev pub IsSound : (readers holders : ℕ) → SiteVnode → Type 0
IsSound readers holders vnode = IsSoundAs vnode.id vnode.last_epoch readers holders vnode

-- it is true of a fresh vnode, where nobody is inside
pub sound-fresh : (id own epoch readers holders : ℕ) → IsWithinLimits id epoch → readers ≡ 0 → holders ≡ 0 → IsSound readers holders (fresh_vnode id own epoch)
sound-fresh id own epoch readers holders limits r h = record { limits = limits; word = (r, h); place = refl }

-- a log of commands alone, whose history has a replay
pub record IsPlain (id epoch : ℕ) (log : Log) : Type 0 where
  pub commands : CommandsAlone log
  pub replays : HasReplay id epoch (commands_of log)

pub plain-fresh : (id epoch : ℕ) → IsPlain id epoch []
plain-fresh id epoch = record { commands = refl; replays = tt }

-- what is true of a worker and a vnode
pub record IsAware (id epoch index : ℕ) (log : Log) (worker : Worker) : Type 0 where
  pub hand : IsInHand id epoch index log worker.phase
  pub seen : Begins (seen_at worker.seen index) log
  pub whole : HasSeen index worker.phase (seen_at worker.seen index) log

-- before a command a log of commands alone was one
pub alone-before : (event : Event Content Context) (log : Log) → CommandsAlone (Command event ∷ log) → CommandsAlone log
alone-before event log h = ap rest h
  where
    rest : Log → Log
    rest [] = []
    rest (entry ∷ before) = before

-- a log that ends with a copy isn't one
pub copied-mixed : (copy : Copy Content) (log : Log) → CommandsAlone (Copied copy ∷ log) → ⊥
copied-mixed copy log h = by (commands_of log) h
  where
    by : (history : History) → Copied copy ∷ log ≡ all_commands history → ⊥
    by [] e = cc
    by (event ∷ before) e = cc

-- nor one that ends with a close
pub closed-mixed : (number : ℕ) (log : Log) → CommandsAlone (Closed number ∷ log) → ⊥
closed-mixed number log h = by (commands_of log) h
  where
    by : (history : History) → Closed number ∷ log ≡ all_commands history → ⊥
    by [] e = cc
    by (event ∷ before) e = cc

-- a log of commands alone isn't closed
pub alone-open : (id epoch : ℕ) (log : Log) → CommandsAlone log → IsOpenAt id epoch log
alone-open id epoch [] only = refl
alone-open id epoch (Command event ∷ before) only =
    closed-kept (state_of id epoch before) event.key event.context event.operation ∙ alone-open id epoch before (alone-before event before only)
alone-open id epoch (Copied copy ∷ before) only = absurd (copied-mixed copy before only)
alone-open id epoch (Closed number ∷ before) only = absurd (closed-mixed number before only)
