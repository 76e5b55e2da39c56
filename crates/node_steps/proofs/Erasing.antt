-- Steps do not look at ids, epochs that vnodes were opened behind, histories and what workers have seen of them.
use Rattle.std.proofs.Common.{◌≡◌, ℕ, zero, suc, ◌≤◌, Bool, true, false, List, [], ◌∷◌, map, refl, sym, ◌∙◌, ap, arith}
use Rattle.std.specs.Prelude.{pred, Option, Some, None, is_some, option_map, option_and_then, slice_get, slice_set}
use Rattle.std.proofs.lemmas.Option.{slice_get-map}
use Rattle.riak_msgs.specs.Contents.{Content}
use Rattle.sibling_register.specs.Answers.{RegisterAsk, AskGet, AskPut, AskDel, AskReap, GetCommand}
use Rattle.actor_epoch.specs.Given.{Context}
use Rattle.vnode_machine.specs.Machine.{State}
use Rattle.copy_laws.specs.Joining.{Log}
use Rattle.vnode_machine.specs.Step.{MachineOutcome, Refused, Answered, Accepted, outcome as outcome_of_ask}
pub use Rattle.std.proofs.lemmas.List.{map-set}
use Rattle.node_steps.specs.World.{Word, Open, Taken, CopyAsked, CopyInside, CopyLooked, CopyTaken, CopyDone, CloseAsked, CloseTaken, CloseInside, CloseLooked, CloseDone, Phase, Idle, Asked, Reading, Holding, Done, Turned, Copying, Closing, Brought, nothing_brought, SiteVnode, Worker, World, worker_at, seen_at, brought_by}
use Rattle.node_steps.specs.Steps.{Action, Asks, AsksNowhere, Copies, CopiesFrom, Closes, ClosesFrom, Enters, Leaves, Marks, Unmarks, Takes, Puts, Looks, Publishes, Outcome, WorkerTurn, reads_by, holds_by, looks_by, turn_of, site_of, seeing, turned, does}
use Rattle.node_steps.proofs.Lists.{one, how_many}
use Rattle.node_steps.proofs.Inside.{is_reader, reads, holds, FitsWord, IsAbout, same_test, vnode_in}
use Rattle.node_steps.proofs.EachTurn.{about_is}
use Rattle.node_steps.proofs.CopyErasing.{erase_turn, IsErased, copy_asks, copy_enters, copy_leaves, copy_takes, copy_puts, copy_looks, copy_publishes}
use Rattle.node_steps.proofs.CloseErasing.{turned_leaves, turned_puts, close_asks, close_takes, close_enters, close_leaves, close_puts}
use Rattle.node_steps.proofs.Kept.{IsOrderly, at_place}
use Rattle.node_steps.proofs.KeptSteps.{counted}
use Rattle.node_steps.specs.Erased.{IsShown, erase_place, erase_vnode, erase_worker, erase}

pub place_twice : (word : Word) (place : State Content) → erase_place word (erase_place word place) ≡ erase_place word place
place_twice (Open n mark) place = refl
place_twice Taken place = refl

pub vnode_twice : (vnode : SiteVnode) → erase_vnode (erase_vnode vnode) ≡ erase_vnode vnode
vnode_twice vnode = ap (λ p. record { id = 0; own = vnode.own; last_epoch = 0; word = vnode.word; log = []; place = p }) (place_twice vnode.word vnode.place)

module _ (id home epoch : ℕ) (seen : Log) (brought : Brought) (log : Log) (place : State Content) where
  abbrev Same : Word → Action → Phase → Type 0
  Same word action phase = IsErased id home epoch seen brought log place word action phase

  enters : (word : Word) (index : ℕ) (ask : RegisterAsk Content Context) → Same word Enters (Asked index ask)
  enters (Open n false) index (AskGet get) = refl
  enters (Open n true) index (AskGet get) = refl
  enters Taken index (AskGet get) = refl
  enters word index (AskPut put) = refl
  enters word index (AskDel del) = refl
  enters word index (AskReap key) = refl

  leaves : (word : Word) (phase : Phase) → Same word Leaves phase
  leaves word Idle = refl
  leaves word (Asked index ask) = refl
  leaves (Open n mark) (Reading index get) = refl
  leaves Taken (Reading index get) = refl
  leaves word (Holding index ask hand None) = refl
  leaves word (Holding index ask hand (Some plan)) = refl
  leaves (Open n mark) (Done index None) = refl
  leaves Taken (Done index None) = refl
  leaves word (Done index (Some hand)) = refl
  leaves word (Turned own site ask hand) = turned_leaves id home epoch seen brought log place word own site ask hand
  leaves word (Closing own site stage) = close_leaves id home epoch seen brought log place word own site stage
  leaves word (Copying own site key stage) = copy_leaves id home epoch seen brought log place word own site key stage

  marks : (word : Word) (index : ℕ) (ask : RegisterAsk Content Context) → Same word Marks (Asked index ask)
  marks (Open n false) index ask = refl
  marks (Open n true) index ask = refl
  marks Taken index ask = refl

  unmarks : (word : Word) (index : ℕ) (ask : RegisterAsk Content Context) → Same word Unmarks (Asked index ask)
  unmarks (Open n false) index ask = refl
  unmarks (Open n true) index ask = refl
  unmarks Taken index ask = refl

  takes : (word : Word) (index : ℕ) (ask : RegisterAsk Content Context) → Same word Takes (Asked index ask)
  takes (Open zero mark) index ask = refl
  takes (Open (suc n) mark) index ask = refl
  takes Taken index ask = refl

  puts : (word : Word) (phase : Phase) → Same word Puts phase
  puts word Idle = refl
  puts word (Asked index ask) = refl
  puts word (Reading index get) = refl
  puts word (Holding index ask hand None) = refl
  puts word (Holding index ask hand (Some plan)) = refl
  puts word (Done index None) = refl
  puts word (Done index (Some hand)) = refl
  puts word (Turned own site ask hand) = turned_puts id home epoch seen brought log place word own site ask hand
  puts word (Closing own site stage) = close_puts id home epoch seen brought log place word own site stage
  puts word (Copying own site key stage) = copy_puts id home epoch seen brought log place word own site key stage

  held_look : (word : Word) (index : ℕ) (ask : RegisterAsk Content Context) (hand : State Content) (o : MachineOutcome)
      → erase_turn (looks_by seen brought (vnode_in id home epoch log place word) index ask hand o) ≡ erase_turn (looks_by [] nothing_brought (erase_vnode (vnode_in id home epoch log place word)) index ask hand o)
  held_look (Open n mark) index ask hand (Refused number) = refl
  held_look (Open n mark) index ask hand (Answered response) = refl
  held_look (Open n mark) index ask hand (Accepted operation response next) = refl
  held_look Taken index ask hand (Refused number) = refl
  held_look Taken index ask hand (Answered response) = refl
  held_look Taken index ask hand (Accepted operation response next) = refl

  held_by : (word : Word) (index : ℕ) (ask : RegisterAsk Content Context) (hand : State Content) (closed : Bool)
      → erase_turn (holds_by seen brought (vnode_in id home epoch log place word) index ask hand closed) ≡ erase_turn (holds_by [] nothing_brought (erase_vnode (vnode_in id home epoch log place word)) index ask hand closed)
  held_by (Open n mark) index ask hand true = refl
  held_by Taken index ask hand true = refl
  held_by word index ask hand false = held_look word index ask hand (outcome_of_ask hand ask)

  read_by : (n : ℕ) (mark : Bool) (index : ℕ) (get : GetCommand Context) (closed : Bool)
      → erase_turn (reads_by seen brought (vnode_in id home epoch log place (Open n mark)) index get closed) ≡ erase_turn (reads_by [] nothing_brought (erase_vnode (vnode_in id home epoch log place (Open n mark))) index get closed)
  read_by n mark index get true = refl
  read_by n mark index get false = refl

  looks : (word : Word) (phase : Phase) → IsShown word phase → Same word Looks phase
  looks word Idle p = refl
  looks word (Asked index ask) p = refl
  looks (Open n mark) (Reading index get) p = ap (λ t. Some t) (read_by n mark index get (is_some place.closed))
  looks Taken (Reading index get) p = absurd p
  looks word (Holding index ask hand None) p = ap (λ t. Some t) (held_by word index ask hand (is_some hand.closed))
  looks word (Holding index ask hand (Some plan)) p = refl
  looks word (Done index hand) p = refl
  looks word (Turned own site ask hand) p = refl
  looks word (Closing own site stage) p = refl
  looks word (Copying own site key stage) p = copy_looks id home epoch seen brought log place word own site key stage p

  publishes : (word : Word) (phase : Phase) → Same word Publishes phase
  publishes word Idle = refl
  publishes word (Asked index ask) = refl
  publishes word (Reading index get) = refl
  publishes word (Holding index ask hand None) = refl
  publishes (Open n mark) (Holding index ask hand (Some plan)) = refl
  publishes Taken (Holding index ask hand (Some plan)) = refl
  publishes word (Done index hand) = refl
  publishes word (Turned own site ask hand) = refl
  publishes word (Closing own site stage) = refl
  publishes word (Copying own site key stage) = copy_publishes id home epoch seen brought log place word own site key stage

  asks : (word : Word) (index : ℕ) (ask : RegisterAsk Content Context) → Same word (Asks index ask) Idle
  asks (Open n mark) index ask = refl
  asks Taken index ask = refl

  pub turn_erased : (word : Word) (action : Action) (phase : Phase) → IsShown word phase → Same word action phase
  turn_erased word (Asks index ask) Idle p = asks word index ask
  turn_erased word (Asks index ask) (Asked other was) p = refl
  turn_erased word (Asks index ask) (Reading other get) p = refl
  turn_erased word (Asks index ask) (Holding other was hand plan) p = refl
  turn_erased word (Asks index ask) (Done other hand) p = refl
  turn_erased word (Asks index ask) (Turned own site was hand) p = refl
  turn_erased word (Asks index ask) (Copying own site key stage) p = refl
  turn_erased word (Asks index ask) (Closing own site stage) p = refl
  turn_erased word (Copies index wanted) Idle p = refl
  turn_erased word (Copies index wanted) (Asked other was) p = refl
  turn_erased word (Copies index wanted) (Reading other get) p = refl
  turn_erased word (Copies index wanted) (Holding other was hand plan) p = refl
  turn_erased word (Copies index wanted) (Done other hand) p = refl
  turn_erased word (Copies index wanted) (Turned own site was hand) p = refl
  turn_erased word (Copies index wanted) (Copying own site key stage) p = refl
  turn_erased word (Copies index wanted) (Closing own site stage) p = refl
  turn_erased word (CopiesFrom at from wanted) Idle p = copy_asks id home epoch seen brought log place word at from wanted
  turn_erased word (CopiesFrom at from wanted) (Asked other was) p = refl
  turn_erased word (CopiesFrom at from wanted) (Reading other get) p = refl
  turn_erased word (CopiesFrom at from wanted) (Holding other was hand plan) p = refl
  turn_erased word (CopiesFrom at from wanted) (Done other hand) p = refl
  turn_erased word (CopiesFrom at from wanted) (Turned own site was hand) p = refl
  turn_erased word (CopiesFrom at from wanted) (Copying own site key stage) p = refl
  turn_erased word (CopiesFrom at from wanted) (Closing own site stage) p = refl
  turn_erased word (Closes index) Idle p = refl
  turn_erased word (Closes index) (Asked other was) p = refl
  turn_erased word (Closes index) (Reading other get) p = refl
  turn_erased word (Closes index) (Holding other was hand plan) p = refl
  turn_erased word (Closes index) (Done other hand) p = refl
  turn_erased word (Closes index) (Turned own site was hand) p = refl
  turn_erased word (Closes index) (Copying own site key stage) p = refl
  turn_erased word (Closes index) (Closing own site stage) p = refl
  turn_erased word (ClosesFrom at from) Idle p = close_asks id home epoch seen brought log place word at from
  turn_erased word (ClosesFrom at from) (Asked other was) p = refl
  turn_erased word (ClosesFrom at from) (Reading other get) p = refl
  turn_erased word (ClosesFrom at from) (Holding other was hand plan) p = refl
  turn_erased word (ClosesFrom at from) (Done other hand) p = refl
  turn_erased word (ClosesFrom at from) (Turned own site was hand) p = refl
  turn_erased word (ClosesFrom at from) (Copying own site key stage) p = refl
  turn_erased word (ClosesFrom at from) (Closing own site stage) p = refl
  turn_erased word AsksNowhere Idle p = refl
  turn_erased word AsksNowhere (Asked other was) p = refl
  turn_erased word AsksNowhere (Reading other get) p = refl
  turn_erased word AsksNowhere (Holding other was hand plan) p = refl
  turn_erased word AsksNowhere (Done other hand) p = refl
  turn_erased word AsksNowhere (Turned own site was hand) p = refl
  turn_erased word AsksNowhere (Copying own site key stage) p = refl
  turn_erased word AsksNowhere (Closing own site stage) p = refl
  turn_erased word Enters Idle p = refl
  turn_erased word Enters (Asked other was) p = enters word other was
  turn_erased word Enters (Reading other get) p = refl
  turn_erased word Enters (Holding other was hand plan) p = refl
  turn_erased word Enters (Done other hand) p = refl
  turn_erased word Enters (Turned own site was hand) p = refl
  turn_erased word Enters (Copying own site key stage) p = copy_enters id home epoch seen brought log place word own site key stage
  turn_erased word Enters (Closing own site stage) p = close_enters id home epoch seen brought log place word own site stage
  turn_erased word Leaves phase p = leaves word phase
  turn_erased word Marks Idle p = refl
  turn_erased word Marks (Asked other was) p = marks word other was
  turn_erased word Marks (Reading other get) p = refl
  turn_erased word Marks (Holding other was hand plan) p = refl
  turn_erased word Marks (Done other hand) p = refl
  turn_erased word Marks (Turned own site was hand) p = refl
  turn_erased word Marks (Copying own site key stage) p = refl
  turn_erased word Marks (Closing own site stage) p = refl
  turn_erased word Unmarks Idle p = refl
  turn_erased word Unmarks (Asked other was) p = unmarks word other was
  turn_erased word Unmarks (Reading other get) p = refl
  turn_erased word Unmarks (Holding other was hand plan) p = refl
  turn_erased word Unmarks (Done other hand) p = refl
  turn_erased word Unmarks (Turned own site was hand) p = refl
  turn_erased word Unmarks (Copying own site key stage) p = refl
  turn_erased word Unmarks (Closing own site stage) p = refl
  turn_erased word Takes Idle p = refl
  turn_erased word Takes (Asked other was) p = takes word other was
  turn_erased word Takes (Reading other get) p = refl
  turn_erased word Takes (Holding other was hand plan) p = refl
  turn_erased word Takes (Done other hand) p = refl
  turn_erased word Takes (Turned own site was hand) p = refl
  turn_erased word Takes (Copying own site key stage) p = copy_takes id home epoch seen brought log place word own site key stage
  turn_erased word Takes (Closing own site stage) p = close_takes id home epoch seen brought log place word own site stage
  turn_erased word Puts phase p = puts word phase
  turn_erased word Looks phase p = looks word phase p
  turn_erased word Publishes phase p = publishes word phase

pub vnodes_twice : (vnodes : List SiteVnode) → map erase_vnode (map erase_vnode vnodes) ≡ map erase_vnode vnodes
vnodes_twice [] = refl
vnodes_twice (v ∷ vnodes) = let one = vnode_twice v in let rest = vnodes_twice vnodes in λ i. one i ∷ rest i

pub workers_twice : (workers : List Worker) → map erase_worker (map erase_worker workers) ≡ map erase_worker workers
workers_twice [] = refl
workers_twice (x ∷ workers) = let rest = workers_twice workers in λ i. record { phase = x.phase; seen = [] } ∷ rest i

pub world_twice : (w : World) → erase (erase w) ≡ erase w
world_twice w = let vnodes = vnodes_twice w.vnodes in let workers = workers_twice w.workers in λ i. record { vnodes = vnodes i; routes = w.routes; epochs = w.epochs; diversions = []; workers = workers i }

abbrev pub Result : Type 0
Result = World × Outcome

abbrev pub erase_result : Result → Result
erase_result r = (erase r.0, r.1)

-- the erased world after an erased turn
abbrev pub turned_erased : World → (place index : ℕ) → WorkerTurn → Result
turned_erased w place index turn = (
  record {
    routes = w.routes;
    epochs = w.epochs;
    diversions = [];
    vnodes = slice_set (map erase_vnode w.vnodes) index turn.vnode;
    workers = slice_set (map erase_worker w.workers) place (record { phase = turn.phase; seen = [] });
  },
  turn.outcome,
)

pub turned_is : (w : World) (place index : ℕ) (worker : Worker) (turn : WorkerTurn) → erase_result (turned w place index worker turn, turn.outcome) ≡ turned_erased w place index (erase_turn turn)
turned_is w place index worker turn =
    let vnodes = map-set erase_vnode w.vnodes index turn.vnode in
    let workers = map-set erase_worker w.workers place (record { phase = turn.phase; seen = seeing worker.seen index turn.seen }) in
    λ i. (record { vnodes = vnodes i; routes = w.routes; epochs = w.epochs; diversions = []; workers = workers i }, turn.outcome)

erased_turned_is : (w : World) (place index : ℕ) (worker : Worker) (turn : WorkerTurn)
    → erase_result (turned (erase w) place index worker turn, turn.outcome) ≡ turned_erased w place index (erase_turn turn)
erased_turned_is w place index worker turn =
    let vnodes = vnodes_twice w.vnodes in
    let workers = workers_twice w.workers in
    turned_is (erase w) place index worker turn
    ∙ (λ i. (
      record {
        routes = w.routes;
        epochs = w.epochs;
        diversions = [];
        vnodes = slice_set (vnodes i) index (erase_vnode turn.vnode);
        workers = slice_set (workers i) place (record { phase = turn.phase; seen = [] });
      },
      turn.outcome,
    ))

by_turn : (f : WorkerTurn → Result) (g : WorkerTurn → Result) → ((t : WorkerTurn) → erase_result (f t) ≡ g (erase_turn t)) → (o : Option WorkerTurn)
    → option_map erase_result (option_map f o) ≡ option_map g (option_map erase_turn o)
by_turn f g h None = refl
by_turn f g h (Some t) = ap (λ r. Some r) (h t)

pub worker_erased : (w : World) (number : ℕ) → worker_at (erase w) number ≡ option_map erase_worker (worker_at w number)
worker_erased w zero = refl
worker_erased w (suc place) = slice_get-map erase_worker w.workers place

-- where a reader is inside, its vnode is not taken
pub is_placed : (word : Word) (readers holders index : ℕ) (phase : Phase) → FitsWord word readers holders → IsAbout index phase → one (is_reader index phase) ≤ readers → IsShown word phase
is_placed (Open n mark) readers holders index phase f at n' = tt
is_placed Taken readers holders index Idle f at n = tt
is_placed Taken readers holders index (Asked other ask) f at n = tt
is_placed Taken readers holders index (Reading other get) f at n = absurd (omega (arith, f.0, n, ap one (same_test other index at)))
is_placed Taken readers holders index (Holding other ask hand plan) f at n = tt
is_placed Taken readers holders index (Done other hand) f at n = tt
is_placed Taken readers holders index (Turned own site ask hand) f at n = tt
is_placed Taken readers holders index (Closing own site CloseAsked) f at n = tt
is_placed Taken readers holders index (Closing own site (CloseTaken hand)) f at n = tt
is_placed Taken readers holders index (Closing own site (CloseInside hand)) f at n = absurd (omega (arith, f.0, n, ap one (same_test own index at)))
is_placed Taken readers holders index (Closing own site (CloseLooked hand number)) f at n = tt
is_placed Taken readers holders index (Closing own site (CloseDone hand inside)) f at n = tt
is_placed Taken readers holders index (Copying own site key CopyAsked) f at n = tt
is_placed Taken readers holders index (Copying own site key CopyInside) f at n = absurd (omega (arith, f.0, n, ap one (same_test site index at)))
is_placed Taken readers holders index (Copying own site key (CopyLooked clock)) f at n = tt
is_placed Taken readers holders index (Copying own site key (CopyTaken clock hand plan)) f at n = tt
is_placed Taken readers holders index (Copying own site key (CopyDone hand)) f at n = tt

-- the state that a reader is shown is in place
pub shown_at : (w : World) (orderly : IsOrderly w) (action : Action) (number index : ℕ) (worker : Worker) (vnode : SiteVnode) → worker_at w number ≡ Some worker
    → site_of action worker.phase ≡ Some index → slice_get w.vnodes index ≡ Some vnode → IsShown vnode.word worker.phase
shown_at w orderly action number index worker vnode here at there =
    let sound = orderly.vnodes index vnode there in
    is_placed vnode.word (how_many (reads index) w.workers) (how_many (holds index) w.workers) index worker.phase sound.word
    (about_is vnode.id vnode.last_epoch vnode.own index 0 0 action worker.phase at)
    (counted (reads index) w.workers (pred number) worker (at_place w number worker here))

module _ (w : World) (orderly : IsOrderly w) (number : ℕ) (action : Action) where
  abbrev Both : Option Result → Option Result → Type 0
  Both a b = option_map erase_result a ≡ option_map erase_result b

  abbrev result : World → Worker → ℕ → WorkerTurn → Result
  result world worker index turn = (turned world (pred number) index worker turn, turn.outcome)

  -- a turn of a worker at a vnode
  at_vnode : (worker : Worker) (index : ℕ) (vnode : SiteVnode) → worker_at w number ≡ Some worker → site_of action worker.phase ≡ Some index → slice_get w.vnodes index ≡ Some vnode
      → Both (option_map (result w worker index) (turn_of (seen_at worker.seen index) (brought_by w worker) vnode action worker.phase))
      (option_map (result (erase w) (erase_worker worker) index) (turn_of [] nothing_brought (erase_vnode vnode) action worker.phase))
  at_vnode worker index vnode here at there =
      by_turn (result w worker index) (turned_erased w (pred number) index) (turned_is w (pred number) index worker)
      (turn_of (seen_at worker.seen index) (brought_by w worker) vnode action worker.phase)
      ∙ ap (λ o. option_map (turned_erased w (pred number) index) o)
      (turn_erased vnode.id vnode.own vnode.last_epoch (seen_at worker.seen index) (brought_by w worker) vnode.log vnode.place vnode.word action worker.phase (shown_at w orderly action number index worker vnode here at there))
      ∙ sym (by_turn (result (erase w) (erase_worker worker) index) (turned_erased w (pred number) index)
      (erased_turned_is w (pred number) index (erase_worker worker)) (turn_of [] nothing_brought (erase_vnode vnode) action worker.phase))

  abbrev at_index : World → Worker → ℕ → Option SiteVnode → Option Result
  at_index world worker index o =
      option_and_then (λ vnode. option_map (λ turn. (turned world (pred number) index worker turn, turn.outcome))
      (turn_of (seen_at worker.seen index) (brought_by world worker) vnode action worker.phase)) o

  by_vnode : (worker : Worker) (index : ℕ) → worker_at w number ≡ Some worker → site_of action worker.phase ≡ Some index → (o : Option SiteVnode) → slice_get w.vnodes index ≡ o
      → Both (at_index w worker index o) (at_index (erase w) (erase_worker worker) index (option_map erase_vnode o))
  by_vnode worker index here at None there = refl
  by_vnode worker index here at (Some vnode) there = at_vnode worker index vnode here at there

  by_index : (worker : Worker) → worker_at w number ≡ Some worker → (o : Option ℕ) → site_of action worker.phase ≡ o
      → Both (option_and_then (λ index. at_index w worker index (slice_get w.vnodes index)) o)
      (option_and_then (λ index. at_index (erase w) (erase_worker worker) index (slice_get (erase w).vnodes index)) o)
  by_index worker here None at = refl
  by_index worker here (Some index) at =
      by_vnode worker index here at (slice_get w.vnodes index) refl
      ∙ ap (λ o. option_map erase_result (at_index (erase w) (erase_worker worker) index o)) (sym (slice_get-map erase_vnode w.vnodes index))

  by_worker : (o : Option Worker) → worker_at w number ≡ o
      → Both (option_and_then (λ worker. option_and_then (λ index. at_index w worker index (slice_get w.vnodes index)) (site_of action worker.phase)) o)
      (option_and_then (λ worker. option_and_then (λ index. at_index (erase w) worker index (slice_get (erase w).vnodes index)) (site_of action worker.phase)) (option_map erase_worker o))
  by_worker None here = refl
  by_worker (Some worker) here = by_index worker here (site_of action worker.phase) refl

  pub does_erased : Both (does w number action) (does (erase w) number action)
  does_erased =
      by_worker (worker_at w number) refl
      ∙ ap (λ o. option_map erase_result (option_and_then (λ worker. option_and_then (λ index. at_index (erase w) worker index (slice_get (erase w).vnodes index)) (site_of action worker.phase)) o))
      (sym (worker_erased w number))
