-- What a command saw by the machine's state: of a log of commands alone, that of its history; of a course, that of the law of copies.
use Rattle.std.proofs.Common.{◌≡◌, ℕ, ◌<◌, Bool, true, false, ◌&&◌, cond, List, [], ◌∷◌, refl, ◌∙◌, ap}
use Rattle.std.specs.Prelude.{Option, Some, None, option_map, filter}
use Rattle.std.specs.Option.{option_map_or}
use Rattle.riak_msgs.specs.declared.Key.{Key}
use Rattle.riak_msgs.specs.Contents.{Content}
use Rattle.sibling_register.specs.History.{Event, Operation, Write, Tombstone, Reap, count_of, numbers_to}
use Rattle.sibling_register.specs.Siblings.{is_defined}
use Rattle.sibling_register.specs.Naming.{named}
use Rattle.sibling_register.specs.Answers.{RegisterAsk}
use Rattle.actor_epoch.specs.Dots.{covers}
use Rattle.actor_epoch.specs.Given.{Context, Pairs}
use Rattle.dvv_set.specs.Clocks.{join}
use Rattle.vnode_machine.specs.Machine.{opening, clock_of, is_held, same_context, pairs_of}
use Rattle.vnode_machine.specs.Lives.{dot_of}
use Rattle.vnode_machine.specs.Replay.{History, HasReplay, naming, seen_by}
use Rattle.vnode_machine.specs.Registers.{key_of, context_in_ask, next_event}
use Rattle.vnode_machine.proofs.Mirrors.{held-same}
use Rattle.vnode_machine.proofs.Steps.{known}
use Rattle.copy_laws.specs.Copies.{commands_of, all_commands}
use Rattle.copy_laws.specs.Joining.{Log}
use Rattle.copy_laws.specs.Sides.{Partition}
use Rattle.copy_laws.specs.CopyReplay.{state_with, name_at, named_at, seen_at}
use Rattle.copy_laws.specs.Diversions.{Course, AtPrimary, Divert, AtFallback, CopyBack, Return, copy_of, primary_of, HappensTo}
use Rattle.copy_laws.specs.Copies.{Command, Copied}
use Rattle.copy_laws.proofs.Fallback.{log-replay}
use Rattle.copy_laws.proofs.LegalCourses.{courses_hold_defined}
use Rattle.node_steps.specs.World.{CommandsAlone}
use Rattle.node_steps.specs.HeldNames.{named_held, saw_held}
use Rattle.node_steps.specs.Steps.{event_at}

pub commands-all : (history : History) → commands_of (all_commands history) ≡ history
commands-all [] = refl
commands-all (event ∷ before) = ap (λ (rest : History). event ∷ rest) (commands-all before)

-- what an event saw, by the position that its context names
abbrev saw_by : (id epoch : ℕ) → Log → Key → Context → Option Log → List ℕ
saw_by id epoch log key context position =
    option_map_or (λ (position : Log). numbers_to (count_of (commands_of position) key)) position
    (filter (λ number. option_map_or (covers (pairs_of (Some context))) (dot_of id epoch (commands_of log) key number) false) (numbers_to (count_of (commands_of log) key)))

module _ (id epoch : ℕ) where
  chosen : (b : Bool) (event : Event Content Context) (before : History) (o : Option History)
      → cond b (Some (all_commands (event ∷ before))) (option_map all_commands o) ≡ option_map all_commands (cond b (Some (event ∷ before)) o)
  chosen true event before o = refl
  chosen false event before o = refl

  held-defined : (history : History) (key : Key) → HasReplay id epoch history → is_held (state_with (opening id epoch) (all_commands history)) key ≡ is_defined history key
  held-defined history key replays = ap (λ s. is_held s key) (log-replay id epoch history) ∙ held-same id epoch history (known id epoch history replays) key

  named-plain : (history : History) (key : Key) (context : Context) → HasReplay id epoch history
      → named_held id epoch (all_commands history) key context ≡ option_map all_commands (named (naming id epoch) history key context)
  named-plain [] key context replays = refl
  named-plain (event ∷ before) key context replays =
      let history : History = event ∷ before in
      let held = held-defined history key replays in
      let name = ap (λ s. Pairs (join (clock_of s key))) (log-replay id epoch history) in
      let rest = named-plain before key context replays.0 in
      (λ i. cond (held i && same_context context (name i)) (Some (all_commands history)) (rest i))
      ∙ chosen (is_defined history key && same_context context ((naming {V = Content} id epoch).name history key)) event before
      (named (naming id epoch) before key context)

  -- of commands alone whose history has a replay
  pub saw-plain : (history : History) (key : Key) (given : Option Context) (operation : Operation Content) → HasReplay id epoch history
      → saw_held id epoch (all_commands history) key given operation ≡ seen_by id epoch history key given operation
  saw-plain history key None (Write content) replays = refl
  saw-plain history key None Tombstone replays = ap (λ h. numbers_to (count_of h key)) (commands-all history)
  saw-plain history key None Reap replays = ap (λ h. numbers_to (count_of h key)) (commands-all history)
  saw-plain history key (Some context) operation replays =
      let named_one = named-plain history key context replays in
      let all = commands-all history in
      (λ i. option_map_or (λ (position : Log). numbers_to (count_of (commands_of position) key)) (named_one i)
      (filter (λ number. option_map_or (covers (pairs_of (Some context))) (dot_of id epoch (all i) key number) false) (numbers_to (count_of (all i) key))))
      ∙ by (named (naming id epoch) history key context)
      (filter (λ number. option_map_or (covers (pairs_of (Some context))) (dot_of id epoch history key number) false) (numbers_to (count_of history key)))
    where
      by : (o : Option History) (numbers : List ℕ)
          → option_map_or (λ (position : Log). numbers_to (count_of (commands_of position) key)) (option_map all_commands o) numbers
          ≡ option_map_or (λ position. numbers_to (count_of position key)) o numbers
      by None numbers = refl
      by (Some position) numbers = ap (λ h. numbers_to (count_of h key)) (commands-all position)

  -- so an event at its end is the history's next one
  pub same-event : (log : Log) → CommandsAlone log → HasReplay id epoch (commands_of log) → (ask : RegisterAsk Content Context) (operation : Operation Content)
      → event_at id epoch log ask operation ≡ next_event id epoch (commands_of log) ask operation
  same-event log only replays ask operation =
      let saw = ap (λ (l : Log). saw_held id epoch l (key_of ask) (context_in_ask ask) operation) only
      ∙ saw-plain (commands_of log) (key_of ask) (context_in_ask ask) operation replays in
      λ i. record { key = key_of ask; operation = operation; context = context_in_ask ask; saw = saw i }

-- of a course, in whatever partition it may happen
module _ (partition : Partition) (ids : partition.primary < partition.fallback) where
  named-course : (key : Key) (course : Course) → HappensTo partition key course → (context : Context)
      → named_held partition.primary partition.last_epoch (primary_of partition course) key context ≡ named_at partition (primary_of partition course) key context
  named-course key [] h context = refl
  named-course key (AtPrimary event ∷ before) h context =
      let log : Log = Command event ∷ primary_of partition before in
      let held = courses_hold_defined partition (AtPrimary event ∷ before) ids key h in
      let rest = named-course key before h.0 context in
      λ i. cond (held i && same_context context (name_at partition log key)) (Some log) (rest i)
  named-course key (Divert ∷ before) h context = named-course key before h.0 context
  named-course key (AtFallback event ∷ before) h context = named-course key before h.0 context
  named-course key (CopyBack at ∷ before) h context =
      let log : Log = Copied (copy_of partition before at) ∷ primary_of partition before in
      let held = courses_hold_defined partition (CopyBack at ∷ before) ids key h in
      let rest = named-course key before h.0 context in
      λ i. cond (held i && same_context context (name_at partition log key)) (Some log) (rest i)
  named-course key (Return ∷ before) h context = named-course key before h.0 context

  pub saw-course : (course : Course) (key : Key) → HappensTo partition key course → (given : Option Context) (operation : Operation Content)
      → saw_held partition.primary partition.last_epoch (primary_of partition course) key given operation ≡ seen_at partition (primary_of partition course) key given operation
  saw-course course key h None (Write content) = refl
  saw-course course key h None Tombstone = refl
  saw-course course key h None Reap = refl
  saw-course course key h (Some context) operation =
      ap (saw_by partition.primary partition.last_epoch (primary_of partition course) key context) (named-course key course h context)
