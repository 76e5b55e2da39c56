-- What an event at the end of a log saw, by the machine's state alone: a context names the latest position of the key at which the
-- machine holds it and shows that context, whatever commands, copies and closes led there.
use Rattle.std.specs.Prelude.{false, ◌&&◌, if◌then◌else◌, List, [], ◌∷◌, ℕ, filter, Option, Some, None}
use Rattle.std.specs.Option.{option_map_or}
use Rattle.riak_msgs.specs.declared.Key.{Key}
use Rattle.riak_msgs.specs.Contents.{Content}
use Rattle.sibling_register.specs.History.{Operation, Write, Tombstone, Reap, count_of, numbers_to}
use Rattle.actor_epoch.specs.Dots.{covers}
use Rattle.actor_epoch.specs.Given.{Context, Pairs}
use Rattle.dvv_set.specs.Clocks.{join}
use Rattle.vnode_machine.specs.Machine.{opening, clock_of, is_held, same_context, pairs_of}
use Rattle.vnode_machine.specs.Lives.{dot_of}
use Rattle.copy_laws.specs.Copies.{commands_of}
use Rattle.copy_laws.specs.CopyReplay.{state_with}
use Rattle.copy_laws.specs.Joining.{Log}

-- the latest position at which the key is held, and that the context names
abbrev pub named_held : (id last_epoch : ℕ) → Log → Key → Context → Option Log
named_held id last_epoch [] key context = None
named_held id last_epoch (entry ∷ before) key context =
    let log = entry ∷ before in
    let state = state_with (opening id last_epoch) log in
    if is_held state key && same_context context (Pairs (join (clock_of state key))) then Some log else named_held id last_epoch before key context

-- what an event saw: all up to the position that its context names; where it names none, the numbers whose dots it covers
abbrev pub saw_held : (id last_epoch : ℕ) → Log → Key → Option Context → Operation Content → List ℕ
saw_held id last_epoch log key (Some context) operation =
    option_map_or (λ position. numbers_to (count_of (commands_of position) key)) (named_held id last_epoch log key context)
    (filter (λ number. option_map_or (covers (pairs_of (Some context))) (dot_of id last_epoch (commands_of log) key number) false) (numbers_to (count_of (commands_of log) key)))
saw_held id last_epoch log key None (Write content) = []
saw_held id last_epoch log key None Tombstone = numbers_to (count_of (commands_of log) key)
saw_held id last_epoch log key None Reap = numbers_to (count_of (commands_of log) key)
