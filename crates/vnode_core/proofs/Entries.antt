-- The commands of a log.
use Rattle.std.proofs.Common.{◌≡◌, ◌∙◌, ◌++◌, List, [], ◌∷◌, refl, sym, ap}
use mathlib.Core.List.{IsPrefix}
use Rattle.vnode_core.specs.declared.event.VnodeEvent.{VnodeEvent}
use Rattle.vnode_core.specs.declared.entry.Entry.{Entry}
use Rattle.vnode_core.specs.declared.entry.Entry.TheVariants.{Command as Commanded, Copied, Closed}
use Rattle.vnode_core.specs.Events.{commands_of, all_commands, AreCommands}

-- the commands of a log of commands alone are these
pub commands_of-all_commands : (events : List VnodeEvent) → commands_of (all_commands events) ≡ events
commands_of-all_commands [] = refl
commands_of-all_commands (event ∷ events) = ap (λ es. event ∷ es) (commands_of-all_commands events)

-- a log of commands alone is that of its commands
pub all_commands-commands_of : (entries : List Entry) → AreCommands entries → entries ≡ all_commands (commands_of entries)
all_commands-commands_of entries (events, are) = are ∙ ap all_commands (sym (ap commands_of are ∙ commands_of-all_commands events))

pub commands_of-append : (xs ys : List Entry) → commands_of (xs ++ ys) ≡ commands_of xs ++ commands_of ys
commands_of-append [] ys = refl
commands_of-append (Commanded event ∷ xs) ys = ap (λ es. event ∷ es) (commands_of-append xs ys)
commands_of-append (Copied copy ∷ xs) ys = commands_of-append xs ys
commands_of-append (Closed number ∷ xs) ys = commands_of-append xs ys

-- the commands of a beginning begin the commands
pub commands_begin : (xs ys : List Entry) → IsPrefix xs ys → IsPrefix (commands_of xs) (commands_of ys)
commands_begin xs ys (rest, is) = (commands_of rest, sym (commands_of-append xs rest) ∙ ap commands_of is)

-- what begins a log of commands alone is one
begins_commands : (xs rest : List Entry) (events : List VnodeEvent) → xs ++ rest ≡ all_commands events → AreCommands xs
begins_commands [] rest events is = ([], refl)
begins_commands (x ∷ xs) rest [] is = absurd (cc is)
begins_commands (x ∷ xs) rest (event ∷ events) is =
    let first : x ≡ Commanded event = cc is in
    let others = begins_commands xs rest events (cc is) in
    (event ∷ others.0, ap (λ e. e ∷ xs) first ∙ ap (λ es. Commanded event ∷ es) others.1)

pub commands_before : (xs ys : List Entry) → IsPrefix xs ys → AreCommands ys → AreCommands xs
commands_before xs ys (rest, is) (events, are) = begins_commands xs rest events (is ∙ are)
