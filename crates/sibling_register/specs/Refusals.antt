-- The refusals of a put or a delete, by their numbers, with their texts, and the limit of siblings.
use Rattle.std.specs.Prelude.{Bool, not, ◌&&◌, ◌==◌, if◌then◌else◌, List, [], ◌∷◌, ℕ, Option, Some, None, nat_le}
use Rattle.riak_msgs.specs.declared.Text.{Text}
use Rattle.riak_msgs.specs.declared.Text.TheVariants as texts

-- the key is present, and the put asked that it be not
abbrev pub match_found : ℕ
match_found = 1

-- the context isn't the name of this position, and the put asked that it be
abbrev pub modified : ℕ
modified = 2

-- the put asked that its key be not modified, and the key isn't present
abbrev pub not_found : ℕ
not_found = 3

-- the context names no position of the key
abbrev pub bad_context : ℕ
bad_context = 4

-- the key would have more siblings than the limit
abbrev pub too_many_siblings : ℕ
too_many_siblings = 5

-- what the register leaves free, since it has neither clocks nor memory: the key's clock would have too many actors
abbrev pub clock_full : ℕ
clock_full = 6

-- no epoch is left for a new life of the key
abbrev pub epochs_used_up : ℕ
epochs_used_up = 7

-- no counter is left for the key's life
abbrev pub counter_used_up : ℕ
counter_used_up = 8

-- a growth was refused
abbrev pub no_memory : ℕ
no_memory = 9

-- the text of the error for a refusal, by its number
abbrev pub refusal_text : ℕ → Text
refusal_text number =
    if number == match_found then texts.MatchFound
    else if number == modified then texts.Modified
    else if number == not_found then texts.NotFound
    else if number == bad_context then texts.BadContext
    else if number == too_many_siblings then texts.TooManySiblings
    else if number == clock_full then texts.ClockFull
    else if number == epochs_used_up then texts.EpochsUsedUp
    else if number == counter_used_up then texts.CounterUsedUp
    else texts.NoMemory

-- whether a refusal is one of the last four
abbrev pub is_free : ℕ → Bool
is_free number = nat_le clock_full number && nat_le number no_memory

-- how many siblings a key has at most
abbrev pub max_siblings : ℕ
max_siblings = 64

-- the number of the first check that holds
abbrev pub first_of : List (Bool × ℕ) → Option ℕ
first_of [] = None
first_of (check ∷ checks) = if check.0 then Some check.1 else first_of checks

-- The checks of a put are answered in one order, which is decided here; whoever speaks of them cites these two lists. First comes
-- `bad_context`, then what the options ask, then `too_many_siblings`, then what there is no room for at the actor that writes.
abbrev pub option_checks : (if_none_match if_not_modified is_present is_named : Bool) → List (Bool × ℕ)
option_checks if_none_match if_not_modified is_present is_named =
    let asks_not_modified = if_not_modified && not if_none_match in
    (if_none_match && is_present, match_found)
    ∷ (asks_not_modified && not is_present, not_found)
    ∷ (asks_not_modified && not is_named, modified) ∷ []

abbrev pub actor_checks : (is_full is_out_of_epochs is_out_of_counters : Bool) → List (Bool × ℕ)
actor_checks is_full is_out_of_epochs is_out_of_counters =
    (is_full, clock_full) ∷ (is_out_of_epochs, epochs_used_up) ∷ (is_out_of_counters, counter_used_up) ∷ []
