-- What a stored key shows.
use Rattle.std.proofs.Common.{◌≡◌, Bool, true, false, not, ◌&&◌, [], refl, ◌∙◌, map}
use Rattle.std.specs.Prelude.{Option, Some, None, is_some, if◌then◌else◌}
use Rattle.std.specs.List.{list_any}
use Rattle.riak_msgs.specs.declared.Key.{Key}
use Rattle.riak_msgs.specs.Contents.{Content, shown}
use Rattle.riak_msgs.specs.declared.GetAsk.{GetAsk}
use Rattle.riak_msgs.specs.declared.GetReply.{GetReply}
use Rattle.actor_epoch.specs.Contexts.{encoding}
use Rattle.actor_epoch.specs.Given.{Context, Malformed, Pairs, context_of}
use Rattle.vnode_machine.specs.Asks.{get_command}
use Rattle.vnode_machine.specs.Machine.{State, Stored, stored, matches_clock}
use Rattle.vnode_machine.specs.Replies.{get_reply}
use Rattle.vnode_machine.proofs.Invariants.{clock_in}
use Rattle.vnode_core.specs.Replies.{nothing, is_its, siblings_of}

-- a get of an absent key
pub get-absent : (state : State Content) (ask : GetAsk) → stored state ask.key ≡ None → get_reply state (get_command ask) ≡ nothing
get-absent state ask h = rw h refl

current-its : (state : State Content) (key : Key) (s : Stored Content) (given : Option Context) → stored state key ≡ Some s → matches_clock state key given ≡ is_its s given
current-its state key s None h = refl
current-its state key s (Some Malformed) h = refl
current-its state key s (Some (Pairs pairs)) h = rw h refl

-- the reply by what is stored, and by whether the given context is the key's
abbrev reply_by : GetAsk → Option (Stored Content) → Bool → GetReply
reply_by ask o current =
    if not (is_some o) then record { contents = []; context = []; unchanged = false }
    else if is_some o && not (list_any (λ entry. is_some entry.1) (clock_in o).live)
    then record { contents = []; context = if ask.deletedvclock then encoding (clock_in o).known else []; unchanged = false }
    else if current then record { contents = []; context = []; unchanged = true }
    else record { contents = map (λ entry. shown ask.head entry.1) (clock_in o).live; context = encoding (clock_in o).known; unchanged = false }

-- a get of a stored key
pub get-stored : (state : State Content) (ask : GetAsk) (s : Stored Content) → stored state ask.key ≡ Some s → get_reply state (get_command ask) ≡ siblings_of s ask
get-stored state ask s h =
    (λ i. reply_by ask (h i) (current-its state ask.key s (context_of ask.if_modified) h i))
    ∙ by (list_any (λ entry. is_some entry.1) s.clock.live) (is_its s (context_of ask.if_modified))
    (record { contents = []; context = if ask.deletedvclock then encoding s.clock.known else []; unchanged = false })
    (record { contents = []; context = []; unchanged = true })
    (record { contents = map (λ entry. shown ask.head entry.1) s.clock.live; context = encoding s.clock.known; unchanged = false })
  where
    by : (value current : Bool) (dead same all : GetReply)
        → (if not value then dead else if current then same else all) ≡ (if value then (if current then same else all) else dead)
    by true true dead same all = refl
    by true false dead same all = refl
    by false current dead same all = refl
