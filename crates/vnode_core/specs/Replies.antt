-- What a vnode answers, by what is stored of the key.
use Rattle.std.specs.Prelude.{◌≡◌, Bool, true, false, not, ◌||◌, if◌then◌else◌, ℕ, List, [], ◌∷◌, map, is_some, unwrap_or, Option, Some, None, IsTrue}
use Rattle.std.specs.Option.{option_map_or}
use Rattle.std.specs.Borrow.{Bor}
use Rattle.std.specs.List.{list_any}
use Rattle.riak_msgs.specs.Contents.{Content, shown}
use Rattle.riak_msgs.specs.declared.GetAsk.{GetAsk}
use Rattle.riak_msgs.specs.declared.GetReply.{GetReply}
use Rattle.riak_msgs.specs.declared.PutAsk.{PutAsk}
use Rattle.riak_msgs.specs.declared.PutReply.{PutReply}
use Rattle.riak_msgs.specs.declared.Shown.{Shown}
use Rattle.riak_msgs.specs.declared.Text.TheVariants as texts
use Rattle.riak_msgs.specs.declared.Reply.{Reply}
use Rattle.riak_msgs.specs.declared.Reply.TheVariants as replies
use Rattle.vnode_core.specs.declared.ask.Answer.{Answer}
use Rattle.vnode_core.specs.declared.ask.Answer.TheVariants as answers
use Rattle.clock_store.specs.declared.stored_clock.StoredClock.{StoredClock}
use Rattle.actor_epoch.specs.declared.Actor.{Actor}
use Rattle.actor_epoch.specs.declared.Dot.{Dot}
use Rattle.actor_epoch.specs.Contexts.{encoding, is_well_formed}
use Rattle.actor_epoch.specs.Given.{Context, Malformed, Pairs, context_of}
use Rattle.dvv_set.specs.Clocks.{DotState, event}
use Rattle.dvv_set.specs.Held.{IsWithin, known_after, known_with, without}
use Rattle.dvv_set.specs.References.{referred, with_values}
use Rattle.vnode_machine.specs.Machine.{Stored, same_pairs}

-- the reply for an answer. No request asks for a reap, which is replied to as a delete is; nor for a copy or a close, and of a
-- vnode that is closed the caller's partition has moved on
abbrev pub answer_reply : Answer → Reply
answer_reply (answers.Put reply) = replies.Put reply
answer_reply answers.Del = replies.Del
answer_reply (answers.Reaped reaped) = replies.Del
answer_reply answers.Copied = replies.Error texts.Moved
answer_reply answers.Stuck = replies.Error texts.Moved
answer_reply answers.Closed = replies.Error texts.Moved

-- a reply that shows nothing
abbrev pub nothing : GetReply
nothing = record { contents = []; context = []; unchanged = false }

-- a reply that nothing changed
abbrev pub unchanged : GetReply
unchanged = record { contents = []; context = []; unchanged = true }

-- the reply of a put that shows nothing
abbrev pub nothing_after : PutReply
nothing_after = record { contents = []; context = [] }

-- a key's siblings as a reply shows them
abbrev pub all_shown : (is_bare : Bool) → DotState (Option Content) → List Shown
all_shown is_bare clock = map (λ entry. shown is_bare entry.1) clock.live

-- the siblings of a key, where a reply shows them
abbrev pub shown_siblings : (is_bare : Bool) → Option (Bor StoredClock) → List Shown
shown_siblings is_bare key = option_map_or (λ k. all_shown is_bare k.now.clock.meaning) key []

-- the bytes of a key's context, where a reply shows it
abbrev pub shown_context : Option (Bor StoredClock) → List ℕ
shown_context key = option_map_or (λ k. encoding k.now.clock.meaning.known) key []

-- the reply of a put, by the clock of its key after it
abbrev pub reply_after : DotState (Option Content) → PutAsk → PutReply
reply_after clock put =
    if put.return_body || put.return_head
    then record { contents = all_shown (not put.return_body) clock; context = encoding clock.known }
    else nothing_after

-- a reference to a sibling, or none in the place of a content that is written
abbrev pub filled : Content → Option (Bor (Option Content)) → Option Content
filled content sibling = unwrap_or (referred sibling) (Some content)

-- the clock of a key that was found or not
abbrev pub clock_found : Option (Stored Content) → DotState (Option Content)
clock_found found = option_map_or (λ s. s.clock) found (record { known = []; live = [] })

-- it as a put leaves it
abbrev pub clock_after : Option (Stored Content) → Option (List Dot) → Actor → Content
    → DotState (Option Content)
clock_after found seen actor content =
    event actor (Some content) (without seen (clock_found found))

-- a clock that knows one dot, at which a content is live
abbrev pub sole : Dot → Content → DotState (Option Content)
sole dot content = record { known = dot ∷ []; live = (dot, Some content) ∷ [] }

-- references to the siblings of a clock, and to all of them
abbrev pub RefersTo : DotState (Option (Bor (Option Content))) → DotState (Option Content) → Type 0
RefersTo references clock = with_values referred references ≡ with_values (λ s. Some s) clock

-- a clock of references that is, whatever content is put, the key's as the put leaves it
abbrev pub Previews : DotState (Option (Bor (Option Content))) → Option (Stored Content)
    → Option (List Dot) → Actor → Type 0
Previews after found seen actor =
    (content : Content) → with_values (filled content) after ≡ clock_after found seen actor content

-- the clock of a key has room for a put, and then pairs of the form
pub record FitsPut (found : Option (Stored Content)) (seen : Option (List Dot)) (actor : Actor) : Type 0 where
  pub within : IsWithin (clock_found found).known seen actor
  pub form : IsTrue (is_well_formed (known_after actor (known_with seen (clock_found found).known)))

-- whether a given context is the stored key's
abbrev pub is_its : Stored Content → Option Context → Bool
is_its s None = false
is_its s (Some Malformed) = false
is_its s (Some (Pairs pairs)) = same_pairs pairs s.clock.known

-- the reply that shows the siblings of a stored key and its context, or that nothing changed; of a
-- dead one no sibling, and the context where it is asked for
abbrev pub siblings_of : Stored Content → GetAsk → GetReply
siblings_of s ask =
    let context = encoding s.clock.known in
    let siblings = all_shown ask.head s.clock in
    if list_any (λ entry. is_some entry.1) s.clock.live
    then (if is_its s (context_of ask.if_modified)
    then record { contents = []; context = []; unchanged = true }
    else record { contents = siblings; context = context; unchanged = false })
    else record {
      contents = [];
      context = if ask.deletedvclock then context else [];
      unchanged = false;
    }
