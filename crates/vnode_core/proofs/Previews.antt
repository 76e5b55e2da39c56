-- A clock of references after a write, with a content in the place of none.
use Rattle.std.proofs.Common.{◌≡◌, ℕ, true, not, ◌||◌, List, [], ◌∷◌, refl, sym, ◌∙◌, ap, map}
use Rattle.std.specs.Prelude.{if◌then◌else◌, Option, Some, None, unwrap_or}
use Rattle.std.specs.Borrow.{Bor}
use Rattle.std.proofs.lemmas.Simd.{map-map}
use Rattle.riak_msgs.specs.Contents.{Content, shown}
use Rattle.riak_msgs.specs.declared.Shown.{Shown}
use Rattle.riak_msgs.specs.declared.PutAsk.{PutAsk}
use Rattle.riak_msgs.specs.declared.PutReply.{PutReply}
use Rattle.actor_epoch.specs.Contexts.{encoding}
use Rattle.actor_epoch.specs.declared.Actor.{Actor}
use Rattle.actor_epoch.specs.declared.Dot.{Dot}
use Rattle.dvv_set.specs.Clocks.{DotState, event}
use Rattle.dvv_set.specs.Held.{known_after, known_with, without}
use Rattle.dvv_set.specs.References.{referred, with_values}
use Rattle.dvv_set.proofs.References.{event-with, without-with}
use Rattle.vnode_core.specs.Replies.{filled, nothing_after, reply_after}

module _ (content : Content) where
  abbrev filled_in : Option (Option Content) → Option Content
  filled_in sibling = unwrap_or sibling (Some content)

  -- references that are all there
  same-live : (live : List (Dot × Option Content)) → map (λ entry. (entry.0, filled_in (Some entry.1))) live ≡ live
  same-live [] = refl
  same-live (entry ∷ live) = ap (λ entries. entry ∷ entries) (same-live live)

  filled-refs : (refs : DotState (Option (Bor (Option Content)))) (clock : DotState (Option Content)) → with_values referred refs ≡ with_values (λ value. Some value) clock
      → with_values (filled content) refs ≡ clock
  filled-refs refs clock same =
      (λ i. record { known = refs.known; live = sym (map-map (λ (entry : Dot × Option (Option Content)). (entry.0, filled_in entry.1)) (λ (entry : Dot × Option (Bor (Option Content))). (entry.0, referred entry.1)) refs.live) i })
      ∙ ap (with_values filled_in) same
      ∙ (λ i. record { known = clock.known; live = (map-map (λ (entry : Dot × Option (Option Content)). (entry.0, filled_in entry.1)) (λ (entry : Dot × Option Content). (let r : Dot × Option (Option Content) = (entry.0, Some entry.1) in r)) clock.live ∙ same-live clock.live) i })

  pub preview-is : (actor : Actor) (seen : Option (List Dot)) (refs after : DotState (Option (Bor (Option Content)))) (clock : DotState (Option Content))
      → with_values referred refs ≡ with_values (λ value. Some value) clock → after ≡ event actor None (without seen refs)
      → with_values (filled content) after ≡ event actor (Some content) (without seen clock)
  preview-is actor seen refs after clock same is =
      ap (with_values (filled content)) is
      ∙ event-with (filled content) actor None (without seen refs)
      ∙ ap (λ (m : DotState (Option Content)). event actor (Some content) m) (without-with (filled content) seen refs ∙ ap (λ (m : DotState (Option Content)). without seen m) (filled-refs refs clock same))

-- the reply to a put that shows siblings
pub reply-is : (content : Content) (put : PutAsk) → put.content ≡ content → (seen : Option (List Dot)) (actor : Actor) (clock : DotState (Option Content)) (after : DotState (Option (Bor (Option Content))))
    → with_values (filled content) after ≡ event actor (Some content) (without seen clock) → (put.return_body || put.return_head) ≡ true
    → (contents : List Shown) (context : List ℕ) → contents ≡ map (λ entry. shown (not put.return_body) (filled content entry.1)) after.live → context ≡ encoding after.known
    → ◌≡◌ {A = PutReply} (record { contents = contents; context = context }) (reply_after (event actor (Some content) (without seen clock)) put)
reply-is content put same seen actor clock after is shows contents context cs ds =
    let next : DotState (Option Content) = event actor (Some content) (without seen clock) in
    let show : Option Content → Shown = λ sibling. shown (not put.return_body) sibling in
    let shown-are : contents ≡ map (λ entry. show entry.1) next.live =
    cs ∙ sym (map-map (λ (entry : Dot × Option Content). show entry.1) (λ (entry : Dot × Option (Bor (Option Content))). (entry.0, filled content entry.1)) after.live)
    ∙ ap (λ (m : DotState (Option Content)). map (λ entry. show entry.1) m.live) is in
    let context-is : context ≡ encoding next.known = ds ∙ ap (λ (m : DotState (Option Content)). encoding m.known) is in
    (λ i. record { contents = shown-are i; context = context-is i })
    ∙ ap (λ b. let r : PutReply = if b then record { contents = map (λ entry. show entry.1) next.live; context = encoding next.known } else nothing_after in r) (sym shows)

-- what is known after a write
pub known-event : {V : Type 0} (own : Actor) (value : V) (seen : Option (List Dot)) (clock : DotState V) → (event own value (without seen clock)).known ≡ known_after own (known_with seen clock.known)
known-event own value None clock = refl
known-event own value (Some pairs) clock = refl
