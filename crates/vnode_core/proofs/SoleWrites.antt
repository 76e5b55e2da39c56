-- A write of a key that its own actor alone has written, by a context that names no other: it is refused by few checks.
use Rattle.std.proofs.Common.{◌≡◌, ℕ, ◌+◌, Bool, true, false, not, ◌||◌, ◌&&◌, List, [], ◌∷◌, length, refl, sym, ◌∙◌, ap, subst, arith}
use Rattle.std.specs.Prelude.{max, if◌then◌else◌, ◌==◌, Option, Some, None, is_some, nat_le, unwrap_or, option_and_then}
use Rattle.std.specs.Option.{option_map}
use Rattle.std.specs.List.{list_all, list_any}
use Rattle.std.specs.FinMap.Entries.{by_order}
use Rattle.std.proofs.lemmas.Bool.{true≢false}
use Rattle.riak_msgs.specs.declared.Key.{Key}
use Rattle.riak_msgs.specs.Contents.{Content}
use Rattle.riak_msgs.specs.declared.PutAsk.{PutAsk}
use Rattle.sibling_register.specs.Refusals.{bad_context, max_siblings, first_of, option_checks}
use Rattle.actor_epoch.specs.declared.Actor.{Actor}
use Rattle.actor_epoch.specs.declared.Dot.{Dot}
use Rattle.actor_epoch.specs.Limits.{max_epoch, max_counter}
use Rattle.actor_epoch.specs.Dots.{counter_in, insert_max, union}
use Rattle.actor_epoch.specs.Contexts.{is_rising}
use Rattle.actor_epoch.specs.Given.{Pairs, context_of}
use Rattle.dvv_set.specs.Clocks.{DotState}
use Rattle.dvv_set.specs.Held.{actors_after, known_after, uncovered}
use Rattle.dvv_set.specs.Soles.{SawAlone}
use Rattle.dvv_set.proofs.Discards.{discard-all}
use Rattle.vnode_machine.specs.Machine.{State, Stored, stored, next_actor, room_checks}
use Rattle.vnode_core.specs.Checks.{pairs_in, is_ahead, last_dot, has_value_in, is_current_in, options_check, next_writer, siblings_check, writer_check, writer_of}
use Rattle.vnode_core.specs.Soles.{IsSole, IsSeenAlone, IsFree, IsFreePut}
use Rattle.vnode_core.specs.Vnodes.{del_check_by}
use Rattle.vnode_core.specs.declared.checks.Writer.{Writer}
use Rattle.vnode_core.proofs.Options.{bad-is, rooms-follow}
use Rattle.vnode_core.proofs.Rooms.{check_of, siblings-free, actor-free, writer-checks}
use Rattle.vnode_core.proofs.Soles.{alone, actor_cmp-refl, counter_in-alone}

-- one pair more of the actor that alone is known
insert_max-same : (a : Actor) (n m : ℕ) → insert_max (record { actor = a; counter = n }) (alone a m) ≡ alone a (max n m)
insert_max-same a n m =
    ap (λ o. by_order o (record { actor = a; counter = n } ∷ alone a m) (alone a (max n m)) (record { actor = a; counter = m } ∷ insert_max (record { actor = a; counter = n }) [])) (actor_cmp-refl a)

one-after : (a : Actor) (n : ℕ) → length (known_after a (alone a n)) ≡ 1
one-after a n = ap length (insert_max-same a (counter_in (alone a n) a + 1) n)

one-actor : (a : Actor) (n : ℕ) (seen : Option (List Dot)) (m : ℕ) → SawAlone seen a m → actors_after (alone a n) seen a ≡ 1
one-actor a n None m is = one-after a n
one-actor a n (Some pairs) m is =
    ap (λ ps. length (known_after a (union (alone a n) ps))) is
    ∙ ap (λ ps. length (known_after a ps)) (insert_max-same a n m)
    ∙ one-after a (max n m)

-- a put without conditions is refused by none
pub no-conditions : (put : PutAsk) (o : Option (Stored Content)) (seen : Option (List Dot)) → (put.if_none_match || put.if_not_modified) ≡ false → options_check put o seen ≡ None
no-conditions put o seen h = by put.if_none_match put.if_not_modified h
  where
    by : (a b : Bool) → (a || b) ≡ false → first_of (option_checks a b (has_value_in o) (is_current_in o seen)) ≡ None
    by true b h = cc
    by false true h = cc
    by false false h = refl

-- a key whose own actor alone has written it
module _ (s : Stored Content) (last : Dot) (sole : IsSole s last) where
  last-is : last_dot (Some s) ≡ Some last
  last-is =
      (λ i. option_map (λ (own : Actor). (let d : Dot = record { actor = own; counter = counter_in (sole.known i) own } in d)) (sole.own i))
      ∙ ap (λ n. (let d : Dot = record { actor = last.actor; counter = n } in Some d)) (counter_in-alone last.actor last.counter)

  actor-left : (id last_epoch : ℕ) (seen : Option (List Dot)) (m : ℕ) → SawAlone seen last.actor m → (last.counter ≡ max_counter → ⊥) → writer_check id last_epoch s seen ≡ None
  actor-left id last_epoch seen m saw left =
      (λ i. check_of (actors_after (sole.known i) seen (next_writer id last_epoch (sole.own i)).actor) (counter_in (sole.known i) (next_writer id last_epoch (sole.own i)).actor)
      (not (is_some (sole.own i)) && (last_epoch == max_epoch)))
      ∙ (λ i. check_of (one-actor last.actor last.counter seen m saw i) (counter_in-alone last.actor last.counter i) false)
      ∙ actor-free 1 last.counter (omega arith) left

  -- a context that has seen the last dot leaves no sibling
  pub none-left : (seen : Option (List Dot)) (m : ℕ) → SawAlone seen last.actor m → m ≡ last.counter → siblings_check s.clock seen ≡ None
  none-left None m zero is = absurd (some last.counter (sym is ∙ zero) (subst (λ ps. list_all (λ (pair : Dot). nat_le 1 pair.counter) ps ≡ true) sole.known sole.clock.positive))
    where
      some : (n : ℕ) → n ≡ 0 → (nat_le 1 n && true) ≡ true → ⊥
      some n e h = true≢false (sym h ∙ ap (λ n. nat_le 1 n && true) e)
  none-left (Some pairs) m saw is =
      let all : pairs ≡ s.clock.known = saw ∙ ap (alone last.actor) is ∙ sym sole.known in
      siblings-free (uncovered pairs s.clock)
      (ap (λ ps. nat_le max_siblings (uncovered ps s.clock)) all ∙ ap (λ (clock : DotState (Option Content)). nat_le max_siblings (length clock.live)) (discard-all s.clock sole.clock))

  module _ (state : State Content) (key : Key) (found : stored state key ≡ Some s) where
    writer-is : writer_of state key ≡ record { actor = last.actor; last_epoch = state.last_epoch }
    writer-is =
        (λ i. (let w : Writer = record {
          actor = unwrap_or (option_and_then (λ (s : Stored Content). s.own) (found i)) (next_actor state);
          last_epoch = if is_some (option_and_then (λ (s : Stored Content). s.own) (found i)) then state.last_epoch else state.last_epoch + 1;
        } in w))
        ∙ (λ i. (let w : Writer = record {
          actor = unwrap_or (sole.own i) (next_actor state);
          last_epoch = if is_some (sole.own i) then state.last_epoch else state.last_epoch + 1;
        } in w))

    -- no check refuses it that isn't decided by that dot and the number of its siblings
    pub sole-free : (id last_epoch : ℕ) (seen : Option (List Dot)) (m : ℕ) → IsSeenAlone id last_epoch last seen m → siblings_check s.clock seen ≡ None → (last.counter ≡ max_counter → ⊥)
        → state.vnode ≡ id → state.last_epoch ≡ last_epoch → IsFree state key (Some s) seen (record { actor = last.actor; last_epoch = last_epoch })
    sole-free id last_epoch seen m is siblings left vnode epoch =
        let checks = writer-checks state key id last_epoch s (record { stored = found; vnode = vnode; epoch = epoch }) seen (ap is_rising sole.known) siblings in
        record {
          read = is.read;
          behind = (λ i. list_any (is_ahead (vnode i) (epoch i) (last-is i)) (pairs_in seen)) ∙ is.behind;
          room = sym checks ∙ actor-left id last_epoch seen m is.alone left;
          makes = sym (writer-is ∙ (λ i. (let w : Writer = record { actor = last.actor; last_epoch = epoch i } in w)));
        }

-- so a put without conditions goes on
pub put-free : (state : State Content) (put : PutAsk) (seen : Option (List Dot)) → context_of put.context ≡ option_map Pairs seen → (put.if_none_match || put.if_not_modified) ≡ false
    → (o : Option (Stored Content)) → stored state put.key ≡ o → (writer : Writer) → IsFree state put.key o seen writer → IsFreePut state put writer
put-free state put seen given plain o found writer is =
    record { free = rooms-follow state put seen given is.read o (sym found) is.behind (no-conditions put o seen plain) ∙ is.room; makes = is.makes }

-- and a delete by its context
pub del-free : (state : State Content) (key : Key) (pairs : List Dot) (o : Option (Stored Content)) → stored state key ≡ o → (writer : Writer) → IsFree state key o (Some pairs) writer
    → del_check_by state key pairs ≡ None
del-free state key pairs o found writer is =
    ap (λ b. first_of ((b, bad_context) ∷ room_checks state key pairs)) (bad-is state key (Some (Pairs pairs)) (Some pairs) refl is.read o (sym found) ∙ is.behind) ∙ is.room
