-- A delete: what the machine makes of it by what was found, and what it writes.
use Rattle.std.proofs.Common.{◌≡◌, Bool, true, false, ◌&&◌, List, [], ◌∷◌, refl, sym, ◌∙◌, ap, subst}
use Rattle.std.specs.Prelude.{◌≤◌, ◌<◌, nat_le, nat_lt, ◌^◌, Option, Some, None, length, option_map, IsTrue}
use Rattle.std.specs.List.{list_all}
use Rattle.riak_msgs.specs.declared.Key.{Key}
use Rattle.riak_msgs.specs.Contents.{Content}
use Rattle.riak_msgs.specs.declared.DelAsk.{DelAsk}
use Rattle.sibling_register.specs.Answers.{AskDel}
use Rattle.actor_epoch.specs.declared.Actor.{Actor}
use Rattle.actor_epoch.specs.declared.Dot.{Dot}
use Rattle.actor_epoch.specs.Limits.{max_epoch, max_counter, max_actors}
use Rattle.actor_epoch.specs.Dots.{counter_in}
use Rattle.actor_epoch.specs.Contexts.{is_within_limits}
use Rattle.actor_epoch.specs.Given.{Context, Malformed, Pairs, context_of, pairs_read}
use Rattle.dvv_set.specs.Clocks.{DotState, discard, event}
use Rattle.dvv_set.specs.Held.{IsWithin, known_after}
use Rattle.dvv_set.proofs.Discards.{union-itself}
use Rattle.vnode_machine.specs.Asks.{del_command}
use Rattle.vnode_machine.specs.Machine.{State, Stored, clock_of, actor_for, del_pairs, updated}
use Rattle.vnode_machine.specs.Step.{MachineOutcome, Refused, del_step}
use Rattle.vnode_machine.proofs.Formed.{sound-next}
use Rattle.vnode_machine.proofs.Seen.{form-within}
use Rattle.vnode_machine.proofs.Tests.{and_left, and_right, and_both}
use Rattle.vnode_core.specs.declared.ask.Ask.TheVariants.{Del}
use Rattle.vnode_core.specs.declared.ask.Answer.{Answer}
use Rattle.vnode_machine.specs.Sound.{IsForm, IsFormed, IsSound}
use Rattle.vnode_core.specs.Plans.{StepsOpen}
use Rattle.clock_store.specs.Keys.{deleted}
use Rattle.vnode_core.specs.Vnodes.{state_after}
use Rattle.vnode_core.proofs.Putting.{find-next}
use Rattle.vnode_core.proofs.Sound.{known-at}

-- a delete of a key by what was given as its context
abbrev step_by : State Content → Key → Option Context → MachineOutcome
step_by state key given = del_step state (record { key = key; context = given })

-- the context of a delete that the machine accepts is not malformed
pub not-malformed : (state : State Content) (del : DelAsk) (answer : Answer) (next : State Content) → StepsOpen state (Del del) answer next → context_of del.context ≡ Some Malformed → ⊥
not-malformed state del answer next step reads =
    let refused : step_by state del.key (Some Malformed) ≡ Refused 4 = refl in
    let both = sym refused ∙ ap (step_by state del.key) (sym reads) ∙ step.1 in
    cc

-- its tombstone is written as the machine has it
pub written-del : (state : State Content) (key : Key) (given : Option Context) → (given ≡ Some Malformed → ⊥)
    → deleted state.keys key (pairs_read given) (actor_for state key) ≡ updated state key (del_pairs state key given) None
written-del state key None sound = refl
written-del state key (Some Malformed) sound = absurd (sound refl)
written-del state key (Some (Pairs pairs)) sound = refl

-- pairs within limits have counters from 1 on
positive : (pairs : List Dot) → IsTrue (list_all is_within_limits pairs) → IsTrue (list_all (λ pair. nat_le 1 pair.counter) pairs)
positive [] h = refl
positive (pair ∷ pairs) h =
    and_both (nat_le 1 pair.counter) (list_all (λ pair. nat_le 1 pair.counter) pairs)
    (first (nat_lt pair.actor.vnode (2 ^ 64)) (nat_le 1 pair.actor.epoch && nat_le pair.actor.epoch max_epoch) (nat_le 1 pair.counter) (nat_le pair.counter max_counter)
    (and_left (is_within_limits pair) (list_all is_within_limits pairs) h))
    (positive pairs (and_right (is_within_limits pair) (list_all is_within_limits pairs) h))
  where
    first : (a b c d : Bool) → (a && (b && (c && d))) ≡ true → c ≡ true
    first true true c d h = and_left c d h
    first true false c d h = cc
    first false b c d h = cc

-- a delete that the machine accepts
module _ (state : State Content) (is : IsSound state) (del : DelAsk) (answer : Answer) (step : StepsOpen state (Del del) answer (state_after state (Del del))) where
  abbrev own : Actor
  own = actor_for state del.key

  abbrev clock : DotState (Option Content)
  clock = clock_of state del.key

  abbrev next_by : Option Context → Stored Content
  next_by given = record { own = Some own; clock = event own None (discard (del_pairs state del.key given) clock) }

  -- what is stored next is of the form
  form-del : IsForm (next_by (context_of del.context))
  form-del =
      subst IsFormed (find-next del.key (next_by (context_of del.context)) state.keys)
      ((sound-next state is (AskDel (del_command del)) _ _ (state_after state (Del del)) step.1).keys del.key)

  of-all : IsForm (next_by None) → IsWithin clock.known None own
  of-all form =
      let within = form-within own None clock (Some clock.known) (known-at state is del.key).rising form in
      let known = union-itself clock.known (known-at state is del.key).rising (positive clock.known (known-at state is del.key).within) in
      record {
        few = subst (λ (ps : List Dot). length (known_after own ps) ≤ max_actors) known within.few;
        counter = subst (λ (ps : List Dot). counter_in ps own < max_counter) known within.counter;
      }

  -- so it is within the limits of its clock
  pub within-del : (seen : Option (List Dot)) → context_of del.context ≡ option_map Pairs seen → IsWithin clock.known seen own
  within-del None reads = of-all (subst (λ g. IsForm (next_by g)) reads form-del)
  within-del (Some pairs) reads = form-within own None clock (Some pairs) (known-at state is del.key).rising (subst (λ g. IsForm (next_by g)) reads form-del)
