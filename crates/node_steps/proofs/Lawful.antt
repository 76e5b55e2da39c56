-- A course's commands of a key at the primary are accepted as the register accepts them over the numbers of all sides.
use Rattle.std.proofs.Common.{◌≡◌, ◌<◌, Bool, true, false, cond, [], ◌∷◌, refl, sym, ◌∙◌, subst}
use Rattle.std.specs.Prelude.{Option, Some, None}
use Rattle.riak_msgs.specs.declared.Key.{Key}
use Rattle.riak_msgs.specs.Contents.{Content}
use Rattle.riak_msgs.specs.KeyOrder.{key_eq}
use Rattle.sibling_register.specs.History.{Event, Operation, Write, Tombstone, Reap, is_update}
use Rattle.actor_epoch.specs.Given.{Context}
use Rattle.vnode_machine.specs.Machine.{State, is_bad_context, has_too_many_siblings, has_too_many_actors, is_out_of_epochs, is_out_of_counters, update_check}
use Rattle.vnode_machine.specs.Replay.{AcceptsEvent}
use Rattle.vnode_machine.proofs.Keys.{key_eq-same}
use Rattle.vnode_machine.proofs.Puts.{rooms_of}
use Rattle.copy_laws.specs.Sides.{Partition}
use Rattle.copy_laws.specs.CopyReplay.{primary_after, seen_at}
use Rattle.copy_laws.specs.Joining.{Log}
use Rattle.copy_laws.specs.Diversions.{Course, AtPrimary, Divert, AtFallback, CopyBack, Return, primary_of, fallback_of, HappensTo}
use Rattle.copy_laws.specs.JointAnswers.{update_at, has_too_many_at}
use Rattle.copy_laws.specs.LegalLogs.{IsLegalLog}
use Rattle.copy_laws.proofs.Clocks.{taken_pairs}
use Rattle.copy_laws.proofs.Held.{joined-at}
use Rattle.copy_laws.proofs.LegalCourses.{courses_are_legal}
use Rattle.copy_laws.proofs.JointSights.{crowded-same}
use Rattle.copy_laws.proofs.JointAnswers.{held-same, shows, courses_reap_dead}
use Rattle.node_steps.specs.Told.{AcceptsBy, IsLegalOver}

-- what is accepted is not crowded
uncrowded : (bad crowded full epochs counters : Bool) → cond bad (Some 4) (rooms_of crowded full epochs counters) ≡ None → crowded ≡ false
uncrowded true crowded full epochs counters h = cc
uncrowded false true full epochs counters h = cc
uncrowded false false full epochs counters h = refl

module _ (partition : Partition) (ids : partition.primary < partition.fallback) where
  module _ (course : Course) (key : Key) (happens : HappensTo partition key course) where
    abbrev log : Log
    log = primary_of partition course

    abbrev state : State Content
    state = primary_after partition log

    legal : IsLegalLog partition log (fallback_of course) key
    legal = courses_are_legal partition course ids key happens

    fits : (given : Option Context) (operation : Operation Content) → is_update operation ≡ true
        → update_check state key given (taken_pairs state key given operation) ≡ None → has_too_many_at partition log (update_at partition log key given operation) ≡ false
    fits given operation update none =
        let pairs = taken_pairs state key given operation in
        sym (crowded-same partition log key (joined-at partition log (fallback_of course) key legal [] log refl) given operation update (shows partition log (fallback_of course) key legal))
        ∙ uncrowded (is_bad_context state key given) (has_too_many_siblings state key pairs) (has_too_many_actors state key pairs) (is_out_of_epochs state key) (is_out_of_counters state key) none

  accepts : (course : Course) (event : Event Content Context) → HappensTo partition event.key course → (given : Option Context) → event.context ≡ given → (operation : Operation Content)
      → AcceptsEvent (primary_after partition (primary_of partition course)) event.key given operation → update_at partition (primary_of partition course) event.key given operation ≡ event
      → AcceptsBy partition (primary_of partition course) event operation
  accepts course event happens given c (Write content) h e =
      subst (λ (x : Event Content Context). has_too_many_at partition (primary_of partition course) x ≡ false) e (fits course event.key happens given (Write content) refl h)
  accepts course event happens None c Tombstone h e = (
    subst (λ (x : Event Content Context). has_too_many_at partition (primary_of partition course) x ≡ false) e (fits course event.key happens None Tombstone refl h.1),
    λ none. sym (held-same partition (primary_of partition course) (fallback_of course) event.key (legal course event.key happens)) ∙ h.0,
  )
  accepts course event happens (Some context) c Tombstone h e = (
    subst (λ (x : Event Content Context). has_too_many_at partition (primary_of partition course) x ≡ false) e (fits course event.key happens (Some context) Tombstone refl h),
    λ none. absurd (given_none context (sym c ∙ none)),
  )
    where
      given_none : (context : Context) → Some context ≡ None → ⊥
      given_none context h = cc
  accepts course event happens None c Reap h e = sym (courses_reap_dead partition course ids event.key happens) ∙ h
  accepts course event happens (Some context) c Reap h e = absurd h

  pub legal-over : (key : Key) (course : Course) → HappensTo partition key course → IsLegalOver partition key (primary_of partition course)
  legal-over key [] h = tt
  legal-over key (AtPrimary event ∷ before) h = (legal-over key before h.0, by)
    where
      by : key_eq event.key key ≡ true
          → (event.saw ≡ seen_at partition (primary_of partition before) event.key event.context event.operation) × AcceptsBy partition (primary_of partition before) event event.operation
      by itself =
          let saw : event.saw ≡ seen_at partition (primary_of partition before) event.key event.context event.operation = (h.2 itself).0 in
          let same : update_at partition (primary_of partition before) event.key event.context event.operation ≡ event =
          (λ i. record { key = event.key; operation = event.operation; context = event.context; saw = sym saw i }) in
          let own : HappensTo partition event.key before = subst (λ k. HappensTo partition k before) (sym (key_eq-same event.key key itself)) h.0 in
          (saw, accepts before event own event.context refl event.operation h.1.1 same)
  legal-over key (Divert ∷ before) h = legal-over key before h.0
  legal-over key (AtFallback event ∷ before) h = legal-over key before h.0
  legal-over key (CopyBack at ∷ before) h = legal-over key before h.0
  legal-over key (Return ∷ before) h = legal-over key before h.0
