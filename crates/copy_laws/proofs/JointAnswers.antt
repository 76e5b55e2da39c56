-- At the end of a legal log gets and reaps are answered as the register answers them, over sides and numbers; so in each course.
use Rattle.std.proofs.Common.{◌≡◌, Bool, true, false, not, ◌&&◌, cond, List, [], ◌∷◌, length, map, refl, sym, ◌∙◌, ap}
use Rattle.std.specs.Prelude.{Option, Some, None}
use Rattle.riak_msgs.specs.declared.Key.{Key}
use Rattle.riak_msgs.specs.declared.GetReply.{GetReply}
use Rattle.riak_msgs.specs.Contents.{Content, shown}
use Rattle.sibling_register.specs.Answers.{Told, Shown}
use Rattle.actor_epoch.specs.declared.Dot.{Dot}
use Rattle.actor_epoch.specs.Given.{Context, Malformed, Pairs}
use Rattle.dvv_set.specs.Clocks.{join}
use Rattle.vnode_machine.specs.Machine.{State, clock_of, is_held, holds_dead, matches_clock, same_pairs}
use Rattle.vnode_machine.specs.Replies.{contents_in, context_in, position_at}
use Rattle.copy_laws.specs.Copies.{brought}
use Rattle.copy_laws.specs.Sides.{Partition, Number, dot_at, content_at, siblings_at, is_defined_at, is_dead_at}
use Rattle.copy_laws.specs.CopyReplay.{primary_after}
use Rattle.copy_laws.specs.Joining.{Log, Fallbacks, ShowsSiblings}
use Rattle.copy_laws.specs.Diversions.{Course, primary_of, fallback_of}
use Rattle.copy_laws.specs.LegalLogs.{IsLegalLog, LogsAnswerGets, LogsReapDead}
use Rattle.copy_laws.specs.JointAnswers.{is_name_at, get_shown_at, CoursesAnswerGets, CoursesReapDead}
use Rattle.copy_laws.proofs.Held.{held-defined, shows-at}
use Rattle.copy_laws.proofs.LegalCourses.{courses_are_legal}
use Rattle.vnode_machine.proofs.Mirrors.{position-all}

map-map : {X Y Z : Type 0} (f : X → Y) (g : Y → Z) (xs : List X) → map g (map f xs) ≡ map (λ x. g (f x)) xs
map-map f g [] = refl
map-map f g (x ∷ xs) = λ i. g (f x) ∷ map-map f g xs i

module _ (partition : Partition) (log : Log) (fallbacks : Fallbacks) (key : Key) (legal : IsLegalLog partition log fallbacks key) where
  abbrev state : State Content
  state = primary_after partition log

  pub held-same : is_held state key ≡ is_defined_at partition log key
  held-same = held-defined partition log fallbacks key legal

  pub shows : ShowsSiblings partition log (brought log key) key log
  shows = shows-at partition log fallbacks key legal [] log refl

  pub dead-same : holds_dead state key ≡ is_dead_at partition log key
  dead-same = λ i. held-same i && not (shows.present i)

  pub name-same : (given : Option Context) → is_defined_at partition log key ≡ true → matches_clock state key given ≡ is_name_at partition log key given
  name-same None h = refl
  name-same (Some Malformed) h = refl
  name-same (Some (Pairs pairs)) h = ap (λ b. b && same_pairs pairs (join (clock_of state key))) (held-same ∙ h)

  pub contents-same : (bare : Bool) → contents_in state key bare ≡ map (λ number. shown bare (content_at partition log (brought log key) key number)) (siblings_at partition log key)
  contents-same bare =
      sym (map-map {Y = Option Dot × Option Content} (λ entry. (Some entry.0, entry.1)) (λ pair. shown bare pair.1) (clock_of state key).live)
      ∙ ap (map (λ (pair : Option Dot × Option Content). shown bare pair.1)) shows.live
      ∙ map-map {Y = Option Dot × Option Content} (λ number. (dot_at partition log (brought log key) key number, content_at partition log (brought log key) key number)) (λ pair. shown bare pair.1)
      (siblings_at partition log key)

  pub context-same : context_in state key ≡ context_in (primary_after partition (position_at log (length log))) key
  context-same = ap (λ t. context_in (primary_after partition t) key) (sym (position-all log))

pub logs_answer_gets : (partition : Partition) (log : Log) (fallbacks : Fallbacks) → LogsAnswerGets partition log fallbacks
logs_answer_gets partition log fallbacks get legal =
    by (is_held state get.key) (is_defined_at partition log get.key) (held-same partition log fallbacks get.key legal) refl (holds_dead state get.key) (is_dead_at partition log get.key)
    (dead-same partition log fallbacks get.key legal) (matches_clock state get.key get.if_modified) (is_name_at partition log get.key get.if_modified)
    (λ h. name-same partition log fallbacks get.key legal get.if_modified h) get.deletedvclock
  where
    state : State Content
    state = primary_after partition log

    context-here : context_in (primary_after partition log) get.key ≡ context_in (primary_after partition (position_at log (length log))) get.key
    context-here = context-same partition log fallbacks get.key legal

    reply : (held dead name wants : Bool) → GetReply
    reply held dead name wants =
        cond (not held) (record { contents = []; context = []; unchanged = false })
        (cond dead (record { contents = []; context = cond wants (context_in state get.key) []; unchanged = false })
        (cond name (record { contents = []; context = []; unchanged = true })
        (record { contents = contents_in state get.key get.head; context = context_in state get.key; unchanged = false })))

    told : (defined dead name wants : Bool) → Told Number
    told defined dead name wants =
        cond (not defined) (Shown [] None false false)
        (cond dead (cond wants (Shown [] (Some (length log)) false false) (Shown [] None false false))
        (cond name (Shown [] None true false) (Shown (siblings_at partition log get.key) (Some (length log)) false get.head)))

    by : (held defined : Bool) → held ≡ defined → is_defined_at partition log get.key ≡ defined → (dead dead' : Bool) → dead ≡ dead' → (name name' : Bool)
        → (is_defined_at partition log get.key ≡ true → name ≡ name') → (wants : Bool)
        → reply held dead name wants ≡ get_shown_at partition log get.key (told defined dead' name' wants)
    by false false e d dead dead' p name name' q wants = refl
    by true false e d dead dead' p name name' q wants = cc
    by false true e d dead dead' p name name' q wants = cc
    by true true e d true true p name name' q true = ap (λ c. record { contents = []; context = c; unchanged = false }) context-here
    by true true e d true true p name name' q false = refl
    by true true e d true false p name name' q wants = cc
    by true true e d false true p name name' q wants = cc
    by true true e d false false p true true q wants = refl
    by true true e d false false p true false q wants = let no = q d in cc
    by true true e d false false p false true q wants = let no = q d in cc
    by true true e d false false p false false q wants = λ i. record { contents = contents-same partition log fallbacks get.key legal get.head i; context = context-here i; unchanged = false }

pub logs_reap_dead : (partition : Partition) (log : Log) (fallbacks : Fallbacks) → LogsReapDead partition log fallbacks
logs_reap_dead partition log fallbacks key legal = dead-same partition log fallbacks key legal

pub courses_answer_gets : (partition : Partition) (course : Course) → CoursesAnswerGets partition course
courses_answer_gets partition course ids get happens = logs_answer_gets partition (primary_of partition course) (fallback_of course) get (courses_are_legal partition course ids get.key happens)

pub courses_reap_dead : (partition : Partition) (course : Course) → CoursesReapDead partition course
courses_reap_dead partition course ids key happens = logs_reap_dead partition (primary_of partition course) (fallback_of course) key (courses_are_legal partition course ids key happens)
