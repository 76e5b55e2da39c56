-- What comes of a course is a legal log of each key; so what is said of legal logs holds of it.
use Rattle.std.proofs.Common.{◌≡◌, ◌++◌, ◌∷◌, true, sym, ◌∙◌, ap, subst}
use Rattle.riak_msgs.specs.declared.Key.{Key}
use Rattle.riak_msgs.specs.Contents.{Content}
use Rattle.riak_msgs.specs.KeyOrder.{key_eq}
use Rattle.vnode_machine.specs.Machine.{is_held}
use Rattle.vnode_machine.specs.Replay.{replay}
use Rattle.vnode_machine.proofs.Keys.{key_eq-same}
use Rattle.copy_laws.specs.Copies.{Copy, Copied}
use Rattle.copy_laws.specs.Sides.{Partition}
use Rattle.copy_laws.specs.Joining.{Log}
use Rattle.copy_laws.specs.Diversions.{CopyBack, Course, fallback_of, fallback_state, primary_of, HappensTo, CoursesHoldDefined, CoursesNamePositions}
use Rattle.copy_laws.specs.LegalLogs.{CoursesAreLegal}
use Rattle.copy_laws.proofs.Courses.{happens-before, open_always, CopyMade, copy-made}
use Rattle.copy_laws.proofs.CourseLaw.{courses_are_hand_offs}
use Rattle.copy_laws.proofs.CourseCame.{courses_name_what_came}
use Rattle.copy_laws.proofs.Held.{logs_hold_defined}
use Rattle.copy_laws.proofs.LogNames.{logs_name_positions}

module _ (partition : Partition) (course : Course) (key : Key) (happens : HappensTo partition key course) (later before : Log) (copy : Copy Content) (is : later ++ Copied copy ∷ before ≡ primary_of partition course) (itself : key_eq copy.key key ≡ true) where
  had : is_held (replay partition.fallback (partition.opened copy.diversion) copy.prefix) key ≡ true
  had = made (copy-made partition course later copy before is)
    where
      made : CopyMade partition course copy before → is_held (replay partition.fallback (partition.opened copy.diversion) copy.prefix) key ≡ true
      made m =
          let may = (happens-before partition key m.later (CopyBack m.key ∷ m.moment) (subst (HappensTo partition key) (sym m.is) happens)).1 in
          let same : m.key ≡ key = key_eq-same m.key key (sym (ap (λ (c : Copy Content). key_eq c.key key) m.copy_is) ∙ itself) in
          ap (λ (c : Copy Content). is_held (replay partition.fallback (partition.opened c.diversion) c.prefix) key) m.copy_is
          ∙ ap (is_held (fallback_state partition m.moment)) (sym same) ∙ may.2

pub courses_are_legal : (partition : Partition) (course : Course) → CoursesAreLegal partition course
courses_are_legal partition course ids key happens =
    let off = courses_are_hand_offs partition course ids key happens in
    record {
      hand_off = off.0;
      rise = off.1;
      came = courses_name_what_came partition course ids key happens;
      had = λ later before copy stands. had partition course key happens later before copy stands.0 stands.1;
      open_still = open_always partition course;
    }

pub courses_hold_defined : (partition : Partition) (course : Course) → CoursesHoldDefined partition course
courses_hold_defined partition course ids key happens = logs_hold_defined partition (primary_of partition course) (fallback_of course) key (courses_are_legal partition course ids key happens)

pub courses_name_positions : (partition : Partition) (course : Course) → CoursesNamePositions partition course
courses_name_positions partition course ids key happens later between position is =
    logs_name_positions partition (primary_of partition course) (fallback_of course) key (courses_are_legal partition course ids key happens) later between position is
