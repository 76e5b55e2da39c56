-- What the laws of copies say of a run's course, at its logs.
use Rattle.std.proofs.Common.{◌≡◌, ℕ, ◌+◌, ◌*◌, ◌^◌, ◌<◌, ◌≤◌, sym, ◌∙◌, arith, subst}
use Rattle.riak_msgs.specs.declared.Key.{Key}
use Rattle.sibling_register.specs.History.{count_of}
use Rattle.actor_epoch.specs.Limits.{max_epoch}
use Rattle.copy_laws.specs.Sides.{Partition}
use Rattle.copy_laws.specs.CopyReplay.{NamesPositions}
use Rattle.copy_laws.specs.Copies.{count_brought}
use Rattle.copy_laws.specs.Diversions.{Course, HappensTo, diversions_of, fallback_of, primary_of}
use Rattle.copy_laws.specs.Joining.{Log, IsHandOff, ShowsSiblings, AreJointSiblings}
use Rattle.copy_laws.specs.JointAnswers.{AreWithinLimits}
use Rattle.copy_laws.proofs.CourseLaw.{courses_rise, courses_are_hand_offs, courses_show, returns_join}
use Rattle.copy_laws.proofs.LegalCourses.{courses_name_positions}
use Rattle.copy_laws.proofs.JointAnswers.{courses_answer_gets, courses_reap_dead}
use Rattle.copy_laws.proofs.JointUpdates.{courses_answer_puts, courses_answer_dels}
use Rattle.copy_laws.proofs.Leaving.{courses_leave_only_seen, fallbacks_leave_only_seen}
use Rattle.node_steps.specs.World.{World, id_of, log_at}
use Rattle.node_steps.specs.Steps.{fallback_ids}
use Rattle.node_steps.specs.Schedules.{Start, IsStart, world_after}
use Rattle.node_steps.specs.Courses.{IsCourseOf, CallsMayBeAsked}
use Rattle.node_steps.specs.Claims.{FallbacksTakeCommands}
use Rattle.node_steps.specs.Told.{IsLegalOver}
use Rattle.node_steps.specs.HandOffs.{AnswersAsRegister, HandsOff, HandsOffKey, PartitionsHandOff}
use Rattle.node_steps.proofs.CourseLaw.{runs_are_courses}
use Rattle.node_steps.proofs.Coursing.{above}
use Rattle.node_steps.proofs.Kept.{IsOrderly}
use Rattle.node_steps.proofs.Scheduled.{orderly}
use Rattle.node_steps.proofs.FallbackLogs.{fallbacks_take_commands}
use Rattle.node_steps.proofs.CourseJoins.{earlier-brought, joins, joins-copied}
use Rattle.node_steps.proofs.OneDot.{one-dot}
use Rattle.node_steps.proofs.Telling.{replies-tell}
use Rattle.node_steps.proofs.Lawful.{legal-over}

low : (run index vnodes : ℕ) → run < 2 ^ 32 → vnodes < 2 ^ 16 → index < vnodes → run * 65536 + index + fallback_ids < 2 ^ 64
low run index vnodes r v i = omega (arith, r, v, i)

lower : (n m k : ℕ) → k ≡ n → n + fallback_ids < m → k < m
lower n m k e h = omega (arith, e, h)

same_low : (n m k : ℕ) → k ≡ n + fallback_ids → n + fallback_ids < m → k < m
same_low n m k e h = omega (arith, e, h)

zero_epoch : (n : ℕ) → n ≡ 0 → n ≤ max_epoch
zero_epoch n e = omega (arith, e)

module _ (start : Start) (is : IsStart start) (index : ℕ) (known : index < start.vnodes) (partition : Partition) (course : Course) (w : World) (orderly : IsOrderly w) (fallbacks : FallbacksTakeCommands w)
    (of : IsCourseOf partition start.run w index course) where
  within : AreWithinLimits partition
  within =
      let small = low start.run index start.vnodes is.run is.vnodes known in
      record {
        primary = (lower (id_of start.run index) (2 ^ 64) partition.primary of.primary_id small, zero_epoch partition.last_epoch of.first_epoch);
        fallbacks = λ n below.
            (same_low (id_of start.run index) (2 ^ 64) partition.fallback of.fallback_id small, of.limits n (subst (λ m. n ≤ m) of.diversions below));
      }

  ids : partition.primary < partition.fallback
  ids = above partition.primary partition.fallback (id_of start.run index) of.primary_id of.fallback_id

  abbrev log : Log
  log = primary_of partition course

  pub hands_off : HandsOff partition start.run w index course
  hands_off =
      let rise = courses_rise partition course ids of.may_happen in
      record {
        is = of;
        rise = rise;
        dots = λ key other a b dot. one-dot partition (log_at w index) (fallback_of course) rise key other dot a b;
        leaves_there = fallbacks_leave_only_seen partition course;
      }

  module _ (key : Key) (happens : HappensTo partition key course) (asked : CallsMayBeAsked partition w index course key) where
    answers : AnswersAsRegister partition course log key
    answers = record {
      gets = λ get of_key. courses_answer_gets partition course ids get (own get.key of_key);
      puts = λ put of_key may. courses_answer_puts partition course ids within put (own put.key of_key) may;
      deletes = λ del of_key may. courses_answer_dels partition course ids within del (own del.key of_key) may;
      reaps = courses_reap_dead partition course ids key happens;
    }
      where
        own : (at : Key) → at ≡ key → HappensTo partition at course
        own at of_key = subst (λ k. HappensTo partition k course) (sym of_key) happens

    joint : AreJointSiblings partition log (fallback_of course) key → AreJointSiblings partition (log_at w index) (fallback_of course) key
    joint h = subst (λ l. AreJointSiblings partition l (fallback_of course) key) of.primary h

    pub hands_off_key : HandsOffKey partition w index course key
    hands_off_key = record {
      happens = happens;
      hand_off = subst (λ l. IsHandOff partition l (fallback_of course) key) of.primary (courses_are_hand_offs partition course ids key happens).0;
      legal = subst (IsLegalOver partition key) of.primary (legal-over partition ids key course happens);
      names = subst (λ l. NamesPositions partition l key) of.primary (courses_name_positions partition course ids key happens);
      shows = subst (λ l. ShowsSiblings partition l (fallback_of course) key l) of.primary (courses_show partition course ids key happens);
      answers = subst (λ l. AnswersAsRegister partition course l key) of.primary answers;
      asked = asked;
      replies = replies-tell partition course ids key happens answers start.run w index orderly fallbacks of asked;
      leaves = λ later between position e. courses_leave_only_seen partition course ids key happens later between position (e ∙ sym of.primary);
      earlier = λ n less. subst (λ (l : Log). count_brought l key n ≡ count_of (fallback_of course n) key) of.primary (earlier-brought partition course ids key happens n less);
      joins = λ all. joint (joins partition course ids key happens
          (subst (λ (l : Log). count_brought l key (diversions_of course) ≡ count_of (fallback_of course (diversions_of course)) key) (sym of.primary) all));
      copied = λ later before copy e itself side whole. joint (joins-copied partition course ids key happens later before copy (e ∙ sym of.primary) itself side whole);
      returns = λ back. joint (returns_join partition course ids key happens back);
    }

pub partitions_hand_off : PartitionsHandOff
partitions_hand_off start is schedule index known =
    let run = runs_are_courses start is schedule index known in
    let w = world_after start schedule in
    let orderly_then = orderly start is schedule in
    let fallbacks_then = fallbacks_take_commands start is schedule in (
      run.0,
      run.1,
      hands_off start is index known run.0 run.1 w orderly_then fallbacks_then run.2,
      λ key gives. hands_off_key start is index known run.0 run.1 w orderly_then fallbacks_then run.2 key (run.3 key gives).0 (run.3 key gives).1,
    )
