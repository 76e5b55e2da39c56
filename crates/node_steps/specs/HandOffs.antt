-- What is claimed of a partition that may be diverted: its fallbacks' events and its primary's, with the copies between, are one course,
-- and a hand-off by the law of copies of each key for which each context that was given had been shown, whatever was given for others.
use Rattle.std.specs.Prelude.{◌≡◌, ◌<◌, ◌++◌, List, ◌∷◌, ℕ, false, Some, Result, IsTrue}
use Rattle.riak_msgs.specs.declared.Key.{Key}
use Rattle.riak_msgs.specs.Contents.{Content}
use Rattle.riak_msgs.specs.KeyOrder.{key_eq}
use Rattle.sibling_register.specs.History.{count_of}
use Rattle.sibling_register.specs.Answers.{GetCommand, PutCommand, DelCommand, AskPut, AskDel}
use Rattle.actor_epoch.specs.declared.Dot.{Dot}
use Rattle.actor_epoch.specs.Given.{Context}
use Rattle.vnode_machine.specs.Machine.{holds_dead}
use Rattle.vnode_machine.specs.Registers.{key_of}
use Rattle.vnode_machine.specs.Replies.{get_reply}
use Rattle.vnode_machine.specs.Step.{Response, outcome as outcome_of_ask}
use Rattle.copy_laws.specs.Copies.{Copy, Copied, count_brought}
use Rattle.copy_laws.specs.Sides.{Partition, Number, is_dead_at}
use Rattle.copy_laws.specs.CopyReplay.{primary_after, NamesPositions}
use Rattle.copy_laws.specs.Diversions.{Course, HappensTo, diversions_of, is_diverted, fallback_of}
use Rattle.copy_laws.specs.Joining.{Log, HasDot, IsHandOff, SidesRise, ShowsSiblings, AreJointSiblings}
use Rattle.copy_laws.specs.JointAnswers.{get_told_at, get_shown_at, put_event_at, del_event_at, MayAsk, PutGivesAt, DelGivesAt}
use Rattle.copy_laws.specs.Leaving.{IsSeenWhereItLeft, FallbacksLeaveOnlySeen}
use Rattle.node_steps.specs.World.{World, Call, call_at, log_at}
use Rattle.node_steps.specs.Steps.{Step, number_of, Replied, after, outcome}
use Rattle.node_steps.specs.Schedules.{Start, IsStart, world_after}
use Rattle.node_steps.specs.Courses.{GivesShownThere, IsCourseOf, CallsMayBeAsked}
use Rattle.node_steps.specs.Told.{IsToldAt, IsLegalOver}

-- what the register answers for the key at the primary at a moment, over the siblings of both sides, is what the machine does there
pub record AnswersAsRegister (partition : Partition) (course : Course) (log : Log) (key : Key) : Type 0 where
  pub gets : (get : GetCommand Context) → get.key ≡ key
      → get_reply (primary_after partition log) get ≡ get_shown_at partition log get.key (get_told_at partition log get)
  pub puts : (put : PutCommand Content Context) → put.key ≡ key → MayAsk partition course (put_event_at partition log put)
      → PutGivesAt partition course put (outcome_of_ask (primary_after partition log) (AskPut put))
  pub deletes : (del : DelCommand Context) → del.key ≡ key → MayAsk partition course (del_event_at partition log del)
      → DelGivesAt partition course del (outcome_of_ask (primary_after partition log) (AskDel del))
  pub reaps : holds_dead (primary_after partition log) key ≡ is_dead_at partition log key

-- a partition's logs, by its course, whatever contexts were given
pub record HandsOff (partition : Partition) (run : ℕ) (w : World) (index : ℕ) (course : Course) : Type 0 where
  pub is : IsCourseOf partition run w index course
  pub rise : SidesRise partition (fallback_of course)
  -- no dot twice: two writes or deletes that have the same, of whatever keys and on whichever sides, are one
  pub dots : (key other : Key) (a b : Number) (dot : Dot) → HasDot partition (log_at w index) (fallback_of course) key a dot
      → HasDot partition (log_at w index) (fallback_of course) other b dot → (key ≡ other) × (a.side ≡ b.side) × (a.number ≡ b.number)
  -- a value leaves a fallback's siblings only where a write or delete that had seen it was accepted there
  pub leaves_there : FallbacksLeaveOnlySeen partition course

-- and a key of it
pub record HandsOffKey (partition : Partition) (w : World) (index : ℕ) (course : Course) (key : Key) : Type 0 where
  pub happens : HappensTo partition key course
  -- the machine accepted each entry, on both sides, and each command of the key saw what it had to see; each copy is one of the fallback
  -- at some time
  pub hand_off : IsHandOff partition (log_at w index) (fallback_of course) key
  -- the primary's log is legal over the numbers of all sides
  pub legal : IsLegalOver partition key (log_at w index)
  -- the primary's contexts name its positions, and it shows the siblings of both sides that came, in their order
  pub names : NamesPositions partition (log_at w index) key
  pub shows : ShowsSiblings partition (log_at w index) (fallback_of course) key (log_at w index)
  pub answers : AnswersAsRegister partition course (log_at w index) key
  -- what is asked of the key at the primary may be asked there
  pub asked : CallsMayBeAsked partition w index course key
  -- each reply there to a call of the key, an accepted command's too, at its publish, is what the register may answer over the numbers of
  -- all sides at the end of the log, which has just the accepted command more then
  pub replies : (step : Step) (call : Call) (reply : Result Response ℕ) → call_at w (number_of step) ≡ Some call → call.site ≡ index → key_of call.ask ≡ key
      → outcome w step ≡ Replied reply → IsToldAt partition (log_at w index) call.ask reply (log_at (after w step) index)
  -- a value leaves the primary's siblings only where a write or delete that had seen it was accepted, or brought
  pub leaves : (later between position : Log) → later ++ (between ++ position) ≡ log_at w index → IsSeenWhereItLeft partition between position key
  -- of each earlier diversion all was brought back; where all of the last one was, the primary's siblings are the joint ones
  pub earlier : (n : ℕ) → n < diversions_of course → count_brought (log_at w index) key n ≡ count_of (fallback_of course n) key
  pub joins : count_brought (log_at w index) key (diversions_of course) ≡ count_of (fallback_of course (diversions_of course)) key
      → AreJointSiblings partition (log_at w index) (fallback_of course) key
  -- so after each copy of the key where its fallback accepted nothing of it since; and while the partition isn't diverted
  pub copied : (later before : Log) (copy : Copy Content) → later ++ Copied copy ∷ before ≡ log_at w index → IsTrue (key_eq copy.key key)
      → copy.diversion ≡ diversions_of course → count_of copy.prefix key ≡ count_of (fallback_of course (diversions_of course)) key
      → AreJointSiblings partition (log_at w index) (fallback_of course) key
  pub returns : is_diverted course ≡ false → AreJointSiblings partition (log_at w index) (fallback_of course) key

-- so is each partition of a run, and each key of it for which each context that was given had been shown
abbrev pub PartitionsHandOff : Type 0
PartitionsHandOff =
    (start : Start) → IsStart start → (schedule : List Step) (index : ℕ) → index < start.vnodes
    → (partition : Partition) × (course : Course) × HandsOff partition start.run (world_after start schedule) index course
    × ((key : Key) → GivesShownThere start index key schedule → HandsOffKey partition (world_after start schedule) index course key)
