-- What an operator's console answers.
use Rattle.std.specs.Prelude.{◌≡◌, ◌<◌, ◌⊎◌, ◌↔◌, ◌^◌, ℕ, true}
use Rattle.handoff.specs.Copying.{IsCopiedBack, IsCopyFault}
use Rattle.handoff.specs.Partitions.{HandoffView, IsDivertRefused}
use Rattle.handoff.specs.Returning.{HasReturned, IsReturnFault}
use Rattle.handoff.specs.declared.copying.Copied.{Copied as CopyBack}
use Rattle.handoff.specs.declared.fault.HandoffFault.{HandoffFault}
use Rattle.handoff.specs.declared.fault.HandoffFault.TheVariants as faults
use Rattle.handoff.specs.declared.fault.Returned.{Returned as ReturnPasses}
use Rattle.control_text.specs.declared.answer.OperatorAnswer.{OperatorAnswer}
use Rattle.control_text.specs.declared.answer.OperatorAnswer.TheVariants.{Diverted, Copied, Returned, Refused}
use Rattle.control_text.specs.declared.refusal.OperatorRefusal.{OperatorRefusal}
use Rattle.control_text.specs.declared.refusal.OperatorRefusal.TheVariants.{NoPartition, AlreadyDiverted, NotDiverted, LeftOver, NoMemory, GateStopped}
use Rattle.gate_node.specs.Gates.{Gates, handoff_of}
use Rattle.key_counts.specs.declared.counts.KeyCounts.{KeyCounts}
use Rattle.key_counts.specs.Partitions.{IsCountOfAll}
use Rattle.worker_pool.specs.Resuming.{IsOnceDiverted}
use Rattle.node_commands.specs.declared.progress.Paused.{Paused}

-- why a command that names this partition wasn't done
abbrev pub refusal_of : ℕ → HandoffFault → OperatorRefusal
refusal_of partition faults.AlreadyDiverted = AlreadyDiverted partition
refusal_of partition (faults.NotDiverted seen) = NotDiverted partition
refusal_of partition (faults.LeftOver passes) = LeftOver partition
refusal_of partition faults.NoMemory = NoMemory
refusal_of partition faults.GateStopped = GateStopped partition

-- the vnodes of all partitions store this much together, by a look at each
abbrev pub IsStored : HandoffView → KeyCounts → Type 0
IsStored handoff counts = IsCountOfAll handoff counts

-- keys were copied back, so many, and some are left or none; or why not
abbrev pub AnswersCopy : HandoffView → (partition budget : ℕ) → OperatorAnswer → Type 0
AnswersCopy handoff partition budget (Copied named keys left) =
    (named ≡ partition) × (copied : CopyBack) × IsCopiedBack handoff partition budget copied × (keys ≡ copied.keys) × (left ≡ true ↔ 0 < copied.left)
AnswersCopy handoff partition budget (Refused refusal) = (fault : HandoffFault) × IsCopyFault handoff partition fault × (refusal ≡ refusal_of partition fault)
AnswersCopy handoff partition budget (Diverted named) = ⊥
AnswersCopy handoff partition budget (Returned named) = ⊥

-- the diversion has ended; or why not
abbrev pub AnswersReturn : HandoffView → (partition : ℕ) → OperatorAnswer → Type 0
AnswersReturn handoff partition (Returned named) = (named ≡ partition) × (passes : ReturnPasses) × HasReturned handoff partition passes
AnswersReturn handoff partition (Refused refusal) = (fault : HandoffFault) × IsReturnFault handoff partition fault × (refusal ≡ refusal_of partition fault)
AnswersReturn handoff partition (Copied named keys left) = ⊥
AnswersReturn handoff partition (Diverted named) = ⊥

-- why a partition isn't diverted: there is none of this index, or its diversion was refused
abbrev pub IsDivertRefusal : Gates → (partition : ℕ) → OperatorRefusal → Type 0
IsDivertRefusal gates partition refusal = ((partition < 2 ^ gates.index_bits → ⊥) × (refusal ≡ NoPartition partition))
    ⊎ ((fault : HandoffFault) × IsDivertRefused (handoff_of gates) partition fault × (refusal ≡ refusal_of partition fault))

-- the partition is diverted, and nothing else was changed; or nothing was, and why
abbrev pub AnswersDivert : (old : Paused) → (partition : ℕ) → (new : Paused) → OperatorAnswer → Type 0
AnswersDivert old partition new (Diverted named) = (named ≡ partition) × IsOnceDiverted partition old.shared new.shared × (new.progress ≡ old.progress)
AnswersDivert old partition new (Refused refusal) = (new.shared ≡ old.shared) × (new.progress ≡ old.progress) × IsDivertRefusal old.shared partition refusal
AnswersDivert old partition new (Copied named keys left) = ⊥
AnswersDivert old partition new (Returned named) = ⊥
