-- Which partitions are diverted, and since which second, by the answers.
use Rattle.std.specs.Prelude.{ℕ, List, [], ◌∷◌, ◌++◌, ◌+◌, ◌-◌, Option, Some, None, codes, decimal, slice_set}
use Rattle.control_text.specs.declared.answer.OperatorAnswer.{OperatorAnswer}
use Rattle.control_text.specs.declared.answer.OperatorAnswer.TheVariants.{Diverted, Copied, Returned, Refused}

-- since when each is diverted, behind an answer of this second
abbrev pub after : List (Option ℕ) → OperatorAnswer → (now : ℕ) → List (Option ℕ)
after begun (Diverted partition) now = slice_set begun partition (Some now)
after begun (Returned partition) now = slice_set begun partition None
after begun (Copied partition keys left) now = begun
after begun (Refused refusal) now = begun

-- a partition that is diverted: behind what stands before it its index, and for how many seconds it is, 0 where it began later than now
abbrev pub partition_text : (now : ℕ) → (before : List ℕ) → (index : ℕ) → Option ℕ → List ℕ
partition_text now before index None = []
partition_text now before index (Some began) = before ++ decimal index ++ codes " for " ++ decimal (now - began) ++ codes " s"

-- what stands before the next: a comma and a space behind the first that is diverted
abbrev pub behind : (before : List ℕ) → Option ℕ → List ℕ
behind before None = before
behind before (Some began) = codes ", "

-- those that are diverted, from this index on
abbrev pub partitions_text : (now index : ℕ) → (before : List ℕ) → List (Option ℕ) → List ℕ
partitions_text now index before [] = []
partitions_text now index before (began ∷ begun) = partition_text now before index began ++ partitions_text now (index + 1) (behind before began) begun

-- 1 for one that is diverted
abbrev pub count_one : Option ℕ → ℕ
count_one None = 0
count_one (Some began) = 1

-- how many are diverted
abbrev pub count_diverted : List (Option ℕ) → ℕ
count_diverted [] = 0
count_diverted (began ∷ begun) = count_one began + count_diverted begun

-- the line of the answer to `diverted`
abbrev pub diverted_line : (now : ℕ) → List (Option ℕ) → List ℕ
diverted_line now begun = codes "diverted now:" ++ partitions_text now 0 (codes " ") begun ++ codes "\n"
