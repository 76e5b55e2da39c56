-- What comes of a comparison: its verdict, and the line that says it.
use Rattle.std.specs.Prelude.{ℕ, Bool, true, false, List, [], ◌∷◌, ◌++◌, codes, decimal}
use Rattle.schedule_text.specs.declared.verdict.Verdict.{Verdict}
use Rattle.schedule_text.specs.declared.verdict.Verdict.TheVariants.{Equal, DiffersAt, NotCompared}

-- the line of a verdict
abbrev pub verdict_line : Verdict → List ℕ
verdict_line Equal = codes "plain equal\n"
verdict_line (DiffersAt number) = codes "plain differs at line " ++ decimal number ++ 10 ∷ []
verdict_line NotCompared = codes "plain not compared\n"

-- the verdict after the answer of a line, by whether it is the register's: the first difference stays, and what isn't
-- compared stays so
abbrev pub verdict_after : ℕ → Verdict → Bool → Verdict
verdict_after line Equal true = Equal
verdict_after line Equal false = DiffersAt line
verdict_after line (DiffersAt first) is_due = DiffersAt first
verdict_after line NotCompared is_due = NotCompared
