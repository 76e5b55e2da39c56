use Rattle.std.proofs.Common.{◌∙◌, sym, ap, cond}
use Rattle.std.specs.Prelude.{Some, None}
use Rattle.std.specs.Ordering.{is_lt}
use Rattle.names.proofs.ShortKeys.{not_less}
use Rattle.clock_store.proofs.MergedMarks.{unless_above}
use Rattle.clock_store.proofs.clock_map.index.first_unless_above.Goals as goal

pub returns-in-Less : goal.returns-in-Less
returns-in-Less c =
    sym (unless_above c.args.short c.args.long c.in-Some.short c.in-Some-long.long c.compare_key.result c.in-Some.is c.in-Some-long.is c.compare_key.ensures
    ∙ ap (λ o. cond (is_lt o) None (Some c.in-Some.short)) c.in-Less.is)

pub returns-in_default : goal.returns-in_default
returns-in_default c =
    sym (unless_above c.args.short c.args.long c.in-Some.short c.in-Some-long.long c.compare_key.result c.in-Some.is c.in-Some-long.is c.compare_key.ensures
    ∙ ap (λ b. cond b None (Some c.in-Some.short)) (not_less c.compare_key.result c.in_default.not-Less))
