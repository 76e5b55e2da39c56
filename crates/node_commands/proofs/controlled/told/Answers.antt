use Rattle.std.proofs.Common.{◌∙◌, sym, subst}
use Rattle.std.specs.Io.KnownBytes.{Appends}
use Rattle.std.proofs.lemmas.Result.{IfOk-weaker}
use Rattle.stats_book.specs.declared.totals.Totals.{Totals}
use Rattle.node_commands.specs.Lines.{totals_line}
use Rattle.node_commands.proofs.controlled.told.Goals as goal

pub returns-clause-line : goal.returns-clause-line
returns-clause-line g c =
    let contents = g.W.Write.contents in
    let old = c.args.writer.now in
    let new = c.tell_totals-wrote_totals.new.writer in
    IfOk-weaker c.conclude.result _ _ (λ outcome told whole. (
      old,
      subst (λ (totals : Totals). Appends (contents old) (contents new) (totals_line totals)) (sym told.0) (c.tell_totals-wrote_totals.ensures (sym told.1 ∙ whole)),
    )) c.conclude.ensures.told
