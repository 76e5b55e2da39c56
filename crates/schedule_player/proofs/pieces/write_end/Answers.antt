use Rattle.std.proofs.Common.{ℕ, List, take, ap, ◌∙◌, subst}
use Rattle.std.specs.Io.KnownBytes.{Appends}
use Rattle.std.proofs.lemmas.Result.{err_from_is_err_and}
use Rattle.schedule_text.specs.Verdicts.{verdict_line}
use Rattle.schedule_player.proofs.Known.{flushed_whole}
use Rattle.schedule_player.proofs.pieces.write_end.Goals as goal

pub returns-in_err-flush : goal.returns-in_err-flush
returns-in_err-flush g c =
    let p = err_from_is_err_and c.from_residual-in_err-flush.result c.from_residual-in_err-flush.ensures.1 in
    let held = g.W.Write.contents c.args.writer.now in
    let held' = g.W.Write.contents c.flush.new.writer in
    rw (p.1, p.2)
    (subst (λ (line : List ℕ). (len : ℕ) × Appends held held' (take len line)) (c.as_slice.ensures.value ∙ c.in_ok-line.ensures.line ∙ ap verdict_line c.verdict.ensures)
    (flushed_whole held (g.W.Write.contents c.send.new.writer) held' c.as_slice.result.now c.in_ok-send.ensures c.flush.ensures.kept))
