use Rattle.std.proofs.Common.{Err}
use Rattle.std.proofs.lemmas.Result.{err_from_is_err_and}
use Rattle.schedule_player.specs.Played.{start_on}
use Rattle.schedule_player.proofs.Progress.{opening_has_played}
use Rattle.schedule_player.proofs.Ending.{Played-kept, Played-none}
use Rattle.schedule_player.proofs.playing.steps_on.Goals as goal

pub returns-in_err-player-clause-played : goal.returns-in_err-player-clause-played
returns-in_err-player-clause-played g c =
    let p = err_from_is_err_and c.from_residual.result c.from_residual.ensures.1 in
    rw (p.1, p.2, c.in_err-player.ensures.err)
    (Played-none (start_on c.args.run c.args.workers c.args.ring) c.args.ring (g.R.Read.remaining c.args.reader.now) (g.W.Write.contents c.args.writer.now))

pub returns-in-Ok-clause-played : goal.returns-in-Ok-clause-played
returns-in-Ok-clause-played g c =
    let start = start_on c.args.run c.args.workers c.args.ring in
    c.in-Ok.ensures.played start c.args.ring (opening_has_played start c.args.ring c.in_ok-player.player (g.W.Write.contents c.args.writer.now) c.in_ok-player.ensures.ok)

pub returns-clause-played : goal.returns-clause-played
returns-clause-played g c =
    let start = start_on c.args.run c.args.workers c.args.ring in
    let held = g.W.Write.contents c.args.writer.now in
    Played-kept start c.args.ring (g.R.Read.remaining c.args.reader.now) (g.R.Read.remaining c.play.new.reader) held (g.W.Write.contents c.play.new.writer) (g.W.Write.contents c.flush.new.writer) (Err c.in-Err.fault)
    (c.in-Err.ensures.played start c.args.ring (opening_has_played start c.args.ring c.in_ok-player.player held c.in_ok-player.ensures.ok)) c.flush.ensures.kept
