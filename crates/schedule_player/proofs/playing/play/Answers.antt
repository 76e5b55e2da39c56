use Rattle.std.proofs.Common.{◌≡◌, List, ℕ, take, length, subst, ◌∙◌, arith}
use Rattle.std.proofs.lemmas.Result.{err_from_is_err_and}
use Rattle.std.specs.Io.KnownBytes.{Consumes}
use Rattle.std.proofs.KnownBytes.{Keeps-refl}
use Rattle.schedule_player.specs.Progress.{PlaysEnd}
use Rattle.schedule_player.proofs.Going.{piece_read, nothing_read, piece_stops, end_read, read_fails, flush_fails}
use Rattle.schedule_player.proofs.playing.play.Goals as goal
use Rattle.schedule_player.proofs.playing.play.Goals.{in-Ok+in_ok-play_piece-in-Ok, in-Err+else-ne}

pub returns-in_err-flush-clause-played : goal.returns-in_err-flush-clause-played
returns-in_err-flush-clause-played g c =
    let p = err_from_is_err_and c.from_residual.result c.from_residual.ensures.1 in
    rw (p.1, p.2)
    (flush_fails c.args.player.now c.loop.player (g.R.Read.remaining c.args.reader.now) (g.R.Read.remaining c.loop.reader) (g.W.Write.contents c.args.writer.now) (g.W.Write.contents c.loop.writer) (g.W.Write.contents c.flush.new.writer) c.loop.partial.items
    c.loop.invariant.read c.flush.ensures.kept)

pub returns-in-Ok-eq0-clause-played : goal.returns-in-Ok-eq0-clause-played
returns-in-Ok-eq0-clause-played g c =
    let unread' = g.R.Read.remaining c.loop.reader in
    let unread'' = g.R.Read.remaining c.read.new.self in
    let held'' = g.W.Write.contents c.flush.new.writer in
    let held₃ = g.W.Write.contents c.finish.new.writer in
    let zero : c.in-Ok-eq0.field-0 ≡ 0 = omega (arith, c.in-Ok-eq0.field-0-test) in
    let read = subst (λ (n : ℕ). Consumes unread' unread'' (take n c.read.new.buf)) zero c.in-Ok-eq0.ensures.bytes.0 in
    let end = subst (λ (x : List ℕ). PlaysEnd c.loop.player x held'' held₃ c.finish.result) c.as_slice.ensures.value c.finish.ensures in
    end_read c.args.player.now c.loop.player (g.R.Read.remaining c.args.reader.now) unread' (g.W.Write.contents c.args.writer.now) (g.W.Write.contents c.loop.writer) held'' c.loop.partial.items
    c.finish.result unread'' held₃ c.loop.invariant.read c.flush.ensures.kept read end

pub returns-in_err-play_piece-in-Ok-clause-played : goal.returns-in_err-play_piece-in-Ok-clause-played
returns-in_err-play_piece-in-Ok-clause-played g c =
    let p = err_from_is_err_and c.from_residual-in_err-play_piece-in-Ok.result c.from_residual-in_err-play_piece-in-Ok.ensures.1 in
    rw (p.1, p.2)
    (piece_stops c.args.player.now c.loop.player (g.R.Read.remaining c.args.reader.now) (g.R.Read.remaining c.loop.reader) (g.W.Write.contents c.args.writer.now) (g.W.Write.contents c.loop.writer) (g.W.Write.contents c.flush.new.writer) c.loop.partial.items
    c.in_err-play_piece-in-Ok.field-0.0 c.play_piece.new.player (g.R.Read.remaining c.read.new.self) (g.W.Write.contents c.play_piece.new.writer) (take c.in-Ok.n c.read.new.buf) c.play_piece.new.partial.items
    c.loop.invariant.read c.flush.ensures.kept c.in-Ok.ensures.bytes.0 c.in_err-play_piece-in-Ok.ensures)

pub returns-then-ne-clause-played : goal.returns-then-ne-clause-played
returns-then-ne-clause-played g c =
    read_fails c.args.player.now c.loop.player (g.R.Read.remaining c.args.reader.now) (g.R.Read.remaining c.loop.reader) (g.W.Write.contents c.args.writer.now) (g.W.Write.contents c.loop.writer) (g.W.Write.contents c.flush.new.writer) c.loop.partial.items
    (g.R.Read.remaining c.read.new.self) c.loop.invariant.read c.flush.ensures.kept c.in-Err.ensures.bytes

pub loop-preserved : goal.loop-preserved
loop-preserved g c =
    let old = c.args.player.now in
    let unread = g.R.Read.remaining c.args.reader.now in
    let unread' = g.R.Read.remaining c.loop.reader in
    let unread'' = g.R.Read.remaining c.read.new.self in
    let held = g.W.Write.contents c.args.writer.now in
    let held' = g.W.Write.contents c.loop.writer in
    let held'' = g.W.Write.contents c.flush.new.writer in
    let left = c.loop.partial.items in
    let room : length c.read.new.buf ≡ 4096 = c.read.auto.buf ∙ c.loop.invariant.room in
    elim c.match-read.branch [
      | in-Ok+in_ok-play_piece-in-Ok w ↦ rw (w.player-is, w.partial-is, w.writer-is) (record {
        room = room;
        read = piece_read old c.loop.player unread unread' held held' held'' left w.play_piece.new.player unread'' (g.W.Write.contents w.play_piece.new.writer) (take w.in-Ok.n c.read.new.buf) w.play_piece.new.partial.items
            c.loop.invariant.read c.flush.ensures.kept w.in-Ok.ensures.bytes.0 w.in_ok-play_piece-in-Ok.ensures;
      })
      | in-Err+else-ne w ↦ rw (w.player-is, w.partial-is, w.writer-is) (record {
        room = room;
        read = nothing_read old c.loop.player unread unread' held held' held'' left unread'' c.loop.invariant.read c.flush.ensures.kept w.in-Err.ensures.bytes;
      })
    ]

pub returns-clause-played : goal.returns-clause-played
returns-clause-played g c =
    let unread' = g.R.Read.remaining c.loop.reader in
    let held' = g.W.Write.contents c.loop.writer in
    read_fails c.args.player.now c.loop.player (g.R.Read.remaining c.args.reader.now) unread' (g.W.Write.contents c.args.writer.now) held' held' c.loop.partial.items
    unread' c.loop.invariant.read (Keeps-refl held') (Keeps-refl unread')
