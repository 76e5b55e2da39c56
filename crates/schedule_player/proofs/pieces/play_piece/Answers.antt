use Rattle.std.proofs.Common.{List, ℕ, Err, subst, ◌∙◌}
use Rattle.std.proofs.lemmas.Result.{err_from_is_err_and}
use Rattle.schedule_text.specs.Cuts.{Lacks}
use Rattle.schedule_player.specs.Lines.{IsPlayed, PlaysLine}
use Rattle.schedule_player.proofs.Going.{nothing_gone, line_gone, line_stops, memory_stops, rest_gone}
use Rattle.schedule_player.proofs.pieces.play_piece.Goals as goal

pub loop-front-init : goal.loop-front-init
loop-front-init g c = nothing_gone c.args.player.now c.args.partial.now.items c.args.piece.now (g.W.Write.contents c.args.writer.now)

pub returns-in_err-extend_from_slice : goal.returns-in_err-extend_from_slice
returns-in_err-extend_from_slice g c =
    let p = err_from_is_err_and c.from_residual.result c.from_residual.ensures.1 in
    rw (p.1, p.2)
    (memory_stops c.args.player.now c.loop-front.player c.args.partial.now.items c.args.piece.now c.loop-front.rest.now c.loop-front.partial.items (g.W.Write.contents c.args.writer.now) (g.W.Write.contents c.loop-front.writer)
    c.loop-front.player c.extend_from_slice.new.self.items c.loop-front.invariant)

pub returns-in_err-play_line : goal.returns-in_err-play_line
returns-in_err-play_line g c =
    let held' = g.W.Write.contents c.loop-front.writer in
    let held'' = g.W.Write.contents c.play_line.new.writer in
    let fault = c.in_err-play_line.field-0.0 in
    let p = err_from_is_err_and c.from_residual-in_err-play_line.result c.from_residual-in_err-play_line.ensures.1 in
    let text = c.as_slice.ensures.value ∙ c.in_ok-extend_from_slice.ensures.items in
    let played = subst (λ (x : List ℕ). PlaysLine c.loop-front.player x held' held'' c.play_line.new.self (Err fault)) text c.in_err-play_line.ensures in
    rw (p.1, p.2)
    (line_stops c.args.player.now c.loop-front.player c.args.partial.now.items c.args.piece.now c.loop-front.rest.now c.loop-front.partial.items (g.W.Write.contents c.args.writer.now) held'
    fault c.play_line.new.self c.in-Some.front.now c.in-Some.behind.now c.extend_from_slice.new.self.items held'' c.loop-front.invariant c.in-Some.ensures played)

pub loop-front-preserved : goal.loop-front-preserved
loop-front-preserved g c =
    let held' = g.W.Write.contents c.loop-front.writer in
    let held'' = g.W.Write.contents c.play_line.new.writer in
    let text = c.as_slice.ensures.value ∙ c.in_ok-extend_from_slice.ensures.items in
    let played = subst (λ (x : List ℕ). IsPlayed c.loop-front.player x held' held'' c.play_line.new.self) text c.in_ok-play_line.ensures in
    rw (c.clear.ensures.items)
    (line_gone c.args.player.now c.loop-front.player c.args.partial.now.items c.args.piece.now c.loop-front.rest.now c.loop-front.partial.items (g.W.Write.contents c.args.writer.now) held'
    c.play_line.new.self c.in-Some.front.now c.in-Some.behind.now held'' c.loop-front.invariant c.in-Some.ensures played)

pub returns-in_err-extend_from_slice-2 : goal.returns-in_err-extend_from_slice-2
returns-in_err-extend_from_slice-2 g c =
    let p = err_from_is_err_and c.from_residual-in_err-extend_from_slice-2.result c.from_residual-in_err-extend_from_slice-2.ensures.1 in
    rw (p.1, p.2)
    (memory_stops c.args.player.now c.loop-front.player c.args.partial.now.items c.args.piece.now c.loop-front.rest.now c.loop-front.partial.items (g.W.Write.contents c.args.writer.now) (g.W.Write.contents c.loop-front.writer)
    c.loop-front.player c.extend_from_slice-2.new.self.items c.loop-front.invariant)

pub returns : goal.returns
returns g c =
    let lacks : Lacks 10 c.loop-front.rest.now = search (c.in_default.ensures, c.cut_line.ensures, c.in_default.not-Some) in
    rw (c.in_ok-extend_from_slice-2.ensures.items)
    (rest_gone c.args.player.now c.loop-front.player c.args.partial.now.items c.args.piece.now c.loop-front.rest.now c.loop-front.partial.items (g.W.Write.contents c.args.writer.now) (g.W.Write.contents c.loop-front.writer)
    c.loop-front.invariant lacks)
