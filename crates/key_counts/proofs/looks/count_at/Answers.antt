use Rattle.std.proofs.Common.{◌≡◌, ◌∙◌, ◌++◌, ◌∷◌, [], List, ap, sym, subst}
use Rattle.std.specs.Prelude.{Option, None}
use Rattle.riak_msgs.specs.declared.Key.{Key}
use Rattle.handoff.specs.Sights.{Sight}
use Rattle.key_counts.specs.declared.looks.Piece.{Piece}
use Rattle.key_counts.specs.Looks.{ArePieces, counts_of_pieces}
use Rattle.key_counts.proofs.Pieces.{Completes, ends, goes_on}
use Rattle.key_counts.proofs.Sums.{capped-push}
use Rattle.key_counts.proofs.looks.count_at.Goals as goal

pub returns-then-piece : goal.returns-then-piece
returns-then-piece g c =
    let gate = c.args.gate.now in
    let so_far = c.loop.invariant in
    let piece = c.in_ok-piece.piece in
    let is = c.in_ok-piece.ensures.piece in
    let pass = c.in_ok-piece.ensures.pass in
    let grown : c.push.new.self ≡ c.loop.pieces ++ piece ∷ [] = c.push.ensures in
    let all = ends gate c.loop.pieces c.loop.at c.loop.pass.prefix piece so_far.4 is c.if-piece.true in
    record {
      of_gate = ap (λ (p : Sight). p.gate) pass ∙ is.of_gate;
      are_pieces = subst (λ (ps : List Piece). ArePieces gate c.count_piece.new.pass None [] ps) (sym grown)
          (subst (λ (p : Sight). ArePieces gate p None [] (c.loop.pieces ++ piece ∷ [])) (sym pass) all);
      sums = c.plus-counts.ensures ∙ capped-push (λ (p : Piece). p.stretch.counts) c.loop.pieces piece c.loop.counts so_far.3 ∙ ap counts_of_pieces (sym grown);
    }

pub loop-preserved : goal.loop-preserved
loop-preserved g c =
    let gate = c.args.gate.now in
    let so_far = c.loop.invariant in
    let piece = c.in_ok-piece.piece in
    let is = c.in_ok-piece.ensures.piece in
    let pass = c.in_ok-piece.ensures.pass in
    let at = c.in_ok-piece.ensures.at in
    let grown : c.push.new.self ≡ c.loop.pieces ++ piece ∷ [] = c.push.ensures in
    let longer = c.loop.pieces ++ piece ∷ [] in
    let further = goes_on gate c.loop.pieces c.loop.at c.loop.pass.prefix piece so_far.4 is c.if-piece.false in (
      tt,
      tt,
      ap (λ (p : Sight). p.gate) pass ∙ is.of_gate,
      c.plus-counts.ensures ∙ capped-push (λ (p : Piece). p.stretch.counts) c.loop.pieces piece c.loop.counts so_far.3 ∙ ap counts_of_pieces (sym grown),
      subst (λ (ps : List Piece). Completes gate ps c.count_piece.new.at c.count_piece.new.pass.prefix) (sym grown)
          (subst (λ (k : Option Key). Completes gate longer k c.count_piece.new.pass.prefix) (sym at)
          (subst (λ (p : Sight). Completes gate longer piece.up_to.value p.prefix) (sym pass) further)),
    )
