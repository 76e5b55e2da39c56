use Rattle.std.proofs.Common.{◌≡◌, ℕ, List, ◌++◌, length, sym, ap, subst, ◌∙◌, rules, arith}
use Rattle.std.proofs.lemmas.Grind.{common_steps}
use Rattle.pb_frame.specs.Limits.{max_request_len}
use Rattle.pb_frame.specs.Message.{IsPartial}
use Rattle.pb_frame.specs.Stream.{Stream}
use Rattle.node_session.specs.Views.{Transcript, CanFollow, IsRead}
use Rattle.node_session.proofs.Frames.{read_on}
use Rattle.node_session.proofs.buffers.Buffers.feed.Goals as goal

pub invariant_of-self-2 : goal.invariant_of-self-2
invariant_of-self-2 c =
    let was = c.self.inside in
    let piece = c.args.piece.now in
    let fed : c.feed.new.self ≡ record was.framer { rest = was.framer.rest ++ piece } = first_of (search rules, grind (arith, common_steps)) in
    let idle : IsPartial max_request_len was.framer.rest = subst (λ (s : Transcript). IsPartial max_request_len s.rest) (sym c.self.view_is) (record { left = c.requires.idle.left; short = c.requires.idle.short }) in
    let follows : CanFollow was.framer.rest (length piece) = subst (λ (s : Transcript). CanFollow s.rest (length piece)) (sym c.self.view_is) c.requires.follows in (
      ap (λ (f : Stream). f.limit) fed ∙ c.self.invariant.0,
      subst (λ (input : List ℕ). IsRead input was.exchanges c.feed.new.self.rest) (sym c.listed-longer.ensures)
          (subst (λ (f : Stream). IsRead (was.input ++ piece) was.exchanges f.rest) (sym fed) (read_on was.input was.framer.rest piece was.exchanges c.self.invariant.1 idle follows)),
    )
