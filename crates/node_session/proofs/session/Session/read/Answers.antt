use Rattle.std.proofs.Common.{◌≡◌, ◌∙◌, ◌+◌, ◌-◌, ◌*◌, ◌<◌, ◌≤◌, ◌++◌, ℕ, [], ◌∷◌, length, take, refl, sym, ap, subst, arith}
use Rattle.std.specs.Int.{div_ceil}
use Rattle.node_session.specs.declared.source.ReadNote.TheVariants.{Bytes, Failed}
use Rattle.node_session.specs.Streams.{Gave, weight_of}
use Rattle.node_session.specs.Views.{CanFollow}
use Rattle.node_session.proofs.Coming.{ended_input, piece_lost, piece_fed, interrupted, read_failed}
use Rattle.node_session.proofs.Frames.{fewer_follow}
use Rattle.node_session.proofs.Streaming.{not_interrupted}
use Rattle.node_session.proofs.session.Session.read.Goals as goal

pub overflow_add-self : goal.overflow_add-self
overflow_add-self g c =
    let was = c.args.self.now in
    let within : c.in-Ok.n ≤ length c.args.piece.now = omega (arith, c.in-Ok.ensures.bound.0, c.receive.auto.buf) in
    let least = c.reads_for.ensures.least (was.most - was.made) (omega (arith, within, c.requires.counted)) in
    let more : was.made + c.reads_for.result ≤ was.most = omega (arith, c.requires.fits.3, least) in
    omega (arith, more, c.well_formed)

pub returns-in_default-clause-goes : goal.returns-in_default-clause-goes
returns-in_default-clause-goes g c =
    let step = g.N.Node.step in
    let was = c.args.self.now in
    let n = c.in-Ok.n in
    let piece = take n c.receive.new.buf in
    let len : length piece ≡ n = sym c.in-Ok.ensures.bound.1 in
    let within : n ≤ length c.args.piece.now = omega (arith, c.in-Ok.ensures.bound.0, c.receive.auto.buf) in
    let least = c.reads_for.ensures.least in
    let counts : c.reads_for.result ≡ div_ceil (length piece) 4096 = c.reads_for.ensures.is ∙ ap (λ (k : ℕ). div_ceil k 4096) (sym len) in
    let more : was.made + c.reads_for.result ≤ was.most = omega (arith, c.requires.fits.3, least (was.most - was.made) (omega (arith, within, c.requires.counted))) in
    let some : 0 < length piece = omega (arith, len, c.in-Ok.n-test.1) in
    let follows : CanFollow was.buffers.rest (length piece) = fewer_follow was.buffers.rest (length c.args.piece.now) (length piece) (omega (arith, len, within)) c.requires.follows in
    λ now h' first u h p. piece_lost step first now u _ _ h h' was.buffers was.replies was.made was.most c.is_read.ensures p c.reads_for.result more piece c.in-Ok.ensures.gave counts some follows

pub returns-in-Ok-feed_for-clause-goes : goal.returns-in-Ok-feed_for-clause-goes
returns-in-Ok-feed_for-clause-goes g c =
    let step = g.N.Node.step in
    let was = c.args.self.now in
    let n = c.in-Ok.n in
    let piece = take n c.receive.new.buf in
    let len : length piece ≡ n = sym c.in-Ok.ensures.bound.1 in
    let within : n ≤ length c.args.piece.now = omega (arith, c.in-Ok.ensures.bound.0, c.receive.auto.buf) in
    let least = c.reads_for.ensures.least in
    let counts : c.reads_for.result ≡ div_ceil (length piece) 4096 = c.reads_for.ensures.is ∙ ap (λ (k : ℕ). div_ceil k 4096) (sym len) in
    let more : was.made + c.reads_for.result ≤ was.most = omega (arith, c.requires.fits.3, least (was.most - was.made) (omega (arith, within, c.requires.counted))) in
    let some : 0 < length piece = omega (arith, len, c.in-Ok.n-test.1) in
    λ now h' first u h p. piece_fed step first now u _ _ h h' was.buffers was.replies was.made was.most c.is_read.ensures p c.reads_for.result more piece c.in-Ok.ensures.gave counts some c.feed_for.new.self (subst (λ s. c.feed_for.new.self ≡ record s { input = s.input ++ piece; rest = s.rest ++ piece }) c.lend.ensures c.in-Ok-feed_for.ensures.ok)

pub returns-in-Interrupted-clause-goes : goal.returns-in-Interrupted-clause-goes
returns-in-Interrupted-clause-goes g c =
    let was = c.args.self.now in
    let one = ap (λ kind. weight_of (Failed kind)) (sym c.kind.ensures ∙ c.in-Interrupted.is) in
    λ now h' first u h p. interrupted g.N.Node.step first now u _ _ h h' was.buffers was.replies was.made was.most c.is_read.ensures p _ one c.requires.fits.3 c.in-Err.ensures.gave

pub returns-in_default-kind : goal.returns-in_default-kind
returns-in_default-kind g c =
    let was = c.args.self.now in
    record {
      goes = λ now h' first u h p. read_failed g.N.Node.step first now u _ _ h h' was.buffers was.replies was.made was.most c.is_read.ensures p _ (not_interrupted _ (λ is. c.in_default-kind.not-Interrupted (c.kind.ensures ∙ is))) c.in-Err.ensures.gave;
      fits = tt;
      less = omega arith;
      waits = tt;
      most = refl;
    }

pub returns-in-Ok-eq0-clause-goes : goal.returns-in-Ok-eq0-clause-goes
returns-in-Ok-eq0-clause-goes g c =
    let was = c.args.self.now in
    let long : length c.receive.new.buf ≡ length c.args.piece.now = c.receive.auto.buf in
    let some : 0 < length c.receive.new.buf = omega (arith, long, c.requires.some) in
    let n = c.in-Ok-eq0.field-0 in
    let none : n ≡ 0 = c.in-Ok-eq0.field-0-test in
    let gave = subst (λ (k : ℕ). Gave (g.T.Transport.source c.args.reader.now) (g.T.Transport.source c.receive.new.reader) (Bytes (take k c.receive.new.buf) ∷ [])) none c.in-Ok-eq0.ensures.gave in
    λ now h' first u h p. ended_input g.N.Node.step first now u _ _ h h' was.buffers was.replies was.made was.most c.is_read.ensures p gave (c.in-Ok-eq0.ensures.end none some) c.rest.result c.rest.ensures
