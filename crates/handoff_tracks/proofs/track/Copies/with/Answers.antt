use Rattle.std.proofs.Common.{arith, refl}
use Rattle.handoff_tracks.proofs.Tracks.{more_made}
use Rattle.handoff_tracks.proofs.track.Copies.with.Goals as goal

pub returns : goal.returns
returns c = λ primary fallback budget calls were made.
    more_made primary fallback c.args.self _ c.args.next budget calls (omega (arith, (c.in_ok-keys.ensures {u = tt}).1, c.from.ensures)) refl c.in_ok-from.ensures were made
