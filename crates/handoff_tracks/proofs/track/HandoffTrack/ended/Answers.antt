use Rattle.std.proofs.Common.{subst}
use Rattle.handoff_tracks.specs.declared.track.HandoffTrack.{HandoffTrack}
use Rattle.handoff_tracks.specs.Tracks.{IsTrack}
use Rattle.handoff_tracks.proofs.Tracks.{at_fallback_ended}
use Rattle.handoff_tracks.proofs.track.HandoffTrack.ended.Goals as goal

pub returns-in-Some : goal.returns-in-Some
returns-in-Some c = λ handoff index stands at ended.
    at_fallback_ended handoff index c.in-AtFallback.kept c.in-AtFallback.copies c.args.fallback.now c.args.passes c.in-Some.last c.in-Some.ensures stands
    (subst (λ (t : HandoffTrack). IsTrack handoff index t) c.in-AtFallback.is at) ended
