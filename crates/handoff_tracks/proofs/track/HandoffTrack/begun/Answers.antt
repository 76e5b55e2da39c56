use Rattle.std.proofs.Common.{subst}
use Rattle.handoff_tracks.specs.declared.track.HandoffTrack.{HandoffTrack}
use Rattle.handoff_tracks.specs.Tracks.{IsTrack}
use Rattle.handoff_tracks.proofs.Tracks.{at_primary_begun}
use Rattle.handoff_tracks.proofs.track.HandoffTrack.begun.Goals as goal

pub returns-in-AtPrimary : goal.returns-in-AtPrimary
returns-in-AtPrimary c = λ index old new at diverted.
    at_primary_begun index old new c.in-AtPrimary.kept c.none.result c.none.ensures (subst (λ (t : HandoffTrack). IsTrack old index t) c.in-AtPrimary.is at) diverted
