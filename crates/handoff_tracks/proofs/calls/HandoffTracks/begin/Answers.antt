use Rattle.handoff_tracks.proofs.TrackLists.{have_begun}
use Rattle.handoff_tracks.proofs.calls.HandoffTracks.begin.Goals as goal

pub returns : goal.returns
returns c = λ old new have diverted.
    have_begun old new c.args.self.now c.take-track.new.self c.keep.new.self c.args.index c.take-track.result c.begun.result have c.take-track.ensures.was c.take-track.ensures.rest c.keep.ensures diverted
    (c.begun.ensures c.args.index old new (have.tracked c.args.index c.take-track.result c.take-track.ensures.was) diverted)
