use Rattle.handoff_tracks.proofs.TrackLists.{have_kept}
use Rattle.handoff_tracks.proofs.Tracks.{can_copy}
use Rattle.handoff_tracks.proofs.calls.HandoffTracks.copy_back.Goals as goal

pub copied-requires : goal.copied-requires
copied-requires g c =
    can_copy c.args.handoff.now c.args.index c.args.budget c.take-track.result c.in-Ok.copied (c.requires.tracks.tracked c.args.index c.take-track.result c.take-track.ensures.was) c.in-Ok.ensures.ok

pub returns-in-Ok-clause-tracks : goal.returns-in-Ok-clause-tracks
returns-in-Ok-clause-tracks g c =
    let was = c.take-track.ensures.was in
    have_kept c.args.handoff.now c.args.self.now c.take-track.new.self c.keep.new.self c.args.index c.take-track.result c.copied.result c.requires.tracks was c.take-track.ensures.rest c.keep.ensures
    (c.copied.ensures c.args.handoff.now c.args.index c.args.budget (c.requires.tracks.tracked c.args.index c.take-track.result was) c.in-Ok.ensures.ok)
