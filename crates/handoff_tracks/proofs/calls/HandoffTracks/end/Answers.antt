use Rattle.std.proofs.Common.{◌≡◌, subst}
use Rattle.std.specs.Prelude.{Some, slice_get}
use Rattle.handoff_tracks.proofs.TrackLists.{have_kept, have_taken}
use Rattle.handoff_tracks.proofs.Tracks.{can_end}
use Rattle.handoff_tracks.proofs.calls.HandoffTracks.end.Goals as goal

pub ended-requires : goal.ended-requires
ended-requires c =
    let fallback = c.in-Some.fallback.now in
    can_end c.args.handoff.now c.args.index c.take-track.result fallback c.args.passes
    (subst (λ n. slice_get c.args.handoff.now.fallbacks n ≡ Some (Some fallback)) c.from.ensures c.in-Some.ensures.stands)
    (c.requires.tracks.tracked c.args.index c.take-track.result c.take-track.ensures.was) c.requires.returned

pub returns-in-Some : goal.returns-in-Some
returns-in-Some c =
    let fallback = c.in-Some.fallback.now in
    have_kept c.args.handoff.now c.args.self.now c.take-track.new.self c.keep.new.self c.args.index c.take-track.result c.ended.result c.requires.tracks c.take-track.ensures.was
    c.take-track.ensures.rest c.keep.ensures
    (c.ended.ensures c.args.handoff.now c.args.index (subst (λ n. slice_get c.args.handoff.now.fallbacks n ≡ Some (Some fallback)) c.from.ensures c.in-Some.ensures.stands)
    (c.requires.tracks.tracked c.args.index c.take-track.result c.take-track.ensures.was) c.requires.returned)

pub returns-in_default : goal.returns-in_default
returns-in_default c =
    have_taken c.args.handoff.now c.args.self.now c.take-track.new.self c.args.index c.take-track.result c.requires.tracks c.take-track.ensures.was c.take-track.ensures.rest
