use Rattle.std.proofs.Common.{◌+◌, ap, ◌∙◌, length, length-append, ◌∷◌, []}
use Rattle.std.specs.Prelude.{None}
use Rattle.handoff_tracks.specs.declared.track.HandoffTrack.TheVariants.{AtPrimary}
use Rattle.handoff_tracks.proofs.TrackLists.{undiverted_push}
use Rattle.handoff_tracks.proofs.calls.undiverted.Goals as goal

pub loop-preserved : goal.loop-preserved
loop-preserved c =
    let all = c.loop.tracks.items in
    let grown = c.in_ok-push.ensures.items in
    (rw grown (undiverted_push all c.loop.invariant.0), ap length grown ∙ length-append all (AtPrimary None ∷ []) ∙ ap (λ n. n + 1) c.loop.invariant.1)
