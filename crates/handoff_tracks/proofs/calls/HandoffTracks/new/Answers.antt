use Rattle.std.proofs.Common.{◌∙◌, ap, length, sym}
use Rattle.handoff_tracks.proofs.TrackLists.{new_tracks_are}
use Rattle.handoff_tracks.proofs.calls.HandoffTracks.new.Goals as goal

pub returns : goal.returns
returns c =
    let handoff = c.args.handoff.now in
    let gates = c.gates-gates.ensures in
    let size = c.in_ok-tracks.ensures.size in
    let same = ap length gates.gates in
    record {
      tracked = new_tracks_are handoff c.in_ok-tracks.tracks.items c.requires c.in_ok-tracks.ensures.tracks (size ∙ same) (size ∙ (gates.size ∙ sym gates.places));
      size = size ∙ gates.size;
      of_run = gates.new_run;
    }
