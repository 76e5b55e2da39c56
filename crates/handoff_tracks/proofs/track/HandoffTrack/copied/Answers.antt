use Rattle.std.proofs.Common.{subst}
use Rattle.handoff_tracks.specs.declared.track.HandoffTrack.{HandoffTrack}
use Rattle.handoff_tracks.specs.Compared.{CanCopy}
use Rattle.handoff_tracks.specs.Tracks.{IsTrack}
use Rattle.handoff_tracks.proofs.Tracks.{at_fallback_copied}
use Rattle.handoff_tracks.proofs.track.HandoffTrack.copied.Goals as goal

pub returns-in-Some : goal.returns-in-Some
returns-in-Some c = λ handoff index budget at is.
    at_fallback_copied handoff index budget c.in-AtFallback.kept c.in-AtFallback.copies c.in-Some.copies c.args.copied
    (λ primary fallback budget calls were made. c.in-Some.ensures primary fallback budget calls were made)
    (subst (λ (t : HandoffTrack). IsTrack handoff index t) c.in-AtFallback.is at) is

pub with-requires : goal.with-requires
with-requires c = subst (λ (t : HandoffTrack). CanCopy t c.args.copied) c.in-AtFallback.is c.requires
