-- The hand-offs of which a console knows all calls join their keys.
use Rattle.std.proofs.Common.{ℕ, List, [], ◌∷◌, sym, subst}
use Rattle.std.specs.Prelude.{Some}
use Rattle.handoff.specs.Partitions.{AreOfNewRun, HandoffView}
use Rattle.handoff.specs.Running.{Diversion, HaveReturned}
use Rattle.handoff.proofs.Running.{running-hand-offs-join}
use Rattle.handoff.proofs.Contexts.{shown-contexts-name}
use Rattle.handoff_tracks.specs.declared.track.LastReturn.{LastReturn}
use Rattle.handoff_tracks.specs.declared.track.HandoffTrack.{HandoffTrack}
use Rattle.handoff_tracks.specs.declared.track.HandoffTrack.TheVariants.{AtPrimary}
use Rattle.handoff_tracks.specs.Joining.{AllJoined, AreJoined}
use Rattle.handoff_tracks.specs.Tracks.{EndedOver, HaveTracks, KeepsLast, ReturnsOf}

joined : (handoff : HandoffView) (index : ℕ) (kept : LastReturn) → AreOfNewRun handoff.run handoff.gates → (returns : ReturnsOf handoff index (Some kept)) → AreJoined handoff index kept
joined handoff index kept of_run returns = by returns.diversions returns.returned returns.ended returns.last
  where
    by : (diversions : List Diversion) → HaveReturned handoff.run index returns.primary diversions → EndedOver handoff diversions → KeepsLast (Some kept) diversions → AreJoined handoff index kept
    by [] returned ended keeps = absurd keeps
    by (last ∷ earlier) returned ended keeps =
        let new : AreOfNewRun handoff.run last.ended.gates = subst (λ gs. AreOfNewRun handoff.run gs) (sym ended) of_run in
        record {
          primary = returns.primary;
          stands = returns.stands;
          last = last;
          earlier = earlier;
          returned = returned;
          passes = keeps.0;
          number = keeps.2;
          joined = λ key shown.
              let names = shown-contexts-name handoff.run index returns.primary last earlier new returned key shown in
              (running-hand-offs-join handoff.run index returns.primary last earlier new returned key names.0 names.1).0;
        }

pub all_joined : (handoff : HandoffView) (tracks : List HandoffTrack) → HaveTracks handoff tracks → AllJoined handoff tracks
all_joined handoff tracks have index kept at = joined handoff index kept have.of_run (have.tracked index (AtPrimary (Some kept)) at).returns
