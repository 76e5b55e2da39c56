use Rattle.std.proofs.Common.{◌≡◌, ◌<◌, refl, subst, sym}
use Rattle.std.proofs.lemmas.Bool.{iff_false}
use Rattle.std.specs.Prelude.{IfErr, OnErr, OnOk}
use mathlib.Core.Logic.{inl, inr}
use Rattle.handoff.specs.Partitions.{IsDivertRefused}
use Rattle.gate_node.specs.Gates.{Gates, handoff_of}
use Rattle.worker_pool.specs.Resuming.{IsOnceDiverted}
use Rattle.handoff_tracks.specs.Tracks.{HaveTracks}
use Rattle.node_commands.proofs.Periods.{diverts, stays}
use Rattle.node_commands.proofs.controlled.divert.Goals as goal

pub divert-paused-requires-clause-budget : goal.divert-paused-requires-clause-budget
divert-paused-requires-clause-budget c = c.requires.serves.budget

pub returns-then-not-has_partition-clause-answers : goal.returns-then-not-has_partition-clause-answers
returns-then-not-has_partition-clause-answers c = (refl, refl, inl (iff_false c.has_partition.ensures c.if-not-has_partition.true, refl))

pub returns-in-Ok-clause-serves : goal.returns-in-Ok-clause-serves
returns-in-Ok-clause-serves c =
    let now = c.divert-paused.result.0 in
    diverts c.args.settings.now c.args.paused now c.args.partition c.requires.serves
    (subst (λ outcome. OnOk outcome (IsOnceDiverted c.args.partition c.args.paused.shared now.shared)) c.in-Ok.is c.divert-paused.ensures.ok) c.divert-paused.ensures.progress

pub returns-in-Ok-clause-answers : goal.returns-in-Ok-clause-answers
returns-in-Ok-clause-answers c =
    let now = c.divert-paused.result.0 in
    (refl, subst (λ outcome. OnOk outcome (IsOnceDiverted c.args.partition c.args.paused.shared now.shared)) c.in-Ok.is c.divert-paused.ensures.ok, c.divert-paused.ensures.progress)

pub returns-in-Err-clause-serves : goal.returns-in-Err-clause-serves
returns-in-Err-clause-serves c =
    let now = c.divert-paused.result.0 in
    stays c.args.settings.now c.args.paused now c.requires.serves
    (subst (λ outcome. OnErr outcome (now.shared ≡ c.args.paused.shared)) c.in-Err.is c.divert-paused.ensures.err) c.divert-paused.ensures.progress

pub returns-in-Err-clause-answers : goal.returns-in-Err-clause-answers
returns-in-Err-clause-answers c =
    let now = c.divert-paused.result.0 in (
      subst (λ outcome. OnErr outcome (now.shared ≡ c.args.paused.shared)) c.in-Err.is c.divert-paused.ensures.err,
      c.divert-paused.ensures.progress,
      inr (c.in-Err.fault, subst (λ outcome. IfErr outcome (IsDivertRefused (handoff_of c.args.paused.shared) c.args.partition)) c.in-Err.is c.divert-paused.ensures.fault, c.refusal_of.ensures),
    )

pub begin-requires : goal.begin-requires
begin-requires c = subst (λ n. c.args.partition < n) (sym c.requires.tracks.size) (c.if-not-has_partition.ensures.0 refl)

pub returns-in-Ok-clause-tracks : goal.returns-in-Ok-clause-tracks
returns-in-Ok-clause-tracks c =
    let now = c.divert-paused.result.0 in
    c.begin.ensures (handoff_of c.args.paused.shared) (handoff_of now.shared) c.requires.tracks
    (subst (λ outcome. OnOk outcome (IsOnceDiverted c.args.partition c.args.paused.shared now.shared)) c.in-Ok.is c.divert-paused.ensures.ok).handoff

pub returns-in-Err-clause-tracks : goal.returns-in-Err-clause-tracks
returns-in-Err-clause-tracks c =
    let now = c.divert-paused.result.0 in
    subst (λ (gates : Gates). HaveTracks (handoff_of gates) c.args.tracks.now)
    (sym (subst (λ outcome. OnErr outcome (now.shared ≡ c.args.paused.shared)) c.in-Err.is c.divert-paused.ensures.err)) c.requires.tracks
