use Rattle.std.proofs.Common.{◌<◌, ◌^◌, ◌∙◌, ap, sym, subst, length}
use Rattle.std.specs.Prelude.{Some}
use Rattle.handoff.specs.Partitions.{IsFallback}
use Rattle.handoff.proofs.Opened.{got, fallback_there}
use Rattle.handoff.proofs.partitions.Handoff.fallback.Goals as goal

pub returns-in-Some-clause-new : goal.returns-in-Some-clause-new
returns-in-Some-clause-new c =
    let all = c.self.inside.fallbacks.items in
    let asked = subst (λ n. c.args.index < 2 ^ n.index_bits) (sym c.self.view_is) c.requires in
    let within : c.args.index < length all = subst (λ n. c.args.index < n) (sym c.self.invariant.3) asked in
    let at = got all c.args.index c.index.result.now within c.index.ensures ∙ ap (λ o. Some o) c.in-Some.is in
    subst (λ n. IsFallback n.run c.args.index c.in-Some.fallback) c.self.view_is
    (fallback_there c.self.inside.run c.args.index all (Some c.in-Some.fallback) c.self.invariant.2 at)
