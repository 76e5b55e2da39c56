use Rattle.std.proofs.Common.{◌≡◌, ◌<◌, ◌^◌, sym, subst, length}
use Rattle.std.specs.Prelude.{Some, slice_get}
use Rattle.handoff.specs.Partitions.{IsFallback}
use Rattle.handoff.proofs.Opened.{got}
use Rattle.handoff.proofs.Started.{starts_get}
use Rattle.handoff.proofs.partitions.Handoff.diverted.Goals as goal

pub returns-clause-some : goal.returns-clause-some
returns-clause-some c =
    let gates = c.self.inside.gates.items in
    let all = c.self.inside.fallbacks.items in
    let at = c.from-at.ensures in
    let primary = c.index-primary.result.now in
    let fallback = c.in_ok-fallback.fallback.now in
    let asked = subst (λ n. c.args.index < 2 ^ n.index_bits) (sym c.self.view_is) c.requires in
    let within : c.from-at.result < length gates = subst (λ n. c.from-at.result < n) (sym c.self.invariant.1) (subst (λ n. n < 2 ^ c.self.inside.ring) (sym at) asked) in
    let here = got gates c.from-at.result primary within c.index-primary.ensures in
    let there = subst (λ n. slice_get n.fallbacks c.from-at.result ≡ Some (Some fallback)) (sym c.self.view_is) c.in_ok-fallback.ensures.stands in
    record {
      stands = subst (λ n. slice_get n.gates c.args.index ≡ Some primary) c.self.view_is (subst (λ k. slice_get gates k ≡ Some primary) at here);
      diverted = subst (λ k. slice_get c.args.self.now.fallbacks k ≡ Some (Some fallback)) at c.in_ok-fallback.ensures.stands;
      is_fallback = subst (λ k. IsFallback c.args.self.now.run k fallback) at c.in_ok-fallback.ensures.new;
      start = starts_get gates all c.from-at.result primary (Some fallback) c.self.invariant.4 here there;
    }
