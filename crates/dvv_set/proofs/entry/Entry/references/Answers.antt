use Rattle.std.proofs.Common.{◌≡◌, ◌+◌, ◌++◌, ◌∷◌, drop, map, ap, sym, ◌∙◌}
use Rattle.std.specs.Prelude.{Some}
use Rattle.std.proofs.lemmas.List.{drop_more, drop_all, append-nil, map-append, append_assoc}
use Rattle.dvv_set.specs.References.{referred}
use Rattle.dvv_set.specs.Stored.{actor_of}
use Rattle.dvv_set.proofs.entry.Entry.references.Goals as goal

pub loop-value-preserved : goal.loop-value-preserved
loop-value-preserved g c =
    let items = c.deref-value-items.result.now in
    let shown = c.loop-value.values.items in
    let rest = map (λ value. Some value) (drop (c.loop-value.value-index + 1) items) in
    ap (λ vs. map referred vs ++ rest) c.in_ok-push.ensures
    ∙ ap (λ vs. vs ++ rest) (map-append referred shown _)
    ∙ append_assoc (map referred shown) _ rest
    ∙ ap (λ v. map referred shown ++ (Some v ∷ rest)) c.value-item.is
    ∙ ap (λ vs. map referred shown ++ map (λ value. Some value) vs) (sym (drop_more items c.loop-value.value-index c.value-item.result c.loop-value-test.true))
    ∙ c.loop-value.invariant

pub returns : goal.returns
returns g c =
    let items = c.deref-value-items.result.now in
    let done : map referred c.loop-value.values.items ≡ map (λ value. Some value) items =
    sym (append-nil (map referred c.loop-value.values.items))
    ∙ ap (λ rest. map referred c.loop-value.values.items ++ map (λ value. Some value) rest) (sym (drop_all c.loop-value.value-index items c.loop-value-test.false))
    ∙ c.loop-value.invariant in
    λ i. (actor_of c.args.self.now.pair, (c.args.self.now.pair.counter, (done ∙ ap (λ vs. map (λ value. Some value) vs) c.deref-value-items.ensures) i))
