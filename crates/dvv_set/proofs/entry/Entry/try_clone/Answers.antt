use Rattle.std.proofs.Common.{◌≡◌, ◌+◌, ◌++◌, ◌∷◌, drop, ap, sym, ◌∙◌}
use Rattle.std.proofs.lemmas.List.{drop_more, drop_all, append-nil, append_assoc}
use Rattle.dvv_set.specs.Stored.{actor_of}
use Rattle.dvv_set.proofs.entry.Entry.try_clone.Goals as goal

pub loop-value-preserved : goal.loop-value-preserved
loop-value-preserved g c =
    let items = c.deref-value-items.result.now in
    let made = c.loop-value.values.items in
    let rest = drop (c.loop-value.value-index + 1) items in
    ap (λ vs. vs ++ rest) c.in_ok-push.ensures
    ∙ append_assoc made _ rest
    ∙ ap (λ v. made ++ (v ∷ rest)) (c.in_ok-clone_value.ensures ∙ c.value-item.is)
    ∙ ap (λ vs. made ++ vs) (sym (drop_more items c.loop-value.value-index c.value-item.result c.loop-value-test.true))
    ∙ c.loop-value.invariant

pub returns : goal.returns
returns g c =
    let items = c.deref-value-items.result.now in
    let done : c.loop-value.values.items ≡ items =
    sym (append-nil c.loop-value.values.items)
    ∙ ap (λ rest. c.loop-value.values.items ++ rest) (sym (drop_all c.loop-value.value-index items c.loop-value-test.false))
    ∙ c.loop-value.invariant in
    λ i. (actor_of c.args.self.now.pair, (c.args.self.now.pair.counter, (done ∙ c.deref-value-items.ensures) i))
