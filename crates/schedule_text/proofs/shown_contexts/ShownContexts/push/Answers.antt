use Rattle.std.proofs.Common.{sym, ap, ◌∙◌, ◌++◌, ◌∷◌, [], length, subst}
use Rattle.schedule_text.specs.ShownIndex.{AreIndexed}
use Rattle.schedule_text.proofs.ShownIndexed.{indexed-more}
use Rattle.schedule_text.proofs.shown_contexts.ShownContexts.push.Goals as goal

pub invariant_of-self-2 : goal.invariant_of-self-2
invariant_of-self-2 c =
    subst (λ entries. AreIndexed entries c.add_place.new.places) (sym (c.push_reserved.ensures.items ∙ ap (λ entries. entries ++ c.args.entry ∷ []) c.reserve.ensures.items))
    (indexed-more c.self.inside.entries.items c.args.entry c.entry_digest-digest.result _ c.self.inside.places c.add_place.new.places c.entry_digest-digest.ensures
    (ap length c.as_slice-place.ensures.value) c.self.invariant c.in_ok-add_place.ensures.ok)
