use Rattle.std.proofs.Common.{◌∙◌, sym, ap, Some, None}
use Rattle.std.specs.Option.{option_copied}
use Rattle.std.specs.Ordering.{nat_cmp}
use Rattle.std.specs.BTreeMap.{get}
use Rattle.schedule_text.specs.ShownIndex.{position_among}
use Rattle.schedule_text.proofs.ShownIndexed.{found_among}
use Rattle.schedule_text.proofs.shown_contexts.ShownContexts.position_of.Goals as goal

pub returns-in-None : goal.returns-in-None
returns-in-None c =
    rw (← c.self.view_is)
    (found_among c.self.inside.entries.items c.self.inside.places c.args.key.now c.args.context.now None c.self.invariant
    (ap (get nat_cmp c.self.inside.places) (sym c.digest_of.ensures) ∙ sym c.get.ensures.value ∙ ap option_copied c.in-None.is))

pub returns-in-Some : goal.returns-in-Some
returns-in-Some c =
    rw (← c.self.view_is)
    (c.position_among.ensures
    ∙ ap (λ entries. position_among entries c.args.key.now c.args.context.now c.as_slice-in-Some.result.now) c.as_slice.ensures.value
    ∙ ap (position_among c.self.inside.entries.items c.args.key.now c.args.context.now) c.as_slice-in-Some.ensures.value
    ∙ found_among c.self.inside.entries.items c.self.inside.places c.args.key.now c.args.context.now (Some c.in-Some.places.now) c.self.invariant
    (ap (get nat_cmp c.self.inside.places) (sym c.digest_of.ensures) ∙ sym c.get.ensures.value ∙ ap option_copied c.in-Some.is))
