use Rattle.std.proofs.Common.{sym, ◌∙◌, ap}
use Rattle.std.specs.Option.{option_copied_mut}
use Rattle.schedule_text.proofs.ShownIndexed.{place-added, place-refused}
use Rattle.schedule_text.proofs.shown_contexts.add_place.Goals as goal

pub returns-in-Ok-clause-ok : goal.returns-in-Ok-clause-ok
returns-in-Ok-clause-ok c =
    place-added c.args.digest c.args.places.now c.add_digest.new.places (c.get_mut.follows.lender c.push.new.self) c.in-Some.same.now c.push.new.self c.args.place c.add_digest.ensures.same
    (sym c.get_mut.ensures.value ∙ ap option_copied_mut c.in-Some.is) ((c.get_mut.follows.holds c.push.new.self).3 c.in_ok-add_digest.ensures.ok).0 c.in-Ok.ensures.items

pub returns-in-Err-clause-err : goal.returns-in-Err-clause-err
returns-in-Err-clause-err c =
    place-refused c.args.digest c.args.places.now c.add_digest.new.places (c.get_mut.follows.lender c.push.new.self) c.in-Some.same.now c.push.new.self c.add_digest.ensures.same
    (sym c.get_mut.ensures.value ∙ ap option_copied_mut c.in-Some.is) ((c.get_mut.follows.holds c.push.new.self).3 c.in_ok-add_digest.ensures.ok).0 c.in-Err.ensures.items
