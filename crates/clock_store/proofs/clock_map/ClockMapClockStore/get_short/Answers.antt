use Rattle.std.proofs.Common.{◌∙◌, sym, ap, cond}
use Rattle.std.specs.Prelude.{None, option_and_then}
use Rattle.std.specs.Option.{option_map, option_copied}
use Rattle.clock_store.specs.Keys.{stored_of}
use Rattle.clock_store.specs.Places.{stored_at}
use Rattle.clock_store.specs.Maps.{shown_at}
use Rattle.clock_store.proofs.Views.{find_view}
use Rattle.clock_store.proofs.clock_map.ClockMapClockStore.get_short.Goals as goal

pub returns-in-None : goal.returns-in-None
returns-in-None c =
    let v = c.self.inside in
    ap (option_and_then (shown_at v.clocks v.room)) c.in-None.ensures.place
    ∙ sym (find_view v.places v.clocks v.dead v.room c.self.invariant.map c.args.self.now c.self.view_is c.args.key)

pub returns-then-is_spare : goal.returns-then-is_spare
returns-then-is_spare c =
    let v = c.self.inside in
    sym (ap (λ b. cond b None (stored_at v.clocks c.in-Some.index)) (sym c.is_spare.ensures ∙ c.if-is_spare.true))
    ∙ ap (option_and_then (shown_at v.clocks v.room)) c.in-Some.ensures.place
    ∙ sym (find_view v.places v.clocks v.dead v.room c.self.invariant.map c.args.self.now c.self.view_is c.args.key)

pub returns-in-Some-get : goal.returns-in-Some-get
returns-in-Some-get c =
    let v = c.self.inside in
    ap (λ o. option_map stored_of (option_copied o)) (sym c.in-Some-get.is) ∙ ap (option_map stored_of) c.get.ensures
    ∙ sym (ap (λ b. cond b None (stored_at v.clocks c.in-Some.index)) (sym c.is_spare.ensures ∙ c.if-is_spare.false))
    ∙ ap (option_and_then (shown_at v.clocks v.room)) c.in-Some.ensures.place
    ∙ sym (find_view v.places v.clocks v.dead v.room c.self.invariant.map c.args.self.now c.self.view_is c.args.key)
