use Rattle.std.proofs.Common.{◌≡◌, Bool, true, false, not, ◌&&◌, List, [], ◌∷◌, length, refl, sym, ◌∙◌, ap, arith}
use Rattle.std.specs.Prelude.{◌==◌}
use Rattle.std.proofs.lemmas.Bool.{eqb-true}
use Rattle.actor_epoch.specs.declared.Actor.{Actor}
use Rattle.actor_epoch.specs.declared.Dot.{Dot}
use Rattle.actor_epoch.specs.Dots.{actor_eq}
use Rattle.actor_epoch.proofs.Order.{actor_eq-same}
use Rattle.dvv_set.specs.Held.{pairs_of}
use Rattle.dvv_set.specs.Stored.{actor_of, clock_entry, clock_entries}
use Rattle.dvv_set.proofs.Rooms.{none_items}
use Rattle.dvv_set.proofs.room.sole_seen.Goals as goal

same_actor : (a b : Actor) (ne : Bool) → ne ≡ false → ne ≡ not (actor_eq a b) → a ≡ b
same_actor a b ne same is = actor_eq-same a b (by (actor_eq a b) (sym same ∙ is))
  where
    by : (e : Bool) → false ≡ not e → e ≡ true
    by true h = refl
    by false h = cc

pub returns-in-None-clause-sole : goal.returns-in-None-clause-sole
returns-in-None-clause-sole g c =
    let entry = c.in_ok-entry.entry.now in
    let alone = none_items c.in_ok-entry.rest.now (sym c.is_empty.ensures ∙ c.if-not-is_empty.false) in
    let own = sym c.actor.ensures ∙ same_actor c.actor.result c.args.actor c.ne.result c.if-ne.false c.ne.ensures in
    record {
      entry = (entry.pair.counter, entry.values.items);
      is = ap clock_entries c.in_ok-entry.ensures.cases.0 ∙ (λ i. (own i, (entry.pair.counter, entry.values.items)) ∷ clock_entries (alone i));
      saw = rw c.in-None.is refl;
    }

pub returns-else-ne-2-clause-sole : goal.returns-else-ne-2-clause-sole
returns-else-ne-2-clause-sole g c =
    let entry = c.in_ok-entry.entry.now in
    let alone = none_items c.in_ok-entry.rest.now (sym c.is_empty.ensures ∙ c.if-not-is_empty.false) in
    let own = sym c.actor.ensures ∙ same_actor c.actor.result c.args.actor c.ne.result c.if-ne.false c.ne.ensures in
    let its = same_actor c.in_ok-other-in-Some.other c.args.actor c.ne-in-Some.result c.if-ne-2.false c.ne-in-Some.ensures in
    record {
      entry = (entry.pair.counter, entry.values.items);
      is = ap clock_entries c.in_ok-entry.ensures.cases.0 ∙ (λ i. (own i, (entry.pair.counter, entry.values.items)) ∷ clock_entries (alone i));
      saw = rw c.in-Some.is (c.in_ok-other-in-Some.ensures.sole ∙ (λ i. (let d : Dot = record { actor = its i; counter = c.in_ok-other-in-Some.counter } in d) ∷ []));
    }
