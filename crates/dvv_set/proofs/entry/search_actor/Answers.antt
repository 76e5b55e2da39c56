use Rattle.std.proofs.Common.{◌≡◌, ◌∙◌, ◌+◌, sym, ap, drop, length, arith}
use Rattle.std.specs.FinMap.Entries.{by_order}
use Rattle.std.proofs.Math.ListN.{drop_of_length-le}
use Rattle.actor_epoch.specs.Dots.{actor_cmp}
use Rattle.dvv_set.specs.declared.entry.Place.TheVariants.{Taken, Free}
use Rattle.dvv_set.specs.Stored.{actor_of, clock_entries, one_on, search_actor}
use Rattle.dvv_set.proofs.Places.{further}
use Rattle.dvv_set.proofs.Walks.{further-taken, further-free, further-one, search_actor-next}
use Rattle.dvv_set.proofs.entry.search_actor.Goals as goal

pub offset_bounds-entries-at : goal.offset_bounds-entries-at
offset_bounds-entries-at g c = c.loop-at.auto.at-end

pub bounds-entries-at : goal.bounds-entries-at
bounds-entries-at g c = c.loop-at-test.true

pub returns-in-Equal : goal.returns-in-Equal
returns-in-Equal g c =
    let entries = c.args.entries.now in
    let at = c.loop-at.at in
    let rest = one_on (search_actor c.args.actor (clock_entries (drop (at + 1) entries))) in
    let order = ap (λ entry. actor_cmp (actor_of entry.pair) c.args.actor) (sym c.index-entries-at.is) ∙ ap (λ a. actor_cmp a c.args.actor) (sym c.actor.ensures) ∙ sym c.cmp.ensures ∙ c.in-Equal.is in
    sym (c.loop-at.invariant
    ∙ ap (further at) (search_actor-next entries c.args.actor at c.index-entries-at.result c.loop-at-test.true ∙ ap (λ o. by_order o rest (Taken 0) (Free 0)) order)
    ∙ further-taken at)

pub returns-in-Greater : goal.returns-in-Greater
returns-in-Greater g c =
    let entries = c.args.entries.now in
    let at = c.loop-at.at in
    let rest = one_on (search_actor c.args.actor (clock_entries (drop (at + 1) entries))) in
    let order = ap (λ entry. actor_cmp (actor_of entry.pair) c.args.actor) (sym c.index-entries-at.is) ∙ ap (λ a. actor_cmp a c.args.actor) (sym c.actor.ensures) ∙ sym c.cmp.ensures ∙ c.in-Greater.is in
    sym (c.loop-at.invariant
    ∙ ap (further at) (search_actor-next entries c.args.actor at c.index-entries-at.result c.loop-at-test.true ∙ ap (λ o. by_order o rest (Taken 0) (Free 0)) order)
    ∙ further-free at)

pub loop-at-preserved : goal.loop-at-preserved
loop-at-preserved g c =
    let entries = c.args.entries.now in
    let at = c.loop-at.at in
    let rest = search_actor c.args.actor (clock_entries (drop (at + 1) entries)) in
    let order = ap (λ entry. actor_cmp (actor_of entry.pair) c.args.actor) (sym c.index-entries-at.is) ∙ ap (λ a. actor_cmp a c.args.actor) (sym c.actor.ensures) ∙ sym c.cmp.ensures ∙ c.in-Less.is in
    c.loop-at.invariant
    ∙ ap (further at) (search_actor-next entries c.args.actor at c.index-entries-at.result c.loop-at-test.true ∙ ap (λ o. by_order o (one_on rest) (Taken 0) (Free 0)) order)
    ∙ further-one at rest

pub returns : goal.returns
returns g c =
    let at = c.loop-at.at in
    let all : at ≡ length c.args.entries.now = omega (arith, c.loop-at-test.false, c.loop-at.auto.at-end) in
    sym (c.loop-at.invariant
    ∙ ap (λ entries. further at (search_actor c.args.actor (clock_entries entries))) (drop_of_length-le c.args.entries.now c.loop-at-test.false)
    ∙ further-free at ∙ ap Free all)
