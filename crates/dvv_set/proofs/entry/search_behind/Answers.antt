use Rattle.std.proofs.Common.{◌∙◌, sym, ap, arith}
use Rattle.dvv_set.specs.Stored.{clock_entries, search_actor}
use Rattle.dvv_set.proofs.Ahead.{search_actor-behind, place-within}
use Rattle.dvv_set.proofs.Places.{further, place_at}
use Rattle.dvv_set.proofs.entry.search_behind.Goals as goal

pub split_at-requires : goal.split_at-requires
split_at-requires g c = c.requires.within

pub overflow_add-result : goal.overflow_add-result
overflow_add-result g c =
    let behind = search_actor-behind c.args.actor c.args.first c.args.entries.now c.requires.within c.requires.below in
    let there = ap (λ es. search_actor c.args.actor (clock_entries es)) (sym c.split_at.ensures.back) ∙ sym c.search_actor.ensures ∙ c.in-Taken.is in
    let at = ap place_at (behind ∙ ap (further c.args.first) there) in
    let fits = c.well_formed in
    omega (arith, at, place-within c.args.actor c.args.entries.now)

pub overflow_add-result-in-Free : goal.overflow_add-result-in-Free
overflow_add-result-in-Free g c =
    let behind = search_actor-behind c.args.actor c.args.first c.args.entries.now c.requires.within c.requires.below in
    let there = ap (λ es. search_actor c.args.actor (clock_entries es)) (sym c.split_at.ensures.back) ∙ sym c.search_actor.ensures ∙ c.in-Free.is in
    let at = ap place_at (behind ∙ ap (further c.args.first) there) in
    let fits = c.well_formed in
    omega (arith, at, place-within c.args.actor c.args.entries.now)

pub returns-in-Taken : goal.returns-in-Taken
returns-in-Taken g c =
    let behind = search_actor-behind c.args.actor c.args.first c.args.entries.now c.requires.within c.requires.below in
    let there = ap (λ es. search_actor c.args.actor (clock_entries es)) (sym c.split_at.ensures.back) ∙ sym c.search_actor.ensures ∙ c.in-Taken.is in
    sym (behind ∙ ap (further c.args.first) there)

pub returns-in-Free : goal.returns-in-Free
returns-in-Free g c =
    let behind = search_actor-behind c.args.actor c.args.first c.args.entries.now c.requires.within c.requires.below in
    let there = ap (λ es. search_actor c.args.actor (clock_entries es)) (sym c.split_at.ensures.back) ∙ sym c.search_actor.ensures ∙ c.in-Free.is in
    sym (behind ∙ ap (further c.args.first) there)
