use Rattle.std.proofs.Common.{◌∙◌, arith}
use Rattle.std.specs.Prelude.{[], max, unwrap_or}
use Rattle.actor_epoch.specs.Dots.{counter_in}
use Rattle.dvv_set.specs.Held.{pairs_of}
use Rattle.dvv_set.specs.Stored.{clock_entries}
use Rattle.dvv_set.proofs.Stored.{length-clock_entries}
use Rattle.dvv_set.proofs.Soles.{after-sole}
use Rattle.dvv_set.proofs.Ready.{after-length, after-new, no_more, own_counts, seen-is}
use Rattle.dvv_set.proofs.room.more_entries.Goals as goal

pub returns-in-Some-clause-enough : goal.returns-in-Some-clause-enough
returns-in-Some-clause-enough g c =
    let entries = clock_entries c.args.entries.now in
    let same = after-sole entries (pairs_of c.args.context) c.args.actor _ c.in-Some.ensures.of_form c.requires.entries c.in-Some.ensures.sole in
    omega (arith, same, length-clock_entries c.args.entries.now)

pub count_new_in-new-requires : goal.count_new_in-new-requires
count_new_in-new-requires g c = let fits = c.well_formed in (omega arith, c.requires.entries.sorted)

pub overflow_add-entries : goal.overflow_add-entries
overflow_add-entries g c = omega (arith, c.requires.few, c.count_new_in-new.ensures.few)

pub overflow_add-entries-2 : goal.overflow_add-entries-2
overflow_add-entries-2 g c = omega (arith, c.requires.few, c.count_new_in-new.ensures.few)

pub required_room-more-requires : goal.required_room-more-requires
required_room-more-requires g c = let fits = c.well_formed in (omega arith, c.requires.entries)

pub returns-then-own-ne0-clause-enough : goal.returns-then-own-ne0-clause-enough
returns-then-own-ne0-clause-enough g c =
    let entries = clock_entries c.args.entries.now in
    let pairs = pairs_of c.args.context in
    let f = c.count_new_in-new.ensures.of_form in
    let given = counter_in (unwrap_or pairs []) c.args.actor in
    let seen = (λ i. max (c.last_counter-own.ensures.counter i) given) ∙ seen-is entries pairs f c.requires.entries c.args.actor in
    let none = no_more _ _ _ (own_counts _ _ _ c.if-own-ne0.true seen) (after-length entries pairs f c.requires.entries c.args.actor) in
    omega (arith, none, c.count_new_in-new.ensures.new, length-clock_entries c.args.entries.now)

pub returns-then-entries-new-clause-enough : goal.returns-then-entries-new-clause-enough
returns-then-entries-new-clause-enough g c =
    let entries = clock_entries c.args.entries.now in
    let most = after-new entries (pairs_of c.args.context) c.count_new_in-new.ensures.of_form c.requires.entries c.args.actor in
    omega (arith, most, c.count_new_in-new.ensures.new, length-clock_entries c.args.entries.now, c.if-entries-new.true)

pub returns-clause-enough : goal.returns-clause-enough
returns-clause-enough g c = omega (arith, c.required_room-more.ensures.more)
