use Rattle.std.proofs.Common.{◌∙◌, sym, ap, arith}
use Rattle.dvv_set.specs.ClockEntries.{with_value}
use Rattle.dvv_set.specs.Soles.{put_after}
use Rattle.dvv_set.specs.Stored.{actor_of, clock_entry, clock_entries, has_room}
use Rattle.dvv_set.proofs.Rooms.{rooms-get}
use Rattle.dvv_set.proofs.Soles.{all-merged, only-item, counter-merged, set-only}
use Rattle.dvv_set.proofs.merging.put_sole.Goals as goal

pub unreachable-requires : goal.unreachable-requires
unreachable-requires g c =
    let some = c.in-None.ensures.variant.1 (omega (arith, c.requires.one)) in
    cc

pub replace_value-requires : goal.replace_value-requires
replace_value-requires g c =
    let items = c.args.entries.now.items in
    let entry = c.in-Some.entry.now in
    let only = only-item items entry c.requires.one c.in-Some.ensures.value in
    let below = c.requires.counter (clock_entry entry) (ap clock_entries only) in
    let seen = c.is_all_seen.ensures c.if-is_all_seen.true in
    let fits = c.well_formed in
    (omega arith, (omega (arith, below), seen.1))

pub returns-then-is_all_seen : goal.returns-then-is_all_seen
returns-then-is_all_seen g c =
    let items = c.args.entries.now.items in
    let entry = c.in-Some.entry.now in
    let only = only-item items entry c.requires.one c.in-Some.ensures.value in
    let seen = c.is_all_seen.ensures c.if-is_all_seen.true in
    let all = all-merged (clock_entry entry).1 c.args.seen seen.0 in
    let next = c.replace_value.ensures ∙ ap (λ e. (actor_of entry.pair, with_value c.args.value e)) (sym all) in
    set-only items entry c.replace_value.new.entry (put_after c.args.seen c.args.value) only next

pub cover-requires : goal.cover-requires
cover-requires g c = let fits = c.well_formed in omega arith

pub add_value-requires : goal.add_value-requires
add_value-requires g c =
    let items = c.args.entries.now.items in
    let entry = c.in-Some.entry.now in
    let only = only-item items entry c.requires.one c.in-Some.ensures.value in
    let below = c.requires.counter (clock_entry entry) (ap clock_entries only) in
    let now = ap (λ e. e.1.0) c.cover.ensures.merged in
    let most = counter-merged (clock_entry entry).1 c.args.seen in
    let room = ap has_room c.in-Some.ensures.value ∙ rooms-get items 0 entry (omega (arith, c.requires.one)) c.requires.rooms in
    let fits = c.well_formed in
    (omega arith, (omega (arith, now, most, below), c.cover.ensures.room room))

pub returns : goal.returns
returns g c =
    let items = c.args.entries.now.items in
    let entry = c.in-Some.entry.now in
    let only = only-item items entry c.requires.one c.in-Some.ensures.value in
    let next = c.add_value.ensures ∙ ap (λ e. (e.0, with_value c.args.value e.1)) c.cover.ensures.merged in
    set-only items entry c.add_value.new.entry (put_after c.args.seen c.args.value) only next
