use Rattle.std.proofs.Common.{◌+◌, ◌-◌, ◌∙◌, sym, ap, arith, length, take}
use Rattle.std.specs.Prelude.{nat_lt}
use Rattle.dvv_set.specs.Stored.{actor_of}
use Rattle.dvv_set.proofs.ClockEntries.{is_entry-within}
use Rattle.dvv_set.proofs.Rooms.{room_fewer}
use Rattle.dvv_set.proofs.Walks.{take_within, merged-own_more, merged-other_more}
use Rattle.dvv_set.proofs.merging.merge.Goals as goal

pub overflow_sub-kept : goal.overflow_sub-kept
overflow_sub-kept g c = c.if-other-own.true

pub overflow_add-kept : goal.overflow_add-kept
overflow_add-kept g c =
    let within = is_entry-within c.args.other.pair.counter (length c.args.other.values.items) c.requires.other_entry in
    omega (arith, within, c.len.ensures)

pub overflow_sub-kept-else-other-own : goal.overflow_sub-kept-else-other-own
overflow_sub-kept-else-other-own g c = omega (arith, c.if-other-own.false)

pub overflow_add-kept-else-other-own : goal.overflow_add-kept-else-other-own
overflow_add-kept-else-other-own g c =
    let within = is_entry-within c.args.own.now.pair.counter (length c.args.own.now.values.items) c.requires.own_entry in
    omega (arith, within, c.len-else-other-own.ensures)

pub returns-then-other-own-clause-merged : goal.returns-then-other-own-clause-merged
returns-then-other-own-clause-merged g c =
    let own = c.args.own.now in
    let other = c.args.other in
    let kept = c.truncate.ensures.items ∙ ap (λ n. take (own.pair.counter - other.pair.counter + n) own.values.items) c.len.ensures in
    (λ i. (actor_of own.pair, (own.pair.counter, kept i)))
    ∙ sym (λ i. (actor_of own.pair, merged-own_more (own.pair.counter, own.values.items) (other.pair.counter, other.values.items) c.if-other-own.true i))

pub returns-then-other-own-clause-room : goal.returns-then-other-own-clause-room
returns-then-other-own-clause-room g c own other =
    let values = c.args.own.now.values in
    (λ i. nat_lt (length (c.truncate.ensures.items i)) (c.truncate.ensures.capacity i))
    ∙ room_fewer (length values.items) _ values.capacity (take_within _ values.items) own

pub returns-else-other-own-clause-merged : goal.returns-else-other-own-clause-merged
returns-else-other-own-clause-merged g c =
    let own = c.args.own.now in
    let other = c.args.other in
    let kept = c.truncate-else-other-own.ensures.items ∙ ap (λ n. take (other.pair.counter - own.pair.counter + n) other.values.items) c.len-else-other-own.ensures in
    (λ i. (actor_of own.pair, (other.pair.counter, kept i)))
    ∙ sym (λ i. (actor_of own.pair, merged-other_more (own.pair.counter, own.values.items) (other.pair.counter, other.values.items) c.if-other-own.false i))

pub returns-else-other-own-clause-room : goal.returns-else-other-own-clause-room
returns-else-other-own-clause-room g c own other =
    let values = c.args.other.values in
    (λ i. nat_lt (length (c.truncate-else-other-own.ensures.items i)) (c.truncate-else-other-own.ensures.capacity i))
    ∙ room_fewer (length values.items) _ values.capacity (take_within _ values.items) other
