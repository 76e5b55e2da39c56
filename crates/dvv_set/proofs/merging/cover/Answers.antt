use Rattle.std.proofs.Common.{◌∙◌, ◌-◌, sym, arith, length}
use Rattle.std.proofs.lemmas.List.{take_all}
use Rattle.std.specs.Prelude.{nat_lt}
use Rattle.dvv_set.specs.Stored.{actor_of}
use Rattle.dvv_set.proofs.Rooms.{room_fewer}
use Rattle.dvv_set.proofs.Walks.{take_within}
use Rattle.dvv_set.proofs.Pairs.{covered-own_more, covered-other_more}
use Rattle.dvv_set.proofs.merging.cover.Goals as goal

pub overflow_sub-kept : goal.overflow_sub-kept
overflow_sub-kept g c = c.if-counter-own.true

pub returns-then-kept-len-clause-merged : goal.returns-then-kept-len-clause-merged
returns-then-kept-len-clause-merged g c =
    let own = c.args.own.now in
    (λ i. (actor_of own.pair, (own.pair.counter, c.truncate.ensures.items i)))
    ∙ sym (λ i. (actor_of own.pair, covered-own_more (own.pair.counter, own.values.items) c.args.counter c.if-counter-own.true i))

pub returns-then-kept-len-clause-room : goal.returns-then-kept-len-clause-room
returns-then-kept-len-clause-room g c own =
    let values = c.args.own.now.values in
    (λ i. nat_lt (length (c.truncate.ensures.items i)) (c.truncate.ensures.capacity i))
    ∙ room_fewer (length values.items) _ values.capacity (take_within _ values.items) own

pub returns-else-kept-len-clause-merged : goal.returns-else-kept-len-clause-merged
returns-else-kept-len-clause-merged g c =
    let own = c.args.own.now in
    let all = take_all (own.pair.counter - c.args.counter) own.values.items (omega (arith, c.if-kept-len.false, c.len.ensures)) in
    sym (
    (λ i. (actor_of own.pair, covered-own_more (own.pair.counter, own.values.items) c.args.counter c.if-counter-own.true i))
    ∙ (λ i. (actor_of own.pair, (own.pair.counter, all i))))

pub returns-else-counter-own-clause-merged : goal.returns-else-counter-own-clause-merged
returns-else-counter-own-clause-merged g c =
    let own = c.args.own.now in
    (λ i. (actor_of own.pair, (c.args.counter, c.truncate-else-counter-own.ensures.items i)))
    ∙ sym (λ i. (actor_of own.pair, covered-other_more (own.pair.counter, own.values.items) c.args.counter c.if-counter-own.false i))

pub returns-else-counter-own-clause-room : goal.returns-else-counter-own-clause-room
returns-else-counter-own-clause-room g c own =
    let values = c.args.own.now.values in
    (λ i. nat_lt (length (c.truncate-else-counter-own.ensures.items i)) (c.truncate-else-counter-own.ensures.capacity i))
    ∙ room_fewer (length values.items) 0 values.capacity (omega arith) own
