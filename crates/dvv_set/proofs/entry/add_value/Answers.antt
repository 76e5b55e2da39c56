use Rattle.std.proofs.Common.{◌+◌, arith, length}
use Rattle.dvv_set.specs.Stored.{actor_of}
use Rattle.dvv_set.proofs.Rooms.{below_room}
use Rattle.dvv_set.proofs.entry.add_value.Goals as goal

pub put_first-requires : goal.put_first-requires
put_first-requires g c =
    let values = c.args.entry.now.values in
    let fits = c.well_formed in
    (omega arith, below_room (length values.items) values.capacity c.requires.room)

pub returns : goal.returns
returns g c =
    let pair = c.args.entry.now.pair in
    λ i. (actor_of pair, (pair.counter + 1, c.put_first.ensures i))
