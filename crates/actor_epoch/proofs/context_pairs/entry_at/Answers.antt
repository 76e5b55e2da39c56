use Rattle.std.proofs.Common.{◌≡◌, drop}
use Rattle.std.proofs.lemmas.List.{take_rest}
use Rattle.byteorder.specs.Endian.{big_number}
use Rattle.actor_epoch.specs.Versions.{counter_len}
use Rattle.actor_epoch.specs.Entries.{entry_in}
use Rattle.actor_epoch.proofs.context_pairs.entry_at.Goals as goal

pub returns : goal.returns
unfolding entry_in
returns c =
    let epoch : c.read_u32-epoch.result ≡ big_number 4 (drop 8 c.args.entries.now) = rw (← take_rest c.args.entries.now 8) c.read_u32-epoch.ensures in
    let counter : c.counter_at-counter.result ≡ big_number (counter_len c.args.version) (drop 12 c.args.entries.now) = rw (← take_rest c.args.entries.now 12) c.counter_at-counter.ensures in
    λ i. record { actor = record { vnode = c.read_u64-vnode.ensures i; epoch = epoch i }; counter = counter i }
