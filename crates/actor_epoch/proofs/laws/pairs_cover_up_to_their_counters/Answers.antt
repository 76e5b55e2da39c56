use Rattle.actor_epoch.proofs.Order.{covers-counter_in, counter_in-rising}
use Rattle.actor_epoch.proofs.laws.pairs_cover_up_to_their_counters.Goals as goal

pub returns-clause-covers : goal.returns-clause-covers
returns-clause-covers c = covers-counter_in

pub returns-clause-counter : goal.returns-clause-counter
returns-clause-counter c = counter_in-rising
