use Rattle.std.proofs.Common.{sym}
use Rattle.clock_store.proofs.clock_map.places.remove_short.Goals as goal

pub returns : goal.returns
returns c = record {
  ordered = c.in-Some.ensures.ordered;
  place = c.in-Some.place;
  was = sym c.in-Some.ensures.place;
  places = assumption c;
  clocks = assumption c;
}
