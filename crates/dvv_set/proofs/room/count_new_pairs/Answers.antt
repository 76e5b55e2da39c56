use Rattle.std.proofs.Common.{◌≡◌, ◌∙◌, ◌∷◌, ◌&&◌, List, sym, ap, subst, arith, length}
use Rattle.std.proofs.lemmas.Bool.Decides.{nat_tests}
use Rattle.std.specs.Prelude.{T, nat_le}
use Rattle.std.specs.List.{list_all}
use Rattle.std.specs.FinMap.Entries.{is_sorted, below_all}
use Rattle.actor_epoch.specs.declared.Dot.{Dot}
use Rattle.actor_epoch.specs.Contexts.{is_rising, is_within_limits}
use Rattle.actor_epoch.specs.Dots.{actor_cmp}
use Rattle.actor_epoch.proofs.Rising.{and_first, and_second}
use Rattle.dvv_set.specs.ClockEntries.{count_new, entries_of_pairs}
use Rattle.dvv_set.specs.Stored.{clock_entries, search_actor}
use Rattle.dvv_set.specs.declared.entry.Place.TheVariants.{Taken, Free}
use Rattle.dvv_set.proofs.Events.{AreEntries-pairs}
use Rattle.dvv_set.proofs.Orders.{T-second}
use Rattle.dvv_set.proofs.Places.{is_sorted-drop, count_new-taken, count_new-free}
use Rattle.dvv_set.proofs.Stored.{taken-within, free-within}
use Rattle.dvv_set.proofs.room.count_new_pairs.Goals as goal

pub overflow_add-new : goal.overflow_add-new
overflow_add-new g c = omega (arith, c.loop-actor.invariant.few)

pub loop-actor-preserved-in-Taken : goal.loop-actor-preserved-in-Taken
loop-actor-preserved-in-Taken g c =
    let rest = c.loop-actor.rest.now in
    let a = c.in-Some.actor in
    let n = c.in-Some.field-0-1 in
    let pairs = c.next.new.self in
    let steps = c.in-Some.ensures.steps in
    let s : T (is_sorted actor_cmp (entries_of_pairs {V = g.row.V.Denot} (record { actor = a; counter = n } ∷ pairs))) =
    subst (λ (ps : List Dot). T (is_sorted actor_cmp (entries_of_pairs {V = g.row.V.Denot} ps))) steps c.loop-actor.invariant.pairs in
    let t : search_actor a (clock_entries rest) ≡ Taken c.in-Taken.at = sym c.search_actor.ensures ∙ c.in-Taken.is in
    let step = count_new-taken a n pairs rest c.in-Taken.at s t in
    let all = ap (λ ps. count_new (entries_of_pairs {V = g.row.V.Denot} ps) (clock_entries rest)) steps in
    let after = ap (λ es. count_new (entries_of_pairs {V = g.row.V.Denot} pairs) (clock_entries es)) c.split_at.ensures.back in
    record {
      few = omega (arith, c.loop-actor.invariant.few, ap length steps);
      pairs = T-second (below_all actor_cmp a (entries_of_pairs {V = g.row.V.Denot} pairs)) _ s;
      sorted = rw c.split_at.ensures.back (is_sorted-drop c.in-Taken.at rest c.loop-actor.invariant.sorted);
      counted = omega (arith, c.loop-actor.invariant.counted, all, step, after);
    }

pub loop-actor-preserved : goal.loop-actor-preserved
loop-actor-preserved g c =
    let rest = c.loop-actor.rest.now in
    let a = c.in-Some.actor in
    let n = c.in-Some.field-0-1 in
    let pairs = c.next.new.self in
    let steps = c.in-Some.ensures.steps in
    let s : T (is_sorted actor_cmp (entries_of_pairs {V = g.row.V.Denot} (record { actor = a; counter = n } ∷ pairs))) =
    subst (λ (ps : List Dot). T (is_sorted actor_cmp (entries_of_pairs {V = g.row.V.Denot} ps))) steps c.loop-actor.invariant.pairs in
    let t : search_actor a (clock_entries rest) ≡ Free c.in-Free.at = sym c.search_actor.ensures ∙ c.in-Free.is in
    let step = count_new-free a n pairs rest c.in-Free.at s c.loop-actor.invariant.sorted t in
    let all = ap (λ ps. count_new (entries_of_pairs {V = g.row.V.Denot} ps) (clock_entries rest)) steps in
    let after = ap (λ es. count_new (entries_of_pairs {V = g.row.V.Denot} pairs) (clock_entries es)) c.split_at-in-Free.ensures.back in
    record {
      few = omega (arith, c.loop-actor.invariant.few, ap length steps);
      pairs = T-second (below_all actor_cmp a (entries_of_pairs {V = g.row.V.Denot} pairs)) _ s;
      sorted = rw c.split_at-in-Free.ensures.back (is_sorted-drop c.in-Free.at rest c.loop-actor.invariant.sorted);
      counted = omega (arith, c.loop-actor.invariant.counted, all, step, after);
    }

pub returns-clause-counted : goal.returns-clause-counted
returns-clause-counted g c =
    let count = λ (ps : List Dot). count_new (entries_of_pairs {V = g.row.V.Denot} ps) (clock_entries c.args.entries.now) in
    let left = λ (ps : List Dot). count_new (entries_of_pairs {V = g.row.V.Denot} ps) (clock_entries c.loop-actor.rest.now) in
    omega (arith, c.loop-actor.invariant.counted, ap left c.in-None.ensures.steps.0, ap count c.into_iter-actor-iterator.ensures.into_iter_gives)

pub returns-clause-few : goal.returns-clause-few
returns-clause-few g c = omega (arith, c.loop-actor.invariant.few)

pub loop-actor-init : goal.loop-actor-init
loop-actor-init g c =
    let pairs = c.args.pairs in
    let count = length pairs in
    let gives = c.into_iter-actor-iterator.ensures.into_iter_gives in
    let few = and_second (nat_le 1 count) (nat_le count 64) (and_first (nat_le 1 count && nat_le count 64) (is_rising pairs && list_all is_within_limits pairs) c.requires.of_form) in
    record {
      few = grind (arith, nat_tests, few, ap length gives);
      pairs = rw gives (AreEntries-pairs g.row.V.Denot pairs c.requires.of_form).sorted;
      sorted = c.requires.sorted;
      counted = omega arith;
    }

pub split_at-requires : goal.split_at-requires
split_at-requires g c = let within = taken-within c.loop-actor.rest.now c.in-Some.actor c.in-Taken.at (sym c.search_actor.ensures ∙ c.in-Taken.is) in omega (arith, within)

pub split_at-requires-in-Free : goal.split_at-requires-in-Free
split_at-requires-in-Free g c = free-within c.loop-actor.rest.now c.in-Some.actor c.in-Free.at c.loop-actor.invariant.sorted (sym c.search_actor.ensures ∙ c.in-Free.is)
