use Rattle.std.proofs.Common.{◌∙◌, sym, ap, arith}
use Rattle.dvv_set.proofs.Stored.{taken-within, taken-is, free-entry}
use Rattle.dvv_set.proofs.entry.last_counter.Goals as goal

pub offset_bounds-entries-at : goal.offset_bounds-entries-at
offset_bounds-entries-at g c = let within = taken-within c.args.entries.now c.args.actor c.in-Taken.at (sym c.in-Taken.ensures) in omega arith

pub bounds-entries-at : goal.bounds-entries-at
bounds-entries-at g c = taken-within c.args.entries.now c.args.actor c.in-Taken.at (sym c.in-Taken.ensures)

pub returns-in-Taken-clause-counter : goal.returns-in-Taken-clause-counter
returns-in-Taken-clause-counter g c =
    c.counter.ensures ∙ sym (ap (λ r. r.0) (taken-is c.args.entries.now c.args.actor c.in-Taken.at c.index-entries-at.result (sym c.in-Taken.ensures) c.index-entries-at.is))

pub returns-in-Free-clause-counter : goal.returns-in-Free-clause-counter
returns-in-Free-clause-counter g c = sym (ap (λ r. r.0) (free-entry c.args.entries.now c.args.actor c.in-Free.field-0 c.requires (sym c.in-Free.ensures)))
