use Rattle.std.proofs.Common.{◌∙◌, sym}
use Rattle.clock_store.proofs.Marks.{added_mark, kept_mark}
use Rattle.clock_store.proofs.clock_map.index.DeadKeys.add.Goals as goal

pub returns-then-has_entry-clause-ok : goal.returns-then-has_entry-clause-ok
returns-then-has_entry-clause-ok c =
    kept_mark c.args.self.now c.args.key.now c.args.place (sym c.has_entry.ensures ∙ c.if-has_entry.true)

pub returns-clause-ok : goal.returns-clause-ok
returns-clause-ok c =
    added_mark c.args.self.now c.insert.new.self c.args.key.now c.args.place (sym c.has_entry.ensures ∙ c.if-has_entry.false) c.in_ok-insert.ensures.inserted
