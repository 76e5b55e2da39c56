use Rattle.std.proofs.Common.{refl, sym, ◌∙◌, ap}
use Rattle.std.specs.Option.{option_copied_mut}
use Rattle.std.proofs.lemmas.Result.{on_ok_weaker, on_err_weaker}
use Rattle.sibling_register.proofs.Remembered.{written-noted, written-same}
use Rattle.sibling_register.proofs.key_map.note.Goals as goal

pub returns-clause-ok : goal.returns-clause-ok
returns-clause-ok g c =
    on_ok_weaker c.add.result
    (written-noted c.args.entry.now.key c.args.keys.now c.add_key.new.keys (c.get_mut.follows.lender c.add.new.self) c.in-Some.index.now c.add.new.self c.args.entry.now c.args.place refl
    c.add_key.ensures.same (sym c.get_mut.ensures.value ∙ ap option_copied_mut c.in-Some.is) ((c.get_mut.follows.holds c.add.new.self).3 c.in_ok-add_key.ensures.ok).0)
    c.add.ensures.ok

pub returns-clause-err : goal.returns-clause-err
returns-clause-err g c =
    on_err_weaker c.add.result
    (written-same c.args.entry.now.key c.args.keys.now c.add_key.new.keys (c.get_mut.follows.lender c.add.new.self) c.in-Some.index.now c.add.new.self
    c.add_key.ensures.same (sym c.get_mut.ensures.value ∙ ap option_copied_mut c.in-Some.is) ((c.get_mut.follows.holds c.add.new.self).3 c.in_ok-add_key.ensures.ok).0)
    c.add.ensures.err
