use Rattle.std.proofs.Common.{◌∙◌, sym, ap, length, subst}
use Rattle.sibling_register.specs.Entries.{history_of}
use Rattle.sibling_register.specs.Index.{Remembers}
use Rattle.sibling_register.proofs.Plans.{length-history_of}
use Rattle.sibling_register.proofs.Remembered.{history_of-push, remembers-more}
use Rattle.sibling_register.proofs.register.PlainRegister.keep_entry.Goals as goal

pub invariant_of-self-2 : goal.invariant_of-self-2
invariant_of-self-2 g c =
    let entries = c.reserve.new.self.items in
    let was : Remembers (history_of entries) c.self.inside.keys = subst (λ xs. Remembers (history_of xs) c.self.inside.keys) (sym c.reserve.ensures.items) c.self.invariant in
    rw (c.push_reserved.ensures.items, history_of-push entries c.args.entry)
    (remembers-more c.args.entry (history_of entries) _ c.self.inside.keys c.note.new.keys (ap length c.as_slice-place.ensures.value ∙ sym (length-history_of entries)) was c.in_ok-note.ensures.ok)
