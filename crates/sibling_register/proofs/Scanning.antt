-- The siblings of a key after one entry more.
use Rattle.std.proofs.Common.{◌≡◌, ℕ, List, ap, cond}
use Rattle.std.specs.Prelude.{◌∷◌, nat_lt, IsTrue}
use Rattle.std.specs.List.{list_all}
use Rattle.sibling_register.specs.declared.entry.Entry.{Entry}
use Rattle.sibling_register.specs.History.{is_update}
use Rattle.sibling_register.specs.Entries.{operation_of, event_of, follow_of}
use Rattle.sibling_register.proofs.Following.{siblings_after, left_by-numbers_to}

pub follows : {V : Type 0} (entry : Entry V) (number : ℕ) (before : List ℕ) → IsTrue (list_all (λ m. nat_lt 0 m) before)
    → siblings_after (event_of entry) number before ≡ follow_of entry number before
follows entry number before h = ap (λ rest. cond (is_update (operation_of entry.operation)) (number ∷ rest) rest) (left_by-numbers_to entry.saw before h)
