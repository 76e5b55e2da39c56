use Rattle.std.proofs.Common.{ap, length}
use Rattle.std.proofs.lemmas.Cmp.{nat_list_cmp_total}
use Rattle.names.specs.Merged.{merged}
use Rattle.names.proofs.Merged.{merged_empty}
use Rattle.names.specs.Nested.{bytes_cmp}
use Rattle.names.proofs.Nested.{empty_by_length}
use Rattle.names.proofs.MergedPlaces.{not_both}
use Rattle.names.proofs.name_map.keys.KeyPlaces.is_empty.Goals as goal

pub returns-then-is_empty : goal.returns-then-is_empty
returns-then-is_empty c =
    rw (← c.self.view_is) (
      λ yes. λ i. merged bytes_cmp ((empty_by_length c.self.inside.short.entries (c.is_empty.ensures.0 c.if-is_empty.true)) i) ((empty_by_length c.self.inside.long.entries (c.is_empty-then-is_empty.ensures.0 yes)) i),
      λ empty. c.is_empty-then-is_empty.ensures.1 (ap length (merged_empty nat_list_cmp_total c.self.inside.short.entries c.self.inside.long.entries empty).1),
    )

pub returns-else-is_empty : goal.returns-else-is_empty
returns-else-is_empty c =
    rw (← c.self.view_is) (
      λ yes. not_both c.is_empty.result yes c.if-is_empty.false,
      λ empty. c.is_empty.ensures.1 (ap length (merged_empty nat_list_cmp_total c.self.inside.short.entries c.self.inside.long.entries empty).0),
    )
