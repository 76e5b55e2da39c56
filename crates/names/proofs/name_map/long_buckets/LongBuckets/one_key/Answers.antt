use Rattle.std.proofs.Common.{◌∙◌, ap, List, ℕ}
use Rattle.std.specs.BTreeMap.{insert_entry}
use Rattle.names.specs.Nested.{KeyPlaces, bytes_cmp}
use Rattle.names.proofs.MergedPlaces.{nested_one}
use Rattle.names.proofs.name_map.long_buckets.LongBuckets.one_key.Goals as goal

pub invariant_of-result : goal.invariant_of-result
invariant_of-result c = nested_one c.in_ok-own.own c.args.key.now c.args.place c.in_ok-keys.keys c.insert.new.self.entries (c.in-Ok.ensures.entries ∙ ap (λ (es : List (List ℕ × KeyPlaces)). insert_entry bytes_cmp es c.in_ok-own.own c.in_ok-keys.keys) c.new-buckets.ensures.empty) c.in_ok-keys.ensures
