use Rattle.std.proofs.Common.{sym, ◌∙◌}
use Rattle.std.proofs.lemmas.Map.Lookups.{exact_bytes}
use Rattle.gate_node.proofs.partition_cache.is_default.Goals as goal

pub returns-in-Equal : goal.returns-in-Equal
returns-in-Equal c = λ _. exact_bytes c.args.bucket_type.now c.default_type.result (sym c.in-Equal.ensures) ∙ c.default_type.ensures
