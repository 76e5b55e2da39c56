use Rattle.std.proofs.Common.{◌∙◌, sym, ap}
use Rattle.std.specs.Cmp.Lexicographic.{slice_cmp}
use Rattle.std.specs.Ordering.{nat_cmp}
use Rattle.names.specs.ShortKeys.{short_names}
use Rattle.names.proofs.ShortKeys.{of_default}
use Rattle.names.proofs.short_key.ShortKey.of.Goals as goal

pub returns-in-Equal : goal.returns-in-Equal
returns-in-Equal c =
    c.of_names.ensures ∙ ap (λ bucket. short_names bucket c.as_slice-in-Equal.result.now) c.as_slice.ensures ∙ ap (short_names c.args.key.now.bucket) c.as_slice-in-Equal.ensures
    ∙ of_default c.args.key.now (sym (ap (slice_cmp nat_cmp c.args.key.now.bucket_type) c.default_type-default.ensures) ∙ sym c.cmp.ensures ∙ c.in-Equal.is)
