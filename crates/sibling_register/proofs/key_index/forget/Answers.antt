use Rattle.std.proofs.Common.{rules, nat_lt}
use Rattle.std.proofs.lemmas.Fn.{filter_same}
use Rattle.sibling_register.proofs.key_index.forget.Goals as goal

pub returns : goal.returns
returns c = record { value = filter_same _ (λ n. nat_lt c.args.saw n) _ (λ x b f' h. search rules) _ _ c.retain.ensures.filtered }
