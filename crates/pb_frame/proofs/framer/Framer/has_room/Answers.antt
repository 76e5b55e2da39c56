use Rattle.std.proofs.Common.{◌≡◌, drop, rules, arith, subst}
use Rattle.std.proofs.lemmas.Grind.{common_steps}
use Rattle.pb_frame.specs.Message.{IsFaulty}
use Rattle.pb_frame.proofs.framer.Framer.has_room.Goals as goal

pub invariant_of-self : goal.invariant_of-self
invariant_of-self c =
    let same : c.self.inside.bytes.items ≡ c.reserve_exact.new.self.items = first_of (search rules, grind (arith, common_steps)) in
    (omega arith, λ fault is. subst (λ items. IsFaulty c.self.inside.limit (drop c.self.inside.start items) fault) same (c.self.invariant.1 fault is))
