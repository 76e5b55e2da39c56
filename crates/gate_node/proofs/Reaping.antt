-- Dead keys that were forgotten one after another.
use Rattle.std.proofs.Common.{◌≡◌, ◌∙◌, ℕ, refl, ap, subst}
use Rattle.std.specs.Prelude.{zero, suc}
use Rattle.vnode_core.specs.declared.ask.Answer.{Answer}
use Rattle.gate_node.specs.Asked.{Sight, Reaps, IsMadeBy, first_reap}

-- one more behind them
pub reaps_one : (n : ℕ) (p q r : Sight) (answer : Answer) → Reaps n p q → r.gate ≡ q.gate → IsMadeBy first_reap q r answer → Reaps (suc n) p r
reaps_one zero p q r answer same gate made =
    (r, answer, gate ∙ ap (λ (s : Sight). s.gate) same, subst (λ (s : Sight). IsMadeBy first_reap s r answer) same made, refl)
reaps_one (suc n) p q r answer more gate made = (more.0, more.1, more.2, more.3, reaps_one n more.0 q r answer more.4 gate made)
