-- What a sweep leaves beside the state, and what its reaps are to the register.
use Rattle.std.specs.Prelude.{◌≡◌, ℕ, zero, suc, List, [], ◌∷◌, Option, None}
use Rattle.riak_msgs.specs.declared.Key.{Key}
use Rattle.riak_msgs.specs.Contents.{Content}
use Rattle.vnode_machine.specs.Machine.{State}
use Rattle.clock_store.specs.declared.store.Reaped.TheVariants.{Gone}
use Rattle.vnode_core.specs.Plans.{RegistersReap}

-- what was prepared ends, where the budget allows a reap
abbrev pub prepared_after : {X : Type 0} → (budget : ℕ) → Option X → Option X
prepared_after zero prepared = prepared
prepared_after (suc n) prepared = None

-- the register accepts a reap of each of these keys, one after another, from the first state to the last
abbrev pub RegistersReaps : State Content → List Key → State Content → Type 0
RegistersReaps old [] new = new ≡ old
RegistersReaps old (key ∷ keys) new = (mid : State Content) × RegistersReap old key Gone mid × RegistersReaps mid keys new
