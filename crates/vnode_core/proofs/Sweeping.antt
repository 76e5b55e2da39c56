-- A sweep that is under way: what is left of it does the rest.
use Rattle.std.proofs.Common.{◌≡◌, ℕ, zero, suc, ◌+◌, ◌<◌, ◌≤◌, true, false, true≢false, List, [], ◌∷◌, refl, sym, subst, ◌∙◌, ap, arith, length, take, drop}
use Rattle.std.specs.Prelude.{Option, Some, None, slice_get, is_some}
use Rattle.std.specs.Option.{option_map_or}
use Rattle.riak_msgs.specs.declared.Key.{Key}
use Rattle.riak_msgs.specs.Contents.{Content}
use Rattle.vnode_machine.specs.Machine.{State}
use Rattle.vnode_machine.specs.Dead.{dead_keys, has_dead, reaped, reaped_each, swept, swept_keys}
use Rattle.clock_store.specs.declared.store.Reaped.TheVariants.{Gone}
use Rattle.vnode_core.specs.Plans.{View, RegistersReap, RegistersFirstReap}
use Rattle.vnode_core.specs.Reaping.{after_first_reap, LosesFirstDead}
use Rattle.vnode_core.specs.Sweeps.{RegistersReaps, prepared_after}

-- so many keys are reaped, and so many may still be
pub record IsSweeping (old : View) (from : Option Key) (budget : ℕ) (now : View) (done : ℕ) : Type 0 where
  pub left : ℕ
  pub is : done + left ≡ budget
  pub state : reaped_each now.state (take left (dead_keys now.state from)) ≡ swept old.state from budget
  pub count : done + length (take left (dead_keys now.state from)) ≡ length (swept_keys old.state from budget)
  pub prepared : now.prepared ≡ prepared_after done old.prepared
  pub register : (end : State Content) → RegistersReaps now.state (take left (dead_keys now.state from)) end → RegistersReaps old.state (swept_keys old.state from budget) end

pub sweep-begins : (old : View) (from : Option Key) (budget : ℕ) → IsSweeping old from budget old 0
sweep-begins old from budget = record { left = budget; is = omega arith; state = refl; count = omega arith; prepared = refl; register = λ end h. h }

-- one reap more, by the list of the dead keys
one-more : (m : ℕ) (state next : State Content) (keys left : List Key) → is_some (slice_get keys 0) ≡ true → next ≡ option_map_or (reaped state) (slice_get keys 0) state → left ≡ drop 1 keys
    → (reaped_each next (take m left) ≡ reaped_each state (take (suc m) keys)) × (length (take (suc m) keys) ≡ suc (length (take m left)))
one-more m state next [] left found leads rest = cc
one-more m state next (key ∷ keys) left found leads rest = ((λ i. reaped_each (leads i) (take m (rest i))), ap (λ ks. suc (length (take m ks))) (sym rest))

-- the register's reaps after it follow it
next-reap : (m : ℕ) (state next end : State Content) (keys left : List Key) → is_some (slice_get keys 0) ≡ true → ((key : Key) → slice_get keys 0 ≡ Some key → RegistersReap state key Gone next) → left ≡ drop 1 keys
    → RegistersReaps next (take m left) end → RegistersReaps state (take (suc m) keys) end
next-reap m state next end [] left found one rest h = absurd (true≢false (sym found))
next-reap m state next end (key ∷ keys) left found one rest h = (next, one key refl, subst (λ ks. RegistersReaps next (take m ks) end) rest h)

-- where a reap was allowed, nothing is prepared
ended : {X : Type 0} (n budget : ℕ) (prepared : Option X) → n < budget → None ≡ prepared_after budget prepared
ended n zero prepared h = absurd (omega (arith, h))
ended n (suc budget) prepared h = refl

module _ (old now : View) (from : Option Key) (budget done : ℕ) (so : IsSweeping old from budget now done) where
  pub sweep-goes-on : (next : View) → done < budget → has_dead now.state from ≡ true → next.state ≡ after_first_reap now.state from → LosesFirstDead now.state from next.state → next.prepared ≡ None
      → RegistersFirstReap now.state from next.state → IsSweeping old from budget next (done + 1)
  sweep-goes-on next within found leads loses none one = by so.left so.is so.state so.count so.register
    where
      by : (left : ℕ) → done + left ≡ budget → reaped_each now.state (take left (dead_keys now.state from)) ≡ swept old.state from budget
          → done + length (take left (dead_keys now.state from)) ≡ length (swept_keys old.state from budget)
          → ((end : State Content) → RegistersReaps now.state (take left (dead_keys now.state from)) end → RegistersReaps old.state (swept_keys old.state from budget) end)
          → IsSweeping old from budget next (done + 1)
      by zero is state count register = absurd (omega (arith, is, within))
      by (suc m) is state count register =
          let more = one-more m now.state next.state (dead_keys now.state from) (dead_keys next.state from) found leads loses in
          record {
            left = m;
            is = omega (arith, is);
            state = more.0 ∙ state;
            count = omega (arith, count, more.1);
            prepared = none ∙ ended done (done + 1) old.prepared (omega arith);
            register = λ end h. register end (next-reap m now.state next.state end (dead_keys now.state from) (dead_keys next.state from) found one loses h);
          }

  -- it ends where the budget is spent
  pub spent : budget ≤ done → (now.state ≡ swept old.state from budget) × (done ≡ length (swept_keys old.state from budget)) × (now.prepared ≡ prepared_after budget old.prepared)
      × RegistersReaps old.state (swept_keys old.state from budget) now.state
  spent over = by so.left so.is so.state so.count so.register
    where
      by : (left : ℕ) → done + left ≡ budget → reaped_each now.state (take left (dead_keys now.state from)) ≡ swept old.state from budget
          → done + length (take left (dead_keys now.state from)) ≡ length (swept_keys old.state from budget)
          → ((end : State Content) → RegistersReaps now.state (take left (dead_keys now.state from)) end → RegistersReaps old.state (swept_keys old.state from budget) end)
          → (now.state ≡ swept old.state from budget) × (done ≡ length (swept_keys old.state from budget)) × (now.prepared ≡ prepared_after budget old.prepared)
          × RegistersReaps old.state (swept_keys old.state from budget) now.state
      by zero is state count register =
          let all : done ≡ budget = omega (arith, is) in
          (state, omega (arith, count), so.prepared ∙ ap (λ n. prepared_after n old.prepared) all, register now.state refl)
      by (suc m) is state count register = absurd (omega (arith, is, over))

  -- and where no dead key is left
  pub used-up : (next : View) → done < budget → has_dead now.state from ≡ false → next.state ≡ after_first_reap now.state from → next.prepared ≡ None
      → (next.state ≡ swept old.state from budget) × (done ≡ length (swept_keys old.state from budget)) × (next.prepared ≡ prepared_after budget old.prepared)
      × RegistersReaps old.state (swept_keys old.state from budget) next.state
  used-up next within found leads none =
      let all = by so.left (dead_keys now.state from) found leads in
      (all.0 ∙ so.state, omega (arith, all.1, so.count), none ∙ ended done budget old.prepared within, so.register next.state all.2)
    where
      by : (left : ℕ) (keys : List Key) → is_some (slice_get keys 0) ≡ false → next.state ≡ option_map_or (reaped now.state) (slice_get keys 0) now.state
          → (next.state ≡ reaped_each now.state (take left keys)) × (length (take left keys) ≡ 0) × RegistersReaps now.state (take left keys) next.state
      by zero [] found leads = (leads, refl, leads)
      by (suc m) [] found leads = (leads, refl, leads)
      by left (key ∷ keys) found leads = cc
