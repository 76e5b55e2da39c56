-- Two writes or deletes of a partition with the same dot are one, whatever their keys and sides.
use Rattle.std.proofs.Common.{◌≡◌, ℕ, ◌<◌, Bool, true, false, cond, refl, sym, ◌∙◌, arith, inl, inr, subst}
use Rattle.std.specs.Prelude.{◌==◌, Some}
use Rattle.std.proofs.lemmas.Bool.{cases_lt}
use Rattle.riak_msgs.specs.declared.Key.{Key}
use Rattle.actor_epoch.specs.declared.Dot.{Dot}
use Rattle.vnode_machine.specs.Lives.{lives_begun, dot_of}
use Rattle.vnode_machine.proofs.Tests.{nat_eq-same}
use Rattle.copy_laws.specs.Copies.{commands_of}
use Rattle.copy_laws.specs.Sides.{Partition, Number}
use Rattle.copy_laws.specs.Joining.{Log, Fallbacks, HasDot, SidesRise}
use Rattle.copy_laws.proofs.LifeDots.{IsOf, dot-of, one-number}
use Rattle.node_steps.proofs.OneKey.{one-key}

module _ (partition : Partition) (primary : Log) (fallbacks : Fallbacks) (rise : SidesRise partition fallbacks) (key other : Key) (dot : Dot) where
  -- the dot of a side's number
  abbrev DotAt : Key → (own : Bool) (side number : ℕ) → Type 0
  DotAt k own side number = cond own (dot_of partition.primary partition.last_epoch (commands_of primary) k number) (dot_of partition.fallback (partition.opened side) (fallbacks side) k number) ≡ Some dot

  abbrev OfSide : ℕ → Type 0
  OfSide n = IsOf partition.fallback (partition.opened n) (lives_begun (fallbacks n)) dot

  past : (n m : ℕ) → n < m → OfSide n → OfSide m → n ≡ m
  past n m less p q =
      let until = p.until in
      let after = q.after in
      let begun = q.until in
      let rises = rise.epochs n m less (omega (arith, after, begun)) in
      let none : ⊥ = omega (arith, until, after, rises) in absurd none

  same : (n m : ℕ) → OfSide n → OfSide m → n ≡ m
  same n m p q = elim (cases_lt n m) [ inl lt ↦ past n m lt p q | inr ge ↦ elim (cases_lt m n) [ inl gt ↦ sym (past m n gt q p) | inr le ↦ omega (arith, ge, le) ] ]

  differ : partition.primary ≡ partition.fallback → ⊥
  differ e = let below = rise.ids in omega (arith, e, below)

  of-side : (k : Key) (side number : ℕ) → DotAt k false side number → OfSide side
  of-side k side number p = dot-of partition.fallback (partition.opened side) (fallbacks side) k number dot p

  of-own : (k : Key) (side number : ℕ) → DotAt k true side number → dot.actor.vnode ≡ partition.primary
  of-own k side number p = (dot-of partition.primary partition.last_epoch (commands_of primary) k number dot p).vnode_is

  abbrev IsOne : (a b : Number) → Type 0
  IsOne a b = (key ≡ other) × (a.side ≡ b.side) × (a.number ≡ b.number)

  by : (a b : Number) (x : Bool) → (a.side == 0) ≡ x → (y : Bool) → (b.side == 0) ≡ y → DotAt key x a.side a.number → DotAt other y b.side b.number → IsOne a b
  by a b true e true f p q =
      let history = commands_of primary in
      let keys = one-key partition.primary partition.last_epoch history key other a.number b.number dot p q in (
        keys,
        nat_eq-same a.side 0 e ∙ sym (nat_eq-same b.side 0 f),
        one-number partition.primary partition.last_epoch history other a.number b.number dot
            (subst (λ k. dot_of partition.primary partition.last_epoch history k a.number ≡ Some dot) keys p) q,
      )
  by a b true e false f p q = absurd (differ (sym (of-own key a.side a.number p) ∙ (of-side other b.side b.number q).vnode_is))
  by a b false e true f p q = absurd (differ (sym (of-own other b.side b.number q) ∙ (of-side key a.side a.number p).vnode_is))
  by a b false e false f p q =
      let sides : a.side ≡ b.side = same a.side b.side (of-side key a.side a.number p) (of-side other b.side b.number q) in
      let history = fallbacks b.side in
      let first : dot_of partition.fallback (partition.opened b.side) history key a.number ≡ Some dot =
      subst (λ s. dot_of partition.fallback (partition.opened s) (fallbacks s) key a.number ≡ Some dot) sides p in
      let keys = one-key partition.fallback (partition.opened b.side) history key other a.number b.number dot first q in (
        keys,
        sides,
        one-number partition.fallback (partition.opened b.side) history other a.number b.number dot
            (subst (λ k. dot_of partition.fallback (partition.opened b.side) history k a.number ≡ Some dot) keys first) q,
      )

  pub one-dot : (a b : Number) → HasDot partition primary fallbacks key a dot → HasDot partition primary fallbacks other b dot → IsOne a b
  one-dot a b h k = by a b (a.side == 0) refl (b.side == 0) refl h k
