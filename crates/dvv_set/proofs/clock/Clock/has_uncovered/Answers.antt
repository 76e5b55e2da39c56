use Rattle.std.proofs.Common.{◌≡◌, ◌≤◌, ◌<◌, ℕ, Bool, true, false, not, cond, List, [], ◌∷◌, length, ap, arith}
use Rattle.std.proofs.lemmas.Bool.Decides.{nat_tests}
use Rattle.std.specs.Prelude.{filter, nat_le, unwrap_or}
use Rattle.actor_epoch.specs.declared.Dot.{Dot}
use Rattle.actor_epoch.specs.Dots.{covers}
use Rattle.dvv_set.specs.Held.{pairs_of}
use Rattle.dvv_set.proofs.clock.Clock.has_uncovered.Goals as goal

-- pairs leave no more values uncovered than there are
fewer : {V : Type 0} (pairs : List Dot) (live : List (Dot × V)) → length (filter (λ entry. not (covers pairs entry.0)) live) ≤ length (filter (λ entry. not (covers [] entry.0)) live)
fewer pairs [] = omega arith
fewer pairs (entry ∷ live) = by (covers pairs entry.0) (fewer pairs live)
  where
    by : (b : Bool) → length (filter (λ entry. not (covers pairs entry.0)) live) ≤ length (filter (λ entry. not (covers [] entry.0)) live)
        → length (cond (not b) (entry ∷ filter (λ entry. not (covers pairs entry.0)) live) (filter (λ entry. not (covers pairs entry.0)) live)) ≤ length (entry ∷ filter (λ entry. not (covers [] entry.0)) live)
    by true h = omega arith
    by false h = omega arith

too_few : (many all some : ℕ) → all < many → some ≤ all → false ≡ nat_le many some
too_few many all some h f = grind (arith, nat_tests)

pub uncovered-requires : goal.uncovered-requires
uncovered-requires g c = omega arith

pub returns-then-uncovered-many : goal.returns-then-uncovered-many
returns-then-uncovered-many g c =
    let few = fewer (unwrap_or (pairs_of c.args.context) []) c.args.self.now.meaning.live in
    too_few c.args.many c.uncovered.result _ c.if-uncovered-many.true (omega (arith, few, c.uncovered.ensures))

pub returns : goal.returns
returns g c = ap (nat_le c.args.many) c.uncovered-2.ensures
