-- The order in which values are shown, and lists in an order.
use Rattle.std.proofs.Common.{◌≡◌, ℕ, Bool, true, false, ◌&&◌, cond, List, [], ◌∷◌, ◌++◌, refl, sym, ◌∙◌, ap, subst, arith}
use Rattle.std.specs.Prelude.{T, nat_lt, nat_eq, Some, None}
use Rattle.std.specs.Option.{option_or}
use Rattle.std.specs.declared.cmp.Ordering.{Ordering}
use Rattle.std.specs.declared.cmp.Ordering.TheVariants.{Less, Equal, Greater}
use Rattle.std.specs.Ordering.{is_lt, is_eq, nat_cmp, eq_by_cmp}
use Rattle.std.specs.Cmp.{IsTotalOrder, on_total, tied_then}
use Rattle.std.specs.FinMap.Entries.{find, is_sorted, below_all}
use Rattle.std.proofs.lemmas.Cmp.{then_total, back_total, nat_cmp_total}
use Rattle.std.proofs.lemmas.Bool.Decides.{nat_tests}
use Rattle.actor_epoch.specs.declared.Actor.{Actor}
use Rattle.actor_epoch.specs.declared.Dot.{Dot}
use Rattle.actor_epoch.specs.Dots.{actor_cmp, actor_eq, dot_eq}
use Rattle.actor_epoch.proofs.Order.{actor_cmp_total}
use Rattle.dvv_set.specs.Clocks.{show_cmp}

pub show_cmp_total : IsTotalOrder show_cmp
show_cmp_total = then_total (on_total (λ (d : Dot). d.actor) actor_cmp_total) (on_total (λ (d : Dot). d.counter) (back_total nat_cmp_total))

pub is_eq-nat_cmp : (a b : ℕ) → is_eq (nat_cmp a b) ≡ nat_eq a b
is_eq-nat_cmp a b = by (nat_lt a b) (nat_eq a b) refl refl
  where
    by : (l e : Bool) → nat_lt a b ≡ l → nat_eq a b ≡ e → is_eq (cond l Less (cond e Equal Greater)) ≡ e
    by true true p q = grind (arith, nat_tests)
    by true false p q = refl
    by false true p q = refl
    by false false p q = refl

pub eq_by_cmp-actor : (a b : Actor) → eq_by_cmp actor_cmp a b ≡ actor_eq a b
eq_by_cmp-actor a b =
    sym (tied_then (nat_cmp a.vnode b.vnode) (nat_cmp a.epoch b.epoch)) ∙ (λ i. is_eq-nat_cmp a.vnode b.vnode i && is_eq-nat_cmp a.epoch b.epoch i)

pub nat_eq-back : (a b : ℕ) → nat_eq a b ≡ nat_eq b a
nat_eq-back a b = grind (arith, nat_tests)

pub eq_by_cmp-dot : (a b : Dot) → eq_by_cmp show_cmp a b ≡ dot_eq a b
eq_by_cmp-dot a b =
    sym (tied_then (actor_cmp a.actor b.actor) (nat_cmp b.counter a.counter))
    ∙ (λ i. eq_by_cmp-actor a.actor b.actor i && (is_eq-nat_cmp b.counter a.counter ∙ nat_eq-back b.counter a.counter) i)

pub T-both : (a b : Bool) → T a → T b → T (a && b)
T-both true b p q = q
T-both false b p q = p

pub T-first : (a b : Bool) → T (a && b) → T a
T-first true b p = tt
T-first false b p = p

pub T-second : (a b : Bool) → T (a && b) → T b
T-second true b p = p
T-second false b p = absurd p

pub T-less : (o : Ordering) → T (is_lt o) → o ≡ Less
T-less Less p = refl
T-less Equal p = absurd p
T-less Greater p = absurd p

pub T-is : (b : Bool) → b ≡ true → T b
T-is b h = subst T (sym h) tt

pub T-true : (b : Bool) → T b → b ≡ true
T-true true h = refl
T-true false h = absurd h

module _ {K X : Type 0} (R : K → K → Ordering) where
  pub find-append : (q : K) (xs ys : List (K × X)) → find R q (xs ++ ys) ≡ option_or (find R q xs) (find R q ys)
  find-append q [] ys = refl
  find-append q (x ∷ xs) ys = by (eq_by_cmp R q x.0) (find-append q xs ys)
    where
      by : (b : Bool) → find R q (xs ++ ys) ≡ option_or (find R q xs) (find R q ys) → cond b (Some x.1) (find R q (xs ++ ys)) ≡ option_or (cond b (Some x.1) (find R q xs)) (find R q ys)
      by true h = refl
      by false h = h

  pub find-below : (o : IsTotalOrder R) (q : K) (xs : List (K × X)) → T (below_all R q xs) → find R q xs ≡ None
  find-below o q [] h = refl
  find-below o q (x ∷ xs) h =
      ap (λ r. cond (is_eq r) (Some x.1) (find R q xs)) (T-less (R q x.0) (T-first (is_lt (R q x.0)) _ h)) ∙ find-below o q xs (T-second (is_lt (R q x.0)) _ h)

  pub below_all-less : (o : IsTotalOrder R) (x y : K) (es : List (K × X)) → R x y ≡ Less → T (below_all R y es) → T (below_all R x es)
  below_all-less o x y [] p h = tt
  below_all-less o x y (e ∷ es) p h =
      T-both (is_lt (R x e.0)) _
      (T-is _ (ap is_lt (o.trans x y e.0 p (T-less (R y e.0) (T-first (is_lt (R y e.0)) _ h)))))
      (below_all-less o x y es p (T-second (is_lt (R y e.0)) _ h))

  -- each key of the first is below all keys of the second
  abbrev pub is_before : List (K × X) → List (K × X) → Bool
  is_before [] ys = true
  is_before (x ∷ xs) ys = below_all R x.0 ys && is_before xs ys

  pub below_all-append : (k : K) (xs ys : List (K × X)) → T (below_all R k xs) → T (below_all R k ys) → T (below_all R k (xs ++ ys))
  below_all-append k [] ys p q = q
  below_all-append k (x ∷ xs) ys p q = T-both (is_lt (R k x.0)) _ (T-first _ (below_all R k xs) p) (below_all-append k xs ys (T-second (is_lt (R k x.0)) _ p) q)

  pub is_sorted-append : (xs ys : List (K × X)) → T (is_sorted R xs) → T (is_sorted R ys) → T (is_before xs ys) → T (is_sorted R (xs ++ ys))
  is_sorted-append [] ys p q r = q
  is_sorted-append (x ∷ xs) ys p q r =
      T-both (below_all R x.0 (xs ++ ys)) _
      (below_all-append x.0 xs ys (T-first _ (is_sorted R xs) p) (T-first _ (is_before xs ys) r))
      (is_sorted-append xs ys (T-second (below_all R x.0 xs) _ p) q (T-second (below_all R x.0 ys) _ r))
