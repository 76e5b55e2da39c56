-- Where the vnodes of the opening world stand, and where its calls go.
use Rattle.std.proofs.Common.{◌≡◌, ℕ, zero, suc, ◌+◌, ◌<◌, length, refl, sym, ◌∙◌, ap, arith}
use Rattle.std.proofs.Math.Nat.{add-zero}
use Rattle.std.specs.Prelude.{Some, slice_get}
use Rattle.node_steps.specs.World.{fresh_vnode, id_of, opening_vnodes, own_sites}
use Rattle.node_steps.proofs.Numbers.{shift}

pub length-own : (from n : ℕ) → length (own_sites from n) ≡ n
length-own from zero = refl
length-own from (suc n) = ap suc (length-own (from + 1) n)

pub length-opening : (run from n : ℕ) → length (opening_vnodes run from n) ≡ n
length-opening run from zero = refl
length-opening run from (suc n) = ap suc (length-opening run (from + 1) n)

pub vnode_there : (run from count index : ℕ) → index < count → slice_get (opening_vnodes run from count) index ≡ Some (fresh_vnode (id_of run (from + index)) (from + index) 0)
vnode_there run from zero index h = absurd (omega (arith, h))
vnode_there run from (suc count) zero h = ap (λ n. Some (fresh_vnode (id_of run n) n 0)) (sym (add-zero from))
vnode_there run from (suc count) (suc index) h =
    vnode_there run (from + 1) count index (omega (arith, h)) ∙ ap (λ n. Some (fresh_vnode (id_of run n) n 0)) (shift from index)

pub own_there : (from count index : ℕ) → index < count → slice_get (own_sites from count) index ≡ Some (from + index)
own_there from zero index h = absurd (omega (arith, h))
own_there from (suc count) zero h = ap (λ n. Some n) (sym (add-zero from))
own_there from (suc count) (suc index) h = own_there (from + 1) count index (omega (arith, h)) ∙ ap (λ n. Some n) (shift from index)

pub own_is : (from count index site : ℕ) → slice_get (own_sites from count) index ≡ Some site → site ≡ from + index
own_is from zero index site h = cc
own_is from (suc count) zero site h = let e : from ≡ site = cc in sym e ∙ sym (add-zero from)
own_is from (suc count) (suc index) site h = own_is (from + 1) count index site h ∙ shift from index
