-- The vnodes of a new node, one more at a time.
use Rattle.std.proofs.Common.{◌≡◌, ℕ, zero, suc, ◌+◌, ◌<◌, ◌^◌, [], ◌∷◌, List, ◌++◌, refl, sym, ap, subst, ◌∙◌, inl, inr, arith, length-append}
use Rattle.std.proofs.lemmas.Bool.{cases_lt, cases_eq}
use Rattle.std.proofs.lemmas.List.{get_or_append_left, get_or_push, get_or_past, map-append}
use Rattle.ring_map.specs.Ring.{id_of}
use Rattle.riak_msgs.specs.Contents.{Content}
use Rattle.vnode_machine.specs.Machine.{State, opening}
use Rattle.vnode_core.specs.Plans.{View}
use Rattle.node_session.specs.PlainNodes.{AreNew, states_of}
use native.Mathlib.Nat.{pow-suc}

pub none_new : (run : ℕ) → AreNew run 0 []
none_new run = record { count = refl; each = λ index. refl }

pub one_more_new : (run size id : ℕ) (vnodes : List View) (vnode : View) → AreNew run size (states_of vnodes) → id ≡ id_of run size → vnode.state ≡ opening id 0
    → AreNew run (size + 1) (states_of (vnodes ++ vnode ∷ []))
one_more_new run size id vnodes vnode new is state =
    let states = states_of vnodes in
    let at : (index : ℕ) → State Content = λ index. opening (id_of run index) 0 in
    let made : states_of (vnodes ++ vnode ∷ []) ≡ states ++ at size ∷ [] =
    map-append (λ (v : View). v.state) vnodes (vnode ∷ []) ∙ ap (λ (s : State Content). states ++ s ∷ []) (state ∙ ap (λ (n : ℕ). opening n 0) is) in
    subst (AreNew run (size + 1)) (sym made) (record {
      count = length-append states (at size ∷ []) ∙ ap (λ (n : ℕ). n + 1) new.count;
      each = λ index. elim (cases_lt index size) [
        | inl lt ↦
            get_or_append_left states (at size ∷ []) (at index) index (subst (λ (n : ℕ). index < n) (sym new.count) lt) ∙ new.each index
        | inr ge ↦ elim (cases_eq index size) [
          | inl same ↦
              get_or_push states (at size) (at index) index (new.count ∙ sym same) ∙ ap at (sym same)
          | inr ne ↦
              get_or_past (states ++ at size ∷ []) index (at index) (omega (arith, length-append states (at size ∷ []), new.count, ge, ne))
        ]
      ];
    })

-- a ring of one partition has no index bit
pub no_bits : (bits : ℕ) → 2 ^ bits ≡ 1 → bits ≡ 0
no_bits zero e = refl
no_bits (suc bits) e = absurd (omega (arith, e, pow-suc 2 bits))
