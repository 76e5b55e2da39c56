-- How passes are laid together from the last place on.
use Rattle.std.proofs.Common.{◌≡◌, ◌∙◌, ℕ, List, [], ◌∷◌, ◌++◌, length, map, refl, sym, ap, subst}
use Rattle.std.proofs.lemmas.List.{append-nil, append_assoc, length-map}
use Rattle.std.specs.Prelude.{slice_index_or, slice_set}
use mathlib.Core.List.{IsPrefix}
use Rattle.std.specs.List.{AllZip}
use Rattle.rw_gate.specs.Views.{GateId}
use Rattle.vnode_core.specs.Plans.{View}
use Rattle.gate_node.specs.Asked.{Sight}
use Rattle.gate_node.specs.Merging.{HasSeenAllOf}

-- the place behind the first ones
at_behind : {A : Type 0} (front : List A) (x other : A) (rest : List A) → slice_index_or (front ++ x ∷ rest) (length front) other ≡ x
at_behind [] x other rest = refl
at_behind (y ∷ front) x other rest = at_behind front x other rest

set_behind : {A : Type 0} (front : List A) (x y : A) (rest : List A) → slice_set (front ++ x ∷ rest) (length front) y ≡ front ++ y ∷ rest
set_behind [] x y rest = refl
set_behind (z ∷ front) x y rest = ap (λ l. z ∷ l) (set_behind front x y rest)

-- a list whose image has a last element has one
record HasLast {A B : Type 0} (f : A → B) (left : List A) (last : A) (all : List A) : Type 0 where
  pub front : List A
  pub end : A
  pub is : all ≡ front ++ end ∷ []
  pub same : map f left ≡ map f front
  pub image : f last ≡ f end

has_last : {A B : Type 0} (f : A → B) (left : List A) (last : A) (all : List A) → map f (left ++ last ∷ []) ≡ map f all → HasLast f left last all
has_last f [] last [] h = absurd (cc h)
has_last f [] last (x ∷ []) h = record { front = []; end = x; is = refl; same = refl; image = cc h }
has_last f [] last (x ∷ y ∷ all) h = absurd (cc h)
has_last f (z ∷ left) last [] h = absurd (cc h)
has_last f (z ∷ left) last (x ∷ all) h =
    let rest = has_last f left last all (cc h) in
    let head : f z ≡ f x = cc h in
    record { front = x ∷ rest.front; end = rest.end; is = ap (λ l. x ∷ l) rest.is; same = cc (head, rest.same); image = rest.image }

abbrev Gates : List Sight → List (GateId View)
Gates passes = map (λ (pass : Sight). pass.gate) passes

-- of the passes behind the first ones, of which as many of the others are left, the further ones are kept
pub record AreMerged (kept left olds others : List Sight) : Type 0 where
  pub front : List Sight
  pub ends : List Sight
  pub mine : List Sight
  pub theirs : List Sight
  pub kept_is : kept ≡ front ++ ends
  pub olds_is : olds ≡ front ++ mine
  pub others_is : others ≡ left ++ theirs
  pub gates : Gates left ≡ Gates front
  pub saw_mine : AllZip HasSeenAllOf ends mine
  pub saw_theirs : AllZip HasSeenAllOf ends theirs

pub merged_none : (olds others : List Sight) → Gates others ≡ Gates olds → AreMerged olds others olds others
merged_none olds others same = record {
  front = olds;
  ends = [];
  mine = [];
  theirs = [];
  kept_is = sym (append-nil olds);
  olds_is = sym (append-nil olds);
  others_is = sym (append-nil others);
  gates = same;
  saw_mine = tt;
  saw_theirs = tt;
}

module _ (kept left olds others : List Sight) (pass : Sight) (h : AreMerged kept (left ++ pass ∷ []) olds others) (place : ℕ) (at : place ≡ length left) where
  last : HasLast (λ (p : Sight). p.gate) left pass h.front
  last = has_last (λ (p : Sight). p.gate) left pass h.front h.gates

  place_is : place ≡ length last.front
  place_is = at ∙ sym (length-map left (λ (p : Sight). p.gate)) ∙ ap length last.same ∙ length-map last.front (λ (p : Sight). p.gate)

  kept_parts : kept ≡ last.front ++ last.end ∷ h.ends
  kept_parts = h.kept_is ∙ ap (λ (l : List Sight). l ++ h.ends) last.is ∙ append_assoc last.front (last.end ∷ []) h.ends

  now_is : (now : Sight) → now ≡ slice_index_or kept place now → now ≡ last.end
  now_is now is = is ∙ ap (λ (l : List Sight). slice_index_or l place now) kept_parts ∙ ap (λ (n : ℕ). slice_index_or (last.front ++ last.end ∷ h.ends) n now) place_is ∙ at_behind last.front last.end now h.ends

  -- the next of the others is of the gate of the one in its place
  pub same_gate : (now : Sight) → now ≡ slice_index_or kept place now → pass.gate ≡ now.gate
  same_gate now is = last.image ∙ ap (λ (p : Sight). p.gate) (sym (now_is now is))

  pub merged_more : (now further : Sight) → now ≡ slice_index_or kept place now → further.gate ≡ now.gate → IsPrefix now.prefix further.prefix → IsPrefix pass.prefix further.prefix
      → AreMerged (slice_set kept place further) left olds others
  merged_more now further is gate mine theirs =
      let same = now_is now is in
      record {
        front = last.front;
        ends = further ∷ h.ends;
        mine = last.end ∷ h.mine;
        theirs = pass ∷ h.theirs;
        kept_is = ap (λ (l : List Sight). slice_set l place further) kept_parts ∙ ap (λ (n : ℕ). slice_set (last.front ++ last.end ∷ h.ends) n further) place_is ∙ set_behind last.front last.end further h.ends;
        olds_is = h.olds_is ∙ ap (λ (l : List Sight). l ++ h.mine) last.is ∙ append_assoc last.front (last.end ∷ []) h.mine;
        others_is = h.others_is ∙ append_assoc left (pass ∷ []) h.theirs;
        gates = last.same;
        saw_mine = (record { of_gate = ap (λ (p : Sight). p.gate) (sym same) ∙ sym gate; begins = subst (λ (p : Sight). IsPrefix p.prefix further.prefix) same mine }, h.saw_mine);
        saw_theirs = (record { of_gate = same_gate now is ∙ sym gate; begins = theirs }, h.saw_theirs);
      }
