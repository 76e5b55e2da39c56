-- The pieces of a count.
use Rattle.std.proofs.Common.{◌≡◌, ◌∙◌, Bool, true, false, List, [], ◌∷◌, ◌++◌, map, refl, sym, ap, subst}
use Rattle.std.proofs.lemmas.List.{append-nil, append_assoc}
use Rattle.std.specs.Prelude.{Option, None}
use Rattle.std.specs.List.{AllByRecursion}
use Rattle.riak_msgs.specs.declared.Key.{Key}
use Rattle.riak_msgs.specs.Contents.{Content}
use Rattle.vnode_core.specs.declared.entry.Entry.{Entry}
use Rattle.vnode_core.specs.Left.{Keys, State, keys_behind}
use Rattle.vnode_core.proofs.Lefts.{behind-none}
use Rattle.handoff.specs.Partitions.{GateId, View}
use Rattle.handoff.specs.Sights.{LeadsVnodeTo, ShowsState, Sight}
use Rattle.key_counts.specs.declared.counts.KeyCounts.{KeyCounts}
use Rattle.key_counts.specs.declared.looks.Piece.{Piece}
use Rattle.key_counts.specs.declared.looks.Counted.{Counted}
use Rattle.key_counts.specs.Looks.{ArePieces, EndsOr, IsCountedBy, IsPiece}
use Rattle.key_counts.specs.Stored.{IsStretch, counts_in, counts_of, keys_left}
use Rattle.key_counts.specs.Sums.{capped, no_counts, plus, sum_of}
use Rattle.key_counts.proofs.OneState.{leads_to_one}
use Rattle.key_counts.proofs.Sums.{capped-end, capped-rest}
use Rattle.key_counts.proofs.Walks.{counts-join}

-- whatever goes on from here completes what was counted so far
abbrev pub Completes : GateId View → List Piece → Option Key → List Entry → Type 0
Completes gate pieces at seen = (last : Sight) (more : List Piece) → ArePieces gate last at seen more → ArePieces gate last None [] (pieces ++ more)

-- a further piece that isn't the last one
pub goes_on : (gate : GateId View) (pieces : List Piece) (at : Option Key) (seen : List Entry) (piece : Piece) → Completes gate pieces at seen → IsPiece gate at seen piece
    → piece.stretch.is_last ≡ false → Completes gate (pieces ++ piece ∷ []) piece.up_to.value piece.pass.value.prefix
goes_on gate pieces at seen piece so_far is more_come last more they =
    let all = so_far last (piece ∷ more) (is, subst (λ (b : Bool). EndsOr b ((more ≡ []) × (last ≡ piece.pass.value)) (ArePieces gate last piece.up_to.value piece.pass.value.prefix more)) (sym more_come) they) in
    subst (ArePieces gate last None []) (sym (append_assoc pieces (piece ∷ []) more)) all

-- the last one
pub ends : (gate : GateId View) (pieces : List Piece) (at : Option Key) (seen : List Entry) (piece : Piece) → Completes gate pieces at seen → IsPiece gate at seen piece
    → piece.stretch.is_last ≡ true → ArePieces gate piece.pass.value None [] (pieces ++ piece ∷ [])
ends gate pieces at seen piece so_far is ended =
    so_far piece.pass.value (piece ∷ [])
    (is, subst (λ (b : Bool). EndsOr b (◌≡◌ {A = List Piece} [] [] × ◌≡◌ {A = Sight} piece.pass.value piece.pass.value) ⊥) (sym ended) (refl, refl))

-- what each of these ways leads to
either : {A B C D : Type 0} (b : Bool) → EndsOr b A B → (A → C) → (B → D) → EndsOr b C D
either true one first second = first one
either false other first second = second other

abbrev total : List Piece → KeyCounts
total pieces = sum_of (map (λ piece. piece.stretch.counts) pieces)

-- a stretch, and what others count behind it
stretch_and : (state : State Content) (b : Bool) (up_to : Option Key) (counts more : KeyCounts) (whole keys : Keys) → whole ≡ keys ++ keys_left b up_to state → counts ≡ capped (counts_of keys)
    → EndsOr b (more ≡ no_counts) (capped more ≡ capped (counts_of (keys_behind up_to state))) → capped (plus counts more) ≡ capped (counts_of whole)
stretch_and state true up_to counts more whole keys are counted none =
    ap (λ c. capped (plus c more)) counted ∙ ap (λ m. capped (plus (capped (counts_of keys)) m)) none ∙ capped-end (counts_of keys)
    ∙ ap (λ (es : Keys). capped (counts_of es)) (sym (are ∙ append-nil keys))
stretch_and state false up_to counts more whole keys are counted same =
    let rest = keys_behind up_to state in
    ap (λ c. capped (plus c more)) counted ∙ capped-rest (counts_of keys) more (counts_of rest) same ∙ ap capped (sym (counts-join keys rest))
    ∙ ap (λ (es : Keys). capped (counts_of es)) (sym are)

module _ (gate : GateId View) (prefix : List Entry) (state : State Content) (leads : LeadsVnodeTo gate prefix state) where
  -- what pieces of one state count from a key on is what that stores behind it
  pub all_of : (last : Sight) (behind : Option Key) (seen : List Entry) (pieces : List Piece) → ArePieces gate last behind seen pieces
      → AllByRecursion (λ (piece : Piece). piece.pass.value.prefix ≡ prefix) pieces → capped (total pieces) ≡ capped (counts_of (keys_behind behind state))
  all_of last behind seen [] they same = absurd they
  all_of last behind seen (piece ∷ others) (is, rest) (here, same) =
      let up_to = piece.up_to.value in
      let at_gate : LeadsVnodeTo gate piece.pass.value.prefix is.shown.state = subst (λ (g : GateId View). LeadsVnodeTo g piece.pass.value.prefix is.shown.state) is.of_gate is.shown.shows in
      let shows : LeadsVnodeTo gate prefix is.shown.state = subst (λ (es : List Entry). LeadsVnodeTo gate es is.shown.state) here at_gate in
      let one : is.shown.state ≡ state = leads_to_one gate prefix is.shown.state state shows leads in
      let stretch : IsStretch state behind up_to piece.stretch = subst (λ (s : State Content). IsStretch s behind up_to piece.stretch) one is.shown.is_stretch in
      stretch_and state piece.stretch.is_last up_to piece.stretch.counts (total others) (keys_behind behind state) stretch.keys stretch.are stretch.counted
      (either piece.stretch.is_last rest (λ ended. ap total ended.0) (λ they. all_of last up_to piece.pass.value.prefix others they same))

-- what was counted of a vnode that nobody changed
pub counted_exactly : (gate : GateId View) (counted : Counted) (state : State Content) → IsCountedBy gate counted
    → AllByRecursion (λ (piece : Piece). piece.pass.value.prefix ≡ counted.pass.prefix) counted.pieces → ShowsState counted.pass state → counted.counts ≡ counts_in state
counted_exactly gate counted state is same shows =
    let leads : LeadsVnodeTo gate counted.pass.prefix state = subst (λ (g : GateId View). LeadsVnodeTo g counted.pass.prefix state) is.of_gate shows in
    is.sums ∙ all_of gate counted.pass.prefix state leads counted.pass None [] counted.pieces is.are_pieces same ∙ ap (λ (es : Keys). capped (counts_of es)) (behind-none state)
