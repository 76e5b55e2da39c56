-- What looks at a vnode count.
use Rattle.std.specs.Prelude.{◌≡◌, Bool, true, false, List, [], ◌∷◌, map, Option, None}
use mathlib.Core.List.{IsPrefix}
use Rattle.riak_msgs.specs.declared.Key.{Key}
use Rattle.riak_msgs.specs.Contents.{Content}
use Rattle.vnode_core.specs.Left.{State}
use Rattle.handoff.specs.Partitions.{GateId, View}
use Rattle.handoff.specs.Sights.{Entry, Sight, ShowsState}
use Rattle.key_counts.specs.declared.counts.KeyCounts.{KeyCounts}
use Rattle.key_counts.specs.declared.counts.Stretch.{Stretch}
use Rattle.key_counts.specs.declared.looks.Piece.{Piece}
use Rattle.key_counts.specs.declared.looks.Counted.{Counted}
use Rattle.key_counts.specs.Stored.{IsStretch}
use Rattle.key_counts.specs.Sums.{capped, sum_of}

-- at the end of what a pass has seen its vnode stores so much in a stretch of keys
pub record ShowsStretch (pass : Sight) (behind up_to : Option Key) (stretch : Stretch) : Type 0 where
  pub state : State Content
  pub shows : ShowsState pass state
  pub is_stretch : IsStretch state behind up_to stretch

-- a piece of a count of a gate's vnode that begins behind a key, or at the first, by a look of a pass that had seen this before
pub record IsPiece (gate : GateId View) (behind : Option Key) (seen : List Entry) (piece : Piece) : Type 0 where
  pub from : piece.behind.value ≡ behind
  pub of_gate : piece.pass.value.gate ≡ gate
  pub later : IsPrefix seen piece.pass.value.prefix
  pub shown : ShowsStretch piece.pass.value behind piece.up_to.value piece.stretch

-- the one, where it is the last piece, and else the other
abbrev pub EndsOr : (is_last : Bool) → Type 0 → Type 0 → Type 0
EndsOr true ends goes_on = ends
EndsOr false ends goes_on = goes_on

-- the pieces of a count from behind a key on, or from the first, one behind another, to the last key: each by a look that is no earlier than the one before,
-- and the last one by what the pass has seen then
abbrev pub ArePieces : GateId View → Sight → Option Key → List Entry → List Piece → Type 0
ArePieces gate pass behind seen [] = ⊥
ArePieces gate pass behind seen (piece ∷ others) =
    IsPiece gate behind seen piece
    × EndsOr piece.stretch.is_last ((others ≡ []) × (pass ≡ piece.pass.value)) (ArePieces gate pass piece.up_to.value piece.pass.value.prefix others)

-- what pieces count together
abbrev pub counts_of_pieces : List Piece → KeyCounts
counts_of_pieces pieces = capped (sum_of (map (λ piece. piece.stretch.counts) pieces))

-- a pass of this gate has seen that its vnode stores so much, in pieces from the first key to the last
pub record IsCountedBy (gate : GateId View) (counted : Counted) : Type 0 where
  pub of_gate : counted.pass.gate ≡ gate
  pub are_pieces : ArePieces gate counted.pass None [] counted.pieces
  pub sums : counted.counts ≡ counts_of_pieces counted.pieces
