-- The plain register: its commands give a context as the position that it names, and are answered by the definition.
use Rattle.std.specs.Prelude.{◌≡◌, Bool, true, List, ◌≤◌, ℕ, Option, length, ◌∷◌, IsTrue, nat_le, ◌&&◌, ◌||◌, ◌==◌}
use Rattle.std.specs.Option.{ForSome}
use Rattle.sibling_register.specs.declared.command.Command.{Command}
use Rattle.sibling_register.specs.declared.command.Command.TheVariants.{Get, Put, Del, Reap}
use Rattle.sibling_register.specs.declared.told.Told.{Told as TypeTold}
use Rattle.sibling_register.specs.declared.told.Told.TheVariants.{Refused as TypeRefused, Shown as TypeShown, Done as TypeDone, Reaped as TypeReaped, Kept as TypeKept}
use Rattle.sibling_register.specs.History.{Event}
use Rattle.sibling_register.specs.Refusals.{match_found, not_found, too_many_siblings}
use Rattle.sibling_register.specs.Answers.{RegisterAsk, AskGet, AskPut, AskDel, AskReap, Told, Refused, Shown, Done, Reaped, Kept, RegisterOutcome, Answers, Accepts, MayGive}
use Rattle.sibling_register.specs.Plans.{plain_outcome}
use Rattle.sibling_register.specs.Counting.{by_count, context_at}

-- the answer that a value of the type `Told` encodes
abbrev pub answer_of : TypeTold → Told ℕ
answer_of (TypeRefused number) = Refused number
answer_of (TypeShown siblings place unchanged bare) = Shown siblings place unchanged bare
answer_of TypeDone = Done
answer_of TypeReaped = Reaped
answer_of TypeKept = Kept

-- no refusal but the checks that the history decides: match found, modified, not found, too many siblings
abbrev pub is_decided : Told ℕ → Bool
is_decided (Refused number) = (nat_le match_found number && nat_le number not_found) || (number == too_many_siblings)
is_decided (Shown siblings position unchanged bare) = true
is_decided Done = true
is_decided Reaped = true
is_decided Kept = true

module _ {V : Type 0} where
  -- what a command asks, the positions that it gives read as contexts
  abbrev pub asked : List (Event V ℕ) → Command V → RegisterAsk V ℕ
  asked history (Get key if_modified head deletedvclock) =
      AskGet (record { key = key; if_modified = context_at history key if_modified; head = head; deletedvclock = deletedvclock })
  asked history (Put key context value return_body return_head if_not_modified if_none_match) =
      AskPut (record {
        key = key;
        context = context_at history key context;
        value = value;
        return_body = return_body;
        return_head = return_head;
        if_not_modified = if_not_modified;
        if_none_match = if_none_match;
      })
  asked history (Del key context) = AskDel (record { key = key; context = context_at history key context })
  asked history (Reap key) = AskReap key

  -- a position is not past the end
  abbrev pub IsPosition : List (Event V ℕ) → Option ℕ → Type 0
  IsPosition history position = ForSome position (λ p. p ≤ length history)

  -- the positions that a command gives are not past the end
  abbrev pub GivesPositions : List (Event V ℕ) → Command V → Type 0
  GivesPositions history (Get key if_modified head deletedvclock) = IsPosition history if_modified
  GivesPositions history (Put key context value return_body return_head if_not_modified if_none_match) = IsPosition history context
  GivesPositions history (Del key context) = IsPosition history context
  GivesPositions history (Reap key) = Unit {0}

  -- from one history to another by what came of an ask
  abbrev pub Follows : List (Event V ℕ) → RegisterOutcome V ℕ → Told ℕ → List (Event V ℕ) → Type 0
  Follows old (Answers given) told new = (told ≡ given) × (new ≡ old)
  Follows old (Accepts event given) told new = (told ≡ given) × (new ≡ event ∷ old)

-- the register answers the command as the plain register does, so by the definition, and refuses by no check that the
-- definition leaves free
pub record Gives {V : Type 0} (old : List (Event V ℕ)) (command : Command V) (told : Told ℕ) (new : List (Event V ℕ)) : Type 0 where
  pub outcome : RegisterOutcome V ℕ
  pub exact : outcome ≡ plain_outcome old (asked old command)
  pub may : MayGive by_count old (asked old command) outcome
  pub follows : Follows old outcome told new
  pub decided : IsTrue (is_decided told)
