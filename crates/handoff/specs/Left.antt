-- The first key of a fallback that its primary hasn't as it is there now.
use Rattle.std.specs.Prelude.{◌≡◌, ◌<◌, ◌++◌, false, ◌∷◌, length, Option, Some}
use Rattle.riak_msgs.specs.declared.Key.{Key}
use Rattle.riak_msgs.specs.Contents.{Content}
use Rattle.clock_store.specs.Keys.{Keys, stored_of}
use Rattle.vnode_machine.specs.Machine.{State, Stored, stored}
use Rattle.vnode_machine.specs.Sound.{IsStoredClock}
use Rattle.vnode_core.specs.Left.{count_left, is_copied, keys_behind}
use Rattle.handoff.specs.declared.left.Found.{Found}
use Rattle.handoff.specs.declared.left.Found.TheVariants.{End, Passed, Next}

-- all of these are copied as they are now
abbrev pub AreCopied : State Content → Keys → Type 0
AreCopied primary keys = count_left primary keys ≡ 0

-- of these it is the first that isn't
pub record IsFirstLeft (primary : State Content) (entries : Keys) (entry : Key × Stored Content) : Type 0 where
  pub passed : Keys
  pub rest : Keys
  pub is : entries ≡ passed ++ entry ∷ rest
  pub copied : AreCopied primary passed
  pub left : is_copied primary entry ≡ false

-- what is found of the rest of these keys is found of the whole: those before it are copied
pub record GoesOnInRest (primary : State Content) (whole rest : Keys) : Type 0 where
  pub copied : AreCopied primary rest → AreCopied primary whole
  pub left : (entry : Key × Stored Content) → IsFirstLeft primary rest entry → IsFirstLeft primary whole entry

-- a fallback holds a key so, by a clock of the form that a vnode's clocks have
pub record IsHeld (fallback : State Content) (key : Key) (there : Stored Content) : Type 0 where
  pub held : stored fallback key ≡ Some there
  pub clock : IsStoredClock there.clock

-- behind a key the first that isn't copied is this one, and a fallback holds it so
pub record IsNextLeft (primary fallback : State Content) (after : Option Key) (key : Key) (there : Stored Content) : Type 0 where
  pub first : IsFirstLeft primary (keys_behind after fallback) (key, there)
  pub is_held : IsHeld fallback key there

-- so it holds the key that a walk found left
abbrev pub IsHeldAt : (fallback : State Content) → Found → Type 0
IsHeldAt fallback End = Unit {0}
IsHeldAt fallback (Passed key) = Unit {0}
IsHeldAt fallback (Next left) = IsHeld fallback left.key (stored_of left.stored.now)

-- what a walk behind a key found, over some of the keys: none is left; all up to a later key are copied; or the first that isn't
abbrev pub FindsLeft : (primary fallback : State Content) (after : Option Key) → Found → Type 0
FindsLeft primary fallback after End = AreCopied primary (keys_behind after fallback)
FindsLeft primary fallback after (Passed key) =
    GoesOnInRest primary (keys_behind after fallback) (keys_behind (Some key) fallback)
    × (length (keys_behind (Some key) fallback) < length (keys_behind after fallback))
FindsLeft primary fallback after (Next left) = IsNextLeft primary fallback after left.key (stored_of left.stored.now)
