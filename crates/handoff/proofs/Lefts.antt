-- The first key that isn't copied as it is now, over keys one behind another.
use Rattle.std.proofs.Common.{◌≡◌, ◌∙◌, ◌<◌, ◌≤◌, true, false, [], ◌∷◌, length, refl, sym, ap, subst, arith}
use Rattle.std.specs.Prelude.{Option, Some, None}
use Rattle.riak_msgs.specs.declared.Key.{Key}
use Rattle.riak_msgs.specs.Contents.{Content}
use Rattle.riak_msgs.specs.KeyOrder.{key_cmp}
use Rattle.clock_store.specs.Behind.{next_entry}
use Rattle.clock_store.specs.Keys.{Keys, stored_of}
use Rattle.vnode_machine.specs.Machine.{State, Stored}
use Rattle.vnode_machine.specs.Sound.{IsStoredClock, IsSound}
use Rattle.vnode_core.specs.Left.{is_copied, keys_behind}
use Rattle.vnode_core.proofs.Lefts.{behind-next, behind-none, next-fewer, none-more}
use Rattle.vnode_core.proofs.Walking.{next-found}
use Rattle.handoff.specs.Left.{AreCopied, FindsLeft, GoesOnInRest, IsFirstLeft, IsNextLeft}
use Rattle.handoff.specs.declared.left.Left.{Left}
use Rattle.handoff.specs.declared.left.Found.TheVariants.{Passed, Next}

pub copied-none : (primary : State Content) (keys : Keys) → keys ≡ [] → AreCopied primary keys
copied-none primary keys is = subst (AreCopied primary) (sym is) refl

-- with one more that is copied before them
pub copied-more : (primary : State Content) (keys rest : Keys) (entry : Key × Stored Content) → keys ≡ entry ∷ rest → is_copied primary entry ≡ true → AreCopied primary rest → AreCopied primary keys
copied-more primary keys rest entry is here all = subst (AreCopied primary) (sym is) (none-more primary entry rest here all)

pub left-more : (primary : State Content) (keys rest : Keys) (entry first : Key × Stored Content) → keys ≡ entry ∷ rest → is_copied primary entry ≡ true → IsFirstLeft primary rest first
    → IsFirstLeft primary keys first
left-more primary keys rest entry first is here left = record {
  passed = entry ∷ left.passed;
  rest = left.rest;
  is = is ∙ ap (λ (es : Keys). entry ∷ es) left.is;
  copied = none-more primary entry left.passed here left.copied;
  left = left.left;
}

pub left-here : (primary : State Content) (keys rest : Keys) (entry : Key × Stored Content) → keys ≡ entry ∷ rest → is_copied primary entry ≡ false → IsFirstLeft primary keys entry
left-here primary keys rest entry is left = record { passed = []; rest = rest; is = is; copied = refl; left = left }

-- of themselves
pub goes-on : (primary : State Content) (keys : Keys) → GoesOnInRest primary keys keys
goes-on primary keys = record { copied = λ all. all; left = λ entry first. first }

-- and so on
pub goes-through : (primary : State Content) (whole keys rest : Keys) → GoesOnInRest primary whole keys → GoesOnInRest primary keys rest → GoesOnInRest primary whole rest
goes-through primary whole keys rest on further = record { copied = λ all. on.copied (further.copied all); left = λ entry first. on.left entry (further.left entry first) }

go-on : (primary : State Content) (whole keys rest : Keys) (entry : Key × Stored Content) → GoesOnInRest primary whole keys → keys ≡ entry ∷ rest → is_copied primary entry ≡ true → GoesOnInRest primary whole rest
go-on primary whole keys rest entry on is here =
    goes-through primary whole keys rest on
    (record { copied = λ all. copied-more primary keys rest entry is here all; left = λ first left. left-more primary keys rest entry first is here left })

-- the next key isn't copied, and nothing before it is left
pub next-left : (primary fallback : State Content) → IsSound fallback → (after at : Option Key) (parts key : Key) (there : Stored Content) → GoesOnInRest primary (keys_behind after fallback) (keys_behind at fallback)
    → next_entry key_cmp at fallback.keys ≡ Some (parts, there) → key ≡ parts → is_copied primary (key, there) ≡ false → IsStoredClock there.clock → IsNextLeft primary fallback after key there
next-left primary fallback sound after at parts key there on next same left clock =
    let first : next_entry key_cmp at fallback.keys ≡ Some (key, there) = next ∙ ap (λ k. Some (k, there)) (sym same) in
    let is = behind-next fallback sound at (key, there) first in
    record {
      first = on.left (key, there) (left-here primary (keys_behind at fallback) (keys_behind (Some key) fallback) (key, there) is left);
      is_held = record { held = next-found at fallback.keys (key, there) sound.sorted first; clock = clock };
    }

-- the next key is copied
pub next-copied : (primary fallback : State Content) → IsSound fallback → (after at : Option Key) (parts key : Key) (there : Stored Content) → GoesOnInRest primary (keys_behind after fallback) (keys_behind at fallback)
    → next_entry key_cmp at fallback.keys ≡ Some (parts, there) → key ≡ parts → is_copied primary (key, there) ≡ true → GoesOnInRest primary (keys_behind after fallback) (keys_behind (Some parts) fallback)
next-copied primary fallback sound after at parts key there on next same copied =
    go-on primary (keys_behind after fallback) (keys_behind at fallback) (keys_behind (Some parts) fallback) (parts, there) on
    (behind-next fallback sound at (parts, there) next) (ap (λ k. is_copied primary (k, there)) (sym same) ∙ copied)

-- up to a key that is copied none is left
pub next-passed : (primary fallback : State Content) → IsSound fallback → (after at : Option Key) (parts key : Key) (there : Stored Content) → GoesOnInRest primary (keys_behind after fallback) (keys_behind at fallback)
    → length (keys_behind at fallback) ≤ length (keys_behind after fallback) → next_entry key_cmp at fallback.keys ≡ Some (parts, there) → key ≡ parts → is_copied primary (key, there) ≡ true
    → FindsLeft primary fallback after (Passed key)
next-passed primary fallback sound after at parts key there on within next same copied =
    let further = next-copied primary fallback sound after at parts key there on next same copied in
    let fewer = next-fewer fallback sound at parts there next in
    let less : length (keys_behind (Some parts) fallback) < length (keys_behind after fallback) = omega (arith, fewer, within) in
    subst (λ k. GoesOnInRest primary (keys_behind after fallback) (keys_behind (Some k) fallback) × (length (keys_behind (Some k) fallback) < length (keys_behind after fallback))) (sym same) (further, less)

-- the first of a stretch is that of all
pub first-found : (primary fallback : State Content) (after : Option Key) (left : Left) → GoesOnInRest primary fallback.keys (keys_behind after fallback) → FindsLeft primary fallback after (Next left)
    → IsNextLeft primary fallback None left.key (stored_of left.stored.now)
first-found primary fallback after left on found = record {
  first = subst (λ (keys : Keys). IsFirstLeft primary keys (left.key, stored_of left.stored.now)) (sym (behind-none fallback)) (on.left (left.key, stored_of left.stored.now) found.first);
  is_held = found.is_held;
}
