-- How a context is found among those that were shown: by the places of the contexts of one digest.
use Rattle.std.specs.Prelude.{◌≡◌, ℕ, ◌+◌, ◌*◌, ◌%◌, ◌^◌, ◌==◌, List, [], ◌∷◌, suc, slice_get, if◌then◌else◌, Option, Some, None, option_and_then}
use Rattle.std.specs.Option.{option_map_or}
use Rattle.std.specs.BTreeMap.{BTreeMap, get}
use Rattle.std.specs.Ordering.{nat_cmp}
use Rattle.std.specs.Global.{Vec}
use Rattle.riak_msgs.specs.declared.Key.{Key}
use Rattle.actor_epoch.specs.declared.actor.Actor.{Actor}
use Rattle.actor_epoch.specs.declared.dot.Dot.{Dot}
use Rattle.actor_epoch.specs.Given.{context_of, pairs_read}
use Rattle.schedule_text.specs.declared.shown_context.ShownContext.{ShownContext}
use Rattle.schedule_text.specs.Compared.{is_of}

-- a digest with one pair more: any function of the pairs serves
abbrev pub mixed : ℕ → Actor → ℕ → ℕ
mixed digest actor counter =
    ((((digest * 1099511628211) % 2 ^ 64 + actor.epoch) % 2 ^ 64 * 1099511628211) % 2 ^ 64 + counter) % 2 ^ 64

abbrev pub digest_of : ℕ → List Dot → ℕ
digest_of digest [] = digest
digest_of digest (pair ∷ pairs) = digest_of (mixed digest pair.actor pair.counter) pairs

-- the digest of a context that was shown
abbrev pub entry_digest : ShownContext → ℕ
entry_digest entry = option_map_or (digest_of 0) (pairs_read (context_of entry.context)) 0

-- the places of the entries of a digest, of which the first stands at this place
abbrev pub places_from : ℕ → ℕ → List ShownContext → List ℕ
places_from place digest [] = []
places_from place digest (entry ∷ entries) =
    if entry_digest entry == digest then place ∷ places_from (suc place) digest entries else places_from (suc place) digest entries

-- the position of a context, where it was shown for the key at this place
abbrev pub position_at : List ShownContext → Key → List Dot → ℕ → Option ℕ
position_at entries key pairs place =
    option_and_then (λ entry. if is_of key pairs entry then Some entry.position else None) (slice_get entries place)

-- the same at one of these places
abbrev pub position_among : List ShownContext → Key → List Dot → List ℕ → Option ℕ
position_among entries key pairs [] = None
position_among entries key pairs (place ∷ places) =
    option_map_or (λ position. Some position) (position_at entries key pairs place) (position_among entries key pairs places)

-- the places that are kept for a digest
abbrev pub places_at : BTreeMap ℕ (Vec ℕ) → ℕ → List ℕ
places_at places digest = option_map_or (λ same. same.items) (get nat_cmp places digest) []

-- for each digest the places of its entries are kept
abbrev pub AreIndexed : List ShownContext → BTreeMap ℕ (Vec ℕ) → Type 0
AreIndexed entries places = (digest : ℕ) → places_at places digest ≡ places_from 0 digest entries
