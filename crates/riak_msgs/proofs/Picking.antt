-- What is taken from lists of fields that stand one after the other.
use Rattle.std.proofs.Common.{◌≡◌, ℕ, List, [], ◌∷◌, ◌++◌, Option, Some, None, refl, ap, ◌∙◌}
use Rattle.std.specs.List.{last_or, filter_map, AllZip}
use Rattle.std.proofs.lemmas.List.Elements.{filter_map-append}
use Rattle.pb_fields.specs.Field.{WireField}
use Rattle.riak_msgs.specs.Picking.{each_bytes, last_bytes, last_varint, bytes_at, varint_at}

pub last_or-append : {A : Type 0} (o : Option A) (xs ys : List A) → last_or o (xs ++ ys) ≡ last_or (last_or o xs) ys
last_or-append o [] ys = refl
last_or-append o (x ∷ xs) ys = last_or-append (Some x) xs ys

pub each_bytes-append : (number : ℕ) (fs gs : List WireField) → each_bytes number (fs ++ gs) ≡ each_bytes number fs ++ each_bytes number gs
each_bytes-append number fs gs = filter_map-append (bytes_at number) fs gs

-- the last of two lists is the last of the second, or else that of the first
pub last_bytes-append : (number : ℕ) (fs gs : List WireField) → last_bytes number (fs ++ gs) ≡ last_or (last_bytes number fs) (each_bytes number gs)
last_bytes-append number fs gs =
    ap (last_or None) (each_bytes-append number fs gs) ∙ last_or-append None (each_bytes number fs) (each_bytes number gs)

pub last_varint-append : (number : ℕ) (fs gs : List WireField) →
    last_varint number (fs ++ gs) ≡ last_or (last_varint number fs) (filter_map (varint_at number) gs)
last_varint-append number fs gs =
    ap (last_or None) (filter_map-append (varint_at number) fs gs)
    ∙ last_or-append None (filter_map (varint_at number) fs) (filter_map (varint_at number) gs)

pub AllZip-append : {A B : Type 0} (R : A → B → Type 0) (xs ys : List A) (us vs : List B) → AllZip R xs us → AllZip R ys vs →
    AllZip R (xs ++ ys) (us ++ vs)
AllZip-append R [] ys [] vs a b = b
AllZip-append R [] ys (u ∷ us) vs a b = absurd a
AllZip-append R (x ∷ xs) ys [] vs a b = absurd a
AllZip-append R (x ∷ xs) ys (u ∷ us) vs a b = (a.0, AllZip-append R xs ys us vs a.1 b)

-- a list that goes with two is two lists
pub AllZip-split : {A B : Type 0} (R : A → B → Type 0) (xs ys : List A) (ws : List B) → AllZip R (xs ++ ys) ws →
    (us : List B) × (vs : List B) × (ws ≡ us ++ vs) × AllZip R xs us × AllZip R ys vs
AllZip-split R [] ys ws a = ([], ws, refl, tt, a)
AllZip-split R (x ∷ xs) ys [] a = absurd a
AllZip-split R (x ∷ xs) ys (w ∷ ws) a =
    let rest = AllZip-split R xs ys ws a.1 in
    (w ∷ rest.0, rest.1, ap (λ ts. w ∷ ts) rest.2, (a.0, rest.3), rest.4)
