-- A context, which isn't encoded where it has no bytes, and a bucket type, which isn't where it is the default.
use Rattle.std.proofs.Common.{◌≡◌, ℕ, Bool, true, false, List, [], ◌∷◌, Option, Some, None, refl, sym, if◌then◌else◌}
use Rattle.std.specs.Option.{unwrap_or}
use Rattle.std.specs.Cmp.Lexicographic.{same_text}
use Rattle.std.specs.Str.{bytes_eq}
use Rattle.pb_fields.specs.Encoding.{bytes_field, optional_field}
use Rattle.riak_msgs.specs.Encoding.{context_field}
use Rattle.riak_msgs.specs.BucketTypes.{default_type}
use Rattle.riak_msgs.specs.Requests.{type_field}

-- bytes of which none are as absent
abbrev pub some_bytes : List ℕ → Option (List ℕ)
some_bytes [] = None
some_bytes (b ∷ bs) = Some (b ∷ bs)

pub context_field-is : (n : ℕ) (bs : List ℕ) → context_field n bs ≡ optional_field n (some_bytes bs)
context_field-is n [] = refl
context_field-is n (b ∷ bs) = refl

pub unwrap_or-some_bytes : (bs : List ℕ) → unwrap_or (some_bytes bs) [] ≡ bs
unwrap_or-some_bytes [] = refl
unwrap_or-some_bytes (b ∷ bs) = refl

-- a type, of which the default is as absent
abbrev pub some_type : List ℕ → Option (List ℕ)
some_type t = if bytes_eq t default_type then None else Some t

type_field-if : (n : ℕ) (t : List ℕ) (b : Bool) → (if b then [] else bytes_field n t) ≡ optional_field n (if b then None else Some t)
type_field-if n t true = refl
type_field-if n t false = refl

pub type_field-is : (n : ℕ) (t : List ℕ) → type_field n t ≡ optional_field n (some_type t)
type_field-is n t = type_field-if n t (bytes_eq t default_type)

unwrap_or-if : (t d : List ℕ) (b : Bool) → b ≡ bytes_eq t d → unwrap_or (if b then None else Some t) d ≡ t
unwrap_or-if t d true is = sym (same_text t d is)
unwrap_or-if t d false is = refl

pub unwrap_or-some_type : (t : List ℕ) → unwrap_or (some_type t) default_type ≡ t
unwrap_or-some_type t = unwrap_or-if t default_type (bytes_eq t default_type) refl
