-- A content: a value, and its details.
use Rattle.std.specs.Prelude.{ℕ, List, Option}

-- RpbLink
pub record Link : Type 0 where
  pub bucket : Option (List ℕ)
  pub key : Option (List ℕ)
  pub tag : Option (List ℕ)

-- RpbPair
pub record Pair : Type 0 where
  pub key : List ℕ
  pub value : Option (List ℕ)

-- RpbContent, without whether it is a tombstone
pub record Content : Type 0 where
  pub value : List ℕ
  pub content_type : Option (List ℕ)
  pub charset : Option (List ℕ)
  pub content_encoding : Option (List ℕ)
  pub links : List Link
  pub usermeta : List Pair
  pub indexes : List Pair
