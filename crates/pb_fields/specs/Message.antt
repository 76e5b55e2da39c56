use Rattle.std.specs.Prelude.{◌≡◌, ℕ, List, [], ◌∷◌}
use Rattle.pb_fields.specs.Field.{WireField, BeginsWithField}

-- the bytes begin with these fields, one after the other, and behind them come the rest
abbrev pub BeginsWithFields : List ℕ → List WireField → List ℕ → Type 0
BeginsWithFields bs [] rest = bs ≡ rest
BeginsWithFields bs (field ∷ fields) rest =
    (behind : List ℕ) × BeginsWithField bs field behind × BeginsWithFields behind fields rest

-- the bytes stand for this list of fields: they are its fields and nothing else
abbrev pub Encodes : List ℕ → List WireField → Type 0
Encodes bs fields = BeginsWithFields bs fields []
