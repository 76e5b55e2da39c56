-- What is wrong with a line that asks for no command.
use Rattle.std.specs.Prelude.{◌≡◌, ℕ, ◌⊎◌, List, [], ◌∷◌, ◌++◌, Option, Some, None, codes}
use Rattle.control_text.specs.declared.mistake.Word.{Word}
use Rattle.control_text.specs.declared.mistake.Word.TheVariants.{Help, Totals, Stats, Diverted, Divert, Copy, Return, Stop}
use Rattle.control_text.specs.declared.mistake.Mistake.{Mistake}
use Rattle.control_text.specs.declared.mistake.Mistake.TheVariants.{NoSuchCommand, BlankBehind, Operands}
use Rattle.control_text.specs.Commands.{IsLineOf}

-- a command's word
abbrev pub word_text : Word → List ℕ
word_text Help = codes "help"
word_text Totals = codes "totals"
word_text Stats = codes "stats"
word_text Diverted = codes "diverted"
word_text Divert = codes "divert"
word_text Copy = codes "copy"
word_text Return = codes "return"
word_text Stop = codes "stop"

-- a word ends here: the text does, or a space (20) comes
abbrev pub EndsWord : List ℕ → Type 0
EndsWord rest = (rest ≡ []) ⊎ ((operands : List ℕ) × (rest ≡ 32 ∷ operands))

-- the text's first word is this one
abbrev pub BeginsWith : List ℕ → List ℕ → Type 0
BeginsWith word text = (text ≡ word) ⊎ ((operands : List ℕ) × (text ≡ word ++ 32 ∷ operands))

-- a space is the text's last byte
abbrev pub EndsInBlank : List ℕ → Type 0
EndsInBlank text = (front : List ℕ) × (text ≡ front ++ 32 ∷ [])

-- the command's word that a text begins with
abbrev pub NamesWord : List ℕ → Option Word → Type 0
NamesWord text (Some word) = BeginsWith (word_text word) text
NamesWord text None = (word : Word) → ¬ (BeginsWith (word_text word) text)

-- What is wrong with a text that is no command's: first a blank behind it, then a first word that is no command's, and else what stands behind that word.
abbrev pub IsMistakeOf : List ℕ → Mistake → Type 0
IsMistakeOf text BlankBehind = EndsInBlank text
IsMistakeOf text NoSuchCommand = ¬ (EndsInBlank text) × ((word : Word) → ¬ (BeginsWith (word_text word) text))
IsMistakeOf text (Operands word) = ¬ (EndsInBlank text) × BeginsWith (word_text word) text

-- what is wrong with a line: with its text, where it isn't a command's
abbrev pub IsMistakeIn : List ℕ → Mistake → Type 0
IsMistakeIn line mistake = (text : List ℕ) × IsLineOf text line × IsMistakeOf text mistake
