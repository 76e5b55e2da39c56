-- Which word a text begins with.
use Rattle.std.proofs.Common.{◌≡◌, ℕ, List, [], ◌∷◌, ◌++◌, Bool, true, false, IsTrue, codes, sym, ap, subst, ◌∙◌, inl, inr}
use Rattle.std.proofs.lemmas.List.{append_cancel_left, append-nil}
use Rattle.control_text.specs.declared.mistake.Word.{Word}
use Rattle.control_text.specs.declared.mistake.Word.TheVariants.{Help, Totals, Stats, Diverted, Divert, Copy, Return, Stop}
use Rattle.control_text.specs.Mistakes.{word_text, EndsWord, BeginsWith}

-- a text begins with the word before what ends it
pub ended_begins : (text word rest : List ℕ) → text ≡ word ++ rest → EndsWord rest → BeginsWith word text
ended_begins text word rest cut (inl e) = inl (cut ∙ ap (λ r. word ++ r) e ∙ append-nil word)
ended_begins text word rest cut (inr operands) = inr (operands.0, cut ∙ ap (λ r. word ++ r) operands.1)

-- and the other way round
pub begins_ended : (text word rest : List ℕ) → text ≡ word ++ rest → BeginsWith word text → EndsWord rest
begins_ended text word rest cut (inl e) = inl (append_cancel_left word rest [] (sym cut ∙ e ∙ sym (append-nil word)))
begins_ended text word rest cut (inr operands) = inr (operands.0, append_cancel_left word rest (32 ∷ operands.0) (sym cut ∙ operands.1))

-- where a text doesn't go on from a word, it doesn't begin with it
pub not_begun : (text word : List ℕ) → ((rest : List ℕ) → text ≡ word ++ rest → ⊥) → BeginsWith word text → ⊥
not_begun text word none (inl e) = none [] (e ∙ sym (append-nil word))
not_begun text word none (inr operands) = none (32 ∷ operands.0) operands.1

-- no test that failed says yes
pub never : IsTrue false → ⊥
never is =
    let no : false ≡ true = is in
    cc no

pub refuted : (b : Bool) → IsTrue b → b ≡ false → ⊥
refuted b is other = never (subst IsTrue other is)

-- where a text begins with none of the words, it begins with no word
pub no_word : (text : List ℕ) → (BeginsWith (codes "help") text → ⊥) → (BeginsWith (codes "totals") text → ⊥) → (BeginsWith (codes "stats") text → ⊥)
    → (BeginsWith (codes "diverted") text → ⊥) → (BeginsWith (codes "divert") text → ⊥) → (BeginsWith (codes "copy") text → ⊥) → (BeginsWith (codes "return") text → ⊥) → (BeginsWith (codes "stop") text → ⊥)
    → (word : Word) → BeginsWith (word_text word) text → ⊥
no_word text help totals stats diverted divert copy back stop Help = help
no_word text help totals stats diverted divert copy back stop Totals = totals
no_word text help totals stats diverted divert copy back stop Stats = stats
no_word text help totals stats diverted divert copy back stop Diverted = diverted
no_word text help totals stats diverted divert copy back stop Divert = divert
no_word text help totals stats diverted divert copy back stop Copy = copy
no_word text help totals stats diverted divert copy back stop Return = back
no_word text help totals stats diverted divert copy back stop Stop = stop
