use Rattle.std.proofs.Common.{[], ◌∷◌, Some, refl, inl, inr}
use Rattle.std.proofs.lemmas.Bool.Decides.{Decides-eqb}
use Rattle.std.proofs.lemmas.Slice.Eq.{strip_suffix_is}
use Rattle.control_text.proofs.mistake.mistake_in.Goals as goal

pub returns-in-Some : goal.returns-in-Some
returns-in-Some c =
    let cut = strip_suffix_is Decides-eqb c.args.line.now (13 ∷ []) (Some c.in-Some.text) c.in-Some.ensures.cases in
    record { is = (c.in-Some.text.now, inr cut, c.mistake_of.ensures) }

pub returns-in-None : goal.returns-in-None
returns-in-None c = record { is = (c.args.line.now, inl refl, c.mistake_of-in-None.ensures) }
