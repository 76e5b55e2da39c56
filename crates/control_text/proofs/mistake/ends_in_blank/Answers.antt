use Rattle.std.proofs.Common.{◌∷◌, [], refl, Some, None}
use Rattle.std.proofs.lemmas.Bool.Decides.{Decides-eqb}
use Rattle.std.proofs.lemmas.Slice.Eq.{strip_suffix_is}
use Rattle.control_text.proofs.Words.{never}
use Rattle.control_text.proofs.mistake.ends_in_blank.Goals as goal

pub returns-in-Some : goal.returns-in-Some
returns-in-Some c =
    let cut = strip_suffix_is Decides-eqb c.args.text.now (32 ∷ []) (Some c.in-Some.field-0) c.in-Some.ensures.cases in
    ((λ _. (c.in-Some.field-0.now, cut)), (λ _. refl))

pub returns-in-None : goal.returns-in-None
returns-in-None c =
    let none = strip_suffix_is Decides-eqb c.args.text.now (32 ∷ []) None c.in-None.ensures.cases in
    ((λ is. absurd (never is)), (λ ends. absurd (none ends.0 ends.1)))
