use Rattle.std.proofs.Common.{[], ◌∷◌, Some}
use Rattle.std.proofs.lemmas.Bool.Decides.{Decides-eqb}
use Rattle.std.proofs.lemmas.Slice.Eq.{strip_suffix_is}
use Rattle.control_text.proofs.Texts.{returned_read}
use Rattle.control_text.proofs.reading.read_command.Goals as goal

pub returns-in-Some : goal.returns-in-Some
returns-in-Some c = record {
  reads =
      returned_read c.args.line.now c.in-Some.text.now c.read_text.result
      (strip_suffix_is Decides-eqb c.args.line.now (13 ∷ []) (Some c.in-Some.text) c.in-Some.ensures.cases) c.read_text.ensures;
}
