use Rattle.std.proofs.Common.{Some, None}
use Rattle.std.proofs.lemmas.Bool.Decides.{Decides-eqb}
use Rattle.std.proofs.lemmas.Slice.Eq.{strip_prefix_is}
use Rattle.control_text.proofs.Words.{ended_begins, begins_ended, not_begun, never}
use Rattle.control_text.proofs.mistake.begins_with.Goals as goal

pub returns-in-Some : goal.returns-in-Some
returns-in-Some c =
    let cut = strip_prefix_is Decides-eqb c.args.text.now c.args.word.now (Some c.in-Some.rest) c.in-Some.ensures.cases in (
      (λ is. ended_begins c.args.text.now c.args.word.now c.in-Some.rest.now cut (c.ends_word.ensures.0 is)),
      (λ begins. c.ends_word.ensures.1 (begins_ended c.args.text.now c.args.word.now c.in-Some.rest.now cut begins)),
    )

pub returns-in-None : goal.returns-in-None
returns-in-None c =
    let none = strip_prefix_is Decides-eqb c.args.text.now c.args.word.now None c.in-None.ensures.cases in
    ((λ is. absurd (never is)), (λ begins. absurd (not_begun c.args.text.now c.args.word.now none begins)))
