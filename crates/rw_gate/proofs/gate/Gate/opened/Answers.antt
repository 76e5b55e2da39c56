use Rattle.std.proofs.Common.{◌∷◌, ◌∙◌, [], length, refl, ap, sym}
use Rattle.rw_gate.specs.declared.log.GateEntry.TheVariants.{Opened}
use Rattle.rw_gate.specs.Logs.{events, opening}
use Rattle.rw_gate.specs.Views.{gate_id}
use Rattle.rw_gate.proofs.Logs.{opened_leads}
use Rattle.rw_gate.proofs.gate.Gate.opened.Goals as goal

pub open_row-seen-requires : goal.open_row-seen-requires
open_row-seen-requires g c =
    let s = c.args.state.now in (
      record {
        counted = refl;
        run = (g.S.Kept.content s, opened_leads g.S.Kept.content g.S.Kept.accepts s (Opened s ∷ []) refl);
      },
      (λ log. tt),
      c.alone.ensures.1,
    )

pub returns-clause-opening : goal.returns-clause-opening
returns-clause-opening g c = ap opening (ap (λ s. s.log) c.again.ensures ∙ c.open_row-seen.ensures.1)

pub returns-clause-value : goal.returns-clause-value
returns-clause-value g c =
    let log = c.open_row-seen.ensures.1 in
    record {
      of_gate = ap (λ s. gate_id s.book s.log) (sym c.again.ensures);
      counted = sym (ap (λ l. length (events l)) log);
      leads = opened_leads g.S.Kept.content g.S.Kept.accepts c.args.state.now c.open_row-seen.result.0.log log;
    }
