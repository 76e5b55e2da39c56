use Rattle.std.proofs.Common.{◌≡◌, [], ◌∙◌, sym, ap, arith}
use Rattle.std.specs.Prelude.{Some, None, unwrap_or}
use Rattle.actor_epoch.specs.Contexts.{is_well_formed}
use Rattle.dvv_set.specs.Held.{pairs_of}
use Rattle.dvv_set.specs.ClockEntries.{count_new, entries_of_pairs}
use Rattle.dvv_set.specs.Stored.{clock_entries}
use Rattle.dvv_set.proofs.room.count_new_in.Goals as goal

pub count_new_pairs-requires : goal.count_new_pairs-requires
count_new_pairs-requires g c = let fits = c.well_formed in (omega arith, (c.requires, ap is_well_formed c.pairs.ensures.pairs ∙ c.pairs.ensures.of_form))

pub returns-in-None-clause-new : goal.returns-in-None-clause-new
returns-in-None-clause-new g c =
    ap (λ context. count_new (entries_of_pairs {V = g.row.V.Denot} (unwrap_or (pairs_of context) [])) (clock_entries c.args.entries.now)) (sym c.in-None.is)

pub returns-in-None-clause-of_form : goal.returns-in-None-clause-of_form
returns-in-None-clause-of_form g c ps e = let none : None ≡ Some ps = ap pairs_of (sym c.in-None.is) ∙ e in cc

pub returns-in-Some-clause-new : goal.returns-in-Some-clause-new
returns-in-Some-clause-new g c =
    c.count_new_pairs.ensures.counted
    ∙ ap (λ ps. count_new (entries_of_pairs {V = g.row.V.Denot} ps) (clock_entries c.args.entries.now)) c.pairs.ensures.pairs
    ∙ ap (λ context. count_new (entries_of_pairs {V = g.row.V.Denot} (unwrap_or (pairs_of context) [])) (clock_entries c.args.entries.now)) (sym c.in-Some.is)

pub returns-in-Some-clause-few : goal.returns-in-Some-clause-few
returns-in-Some-clause-few g c = c.count_new_pairs.ensures.few

pub returns-in-Some-clause-of_form : goal.returns-in-Some-clause-of_form
returns-in-Some-clause-of_form g c ps e =
    let given : Some c.in-Some.context.now ≡ Some ps = ap pairs_of (sym c.in-Some.is) ∙ e in
    let same : c.in-Some.context.now ≡ ps = cc in
    ap is_well_formed (sym same) ∙ c.pairs.ensures.of_form
