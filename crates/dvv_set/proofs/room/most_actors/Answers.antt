use Rattle.std.proofs.Common.{◌≡◌, ◌≤◌, ◌&&◌, IsTrue, List, [], ◌∙◌, sym, ap, arith, length}
use Rattle.std.specs.Prelude.{Some, None, unwrap_or, nat_le}
use Rattle.std.specs.List.{list_all}
use Rattle.std.proofs.lemmas.Bool.{leb-true}
use Rattle.actor_epoch.specs.declared.Dot.{Dot}
use Rattle.actor_epoch.specs.Contexts.{is_well_formed, is_rising, is_within_limits}
use Rattle.actor_epoch.proofs.Rising.{and_first, and_second}
use Rattle.dvv_set.specs.Held.{pairs_of}
use Rattle.dvv_set.specs.Stored.{clock_entries}
use Rattle.dvv_set.proofs.Stored.{length-clock_entries}
use Rattle.dvv_set.proofs.Ready.{after-most}
use Rattle.dvv_set.proofs.room.most_actors.Given
use Rattle.dvv_set.proofs.room.most_actors.Goals.{in-None, in-Some}
use Rattle.dvv_set.proofs.room.most_actors.Goals as goal

-- a context has 64 pairs at most
few_pairs : (pairs : List Dot) → IsTrue (is_well_formed pairs) → length pairs ≤ 64
few_pairs pairs f =
    let n = length pairs in
    let counted = and_first (nat_le 1 n && nat_le n 64) (is_rising pairs && list_all is_within_limits pairs) f in
    leb-true n 64 (and_second (nat_le 1 n) (nat_le n 64) counted)

few_given : (g : Given.Over) (c : goal.After-row_known-1 g) → c.match-context.given ≤ 64
few_given g c =
    elim c.match-context.branch [
      | in-None w ↦ omega (arith, w.given-is)
      | in-Some w ↦ omega (arith, w.given-is, w.len-given.ensures, ap length w.pairs.ensures.pairs, few_pairs w.in-Some.context.now w.pairs.ensures.of_form)
    ]

pub overflow_add-result : goal.overflow_add-result
overflow_add-result g c = omega (arith, few_given g c, c.requires.few)

pub overflow_add-result-2 : goal.overflow_add-result-2
overflow_add-result-2 g c = omega (arith, few_given g c, c.requires.few)

pub returns : goal.returns
returns g c actor =
    elim c.match-context.branch [
      | in-None w ↦
          let most = after-most (clock_entries c.args.entries.now) (pairs_of c.args.context) (λ ps e. let none : None ≡ Some ps = ap pairs_of (sym w.in-None.is) ∙ e in cc) c.requires.entries actor in
          let given = ap (λ context. length (unwrap_or (pairs_of context) [])) w.in-None.is in
          omega (arith, most, given, w.given-is, length-clock_entries c.args.entries.now)
      | in-Some w ↦
          let most = after-most (clock_entries c.args.entries.now) (pairs_of c.args.context)
          (λ ps e. let is : Some w.in-Some.context.now ≡ Some ps = ap pairs_of (sym w.in-Some.is) ∙ e in let same : w.in-Some.context.now ≡ ps = cc in ap is_well_formed (sym same) ∙ w.pairs.ensures.of_form)
          c.requires.entries actor in
          let given = ap (λ context. length (unwrap_or (pairs_of context) [])) w.in-Some.is in
          omega (arith, most, given, w.given-is, w.len-given.ensures, ap length w.pairs.ensures.pairs, length-clock_entries c.args.entries.now)
    ]
