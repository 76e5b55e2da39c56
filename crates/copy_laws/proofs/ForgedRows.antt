-- A context that was never shown is given for one key, and the claims of another key of its partition hold all the same. The forged one
-- covers the fallback's first dot before it is issued: so the primary seems to have what the fallback then accepts for that key, a return
-- comes, and it was never brought.
use Rattle.std.proofs.Common.{◌≡◌, true, [], ◌∷◌, refl, sym, arith, inl}
use Rattle.std.specs.Prelude.{Some, None}
use Rattle.riak_msgs.specs.Contents.{Content}
use Rattle.sibling_register.specs.History.{Event, Write, count_of}
use Rattle.actor_epoch.specs.Given.{Context, Pairs}
use Rattle.vnode_machine.specs.Machine.{clock_of}
use Rattle.copy_laws.specs.Copies.{count_brought}
use Rattle.copy_laws.specs.CopyReplay.{primary_after}
use Rattle.copy_laws.specs.Joining.{AreJointSiblings}
use Rattle.copy_laws.specs.LastDots.{knows_last_dot}
use Rattle.copy_laws.specs.Diversions.{AtPrimary, Divert, AtFallback, CopyBack, Return, Course, fallback_of, fallback_state, primary_of, GivesShownInCourse, Happens, HappensTo}
use Rattle.copy_laws.proofs.Courses.{it-happens}
use Rattle.copy_laws.proofs.CourseLaw.{returns_join}
use Rattle.copy_laws.proofs.CopyRows.{k, j, content, at, one_diversion}

abbrev first : Event Content Context
first = record { key = k; operation = Write (content 112); context = None; saw = [] }

-- the forged context, given for the other key
abbrev forged : Event Content Context
forged = record { key = j; operation = Write (content 113); context = Some (Pairs (at 98304 1 1 ∷ [])); saw = [] }

-- whose next put is the fallback's first dot
abbrev other : Event Content Context
other = record { key = j; operation = Write (content 103); context = None; saw = [] }

abbrev second : Event Content Context
second = record { key = k; operation = Write (content 102); context = Some (Pairs (at 65536 1 1 ∷ [])); saw = [] }

abbrev asked : Course
asked = AtPrimary forged ∷ AtPrimary first ∷ []

abbrev diverted : Course
diverted = AtFallback second ∷ AtFallback other ∷ Divert ∷ asked

-- one key alone is copied
abbrev returned : Course
returned = Return ∷ CopyBack k ∷ diverted

first_shown : GivesShownInCourse one_diversion [] first
first_shown context e = cc

second_shown : GivesShownInCourse one_diversion (AtFallback other ∷ Divert ∷ asked) second
second_shown context e =
    record { later = AtFallback other ∷ Divert ∷ []; moment = asked; is = refl; shown = inl (sym (same (Pairs (at 65536 1 1 ∷ [])) context e)) }
  where
    same : (a b : Context) → Some a ≡ Some b → a ≡ b
    same a b e = cc

-- the course happens to the first key, of whose contexts each was shown
pub other_forged : HappensTo one_diversion k returned
other_forged = (
  (
    (
      (
        (
          (
            (tt, (refl, refl), λ itself. (refl, first_shown)),
            (refl, refl),
            λ itself. cc,
          ),
          (refl, omega arith, omega arith),
          tt,
        ),
        (refl, refl, refl, refl),
        λ itself. cc,
      ),
      (refl, refl, refl, refl),
      λ itself. second_shown,
    ),
    (refl, refl, refl),
    tt,
  ),
  refl,
  refl,
)

-- so the first key's siblings are the joint ones: "f" alone, which had seen "p"
pub other_forged_joins : AreJointSiblings one_diversion (primary_of one_diversion returned) (fallback_of returned) k
other_forged_joins = returns_join one_diversion returned (omega arith) k other_forged refl

other_forged_live : (clock_of (primary_after one_diversion (primary_of one_diversion returned)) k).live ≡ (at 98304 2 1, Some (content 102)) ∷ []
other_forged_live = refl

-- the whole course may happen; of the other key the test of its last dot passes with no copy, and what the fallback accepted is left there
forged_happens : Happens one_diversion returned
forged_happens = it-happens one_diversion k returned other_forged

forged_known : knows_last_dot (clock_of (primary_after one_diversion (primary_of one_diversion diverted)) j) (fallback_state one_diversion diverted) j ≡ true
forged_known = refl

forged_accepted : count_of (fallback_of returned 1) j ≡ 1
forged_accepted = refl

forged_brought : count_brought (primary_of one_diversion returned) j 1 ≡ 0
forged_brought = refl
