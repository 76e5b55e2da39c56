-- In each course contexts name what was there: of the other side just what had come.
use Rattle.std.proofs.Common.{◌≡◌, ℕ, ◌<◌, ◌≤◌, Bool, true, false, cond, [], ◌∷◌, ◌++◌, refl, sym, ◌∙◌, ap, arith, subst, inr}
use Rattle.std.specs.Prelude.{◌==◌, Option, Some, MatchBool}
use Rattle.std.proofs.lemmas.List.{append_assoc}
use Rattle.riak_msgs.specs.declared.Key.{Key}
use Rattle.riak_msgs.specs.Contents.{Content}
use Rattle.riak_msgs.specs.KeyOrder.{key_eq}
use Rattle.sibling_register.specs.History.{Event, count_of}
use Rattle.actor_epoch.specs.declared.Dot.{Dot}
use Rattle.actor_epoch.specs.Dots.{covers}
use Rattle.actor_epoch.specs.Given.{Context}
use Rattle.vnode_machine.specs.Machine.{pairs_of}
use Rattle.vnode_machine.specs.Lives.{dot_of}
use Rattle.vnode_machine.proofs.Keys.{key_eq-refl}
use Rattle.copy_laws.specs.Copies.{Copy, Command, Copied, commands_of, count_brought}
use Rattle.copy_laws.specs.Sides.{Partition, Number, is_covered_by}
use Rattle.copy_laws.specs.Joining.{Log, HasDot, HasCome}
use Rattle.copy_laws.specs.Diversions.{Course, AtPrimary, CopyBack, diversions_of, is_diverted, fallback_of, primary_of, WasShownInCourse, HappensTo, CoursesNameWhatCame}
use Rattle.copy_laws.proofs.Tests.{differs}
use Rattle.copy_laws.proofs.LifeDots.{dot-of}
use Rattle.copy_laws.proofs.Numbered.{number-within}
use Rattle.copy_laws.proofs.Courses.{happens-before, settled, CopyMade, copy-made, CommandMade, command-made, covering}
use Rattle.copy_laws.proofs.CourseDots.{DotIn, dot-stays, CameBy, came-later, context-came, covering-came, side-came}
use Rattle.copy_laws.proofs.CourseLaw.{all-came, came-below}

module _ (partition : Partition) (ids : partition.primary < partition.fallback) (key : Key) (course : Course) (happens : HappensTo partition key course) where
  abbrev v : ℕ
  v = partition.primary

  abbrev l : ℕ
  l = partition.last_epoch

  abbrev log : Log
  log = primary_of partition course

  -- a number with this dot that had come to a part of the log
  abbrev ComesBy : Log → Dot → Type 0
  ComesBy before dot = (number : Number) × HasDot partition log (fallback_of course) key number dot × HasCome partition log (fallback_of course) key before number

  module _ (moment : Course) (happens' : HappensTo partition key moment) (number : Number) (dot : Dot) (has : DotIn partition key ids moment number dot) where
    -- a dot of the fallbacks' vnode, while the primary isn't diverted, was brought
    of-fallback : dot.actor.vnode ≡ partition.fallback → (is_diverted moment ≡ false) → HasCome partition log (fallback_of course) key (primary_of partition moment) number
    of-fallback vnode undiverted = by (number.side == 0) refl has
      where
        brought : (number.side == 0) ≡ false → dot_of partition.fallback (partition.opened number.side) (fallback_of moment number.side) key number.number ≡ Some dot → number.number ≤ count_brought (primary_of partition moment) key number.side
        brought z d =
            let few = number-within partition.fallback (partition.opened number.side) key (fallback_of moment number.side) number.number dot d in
            let begun = side-came partition key ids moment happens' (came-below partition key ids moment happens') moment number dot (λ e. differs number.side 0 z e) has in
            let all = settled partition key moment happens' number.side (inr (begun, undiverted)) in
            omega (arith, few, all)

        by : (b : Bool) → (number.side == 0) ≡ b
            → cond b (dot_of v l (commands_of (primary_of partition moment)) key number.number) (dot_of partition.fallback (partition.opened number.side) (fallback_of moment number.side) key number.number) ≡ Some dot
            → MatchBool b (number.number ≤ count_of (commands_of (primary_of partition moment)) key) (number.number ≤ count_brought (primary_of partition moment) key number.side)
        by true z d = let own = (dot-of v l (commands_of (primary_of partition moment)) key number.number dot d).vnode_is in absurd (omega (arith, own, vnode, ids))
        by false z d = brought z d

    -- and one of the primary's was issued
    of-primary : dot.actor.vnode ≡ partition.primary → HasCome partition log (fallback_of course) key (primary_of partition moment) number
    of-primary vnode = by (number.side == 0) has
      where
        by : (b : Bool)
            → cond b (dot_of v l (commands_of (primary_of partition moment)) key number.number) (dot_of partition.fallback (partition.opened number.side) (fallback_of moment number.side) key number.number) ≡ Some dot
            → MatchBool b (number.number ≤ count_of (commands_of (primary_of partition moment)) key) (number.number ≤ count_brought (primary_of partition moment) key number.side)
        by true d = number-within v l key (commands_of (primary_of partition moment)) number.number dot d
        by false d =
            let other = (dot-of partition.fallback (partition.opened number.side) (fallback_of moment number.side) key number.number dot d).vnode_is in absurd (omega (arith, other, vnode, ids))

  -- what came by a moment came at it
  at-moment : (moment : Course) (dot : Dot) → CameBy partition key ids moment dot → (number : Number) × DotIn partition key ids moment number dot
  at-moment moment dot w = subst (λ c. (number : Number) × DotIn partition key ids c number dot) w.is (came-later partition key ids w.later w.moment dot w.came)

  -- so does what a context covers that was shown, while the primary isn't diverted
  pub covers-brought : (given : Option Context) → is_diverted course ≡ false → ((context : Context) → given ≡ Some context → WasShownInCourse partition course key context)
      → (dot : Dot) → dot.actor.vnode ≡ partition.fallback → covers (pairs_of given) dot ≡ true → ComesBy log dot
  covers-brought given undiverted shown dot vnode h =
      let one = at-moment course dot (context-came partition key ids course key given (key_eq-refl key) (all-came partition key ids course happens) shown dot h) in
      (one.0, one.1, of-fallback course happens one.0 dot one.1 vnode undiverted)

  given : (later before : Log) (event : Event Content Context) → later ++ Command event ∷ before ≡ log → key_eq event.key key ≡ true
      → (dot : Dot) → dot.actor.vnode ≡ partition.fallback → covers (pairs_of event.context) dot ≡ true → ComesBy before dot
  given later before event e itself dot vnode h = made (command-made partition course later event before e)
    where
      made : CommandMade partition course event before → ComesBy before dot
      made m =
          let there = happens-before partition key m.later (AtPrimary event ∷ m.moment) (subst (HappensTo partition key) (sym m.is) happens) in
          let one = at-moment m.moment dot (context-came partition key ids m.moment event.key event.context itself (all-came partition key ids m.moment there.0) (there.2 itself).1 dot h) in (
            one.0,
            subst (λ c. DotIn partition key ids c one.0 dot) (append_assoc m.later (AtPrimary event ∷ []) m.moment ∙ m.is) (dot-stays partition key ids (m.later ++ AtPrimary event ∷ []) m.moment one.0 dot one.1),
            subst (λ t. HasCome partition log (fallback_of course) key t one.0) (sym m.before_is) (of-fallback m.moment there.0 one.0 dot one.1 vnode there.1.0),
          )

  copied : (later before : Log) (copy : Copy Content) → later ++ Copied copy ∷ before ≡ log
      → (dot : Dot) → dot.actor.vnode ≡ partition.primary → is_covered_by copy.prefix key dot ≡ true → ComesBy before dot
  copied later before copy e dot vnode h = made (copy-made partition course later copy before e)
    where
      made : CopyMade partition course copy before → ComesBy before dot
      made m =
          let there = happens-before partition key m.later (CopyBack m.key ∷ m.moment) (subst (HappensTo partition key) (sym m.is) happens) in
          let covered : is_covered_by (fallback_of m.moment (diversions_of m.moment)) key dot ≡ true = sym (ap (λ (c : Copy Content). is_covered_by c.prefix key dot) m.copy_is) ∙ h in
          let one = at-moment m.moment dot (covering-came partition key ids m.moment there.0 (came-below partition key ids m.moment there.0) m.moment dot [] refl (covering m.moment (diversions_of m.moment) key dot covered)) in (
            one.0,
            subst (λ c. DotIn partition key ids c one.0 dot) (append_assoc m.later (CopyBack m.key ∷ []) m.moment ∙ m.is) (dot-stays partition key ids (m.later ++ CopyBack m.key ∷ []) m.moment one.0 dot one.1),
            subst (λ t. HasCome partition log (fallback_of course) key t one.0) (sym m.before_is) (of-primary m.moment there.0 one.0 dot one.1 vnode),
          )

pub courses_name_what_came : (partition : Partition) (course : Course) → CoursesNameWhatCame partition course
courses_name_what_came partition course ids key happens = record {
  given = λ later before event e itself dot vnode h. given partition ids key course happens later before event e itself dot vnode h;
  copied = λ later before copy stands dot vnode h. copied partition ids key course happens later before copy stands.0 dot vnode h;
}
