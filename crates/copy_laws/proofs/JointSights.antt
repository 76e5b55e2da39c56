-- A write or delete at the end of a primary's log covers the dots of just those siblings that it saw.
use Rattle.std.proofs.Common.{◌≡◌, ℕ, ◌≤◌, Bool, true, false, not, ◌&&◌, ◌||◌, cond, List, [], ◌∷◌, map, refl, sym, ◌∙◌, ap, arith}
use Rattle.std.specs.Prelude.{◌==◌, nat_le, filter, Option, Some, None}
use Rattle.std.specs.Option.{option_map_or}
use Rattle.riak_msgs.specs.declared.Key.{Key}
use Rattle.riak_msgs.specs.Contents.{Content}
use Rattle.sibling_register.specs.History.{Operation, Write, Tombstone, Reap, is_update}
use Rattle.sibling_register.specs.Siblings.{is_among}
use Rattle.sibling_register.specs.Refusals.{max_siblings}
use Rattle.actor_epoch.specs.declared.Dot.{Dot}
use Rattle.actor_epoch.specs.Dots.{covers}
use Rattle.actor_epoch.specs.Given.{Context}
use Rattle.vnode_machine.specs.Machine.{pairs_of, has_too_many_siblings}
use Rattle.vnode_machine.specs.Lives.{dot_of}
use Rattle.vnode_machine.proofs.Keys.{key_eq-refl}
use Rattle.vnode_machine.proofs.Pairwise.{Pairwise, Pairwise-map, Pairwise-filter, Pairwise-length}
use Rattle.vnode_machine.proofs.Tests.{nat_eq-refl}
use Rattle.copy_laws.specs.Copies.{commands_of, count_brought as brought_count, brought}
use Rattle.copy_laws.specs.Sides.{Partition, Number, has_number, dot_at, content_at, saw_brought, takes_all, siblings_at}
use Rattle.copy_laws.specs.CopyReplay.{seen_at}
use Rattle.copy_laws.specs.Joining.{Log, IsJoined, ShowsSiblings, value_at}
use Rattle.copy_laws.specs.Leaving.{saw_number}
use Rattle.copy_laws.specs.JointAnswers.{update_at, has_too_many_at}
use Rattle.copy_laws.proofs.Tests.{le-test, or_true}
use Rattle.copy_laws.proofs.Splits.{head-same, tail-same}
use Rattle.copy_laws.proofs.Clocks.{knows, taken_pairs}
use Rattle.copy_laws.proofs.Since.{state_at, clock_at}
use Rattle.copy_laws.proofs.Numbered.{number-within}
use Rattle.copy_laws.proofs.OwnCommands.{saw-covers, covers-saw}
use Rattle.copy_laws.proofs.OwnNumbers.{own-positive, known-counted, counted-known, IsRecent, recent}
use Rattle.copy_laws.proofs.KnownCome.{value-known}
use Rattle.copy_laws.proofs.Positions.{brought-count}
use Rattle.copy_laws.proofs.JoinLaw.{copies_join}

abbrev pub Entry : Type 0
Entry = Dot × Option Content

both-ways : (a b : Bool) → (a ≡ true → b ≡ true) → (b ≡ true → a ≡ true) → a ≡ b
both-ways true b f g = sym (f refl)
both-ways false true f g = g refl
both-ways false false f g = refl

-- what two lists show alike is alike one by one, each a number of the second
module _ {X : Type 0} (f : Entry → X) (g : Number → X) (all : List Number) where
  pub images-pairwise : (xs : List Entry) (ys : List Number) → map f xs ≡ map g ys → ((number : Number) → has_number ys number ≡ true → has_number all number ≡ true)
      → Pairwise (λ entry number. (f entry ≡ g number) × (has_number all number ≡ true)) xs ys
  images-pairwise [] [] e into = tt
  images-pairwise [] (y ∷ ys) e into = cc
  images-pairwise (x ∷ xs) [] e into = cc
  images-pairwise (x ∷ xs) (y ∷ ys) e into = (
    (head-same (f x) (g y) (map f xs) (map g ys) e, into y (ap (λ b. b || has_number ys y) (λ i. nat_eq-refl y.side i && nat_eq-refl y.number i))),
    images-pairwise xs ys (tail-same (f x) (g y) (map f xs) (map g ys) e) (λ number h. into number (ap (λ b. ((y.side == number.side) && (y.number == number.number)) || b) h ∙ or_true ((y.side == number.side) && (y.number == number.number)))),
  )

module _ (partition : Partition) (log : Log) (key : Key) (joined : IsJoined partition log (brought log key) key) where
  abbrev v : ℕ
  v = partition.primary

  abbrev l : ℕ
  l = partition.last_epoch

  abbrev DotHere : Number → Dot → Type 0
  DotHere number dot = dot_at partition log (brought log key) key number ≡ Some dot

  module _ (given : Option Context) (operation : Operation Content) (update : is_update operation ≡ true) where
    abbrev taken : List Dot
    taken = taken_pairs (state_at v l key log) key given operation

    -- of its own side by its numbers
    own-seen : (number : ℕ) (dot : Dot) (value : Option Content) → dot_of v l (commands_of log) key number ≡ Some dot → value_at (clock_at v l key log) dot ≡ Some value
        → covers taken dot ≡ is_among (seen_at partition log key given operation) number
    own-seen number dot value dotted h = by (recent partition log (brought log key) key joined number dot value dotted h)
      where
        by : IsRecent partition log (brought log key) key joined number dot → covers taken dot ≡ is_among (seen_at partition log key given operation) number
        by r =
            let positive = own-positive partition log (brought log key) key joined number dot r.number in
            let within = number-within v l key (commands_of log) number dot dotted in
            both-ways (covers taken dot) (is_among (seen_at partition log key given operation) number)
            (λ c. covers-saw partition key log number dot positive dotted key given operation (key_eq-refl key) update
            (λ gap position e k. known-counted partition log (brought log key) key joined number dot r.number gap position e k) within c)
            (λ s. saw-covers partition key log number dot positive dotted key given operation (key_eq-refl key) update
            (λ gap position e k. counted-known partition log (brought log key) key joined number dot r.number r.quiet gap position e k) within s)

    -- of the others by its context, or by what copies had brought
    brought-seen : (number : Number) (dot : Dot) → knows (clock_at v l key log) dot ≡ true → number.number ≤ brought_count log key number.side
        → covers taken dot ≡ saw_brought (update_at partition log key given operation) log number dot
    brought-seen number dot known come = by given operation update
      where
        by : (context : Option Context) (operation : Operation Content) → is_update operation ≡ true
            → covers (taken_pairs (state_at v l key log) key context operation) dot
            ≡ option_map_or (λ (x : Context). covers (pairs_of (Some x)) dot) context (takes_all operation && nat_le number.number (brought_count log key number.side))
        by (Some context) (Write content) u = refl
        by (Some context) Tombstone u = refl
        by None (Write content) u = refl
        by None Tombstone u = known ∙ sym (le-test number.number (brought_count log key number.side) come)
        by context Reap u = cc

    -- so it covers the dot of a sibling just where it saw it
    pub covered-seen : (number : Number) (dot : Dot) → has_number (siblings_at partition log key) number ≡ true → DotHere number dot
        → covers taken dot ≡ saw_number (update_at partition log key given operation) log number dot
    covered-seen number dot among dotted = by (number.side == 0) refl dotted
      where
        value : value_at (clock_at v l key log) dot ≡ Some (content_at partition log (brought log key) key number)
        value = (copies_join partition log (brought log key) key joined dot (content_at partition log (brought log key) key number)).1 (number, among, dotted, refl)

        known : knows (clock_at v l key log) dot ≡ true
        known = value-known partition log (brought log key) key joined [] log refl dot (content_at partition log (brought log key) key number) value

        by : (b : Bool) → (number.side == 0) ≡ b
            → cond b (dot_of v l (commands_of log) key number.number) (dot_of partition.fallback (partition.opened number.side) (brought log key number.side) key number.number) ≡ Some dot
            → covers taken dot ≡ cond b (is_among (seen_at partition log key given operation) number.number) (saw_brought (update_at partition log key given operation) log number dot)
        by true z d = own-seen number.number dot (content_at partition log (brought log key) key number) d value
        by false z d =
            let few = number-within partition.fallback (partition.opened number.side) key (brought log key number.side) number.number dot d in
            let same = brought-count partition log (brought log key) key joined.hand_off [] log refl number.side in
            brought-seen number dot known (omega (arith, few, same))

    abbrev sees : Number → Bool
    sees number = option_map_or (saw_number (update_at partition log key given operation) log number) (dot_at partition log (brought log key) key number) false

    module _ (shows : ShowsSiblings partition log (brought log key) key log) where
      abbrev shown_number : Number → Option Dot × Option Content
      shown_number number = (dot_at partition log (brought log key) key number, content_at partition log (brought log key) key number)

      -- one by one
      seen-each : Pairwise (λ (entry : Entry) number. not (covers taken entry.0) ≡ not (sees number)) (clock_at v l key log).live (siblings_at partition log key)
      seen-each =
          Pairwise-map (λ (entry : Entry) number. (◌≡◌ {A = Option Dot × Option Content} (Some entry.0, entry.1) (shown_number number)) × (has_number (siblings_at partition log key) number ≡ true))
          (λ (entry : Entry) number. not (covers taken entry.0) ≡ not (sees number)) one (clock_at v l key log).live (siblings_at partition log key)
          (images-pairwise (λ (entry : Entry). (Some entry.0, entry.1)) shown_number (siblings_at partition log key) (clock_at v l key log).live (siblings_at partition log key) shows.live (λ number h. h))
        where
          one : (entry : Entry) (number : Number) → (◌≡◌ {A = Option Dot × Option Content} (Some entry.0, entry.1) (shown_number number)) × (has_number (siblings_at partition log key) number ≡ true)
              → not (covers taken entry.0) ≡ not (sees number)
          one entry number h =
              let dotted : DotHere number entry.0 = λ i. (sym h.0 i).0 in
              ap not (covered-seen number entry.0 h.1 dotted ∙ ap (λ o. option_map_or (saw_number (update_at partition log key given operation) log number) o false) (sym dotted))

      -- as many are uncovered as unseen
      pub crowded-same : has_too_many_siblings (state_at v l key log) key taken ≡ has_too_many_at partition log (update_at partition log key given operation)
      crowded-same =
          ap (λ n. nat_le max_siblings n)
          (Pairwise-length (filter (λ entry. not (covers taken entry.0)) (clock_at v l key log).live) (filter (λ number. not (sees number)) (siblings_at partition log key))
          (Pairwise-filter (λ entry number. Unit {0}) (λ entry. not (covers taken entry.0)) (λ number. not (sees number)) (clock_at v l key log).live (siblings_at partition log key) seen-each
          (Pairwise-map (λ (entry : Entry) number. not (covers taken entry.0) ≡ not (sees number)) (λ entry number. Unit {0}) (λ entry number h. tt) (clock_at v l key log).live (siblings_at partition log key) seen-each)))
