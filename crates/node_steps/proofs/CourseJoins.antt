-- Where all that the last fallback accepted for a key was brought back, the primary's siblings are the joint ones, also while the
-- partition is diverted: of each earlier diversion all was.
use Rattle.std.proofs.Common.{◌≡◌, ℕ, ◌<◌, ◌≤◌, true, ◌∷◌, ◌++◌, sym, ◌∙◌, ap, arith, subst, inl, inr}
use Rattle.std.proofs.lemmas.Bool.{cases_lt}
use Rattle.riak_msgs.specs.declared.Key.{Key}
use Rattle.riak_msgs.specs.Contents.{Content}
use Rattle.riak_msgs.specs.KeyOrder.{key_eq}
use Rattle.sibling_register.specs.History.{count_of}
use Rattle.copy_laws.specs.Copies.{Copy, Copied, count_brought}
use Rattle.copy_laws.specs.Sides.{Partition}
use Rattle.copy_laws.specs.Joining.{Log, IsHandOff, IsJoined, AreJointSiblings}
use Rattle.copy_laws.specs.Diversions.{Course, diversions_of, fallback_of, primary_of, HappensTo}
use Rattle.copy_laws.proofs.Brought.{BroughtBy, brought-by, brought-at}
use Rattle.copy_laws.proofs.Later.{count-later}
use Rattle.copy_laws.proofs.Courses.{none-yet, open_always, settled}
use Rattle.copy_laws.proofs.CourseDots.{copy-came}
use Rattle.copy_laws.proofs.CourseLaw.{came-below, courses_are_hand_offs}
use Rattle.copy_laws.proofs.JoinLaw.{copies_join}

module _ (partition : Partition) (course : Course) (ids : partition.primary < partition.fallback) (key : Key) (happens : HappensTo partition key course) where
  abbrev log : Log
  log = primary_of partition course

  abbrev last : ℕ
  last = diversions_of course

  off : IsHandOff partition log (fallback_of course) key
  off = (courses_are_hand_offs partition course ids key happens).0

  -- of a diversion that is to come nothing was brought
  none-brought : (n : ℕ) → last < n → count_brought log key n ≡ 0
  none-brought n less = elim (cases_lt 0 (count_brought log key n)) [ inl lt ↦ absurd (some lt) | inr le ↦ omega (arith, le) ]
    where
      some : 0 < count_brought log key n → ⊥
      some lt =
          let c : BroughtBy key log n 1 = brought-by key log n 1 (omega arith) (omega (arith, lt)) in
          let le = copy-came partition key ids course happens (came-below partition key ids course happens) course c.later c.copy c.before c.is in
          let is = c.side in
          omega (arith, less, le, is)

  -- and of none more than its fallback accepted
  at-most : (n : ℕ) → count_brought log key n ≤ count_of (fallback_of course n) key
  at-most n = elim (cases_lt 0 (count_brought log key n)) [ inl lt ↦ by (brought-by key log n (count_brought log key n) (omega (arith, lt)) (omega arith)) | inr le ↦ omega (arith, le) ]
    where
      by : BroughtBy key log n (count_brought log key n) → count_brought log key n ≤ count_of (fallback_of course n) key
      by c =
          let begins = (off.copies c.later c.before c.copy (c.is, c.itself)).begins in
          let few : count_of c.copy.prefix key ≤ count_of (fallback_of course c.copy.diversion) key =
          subst (λ t. count_of c.copy.prefix key ≤ count_of t key) begins.1 (count-later key begins.0 c.copy.prefix) in
          let most : count_of c.copy.prefix key ≤ count_of (fallback_of course n) key = subst (λ s. count_of c.copy.prefix key ≤ count_of (fallback_of course s) key) c.side few in
          let reaches = c.reaches in
          omega (arith, most, reaches)

  abbrev AllBrought : ℕ → Type 0
  AllBrought n = count_brought log key n ≡ count_of (fallback_of course n) key

  pub earlier-brought : (n : ℕ) → n < last → AllBrought n
  earlier-brought n less = settled partition key course happens n (inl less)

  joined : AllBrought last → IsJoined partition log (fallback_of course) key
  joined all = record {
    hand_off = off;
    open_still = open_always partition course;
    settled = λ n diversion. elim (cases_lt last n) [
      | inl lt ↦ none-brought n lt ∙ sym (ap (λ t. count_of t key) (none-yet course n lt))
      | inr le ↦ elim (cases_lt n last) [
        | inl less ↦ earlier-brought n less
        | inr more ↦ let same : n ≡ last = omega (arith, le, more) in subst AllBrought (sym same) all
      ]
    ];
  }

  pub joins : AllBrought last → AreJointSiblings partition log (fallback_of course) key
  joins all = copies_join partition log (fallback_of course) key (joined all)

  -- so after a copy of the key for which its fallback accepted nothing since
  pub joins-copied : (later before : Log) (copy : Copy Content) → later ++ Copied copy ∷ before ≡ log → key_eq copy.key key ≡ true → copy.diversion ≡ last
      → count_of copy.prefix key ≡ count_of (fallback_of course last) key → AreJointSiblings partition log (fallback_of course) key
  joins-copied later before copy is itself side whole =
      joins (all (at-most last) (subst (λ n. count_of copy.prefix key ≤ count_brought log key n) side
      (subst (λ (l : Log). count_of copy.prefix key ≤ count_brought l key copy.diversion) is (brought-at key later copy before itself))))
    where
      all : count_brought log key last ≤ count_of (fallback_of course last) key → count_of copy.prefix key ≤ count_brought log key last → AllBrought last
      all few reaches = omega (arith, few, reaches, whole)
