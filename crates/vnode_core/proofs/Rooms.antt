-- The machine's checks of room, by what is stored of the key.
use Rattle.std.proofs.Common.{◌≡◌, ℕ, suc, ◌+◌, ◌<◌, ◌≤◌, Bool, true, false, not, ◌&&◌, List, [], ◌∷◌, length, refl, sym, ◌∙◌, ap, subst, arith}
use Rattle.std.specs.Prelude.{Option, Some, None, nat_eq, nat_lt, nat_le, ◌==◌, ◌^◌, if◌then◌else◌, is_some, unwrap_or, option_and_then, IsTrue}
use Rattle.std.specs.List.{list_all, list_any}
use Rattle.std.proofs.lemmas.Bool.Decides.{nat_tests}
use Rattle.riak_msgs.specs.declared.Key.{Key}
use Rattle.riak_msgs.specs.Contents.{Content}
use Rattle.sibling_register.specs.Refusals.{too_many_siblings, clock_full, epochs_used_up, counter_used_up, max_siblings, first_of}
use Rattle.actor_epoch.specs.declared.Actor.{Actor}
use Rattle.actor_epoch.specs.declared.Dot.{Dot}
use Rattle.actor_epoch.specs.declared.limits.TheConstants.{MAX_EPOCH, MAX_ACTORS}
use Rattle.actor_epoch.specs.Limits.{max_epoch, max_counter, max_actors}
use Rattle.actor_epoch.specs.Dots.{counter_in}
use Rattle.actor_epoch.specs.Contexts.{is_rising, is_within_limits}
use Rattle.dvv_set.specs.Clocks.{DotState}
use Rattle.dvv_set.specs.Held.{actors_after, known_after, known_with, uncovered}
use Rattle.dvv_set.specs.Laws.{IsClock}
use Rattle.dvv_set.proofs.Discards.{discard-all}
use Rattle.vnode_machine.specs.Machine.{State, Stored, stored, room_checks}
use Rattle.vnode_machine.proofs.Counters.{all-union}
use Rattle.vnode_machine.proofs.Forms.{form-parts}
use Rattle.vnode_machine.proofs.Invariants.{clock_in}
use Rattle.vnode_machine.proofs.Seen.{actors_after-pairs, length-raise_new}
use Rattle.vnode_machine.proofs.Tests.{and_left, and_right}
use Rattle.vnode_core.specs.declared.checks.Writer.{Writer}
use Rattle.vnode_core.specs.Checks.{pairs_in, AreRead, is_ahead, IsStored, IsFound, room_check, next_writer, siblings_check, writer_check}

-- by what was computed
pub siblings-full : (count : ℕ) → nat_le max_siblings count ≡ true → first_of ((nat_le max_siblings count, too_many_siblings) ∷ []) ≡ Some too_many_siblings
siblings-full count full = rw full refl

pub siblings-free : (count : ℕ) → nat_le max_siblings count ≡ false → first_of ((nat_le max_siblings count, too_many_siblings) ∷ []) ≡ None
siblings-free count few = rw few refl

abbrev pub check_of : (a n : ℕ) → (is_out_of_epochs : Bool) → Option ℕ
check_of a n is_out_of_epochs = first_of ((nat_lt max_actors a, clock_full) ∷ (is_out_of_epochs, epochs_used_up) ∷ (n == max_counter, counter_used_up) ∷ [])

pub actor-full : (a n : ℕ) (is_out_of_epochs : Bool) → max_actors < a → check_of a n is_out_of_epochs ≡ Some clock_full
actor-full a n is_out_of_epochs full = let b : nat_lt max_actors a ≡ true = grind (arith, nat_tests) in rw b refl

epochs-used : (a n : ℕ) → a ≤ max_actors → check_of a n true ≡ Some epochs_used_up
epochs-used a n fits = let b : nat_lt max_actors a ≡ false = grind (arith, nat_tests) in rw b refl

pub counter-used : (a n : ℕ) → a ≤ max_actors → n ≡ max_counter → check_of a n false ≡ Some counter_used_up
counter-used a n fits used =
    let b : nat_lt max_actors a ≡ false = grind (arith, nat_tests) in
    let c : nat_eq n max_counter ≡ true = grind (arith, nat_tests) in
    rw (b, c) refl

pub actor-free : (a n : ℕ) → a ≤ max_actors → (n ≡ max_counter → ⊥) → check_of a n false ≡ None
actor-free a n fits left =
    let b : nat_lt max_actors a ≡ false = grind (arith, nat_tests) in
    let c : nat_eq n max_counter ≡ false = grind (arith, nat_tests) in
    rw (b, c) refl

-- an actor that no pair within the limits can have is one more than is known
abbrev IsUnknown : Actor → Type 0
IsUnknown actor = (n : ℕ) → not (is_within_limits (record { actor = actor; counter = n })) ≡ true

one-more : (actor : Actor) → IsUnknown actor → (known : List Dot) → IsTrue (list_all is_within_limits known) → length (known_after actor known) ≡ suc (length known)
one-more actor unknown known within = length-raise_new actor (λ pair. not (is_within_limits pair)) unknown _ known (none known within)
  where
    none : (pairs : List Dot) → list_all is_within_limits pairs ≡ true → list_any (λ pair. not (is_within_limits pair)) pairs ≡ false
    none [] h = refl
    none (pair ∷ pairs) h =
        let first : is_within_limits pair ≡ true = and_left (is_within_limits pair) (list_all is_within_limits pairs) h in
        let rest = none pairs (and_right (is_within_limits pair) (list_all is_within_limits pairs) h) in
        rw first rest

-- so the actor of no epoch, and that of one past the last, are alike
no-epoch-alike : (id : ℕ) (known : List Dot) (seen : Option (List Dot)) → IsTrue (list_all is_within_limits known) → AreRead seen
    → actors_after known seen (record { vnode = id; epoch = 0 }) ≡ actors_after known seen (record { vnode = id; epoch = max_epoch + 1 })
no-epoch-alike id known seen within read =
    one-more (record { vnode = id; epoch = 0 }) (λ n. before (nat_lt id (2 ^ 64)) n) (known_with seen known) (all seen read)
    ∙ sym (one-more (record { vnode = id; epoch = max_epoch + 1 }) (λ n. past (nat_lt id (2 ^ 64)) n) (known_with seen known) (all seen read))
  where
    before : (b : Bool) (n : ℕ) → not (b && ((nat_le 1 0 && nat_le 0 max_epoch) && (nat_le 1 n && nat_le n max_counter))) ≡ true
    before true n = refl
    before false n = refl

    past : (b : Bool) (n : ℕ) → not (b && ((nat_le 1 (max_epoch + 1) && nat_le (max_epoch + 1) max_epoch) && (nat_le 1 n && nat_le n max_counter))) ≡ true
    past true n = refl
    past false n = refl

    all : (seen : Option (List Dot)) → AreRead seen → IsTrue (list_all is_within_limits (known_with seen known))
    all None read = within
    all (Some pairs) read = all-union is_within_limits known pairs within (form-parts pairs read).within

-- so where no epoch is left, it is full for the next actor exactly where it is for the actor of no epoch
module _ (id : ℕ) (known : List Dot) (seen : Option (List Dot)) (within : IsTrue (list_all is_within_limits known)) (read : AreRead seen) where
  abbrev unknown : Actor
  unknown = record { vnode = id; epoch = 0 }

  abbrev unnumbered : Actor
  unnumbered = record { vnode = id; epoch = max_epoch + 1 }

  pub no-epoch-full : max_actors < actors_after known seen unknown → check_of (actors_after known seen unnumbered) (counter_in known unnumbered) true ≡ Some clock_full
  no-epoch-full full =
      actor-full (actors_after known seen unnumbered) (counter_in known unnumbered) true (subst (λ a. max_actors < a) (no-epoch-alike id known seen within read) full)

  pub no-epoch-used : actors_after known seen unknown ≤ max_actors → check_of (actors_after known seen unnumbered) (counter_in known unnumbered) true ≡ Some epochs_used_up
  no-epoch-used fits = epochs-used (actors_after known seen unnumbered) (counter_in known unnumbered) (subst (λ a. a ≤ max_actors) (no-epoch-alike id known seen within read) fits)

-- the checks of a stored key, by what is stored
module _ (state : State Content) (key : Key) (id last_epoch : ℕ) (s : Stored Content) (is : IsStored state key id last_epoch s) where
  abbrev next : Writer
  next = next_writer id last_epoch s.own

  abbrev actor_in : (id last_epoch : ℕ) → Option (Stored Content) → Actor
  actor_in id last_epoch o = unwrap_or (option_and_then (λ (s : Stored Content). s.own) o) (record { vnode = id; epoch = last_epoch + 1 })

  abbrev writer_in : (id last_epoch : ℕ) → Option (Stored Content) → Writer
  writer_in id last_epoch o = record {
    actor = actor_in id last_epoch o;
    last_epoch = if is_some (option_and_then (λ (s : Stored Content). s.own) o) then last_epoch else last_epoch + 1;
  }

  next-is : next ≡ writer_in id last_epoch (Some s)
  next-is = by s.own
    where
      by : (own : Option Actor) → next_writer id last_epoch own
          ≡ record { actor = unwrap_or own (record { vnode = id; epoch = last_epoch + 1 }); last_epoch = if is_some own then last_epoch else last_epoch + 1 }
      by None = refl
      by (Some own) = refl

  abbrev rest_of : List Dot → List (Bool × ℕ)
  rest_of pairs =
      (nat_lt max_actors (actors_after s.clock.known (Some pairs) next.actor), clock_full) ∷ (not (is_some s.own) && (last_epoch == max_epoch), epochs_used_up)
      ∷ (counter_in s.clock.known next.actor == max_counter, counter_used_up) ∷ []

  abbrev rooms_in : (id last_epoch : ℕ) → Option (Stored Content) → List Dot → List (Bool × ℕ)
  rooms_in id last_epoch o pairs =
      let clock = clock_in o in
      let own = actor_in id last_epoch o in
      (nat_le max_siblings (uncovered pairs clock), too_many_siblings) ∷ (nat_lt max_actors (actors_after clock.known (Some pairs) own), clock_full)
      ∷ (not (is_some (option_and_then (λ (s : Stored Content). s.own) o)) && (last_epoch == max_epoch), epochs_used_up) ∷ (counter_in clock.known own == max_counter, counter_used_up) ∷ []

  rooms-are : (pairs : List Dot) → first_of (room_checks state key pairs) ≡ first_of ((nat_le max_siblings (uncovered pairs s.clock), too_many_siblings) ∷ rest_of pairs)
  rooms-are pairs =
      let found : first_of (room_checks state key pairs) ≡ first_of (rooms_in id last_epoch (Some s) pairs) = λ i. first_of (rooms_in (is.vnode i) (is.epoch i) (is.stored i) pairs) in
      found
      ∙ ap (λ (w : Writer). first_of (
      (nat_le max_siblings (uncovered pairs s.clock), too_many_siblings) ∷ (nat_lt max_actors (actors_after s.clock.known (Some pairs) w.actor), clock_full)
      ∷ (not (is_some s.own) && (last_epoch == max_epoch), epochs_used_up) ∷ (counter_in s.clock.known w.actor == max_counter, counter_used_up) ∷ [])) (sym next-is)

  passes : (b : Bool) (n : ℕ) (rest : List (Bool × ℕ)) → first_of ((b, n) ∷ []) ≡ None → first_of ((b, n) ∷ rest) ≡ first_of rest
  passes true n rest h = cc
  passes false n rest h = refl

  module _ (seen : Option (List Dot)) where
    -- where its siblings leave room, what refuses is what does at its actor
    pub writer-checks : is_rising s.clock.known ≡ true → siblings_check s.clock seen ≡ None → writer_check id last_epoch s seen ≡ room_check state key seen
    writer-checks rising free =
        ap (λ n. check_of n (counter_in s.clock.known next.actor) (not (is_some s.own) && (last_epoch == max_epoch))) (actors_after-pairs seen s.clock.known next.actor rising)
        ∙ sym (rooms-are (pairs_in seen) ∙ passes (nat_le max_siblings (uncovered (pairs_in seen) s.clock)) too_many_siblings (rest_of (pairs_in seen)) free)

  -- in place of all that its clock knows
  pub overwrite-checks : IsClock s.clock → writer_check id last_epoch s None ≡ room_check state key (Some s.clock.known)
  overwrite-checks clock =
      let all = discard-all s.clock clock in
      ap (λ (m : DotState (Option Content)). check_of (length (known_after next.actor m.known)) (counter_in s.clock.known next.actor) (not (is_some s.own) && (last_epoch == max_epoch))) (sym all)
      ∙ sym (rooms-are s.clock.known
      ∙ ap (λ (m : DotState (Option Content)). first_of ((nat_le max_siblings (length m.live), too_many_siblings) ∷ rest_of s.clock.known)) all)

-- of an absent key
module _ (state : State Content) (key : Key) (id last_epoch : ℕ) (pairs : List Dot) (is : IsFound state key id last_epoch None pairs) (n : ℕ) (ns : n ≡ length pairs) where
  abbrev new_check : (actors last_epoch : ℕ) → Option ℕ
  new_check actors last_epoch = first_of ((nat_lt MAX_ACTORS actors, clock_full) ∷ (last_epoch == MAX_EPOCH, epochs_used_up) ∷ [])

  abbrev first : (id last_epoch : ℕ) → Actor
  first id last_epoch = record { vnode = id; epoch = last_epoch + 1 }

  itself : (counter : ℕ) → is_ahead id last_epoch None (record { actor = first id last_epoch; counter = counter }) ≡ true
  itself counter =
      let same : nat_eq id id ≡ true = grind (arith, nat_tests) in
      let above : nat_lt last_epoch (last_epoch + 1) ≡ true = grind (arith, nat_tests) in
      rw (same, above) refl

  rooms-begin : first_of (room_checks state key pairs) ≡ new_check (suc n) last_epoch
  rooms-begin =
      let none : stored state key ≡ None = is.stored in
      let found : first_of (room_checks state key pairs) ≡ new_check (actors_after [] (Some pairs) (first state.vnode state.last_epoch)) state.last_epoch = rw none refl in
      found ∙ (λ i. new_check (actors_after [] (Some pairs) (first (is.vnode i) (is.epoch i))) (is.epoch i))
      ∙ ap (λ m. new_check m last_epoch) (length-raise_new (first id last_epoch) (is_ahead id last_epoch None) itself _ pairs is.behind ∙ ap suc (sym ns))

  pub absent-full : MAX_ACTORS ≤ n → first_of (room_checks state key pairs) ≡ Some clock_full
  absent-full full = let b : nat_lt MAX_ACTORS (suc n) ≡ true = grind (arith, nat_tests) in rooms-begin ∙ rw b refl

  pub absent-used : n < MAX_ACTORS → last_epoch ≡ MAX_EPOCH → first_of (room_checks state key pairs) ≡ Some epochs_used_up
  absent-used few used =
      let b : nat_lt MAX_ACTORS (suc n) ≡ false = grind (arith, nat_tests) in
      let c : nat_eq last_epoch MAX_EPOCH ≡ true = grind (arith, nat_tests) in
      rooms-begin ∙ rw (b, c) refl

  pub absent-free : n < MAX_ACTORS → (last_epoch ≡ MAX_EPOCH → ⊥) → first_of (room_checks state key pairs) ≡ None
  absent-free few left =
      let b : nat_lt MAX_ACTORS (suc n) ≡ false = grind (arith, nat_tests) in
      let c : nat_eq last_epoch MAX_EPOCH ≡ false = grind (arith, nat_tests) in
      rooms-begin ∙ rw (b, c) refl
