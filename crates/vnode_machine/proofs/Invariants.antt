-- What the machine keeps of a key, tied to the key's siblings, and what earlier positions knew.
use Rattle.std.proofs.Common.{◌≡◌, ℕ, ◌+◌, ◌≤◌, true, cond, List, [], ◌∷◌, refl, sym, ◌∙◌, ap, arith, subst}
use Rattle.std.specs.Prelude.{nat_eq, nat_le, Option, Some, None, IsTrue, unwrap_or}
use Rattle.std.specs.Option.{option_map_or}
use Rattle.std.proofs.lemmas.Bool.Decides.{nat_tests}
use Rattle.riak_msgs.specs.declared.Key.{Key}
use Rattle.riak_msgs.specs.Contents.{Content}
use Rattle.sibling_register.specs.History.{Event, count_of, content_of}
use Rattle.sibling_register.specs.Siblings.{siblings, is_defined}
use Rattle.actor_epoch.specs.declared.Actor.{Actor}
use Rattle.actor_epoch.specs.declared.Dot.{Dot}
use Rattle.actor_epoch.specs.Dots.{counter_in}
use Rattle.dvv_set.specs.Clocks.{DotState}
use Rattle.actor_epoch.specs.Given.{Context}
use Rattle.vnode_machine.specs.Machine.{Stored}
use Rattle.vnode_machine.specs.Lives.{is_alive, latest_dot, dot_of}
use Rattle.vnode_machine.proofs.Pairwise.{Pairwise, Pairwise-map}
use Rattle.vnode_machine.proofs.Numbers.{count_of-more, content_of-earlier, dot_of-earlier}
use Rattle.vnode_machine.proofs.Counters.{are_low}

abbrev pub H : Type 0
H = List (Event Content Context)

-- a dot that is live, with its value
abbrev pub Entry : Type 0
Entry = Dot × Option Content

-- the clock of what is stored or not
abbrev pub clock_in : Option (Stored Content) → DotState (Option Content)
clock_in o = option_map_or (λ s. s.clock) o (record { known = []; live = [] })

-- the actor of what is stored; of a key without one, whichever
abbrev pub actor_of : Stored Content → Actor
actor_of s = unwrap_or s.own (record { vnode = 0; epoch = 0 })

-- from a position that knew these pairs and counted so many events, the counter of the key's actor has grown
abbrev pub HasGrown : List Dot → (count now : ℕ) → Option (Stored Content) → Type 0
HasGrown known count now None = Unit {0}
HasGrown known count now (Some s) = counter_in known (actor_of s) + cond (nat_eq count now) 0 1 ≤ counter_in s.clock.known (actor_of s)

-- the siblings that are no later than the position are those whose dots it knew
abbrev pub IsSplit : List Dot → ℕ → Entry → ℕ → Type 0
IsSplit known count entry number = nat_le number count ≡ nat_le entry.0.counter (counter_in known entry.0.actor)

module _ (v l : ℕ) where
  -- a live dot of this actor, up to this counter, is the dot of a sibling and has its content
  pub record IsLiveOf (history : H) (key : Key) (own : Actor) (top : ℕ) (entry : Entry) (number : ℕ) : Type 0 where
    pub actor : entry.0.actor ≡ own
    pub positive : 1 ≤ entry.0.counter
    pub within : entry.0.counter ≤ top
    pub first : 1 ≤ number
    pub counted : number ≤ count_of history key
    pub dot : dot_of v l history key number ≡ Some entry.0
    pub content : content_of history key number ≡ entry.1

  -- the live dots are those of the siblings, in their order
  abbrev pub AreLiveOf : H → Key → Actor → ℕ → List Entry → List ℕ → Type 0
  AreLiveOf history key own top live numbers = Pairwise (IsLiveOf history key own top) live numbers

  -- what is stored of a key, the last epoch being this
  pub record IsStored (last : ℕ) (history : H) (key : Key) (s : Stored Content) : Type 0 where
    pub owned : s.own ≡ Some (actor_of s)
    pub vnode : (actor_of s).vnode ≡ v
    pub epoch : (actor_of s).epoch ≤ last
    pub low : IsTrue (are_low v last s.clock.known)
    pub latest : latest_dot v l history key ≡ Some (record { actor = (actor_of s); counter = counter_in s.clock.known (actor_of s) })
    pub live : AreLiveOf history key (actor_of s) (counter_in s.clock.known (actor_of s)) s.clock.live (siblings history key)
    pub defined : is_defined history key ≡ true
    pub alive : is_alive history key ≡ true

  abbrev pub IsKept : (last : ℕ) → H → Key → Option (Stored Content) → Type 0
  IsKept last history key None = siblings history key ≡ []
  IsKept last history key (Some s) = IsStored last history key s

  pub record IsEarlier (last : ℕ) (history : H) (key : Key) (o : Option (Stored Content)) (known : List Dot) (count : ℕ) : Type 0 where
    pub low : IsTrue (are_low v last known)
    pub counted : count ≤ count_of history key
    pub split : Pairwise (IsSplit known count) (clock_in o).live (siblings history key)
    pub grown : HasGrown known count (count_of history key) o

  -- a live dot stays that of its sibling after one event more
  pub live-more : (event : Event Content Context) (history : H) (key : Key) (own : Actor) (top top' : ℕ) → top ≤ top'
      → (entry : Entry) (number : ℕ) → IsLiveOf history key own top entry number → IsLiveOf (event ∷ history) key own top' entry number
  live-more event history key own top top' le entry number h =
      let within : entry.0.counter ≤ top = h.within in
      let counted : number ≤ count_of history key = h.counted in
      let more = count_of-more event history key in
      record {
        actor = h.actor;
        positive = h.positive;
        within = omega (arith, within, le);
        first = h.first;
        counted = omega (arith, counted, more);
        dot = dot_of-earlier event history key v l number h.counted ∙ h.dot;
        content = content_of-earlier event history key number h.counted ∙ h.content;
      }

  -- each position is one of its own
  pub earlier-self : (last : ℕ) (history : H) (key : Key) (o : Option (Stored Content)) → IsKept last history key o
      → IsEarlier last history key o (clock_in o).known (count_of history key)
  earlier-self last history key None h = record {
    low = refl;
    counted = omega arith;
    split = let P : List ℕ → Type 0 = λ ns. Pairwise (IsSplit [] (count_of history key)) [] ns in subst P (sym h) tt;
    grown = tt;
  }
  earlier-self last history key (Some s) h = record {
    low = h.low;
    counted = omega arith;
    split = Pairwise-map (IsLiveOf history key (actor_of s) (counter_in s.clock.known (actor_of s))) (IsSplit s.clock.known (count_of history key))
        (λ entry number one. both number (count_of history key) entry.0.counter (counter_in s.clock.known (actor_of s)) (counter_in s.clock.known entry.0.actor)
        one.counted one.within (ap (counter_in s.clock.known) one.actor)) s.clock.live (siblings history key) h.live;
    grown = same (count_of history key) (counter_in s.clock.known (actor_of s));
  }
    where
      both : (n m c t u : ℕ) → n ≤ m → c ≤ t → u ≡ t → nat_le n m ≡ nat_le c u
      both n m c t u p q e = grind (arith, nat_tests)

      same : (n c : ℕ) → c + cond (nat_eq n n) 0 1 ≤ c
      same n c = let e : nat_eq n n ≡ true = grind (arith, nat_tests) in rw e (omega arith)
