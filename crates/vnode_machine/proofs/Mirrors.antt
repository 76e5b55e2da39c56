-- What the machine shows of a key is what the register has of it.
use Rattle.std.proofs.Common.{◌≡◌, ℕ, Bool, true, not, ◌&&◌, List, length, refl, sym, ◌∙◌, ap, arith}
use Rattle.std.specs.Prelude.{nat_le, filter, Option, Some, None, is_some, ◌-◌}
use Rattle.std.proofs.lemmas.List.Sums.{length-filter}
use Rattle.riak_msgs.specs.declared.Key.{Key}
use Rattle.riak_msgs.specs.Contents.{Content, shown}
use Rattle.sibling_register.specs.History.{content_of}
use Rattle.sibling_register.specs.Siblings.{siblings, is_among, is_defined, is_present, is_dead}
use Rattle.sibling_register.specs.Refusals.{max_siblings}
use Rattle.sibling_register.specs.Answers.{is_name, has_too_many}
use Rattle.actor_epoch.specs.declared.Dot.{Dot}
use Rattle.actor_epoch.specs.Dots.{covers}
use Rattle.dvv_set.specs.Clocks.{join}
use Rattle.actor_epoch.specs.Given.{Context, Malformed, Pairs}
use Rattle.vnode_machine.specs.Machine.{State, stored, clock_of, same_pairs, is_held, has_value, holds_dead, has_too_many_siblings, matches_clock}
use Rattle.vnode_machine.specs.Replay.{replay, naming}
use Rattle.vnode_machine.specs.Replies.{contents_in, siblings_shown, position_at}
use Rattle.vnode_machine.proofs.Pairwise.{Pairwise, Pairwise-map, Pairwise-filter, Pairwise-length, Pairwise-any, Pairwise-images}
use Rattle.vnode_machine.proofs.Invariants.{H, Entry}
use Rattle.vnode_machine.proofs.Sights.{live-each}
use Rattle.vnode_machine.proofs.Steps.{IsKnown, last_of, held_by}
use Rattle.vnode_machine.proofs.Updates.{IsSeen}

-- the position after all events is the whole history
pub position-all : {X : Type 0} (history : List X) → position_at history (length history) ≡ history
position-all history = let none : length history - length history ≡ 0 = omega arith in rw none refl

module _ (v l : ℕ) (history : H) (known : IsKnown v l history) (key : Key) where
  abbrev state : State Content
  state = replay v l history

  abbrev HasContent : Entry → ℕ → Type 0
  HasContent entry number = content_of history key number ≡ entry.1

  contents : Pairwise HasContent (clock_of state key).live (siblings history key)
  contents = live-each v l (last_of v l history) history key HasContent (stored state key) (known.keys key) (λ own top entry number one. one.content)

  pub held-same : is_held state key ≡ is_defined history key
  held-same = sym (held_by v l history known key (stored state key) (known.keys key))

  pub value-same : has_value state key ≡ is_present history key
  value-same =
      Pairwise-any (λ (entry : Entry). is_some entry.1) (λ number. is_some (content_of history key number)) (clock_of state key).live (siblings history key)
      (Pairwise-map HasContent (λ entry number. is_some entry.1 ≡ is_some (content_of history key number)) (λ entry number h. ap (λ (o : Option Content). is_some o) (sym h)) (clock_of state key).live (siblings history key) contents)

  pub dead-same : holds_dead state key ≡ is_dead history key
  dead-same = λ i. held-same i && not (value-same i)

  pub contents-same : (without : Bool) → contents_in state key without ≡ siblings_shown history key (siblings history key) without
  contents-same without =
      Pairwise-images (λ (entry : Entry). shown without entry.1) (λ number. shown without (content_of history key number)) (clock_of state key).live (siblings history key)
      (Pairwise-map HasContent (λ entry number. shown without entry.1 ≡ shown without (content_of history key number)) (λ entry number h. ap (shown without) (sym h)) (clock_of state key).live (siblings history key) contents)

  -- a context is current at the machine where it is the name of this position
  pub current-same : (given : Option Context) → is_held state key ≡ true → matches_clock state key given ≡ is_name (naming v l) history key given
  current-same None h = refl
  current-same (Some Malformed) h = refl
  current-same (Some (Pairs pairs)) h = ap (λ b. b && same_pairs pairs (join (clock_of state key))) h

  -- as many siblings are uncovered as were not seen
  pub crowded-same : (pairs : List Dot) (saw : List ℕ) → Pairwise (IsSeen pairs saw) (clock_of state key).live (siblings history key)
      → has_too_many_siblings state key pairs ≡ has_too_many history key saw
  crowded-same pairs saw seen =
      ap (λ n. nat_le max_siblings n)
      (Pairwise-length (filter (λ entry. not (covers pairs entry.0)) (clock_of state key).live) (filter (λ n. not (is_among saw n)) (siblings history key))
      (Pairwise-filter (λ entry number. Unit {0}) (λ entry. not (covers pairs entry.0)) (λ n. not (is_among saw n)) (clock_of state key).live (siblings history key)
      (Pairwise-map (IsSeen pairs saw) (λ entry number. not (covers pairs entry.0) ≡ not (is_among saw number)) (λ entry number h. ap not h) (clock_of state key).live (siblings history key) seen)
      (Pairwise-map (IsSeen pairs saw) (λ entry number. Unit {0}) (λ entry number h. tt) (clock_of state key).live (siblings history key) seen))
      ∙ length-filter (λ n. not (is_among saw n)) (siblings history key))
