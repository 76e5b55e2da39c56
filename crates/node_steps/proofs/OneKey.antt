-- A dot is of one key alone: the keys of a vnode's lives have epochs of their own.
use Rattle.std.proofs.Common.{◌≡◌, ◌≢◌, ℕ, ◌+◌, ◌≤◌, Bool, true, false, not, ◌&&◌, cond, List, [], ◌∷◌, refl, sym, ◌∙◌, ap, arith, subst}
use Rattle.std.specs.Prelude.{◌==◌, Option, Some, None, option_map}
use Rattle.std.proofs.lemmas.Option.{same_Some as same_key}
use Rattle.riak_msgs.specs.declared.Key.{Key}
use Rattle.riak_msgs.specs.KeyOrder.{key_eq}
use Rattle.sibling_register.specs.History.{Event, count_of, is_update}
use Rattle.actor_epoch.specs.declared.Dot.{Dot}
use Rattle.vnode_machine.specs.Lives.{next_of, is_alive, lives_begun, latest_dot, dot_of}
use Rattle.vnode_machine.proofs.Keys.{key_eq-same}
use Rattle.copy_laws.proofs.LifeDots.{latest-of, dot-of}
use Rattle.node_steps.proofs.Mapped.{same_test, other_test}

module _ {V C : Type 0} (vnode last : ℕ) where
  -- whether a life begins with an event, by this epoch
  abbrev begins : Event V C → List (Event V C) → ℕ → Bool
  begins event before epoch = (is_update event.operation && not (is_alive before event.key)) && ((last + lives_begun before) + 1 == epoch)

  -- the key whose life has the epoch
  abbrev life_key : List (Event V C) → ℕ → Option Key
  life_key [] epoch = None
  life_key (event ∷ before) epoch = cond (begins event before epoch) (Some event.key) (life_key before epoch)

  -- an epoch that was given before
  earlier : (event : Event V C) (before : List (Event V C)) (epoch : ℕ) (key : Key) → epoch ≤ last + lives_begun before → life_key before epoch ≡ Some key → life_key (event ∷ before) epoch ≡ Some key
  earlier event before epoch key most e =
      skip (is_update event.operation && not (is_alive before event.key)) ((last + lives_begun before) + 1 == epoch) (other_test ((last + lives_begun before) + 1) epoch (past (last + lives_begun before) epoch most)) ∙ e
    where
      past : (n epoch : ℕ) → epoch ≤ n → n + 1 ≢ epoch
      past n epoch most = λ e. absurd (omega (arith, most, e))

      skip : (a b : Bool) → b ≡ false → cond (a && b) (Some event.key) (life_key before epoch) ≡ life_key before epoch
      skip true b h = ap (λ c. cond c (Some event.key) (life_key before epoch)) h
      skip false b h = refl

  latest-key : (history : List (Event V C)) (key : Key) (dot : Dot) → latest_dot vnode last history key ≡ Some dot → life_key history dot.actor.epoch ≡ Some key
  latest-key [] key dot h = cc
  latest-key (event ∷ before) key dot h = by (latest-key before key) (key_eq event.key key) refl (is_update event.operation) refl (is_alive before key) refl h
    where
      first_dot : Dot
      first_dot = record { actor = record { vnode = vnode; epoch = (last + lives_begun before) + 1 }; counter = 1 }

      kept : ((d : Dot) → latest_dot vnode last before key ≡ Some d → life_key before d.actor.epoch ≡ Some key) → (d : Dot) → latest_dot vnode last before key ≡ Some d
          → life_key (event ∷ before) d.actor.epoch ≡ Some key
      kept rest d e = earlier event before d.actor.epoch key (latest-of vnode last before key d e).until (rest d e)

      next : ((d : Dot) → latest_dot vnode last before key ≡ Some d → life_key before d.actor.epoch ≡ Some key) → (o : Option Dot) → latest_dot vnode last before key ≡ o
          → option_map next_of o ≡ Some dot → life_key (event ∷ before) dot.actor.epoch ≡ Some key
      next rest None e h = cc
      next rest (Some d) e h = subst (λ (x : Dot). life_key (event ∷ before) x.actor.epoch ≡ Some key) (same_key (next_of d) dot h) (kept rest d e)

      first : key_eq event.key key ≡ true → is_update event.operation ≡ true → is_alive before key ≡ false → life_key (event ∷ before) ((last + lives_begun before) + 1) ≡ Some key
      first same update absent =
          let alive : is_alive before event.key ≡ false = ap (is_alive before) (key_eq-same event.key key same) ∙ absent in
          (λ i. cond ((update i && not (alive i)) && same_test ((last + lives_begun before) + 1) ((last + lives_begun before) + 1) refl i) (Some event.key) (life_key before ((last + lives_begun before) + 1)))
          ∙ ap (λ k. Some k) (key_eq-same event.key key same)

      by : ((d : Dot) → latest_dot vnode last before key ≡ Some d → life_key before d.actor.epoch ≡ Some key)
          → (a : Bool) → key_eq event.key key ≡ a → (u : Bool) → is_update event.operation ≡ u → (alive : Bool) → is_alive before key ≡ alive
          → cond (not (a && u)) (latest_dot vnode last before key) (cond alive (option_map next_of (latest_dot vnode last before key)) (Some first_dot)) ≡ Some dot
          → life_key (event ∷ before) dot.actor.epoch ≡ Some key
      by rest false p u q alive r h = kept rest dot h
      by rest true p false q alive r h = kept rest dot h
      by rest true p true q true r h = next rest (latest_dot vnode last before key) refl h
      by rest true p true q false r h = subst (λ (x : Dot). life_key (event ∷ before) x.actor.epoch ≡ Some key) (same_key first_dot dot h) (first p q r)

  dot-key : (history : List (Event V C)) (key : Key) (n : ℕ) (dot : Dot) → dot_of vnode last history key n ≡ Some dot → life_key history dot.actor.epoch ≡ Some key
  dot-key [] key n dot h = cc
  dot-key (event ∷ before) key n dot h = by (dot-key before key n dot) ((key_eq event.key key && is_update event.operation) && (count_of (event ∷ before) key == n)) h
    where
      by : (dot_of vnode last before key n ≡ Some dot → life_key before dot.actor.epoch ≡ Some key) → (b : Bool)
          → cond b (latest_dot vnode last (event ∷ before) key) (dot_of vnode last before key n) ≡ Some dot → life_key (event ∷ before) dot.actor.epoch ≡ Some key
      by rest true e = latest-key (event ∷ before) key dot e
      by rest false e = earlier event before dot.actor.epoch key (dot-of vnode last before key n dot e).until (rest e)

  -- no dot is of two keys
  pub one-key : (history : List (Event V C)) (key other : Key) (n m : ℕ) (dot : Dot) → dot_of vnode last history key n ≡ Some dot → dot_of vnode last history other m ≡ Some dot → key ≡ other
  one-key history key other n m dot h k = same_key key other (sym (dot-key history key n dot h) ∙ dot-key history other m dot k)
