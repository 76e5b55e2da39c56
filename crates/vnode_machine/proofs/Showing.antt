-- Where contexts were shown before they were given, each names a position, and its event saw what was there.
use Rattle.std.proofs.Common.{◌≡◌, ◌⊎◌, inl, inr, ℕ, Bool, true, false, ◌&&◌, cond, [], ◌∷◌, ◌++◌, refl, sym, ◌∙◌, ap, subst}
use Rattle.std.specs.Prelude.{Option, Some, filter}
use Rattle.std.specs.Option.{option_map_or}
use Rattle.riak_msgs.specs.declared.Key.{Key}
use Rattle.riak_msgs.specs.Contents.{Content}
use Rattle.sibling_register.specs.History.{Event, count_of, numbers_to}
use Rattle.sibling_register.specs.Siblings.{is_defined}
use Rattle.sibling_register.specs.Naming.{named}
use Rattle.sibling_register.proofs.LeavingLaw.{leaves_only_seen}
use Rattle.actor_epoch.specs.Dots.{covers}
use Rattle.actor_epoch.specs.Given.{Context}
use Rattle.vnode_machine.specs.Machine.{clock_of, pairs_of}
use Rattle.vnode_machine.specs.Lives.{dot_of}
use Rattle.vnode_machine.specs.Replay.{History, replay, naming, seen_by, HasReplay}
use Rattle.vnode_machine.specs.Contexts.{WasShown, GivesShown, SawPosition, ShownNamePositions, LeavesOnlyToSeers}
use Rattle.vnode_machine.proofs.Names.{same_pairs-refl, replay-earlier}
use Rattle.vnode_machine.proofs.Legals.{replay_is_legal}

no : false ≡ true → ⊥
no e = cc

module _ (v l : ℕ) (key : Key) where
  abbrev is_its_name : Context → History → Bool
  is_its_name context position = (naming {V = Content} v l).same context ((naming {V = Content} v l).name position key)

  same_name : (position : History) → is_its_name ((naming {V = Content} v l).name position key) position ≡ true
  same_name position = same_pairs-refl (clock_of (replay v l position) key).known

  found_name : (d s : Bool) (here : History) (rest : Option History) → ((position : History) × (rest ≡ Some position)) ⊎ ((d ≡ true) × (s ≡ true))
      → (position : History) × (cond (d && s) (Some here) rest ≡ Some position)
  found_name true true here rest h = (here, refl)
  found_name true false here rest (inl h) = h
  found_name true false here rest (inr h) = absurd (no h.1)
  found_name false s here rest (inl h) = h
  found_name false s here rest (inr h) = absurd (no h.0)

  -- the context of a position is found as the name of one
  names_one : (later position : History) (context : Context) → is_defined position key ≡ true → context ≡ (naming {V = Content} v l).name position key
      → (found : History) × (named (naming v l) (later ++ position) key context ≡ Some found)
  names_one [] [] context d e = cc
  names_one [] (event ∷ position) context d e =
      found_name (is_defined (event ∷ position) key) (is_its_name context (event ∷ position)) (event ∷ position) (named (naming v l) position key context)
      (inr (d, ap (λ c. is_its_name c (event ∷ position)) e ∙ same_name (event ∷ position)))
  names_one (event ∷ later) position context d e =
      found_name (is_defined (event ∷ (later ++ position)) key) (is_its_name context (event ∷ (later ++ position))) (event ∷ (later ++ position))
      (named (naming v l) (later ++ position) key context) (inl (names_one later position context d e))

  -- a context that an event gave was shown before it
  shown-before : (later before : History) (event : Event Content Context) (context : Context) → GivesShown v l (later ++ (event ∷ before)) key → event.key ≡ key
      → event.context ≡ Some context → WasShown v l before key context
  shown-before [] before event context gives k e = gives.1 k context e
  shown-before (x ∷ later) before event context gives k e = shown-before later before event context gives.0 k e

module _ (v l : ℕ) where
  -- an event of a list that has a replay saw what was at the position that its context names
  saw-position : (before : History) (event : Event Content Context) (context : Context) → HasReplay v l (event ∷ before) → event.context ≡ Some context
      → WasShown v l before event.key context → SawPosition v l before event context
  saw-position before event context there e n =
      let o = names_one v l event.key n.later n.position context n.defined n.shown in
      let is : named (naming v l) before event.key context ≡ Some o.0 = subst (λ h. named (naming v l) h event.key context ≡ Some o.0) n.is o.1 in
      record {
        position = o.0;
        is_name = is;
        saw = there.2 ∙ ap (λ given. seen_by v l before event.key given event.operation) e
            ∙ ap (λ q. option_map_or (λ (position : History). numbers_to (count_of position event.key)) q
            (filter (λ number. option_map_or (covers (pairs_of (Some context))) (dot_of v l before event.key number) false) (numbers_to (count_of before event.key)))) is;
      }

pub shown_name_positions : (v l : ℕ) (history : History) → ShownNamePositions v l history
shown_name_positions v l history replays key gives later before event context is k e =
    let there : HasReplay v l (event ∷ before) = replay-earlier v l later (event ∷ before) (subst (λ h. HasReplay v l h) (sym is) replays) in
    let shown = shown-before v l key later before event context (subst (λ h. GivesShown v l h key) (sym is) gives) k e in
    saw-position v l before event context there e (subst (λ other. WasShown v l before other context) (sym k) shown)

pub leaves_only_to_seers : (v l : ℕ) (position : History) → LeavesOnlyToSeers v l position
leaves_only_to_seers v l position between replays key number sibling value =
    leaves_only_seen (naming v l) between position (replay_is_legal v l (between ++ position) replays).accepted key number sibling value
