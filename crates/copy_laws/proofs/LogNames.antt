-- The contexts of a legal log's key name its positions.
use Rattle.std.proofs.Common.{◌≡◌, ℕ, true, not, [], ◌∷◌, ◌++◌, length, refl, sym, ◌∙◌, ap, inl, inr}
use Rattle.std.specs.Prelude.{◌⊎◌, ◌==◌, Option, Some}
use Rattle.std.proofs.lemmas.List.{length-map}
use Rattle.riak_msgs.specs.declared.Key.{Key}
use Rattle.riak_msgs.specs.Contents.{Content}
use Rattle.riak_msgs.specs.KeyOrder.{key_eq}
use Rattle.actor_epoch.specs.declared.Dot.{Dot}
use Rattle.vnode_machine.specs.Machine.{same_pairs}
use Rattle.vnode_machine.proofs.Names.{same_pairs-refl}
use Rattle.vnode_machine.proofs.Sights.{same_pairs-same}
use Rattle.copy_laws.specs.Copies.{Command, Copied, Closed, brought}
use Rattle.copy_laws.specs.Sides.{Partition, siblings_at, is_defined_at}
use Rattle.copy_laws.specs.Joining.{Log, Fallbacks, value_at}
use Rattle.copy_laws.proofs.Tests.{not_true}
use Rattle.copy_laws.proofs.Clocks.{Clock, clock-other, clock-uncopied}
use Rattle.copy_laws.proofs.Since.{state_at, clock_at}
use Rattle.copy_laws.specs.CopyReplay.{IsUntouchedBy}
use Rattle.copy_laws.specs.LegalLogs.{IsLegalLog, LogsNamePositions}
use Rattle.copy_laws.proofs.Held.{first-live, joined-at, shows-at, names-at}
use Rattle.copy_laws.proofs.Untouched.{untouched}

module _ (partition : Partition) (primary : Log) (fallbacks : Fallbacks) (key : Key) (legal : IsLegalLog partition primary fallbacks key)
    (later between position : Log) (is : later ++ (between ++ position) ≡ primary) where
  abbrev v : ℕ
  v = partition.primary

  abbrev l : ℕ
  l = partition.last_epoch

  abbrev log : Log
  log = between ++ position

  -- what is defined has something live
  some-live : is_defined_at partition log key ≡ true → (dot : Dot) × ((value : Option Content) × (value_at (clock_at v l key log) dot ≡ Some value))
  some-live defined = first-live v l key (clock_at v l key log).live (ap (λ n. not (n == 0)) same_length ∙ defined)
    where
      same_length : length (clock_at v l key log).live ≡ length (siblings_at partition log key)
      same_length = sym (length-map _ _) ∙ ap length (shows-at partition primary fallbacks key legal later log is).live ∙ length-map _ _

  -- where no entry changes the clock it is the same
  unchanged : (part : Log) → IsUntouchedBy partition part position key → clock_at v l key (part ++ position) ≡ clock_at v l key position
  unchanged [] h = refl
  unchanged (Command event ∷ part) h = clock-other (state_at v l key (part ++ position)) event.key key event.context event.operation (not_true (key_eq event.key key) h.0) ∙ unchanged part h.1
  unchanged (Copied copy ∷ part) h = by h.0 ∙ unchanged part h.1
    where
      by : (not (key_eq copy.key key) ≡ true) ⊎ (clock_at v l key (Copied copy ∷ part ++ position) ≡ clock_at v l key (part ++ position)) → clock_at v l key (Copied copy ∷ part ++ position) ≡ clock_at v l key (part ++ position)
      by (inl e) = clock-uncopied (state_at v l key (part ++ position)) copy.key key copy.clock (not_true (key_eq copy.key key) e)
      by (inr e) = e
  unchanged (Closed number ∷ part) h = absurd h.0

  pub names-untouched : is_defined_at partition log key ≡ true → same_pairs (clock_at v l key position).known (clock_at v l key log).known ≡ true → IsUntouchedBy partition between position key
  names-untouched defined h =
      let live = some-live defined in
      untouched partition log (brought log key) key (joined-at partition primary fallbacks key legal later log is) between position refl (same_pairs-same (clock_at v l key position).known (clock_at v l key log).known h) live.0 live.1.0 live.1.1
      (names-at partition primary fallbacks key legal later log is)

  pub untouched-names : IsUntouchedBy partition between position key → same_pairs (clock_at v l key position).known (clock_at v l key log).known ≡ true
  untouched-names h = ap (λ (c : Clock). same_pairs (clock_at v l key position).known c.known) (unchanged between h) ∙ same_pairs-refl (clock_at v l key position).known

pub logs_name_positions : (partition : Partition) (log : Log) (fallbacks : Fallbacks) → LogsNamePositions partition log fallbacks
logs_name_positions partition log fallbacks key legal later between position is here there =
    (λ h. names-untouched partition log fallbacks key legal later between position is there h, λ h. untouched-names partition log fallbacks key legal later between position is h)
