-- The partitions that are diverted, one after another.
use Rattle.std.proofs.Common.{◌≡◌, ◌≤◌, ◌<◌, ◌+◌, ℕ, List, ◌++◌, Option, length, get_or, drop, sym, ap, ◌∙◌}
use Rattle.std.proofs.lemmas.List.{append_assoc, append-nil, at_drop_more, at_drop_all}
use Rattle.control_text.specs.Diverted.{behind, count_diverted, count_one, partition_text, partitions_text}

-- one more
pub partitions_next : (now : ℕ) (begun : List (Option ℕ)) (i k : ℕ) (d : Option ℕ) (before next done all : List ℕ) → k ≡ i
    → next ≡ behind before (get_or begun i d) → i < length begun → done ++ partitions_text now i before (drop i begun) ≡ all
    → (done ++ partition_text now before k (get_or begun i d)) ++ partitions_text now (i + 1) next (drop (i + 1) begun) ≡ all
partitions_next now begun i k d before next done all same is below e = rw (same, is)
    (append_assoc done (partition_text now before i (get_or begun i d)) (partitions_text now (i + 1) (behind before (get_or begun i d)) (drop (i + 1) begun))
    ∙ ap (λ l. done ++ l) (sym (at_drop_more (partitions_text now i before) begun i d below)) ∙ e)

-- all of them
pub partitions_all : (now : ℕ) (begun : List (Option ℕ)) (i : ℕ) (before done all : List ℕ) → length begun ≤ i
    → done ++ partitions_text now i before (drop i begun) ≡ all → done ≡ all
partitions_all now begun i before done all behind e =
    sym (append-nil done) ∙ ap (λ l. done ++ l) (sym (at_drop_all (partitions_text now i before) begun i behind)) ∙ e

-- one more that was counted
pub count_next : (begun : List (Option ℕ)) (i n : ℕ) (d : Option ℕ) → n ≡ count_one (get_or begun i d) → i < length begun
    → count_diverted (drop i begun) ≡ n + count_diverted (drop (i + 1) begun)
count_next begun i n d one below = at_drop_more count_diverted begun i d below ∙ ap (λ (m : ℕ). m + count_diverted (drop (i + 1) begun)) (sym one)
