-- Numbers of what is stored that stop at the greatest, one behind another.
use Rattle.std.proofs.Common.{◌≡◌, ◌∙◌, ◌+◌, ◌-◌, ◌^◌, ◌≤◌, ℕ, min, List, [], ◌∷◌, ◌++◌, map, sym, ap, arith}
use Rattle.std.proofs.lemmas.List.{map_push}
use Rattle.key_counts.specs.declared.counts.KeyCounts.{KeyCounts}
use Rattle.key_counts.specs.Sums.{capped, no_counts, plus, sum_of}

-- four numbers
abbrev made : (keys siblings dead_keys value_bytes : ℕ) → KeyCounts
made keys siblings dead_keys value_bytes = record { keys = keys; siblings = siblings; dead_keys = dead_keys; value_bytes = value_bytes }

-- what has the same four is the same
pub same-counts : (one other : KeyCounts) → one.keys ≡ other.keys → one.siblings ≡ other.siblings → one.dead_keys ≡ other.dead_keys → one.value_bytes ≡ other.value_bytes → one ≡ other
same-counts one other keys siblings dead_keys value_bytes =
    ap (λ n. made n one.siblings one.dead_keys one.value_bytes) keys
    ∙ ap (λ n. made other.keys n one.dead_keys one.value_bytes) siblings
    ∙ ap (λ n. made other.keys other.siblings n one.value_bytes) dead_keys
    ∙ ap (λ n. made other.keys other.siblings other.dead_keys n) value_bytes

min-more : (count more rest most : ℕ) → min (min (count + more) most + rest) most ≡ min (count + (more + rest)) most
min-more count more rest most = omega arith

min-none : (count more most : ℕ) → min (count + more) most ≡ min (count + (more + 0)) most
min-none count more most = omega arith

-- a total that stops, and more
pub capped-more : (counts more rest : KeyCounts) → capped (plus (capped (plus counts more)) rest) ≡ capped (plus counts (plus more rest))
capped-more counts more rest = same-counts _ _
    (min-more counts.keys more.keys rest.keys (2 ^ 64 - 1))
    (min-more counts.siblings more.siblings rest.siblings (2 ^ 64 - 1))
    (min-more counts.dead_keys more.dead_keys rest.dead_keys (2 ^ 64 - 1))
    (min-more counts.value_bytes more.value_bytes rest.value_bytes (2 ^ 64 - 1))

-- and nothing more
pub capped-none : (counts more : KeyCounts) → capped (plus counts more) ≡ capped (plus counts (plus more no_counts))
capped-none counts more = same-counts _ _
    (min-none counts.keys more.keys (2 ^ 64 - 1))
    (min-none counts.siblings more.siblings (2 ^ 64 - 1))
    (min-none counts.dead_keys more.dead_keys (2 ^ 64 - 1))
    (min-none counts.value_bytes more.value_bytes (2 ^ 64 - 1))

-- numbers in a row
pub plus-assoc : (one more rest : KeyCounts) → plus one (plus more rest) ≡ plus (plus one more) rest
plus-assoc one more rest = same-counts _ _ (omega arith) (omega arith) (omega arith) (omega arith)

plus-none : (one : KeyCounts) → plus one no_counts ≡ plus no_counts one
plus-none one = same-counts _ _ (omega arith) (omega arith) (omega arith) (omega arith)

-- a sum with one more at its end
pub sum_of-push : (all : List KeyCounts) (more : KeyCounts) → sum_of (all ++ more ∷ []) ≡ plus (sum_of all) more
sum_of-push [] more = plus-none more
sum_of-push (one ∷ all) more = ap (plus one) (sum_of-push all more) ∙ plus-assoc one (sum_of all) more

min-all : (all more most : ℕ) → min (min all most + more) most ≡ min (all + more) most
min-all all more most = omega arith

-- a sum that stops, and one more
pub capped-all : (all more : KeyCounts) → capped (plus (capped all) more) ≡ capped (plus all more)
capped-all all more = same-counts _ _
    (min-all all.keys more.keys (2 ^ 64 - 1))
    (min-all all.siblings more.siblings (2 ^ 64 - 1))
    (min-all all.dead_keys more.dead_keys (2 ^ 64 - 1))
    (min-all all.value_bytes more.value_bytes (2 ^ 64 - 1))

-- the sum of what a list's elements count, with one element more
pub capped-push : {A : Type 0} (weigh : A → KeyCounts) (all : List A) (more : A) (total : KeyCounts) → total ≡ capped (sum_of (map weigh all)) → capped (plus total (weigh more)) ≡ capped (sum_of (map weigh (all ++ more ∷ [])))
capped-push weigh all more total is =
    ap (λ t. capped (plus t (weigh more))) is ∙ capped-all (sum_of (map weigh all)) (weigh more)
    ∙ ap capped (sym (sum_of-push (map weigh all) (weigh more)) ∙ ap sum_of (sym (map_push weigh all more)))

-- a count that stops, with nothing more
pub min-last : (count most : ℕ) → count ≤ most → min (count + 0) most ≡ count
min-last count most few = omega (arith, few)

-- nothing stops nowhere
pub capped-nothing : no_counts ≡ capped no_counts
capped-nothing = same-counts _ _ (omega arith) (omega arith) (omega arith) (omega arith)

min-both : (one more most : ℕ) → min (min one most + min more most) most ≡ min (one + more) most
min-both one more most = omega arith

-- two numbers that stop, together
pub capped-both : (one more : KeyCounts) → capped (plus (capped one) (capped more)) ≡ capped (plus one more)
capped-both one more = same-counts _ _
    (min-both one.keys more.keys (2 ^ 64 - 1))
    (min-both one.siblings more.siblings (2 ^ 64 - 1))
    (min-both one.dead_keys more.dead_keys (2 ^ 64 - 1))
    (min-both one.value_bytes more.value_bytes (2 ^ 64 - 1))

min-rest : (one more rest most : ℕ) → min more most ≡ min rest most → min (min one most + more) most ≡ min (one + rest) most
min-rest one more rest most same = omega (arith, same)

-- one that stops, with more that stops where this does
pub capped-rest : (one more rest : KeyCounts) → capped more ≡ capped rest → capped (plus (capped one) more) ≡ capped (plus one rest)
capped-rest one more rest same = same-counts _ _
    (min-rest one.keys more.keys rest.keys (2 ^ 64 - 1) (ap (λ c. c.keys) same))
    (min-rest one.siblings more.siblings rest.siblings (2 ^ 64 - 1) (ap (λ c. c.siblings) same))
    (min-rest one.dead_keys more.dead_keys rest.dead_keys (2 ^ 64 - 1) (ap (λ c. c.dead_keys) same))
    (min-rest one.value_bytes more.value_bytes rest.value_bytes (2 ^ 64 - 1) (ap (λ c. c.value_bytes) same))

min-end : (one most : ℕ) → min (min one most + 0) most ≡ min one most
min-end one most = omega arith

-- one that stops, with nothing more
pub capped-end : (one : KeyCounts) → capped (plus (capped one) no_counts) ≡ capped one
capped-end one = same-counts _ _
    (min-end one.keys (2 ^ 64 - 1)) (min-end one.siblings (2 ^ 64 - 1)) (min-end one.dead_keys (2 ^ 64 - 1)) (min-end one.value_bytes (2 ^ 64 - 1))

pub plus-first : (all : KeyCounts) → plus no_counts all ≡ all
plus-first all = same-counts _ _ (omega arith) (omega arith) (omega arith) (omega arith)
