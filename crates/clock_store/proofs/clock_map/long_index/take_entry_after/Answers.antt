use Rattle.std.proofs.Common.{rules, ◌≡◌, ◌∙◌, refl, sym, ap, subst, drop, ℕ}
use Rattle.std.specs.Prelude.{None}
use Rattle.std.specs.BTreeMap as tree
use Rattle.std.specs.BTreeMap.{BTreeMap, IsOrdered}
use Rattle.riak_msgs.specs.declared.Key.{Key}
use Rattle.riak_msgs.specs.KeyOrder.{key_cmp}
use Rattle.clock_store.specs.Index.{first_marked, left_by}
use Rattle.clock_store.proofs.Taken.{step_first, step_taken, between-all}
use Rattle.clock_store.proofs.clock_map.long_index.take_entry_after.Goals as goal

pub returns-clause-first : goal.returns-clause-first
returns-clause-first c =
    step_first (λ f. f.0) _ (λ f k v b w g t. search rules) (λ f k v b w g t z. search rules) (λ n f k v b w g t z. search rules) _ _ _ _ _ _ _ _ _ (λ x. tt) c.next.ensures.steps.2
    c.extract_if-dead.ensures.holds
    ∙ ap (λ es. first_marked None None (drop c.args.passed es)) (c.extract_if-dead.ensures.rest tt ∙ between-all c.args.index.now.entries)

pub returns-clause-taken : goal.returns-clause-taken
returns-clause-taken c = λ q.
    let back : ◌≡◌ {A = BTreeMap Key ℕ} c.index-1.given.0 c.next.new.self.map.now = search rules in
    ap (λ m. tree.get key_cmp m q) back
    ∙ step_taken (λ f. f.0) _ (λ f k v b w g t. search rules) (λ f k v b w g t z. search rules) (λ n f k v b w g t z. search rules) _ _ _ _ _ _ _ _ _ (λ x. tt) c.next.ensures.steps.2
    (subst (IsOrdered key_cmp) (sym c.extract_if-dead.ensures.unchanged) c.len-count.ensures.ordered) c.extract_if-dead.ensures.holds refl q
    ∙ ap (λ m. left_by c.next.result q (tree.get key_cmp m q)) c.extract_if-dead.ensures.unchanged
