-- What a node's passes have seen at each index, and that a step only adds to it.
use Rattle.std.proofs.Common.{◌≡◌, ◌≢◌, ◌∙◌, ℕ, List, [], ◌∷◌, ◌++◌, refl, sym, ap, subst, inl, inr}
use Rattle.std.proofs.lemmas.Bool.{eq-eqb}
use Rattle.std.proofs.lemmas.List.{append-nil}
use Rattle.std.specs.Prelude.{if◌then◌else◌, Option, Some, None, zero, suc, slice_get, slice_set}
use Rattle.std.specs.Option.{option_map_or}
use mathlib.Core.List.{IsPrefix}
use Rattle.riak_msgs.specs.declared.Request.{Request}
use Rattle.riak_msgs.specs.declared.Request.TheVariants as requests
use Rattle.riak_msgs.specs.declared.Reply.{Reply}
pub use Rattle.rw_gate.proofs.Prefixes.{prefix_trans}
use Rattle.vnode_core.specs.declared.ask.Ask.TheVariants as asks
use Rattle.vnode_core.specs.declared.entry.Entry.{Entry}
use Rattle.vnode_core.proofs.Entries.{commands_before}
use Rattle.handoff.specs.declared.gates.Fallback.{Fallback}
use Rattle.node_session.specs.PlainNodes.{partition_of}
use Rattle.stats_book.specs.declared.quantity.Quantity.{Quantity}
use Rattle.stats_book.specs.Counter.{Count}
use Rattle.gate_node.specs.Asked.{Sight, Gets, GetsOpen, Changes, ChangesOpen, Reaps, ReapsUpTo}
use Rattle.gate_node.specs.declared.passes.FallbackPass.{FallbackPass}
use Rattle.gate_node.specs.GateStep.{NodeOverGates, GateNodeStep, AtIndex, AtIndexFrom, AnswersAtPartition}
use Rattle.gate_node.specs.Passes.{Resumes, kept_of}
use Rattle.gate_node.specs.Registers.{seen_at, seen_at_fallback, entries_by, HasSeenCommands}

-- a list begins one that goes on behind it
more_behind : {A : Type 0} (xs : List A) (x : A) → IsPrefix xs (xs ++ x ∷ [])
more_behind xs x = (x ∷ [], refl)

-- reaps go on
reaps_more : (n : ℕ) (old new : Sight) → Reaps n old new → IsPrefix old.prefix new.prefix
reaps_more zero old new same = subst (λ (s : Sight). IsPrefix old.prefix s.prefix) (sym same) ([], append-nil old.prefix)
reaps_more (suc n) old new (mid, answer, gate, made, rest) =
    let one = prefix_trans old.prefix made.position (made.position ++ made.event ∷ []) made.begins (more_behind made.position made.event) in
    prefix_trans old.prefix mid.prefix new.prefix (subst (λ l. IsPrefix old.prefix l) (sym made.seen) one) (reaps_more n mid new rest)

pub all_reaps_more : (budget count : ℕ) (old new : Sight) → ReapsUpTo budget count old new → IsPrefix old.prefix new.prefix
all_reaps_more budget count old new r = elim r.rest [
  | inl done ↦ subst (λ (s : Sight). IsPrefix old.prefix s.prefix) (sym done.1) (reaps_more count old r.reaped r.made)
  | inr ends ↦ prefix_trans old.prefix r.reaped.prefix new.prefix (reaps_more count old r.reaped r.made) ends.more
]

-- a list at an index beside one that was set
pub set_there : {A : Type 0} (xs : List A) (i j : ℕ) (y : A) → j ≢ i → slice_get (slice_set xs i y) j ≡ slice_get xs j
set_there [] i j y ne = refl
set_there (z ∷ xs) zero zero y ne = absurd (ne refl)
set_there (z ∷ xs) zero (suc j) y ne = refl
set_there (z ∷ xs) (suc i) zero y ne = refl
set_there (z ∷ xs) (suc i) (suc j) y ne = set_there xs i j y (λ e. ne (ap suc e))

-- what is seen of a partition that has no fallback, and of one that has
pub undiverted_seen : (there : Option (Option Fallback)) (primary : Option Sight) (kept : Option (Option FallbackPass)) (pass : Sight) → there ≡ Some None → primary ≡ Some pass → seen_at there primary kept ≡ pass.prefix
undiverted_seen there primary kept pass none at = λ i. seen_at (none i) (at i) kept

pub diverted_seen : (there : Option (Option Fallback)) (primary : Option Sight) (kept : Option (Option FallbackPass)) (fallback : Fallback) (had : Option FallbackPass) → there ≡ Some (Some fallback) → kept ≡ Some had
    → seen_at there primary kept ≡ seen_at_fallback fallback had
diverted_seen there primary kept fallback had some at = λ i. seen_at (some i) primary (at i)

pub kept_seen : (fallback : Fallback) (pass : Sight) (closed : Option ℕ) → seen_at_fallback fallback (kept_of fallback pass closed) ≡ pass.prefix
kept_seen fallback pass closed = ap (λ b. if b then pass.prefix else []) (eq-eqb fallback.diversion fallback.diversion refl)

-- what was seen by the pass by which a fallback is asked
pub resumed_seen : (fallback : Fallback) (kept : Option FallbackPass) (pass : Sight) (closed : Option ℕ) → Resumes fallback kept pass closed → seen_at_fallback fallback kept ≡ pass.prefix
resumed_seen fallback kept pass closed (inl is) = ap (seen_at_fallback fallback) is ∙ kept_seen fallback pass closed
resumed_seen fallback kept pass closed (inr (other, gate, unused, none)) =
    ap (λ b. if b then option_map_or (λ (p : FallbackPass). p.pass.prefix) kept [] else []) other ∙ sym unused.prefix

-- at an index is what was set there, at any other what was
set_either : {A : Type 0} (xs : List A) (i j : ℕ) (x y : A) (R : Option A → Option A → Type 0) → slice_get xs i ≡ Some x → (j ≡ i → R (Some x) (Some y)) → ((o : Option A) → R o o)
    → R (slice_get xs j) (slice_get (slice_set xs i y) j)
set_either [] i j x y R at here there = absurd (cc at)
set_either (z ∷ xs) zero zero x y R at here there = let is : z ≡ x = cc at in subst (λ a. R (Some a) (Some y)) (sym is) (here refl)
set_either (z ∷ xs) zero (suc j) x y R at here there = there (slice_get xs j)
set_either (z ∷ xs) (suc i) zero x y R at here there = there (Some z)
set_either (z ∷ xs) (suc i) (suc j) x y R at here there = set_either xs i j x y R at (λ e. here (ap suc e)) there

whole : (entries : List Entry) → IsPrefix entries entries
whole entries = ([], append-nil entries)

-- of a partition that has no fallback as much more is seen as by the pass of its primary
primary_grows : (there : Option (Option Fallback)) (kept : Option (Option FallbackPass)) (old new : Sight) → IsPrefix old.prefix new.prefix
    → IsPrefix (seen_at there (Some old) kept) (seen_at there (Some new) kept)
primary_grows (Some (Some fallback)) kept old new more = whole _
primary_grows (Some None) kept old new more = more
primary_grows None kept old new more = more

-- a step only adds to what was seen
module _ (index other : ℕ) where
  abbrev Grows : NodeOverGates → NodeOverGates → Type 0
  Grows old new = IsPrefix (entries_by old other) (entries_by new other)

  then_grows : (old mid new : NodeOverGates) → Grows old mid → Grows mid new → Grows old new
  then_grows old mid new one two = prefix_trans (entries_by old other) (entries_by mid other) (entries_by new other) one two

  -- by a pass of a primary that goes on
  primary_adds : (old new : NodeOverGates) (before after : Sight) (count : Count) → slice_get old.passes.primaries index ≡ Some before → IsPrefix before.prefix after.prefix
      → new ≡ record old { passes = record old.passes { primaries = slice_set old.passes.primaries index after }; count = count } → Grows old new
  primary_adds old new before after count stands more is =
      let there = slice_get old.shared.fallbacks other in
      let kept = slice_get old.passes.fallbacks other in
      subst (λ (node : NodeOverGates). Grows old node) (sym is)
      (set_either old.passes.primaries index other before after (λ a b. IsPrefix (seen_at there a kept) (seen_at there b kept)) stands
      (λ same. primary_grows there kept before after more) (λ o. whole (seen_at there o kept)))

  -- and by one of a fallback
  fallback_adds : (old new : NodeOverGates) (fallback : Fallback) (had : Option FallbackPass) (before after : Sight) (known closed : Option ℕ) (count : Count)
      → slice_get old.shared.fallbacks index ≡ Some (Some fallback) → slice_get old.passes.fallbacks index ≡ Some had → Resumes fallback had before known → IsPrefix before.prefix after.prefix
      → new ≡ record old { passes = record old.passes { fallbacks = slice_set old.passes.fallbacks index (kept_of fallback after closed) }; count = count } → Grows old new
  fallback_adds old new fallback had before after known closed count diverted stood resumes more node =
      let there = slice_get old.shared.fallbacks other in
      let primary = slice_get old.passes.primaries other in
      let kept = kept_of fallback after closed in
      let here : (same : other ≡ index) → IsPrefix (seen_at there primary (Some had)) (seen_at there primary (Some kept)) = λ same.
      let is : there ≡ Some (Some fallback) = ap (slice_get old.shared.fallbacks) same ∙ diverted in
      let first = diverted_seen there primary (Some had) fallback had is refl ∙ resumed_seen fallback had before known resumes in
      let last = diverted_seen there primary (Some kept) fallback kept is refl ∙ kept_seen fallback after closed in
      subst (λ (p : List Entry × List Entry). IsPrefix p.0 p.1) (λ i. (sym first i, sym last i)) more in
      subst (λ (n : NodeOverGates). Grows old n) (sym node)
      (set_either old.passes.fallbacks index other had kept (λ a b. IsPrefix (seen_at there primary a) (seen_at there primary b)) stood here (λ o. whole (seen_at there primary o)))

  index_adds : (old new : NodeOverGates) (Says : Sight → Sight → Option Quantity → Type 0) → AtIndex index old new Says → Grows old new
  index_adds old new Says at =
      let answered = all_reaps_more old.shared.budget at.reaps at.steps.answered at.after at.steps.reaps in
      let more = prefix_trans at.before.prefix at.steps.answered.prefix at.after.prefix at.steps.more answered in
      primary_adds old new at.before at.after at.count at.stands more at.node

  pub from_adds : (number : ℕ) (old : NodeOverGates) (reply : Reply) (new : NodeOverGates) (Answers : Sight → Sight → Reply → Option Quantity → Type 0) → AtIndexFrom index number old reply new Answers
      → Grows old new
  from_adds number old reply new Answers at =
      let looked = primary_adds old at.looked at.looks.before at.looks.after old.count at.looks.stands at.looks.more at.looks.node in
      let last : Grows at.looked new = elim at.answers [
        | inl far ↦ index_adds at.looked new (λ p q. Answers p q reply) far.1
        | inr short ↦ subst (λ (n : NodeOverGates). Grows at.looked n) (sym short.1.node) (whole _)
      ] in
      then_grows old at.looked new looked last

  adds : (old : NodeOverGates) (reply : Reply) (new : NodeOverGates) (Answers AnswersOpen : Sight → Sight → Reply → Option Quantity → Type 0) → AnswersAtPartition index old reply new Answers AnswersOpen → Grows old new
  adds old reply new Answers AnswersOpen (inl (none, at)) = index_adds old new (λ p q. Answers p q reply) at
  adds old reply new Answers AnswersOpen (inr (inl (inr short))) = subst (λ (n : NodeOverGates). Grows old n) (sym short.node) (whole _)
  adds old reply new Answers AnswersOpen (inr (inl (inl at))) =
      fallback_adds old new at.fallback at.kept at.before at.after None None at.count at.diverted at.stood at.resumes at.more at.node
  adds old reply new Answers AnswersOpen (inr (inr at)) =
      let c = at.closed in
      let first = fallback_adds old at.found c.fallback c.kept c.before c.after c.known (Some at.number) old.count c.diverted c.stood c.resumes c.closed.more c.node in
      then_grows old at.found new first (from_adds at.number at.found reply new Answers at.answers)

step_adds : (old : NodeOverGates) (request : Request) (reply : Reply) (new : NodeOverGates) → GateNodeStep old request reply new → (index : ℕ) → IsPrefix (entries_by old index) (entries_by new index)
step_adds old requests.Ping reply new step index = subst (λ (node : NodeOverGates). IsPrefix (entries_by old index) (entries_by node index)) (sym step.1) (whole _)
step_adds old (requests.Get get) reply new step index = adds (partition_of old.shared.index_bits get.key) index old reply new (Gets get) (GetsOpen get) step
step_adds old (requests.Put put) reply new step index =
    adds (partition_of old.shared.index_bits put.key) index old reply new (Changes (asks.Put put)) (ChangesOpen (asks.Put put)) step
step_adds old (requests.Del del) reply new step index =
    adds (partition_of old.shared.index_bits del.key) index old reply new (Changes (asks.Del del)) (ChangesOpen (asks.Del del)) step

-- where commands alone were seen after it, so they were before
pub step_commands : (old : NodeOverGates) (request : Request) (reply : Reply) (new : NodeOverGates) → GateNodeStep old request reply new → HasSeenCommands new → HasSeenCommands old
step_commands old request reply new step are = λ index. commands_before (entries_by old index) (entries_by new index) (step_adds old request reply new step index) (are index)
