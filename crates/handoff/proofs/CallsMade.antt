-- Copy backs that copied as many keys as entries came, one behind another, made all of them.
use Rattle.std.proofs.Common.{◌≡◌, ◌∙◌, ◌+◌, ◌++◌, ◌≤◌, ℕ, List, [], ◌∷◌, append_assoc, length, length-append, refl, sym, ap, subst, arith}
use Rattle.std.specs.Prelude.{Some, slice_get}
use Rattle.std.proofs.lemmas.List.{length-map}
use Rattle.std.proofs.lemmas.List.Elements.{All-head, All-tail}
use mathlib.Core.List.{IsPrefix}
use Rattle.ghost_state.proofs.Lists.{get-before, get-last}
use Rattle.rw_gate.proofs.Prefixes.{prefix_length}
use Rattle.rw_gate.specs.Views.{GateId}
use Rattle.vnode_core.specs.declared.entry.Entry.{Entry}
use Rattle.vnode_core.specs.declared.entry.Entry.TheVariants.{Copied}
use Rattle.vnode_core.specs.KeyCopies.{KeyCopyView}
use Rattle.vnode_core.specs.Plans.{View}
use Rattle.handoff.specs.declared.copying.Copied.{Copied as CopyBack}
use Rattle.handoff.specs.declared.gates.Fallback.{Fallback}
use Rattle.handoff.specs.Copying.{AreCopies, HasCopyAt, IsCopyOf, RiseBetween}
use Rattle.handoff.specs.Joined.{AreMade, CopiesAreOfCalls, CopyInTurn, keys_copied}
use Rattle.handoff.specs.Sights.{Sight}
use Rattle.handoff.specs.Started.{all_copies}
use Rattle.handoff.proofs.Copies.{get_prefix}

module _ (n : ℕ) (gate : GateId View) (mine : Sight) (before : List Entry) where
  -- the entry at a position is a copy that a copy back made
  pub record IsMadeAt (position : ℕ) : Type 0 where
    pub entry : Entry
    pub stands : slice_get mine.prefix position ≡ Some entry
    pub their : Sight
    pub copy : IsCopyOf n their entry
    pub of_gate : their.gate ≡ gate
    pub begins : IsPrefix their.prefix before

  -- so it is at each of these positions, which rise from one on, and all are below another
  abbrev MadeBetween : (from : ℕ) → List ℕ → (below : ℕ) → Type 0
  MadeBetween from [] below = from ≤ below
  MadeBetween from (k ∷ ks) below = (from ≤ k) × IsMadeAt k × MadeBetween (k + 1) ks below

  weaker : (less from : ℕ) (ks : List ℕ) (below : ℕ) → less ≤ from → MadeBetween from ks below → MadeBetween less ks below
  weaker less from [] below le made = omega (arith, le, made)
  weaker less from (k ∷ ks) below le made = (let a = made.0 in omega (arith, a, le), made.1, made.2)

  -- there is room for all of them
  size : (from : ℕ) (ks : List ℕ) (below : ℕ) → MadeBetween from ks below → from + length ks ≤ below
  size from [] below made = omega (arith, made)
  size from (k ∷ ks) below made = let rest = size (k + 1) ks below made.2 in let a = made.0 in omega (arith, rest, a)

  -- those of one copy back, and then others
  one-call : (theirs own : Sight) (from middle : ℕ) (ks others : List ℕ) (below : ℕ) → theirs.gate ≡ gate → IsPrefix theirs.prefix before → IsPrefix own.prefix mine.prefix → AreCopies n own theirs ks
      → RiseBetween from ks middle → MadeBetween middle others below → MadeBetween from (ks ++ others) below
  one-call theirs own from middle [] others below of_gate there here copies rise made = weaker from middle others below rise made
  one-call theirs own from middle (k ∷ ks) others below of_gate there here copies rise made =
      let first = All-head (HasCopyAt n own theirs) k ks copies in (
        rise.0,
        record { entry = first.entry; stands = get_prefix own.prefix mine.prefix k first.entry here first.stands; their = theirs; copy = first.copy; of_gate = of_gate; begins = there },
        one-call theirs own (k + 1) middle ks others below of_gate there here (All-tail (HasCopyAt n own theirs) k ks copies) rise.1 made,
      )

  -- as many positions as there are entries behind a beginning are those of the entries
  made-all : (pre : List Entry) (copies : List KeyCopyView) (ks : List ℕ) (below : ℕ) → MadeBetween (length pre) ks below → length ks ≡ length copies → length pre + length copies ≡ below
      → mine.prefix ≡ pre ++ all_copies copies → AreMade n gate before copies
  made-all pre [] ks below made many whole is = tt
  made-all pre (copy ∷ copies) [] below made many whole is = absurd (omega (arith, many))
  made-all pre (copy ∷ copies) (k ∷ ks) below made many whole is =
      let here = made.0 in
      let one = made.1 in
      let room = size (k + 1) ks below made.2 in
      let at : k ≡ length pre = omega (arith, here, room, many, whole) in
      let there : slice_get mine.prefix k ≡ Some (Copied copy)
      = ap (λ (i : ℕ). slice_get mine.prefix i) at ∙ (ap (λ (es : List Entry). slice_get es (length pre)) (is ∙ sym (append_assoc pre (Copied copy ∷ []) (all_copies copies)))
      ∙ get-before (pre ++ Copied copy ∷ []) (all_copies copies) (length pre) (Copied copy) (get-last pre (Copied copy))) in
      let same : one.entry ≡ Copied copy = cc (sym one.stands ∙ there) in
      let grown : k + 1 ≡ length (pre ++ Copied copy ∷ []) = let longer = length-append pre (Copied copy ∷ []) in omega (arith, longer, at) in (
        (one.their, subst (λ (e : Entry). IsCopyOf n one.their e) same one.copy, one.of_gate, one.begins),
        made-all (pre ++ Copied copy ∷ []) copies ks below (subst (λ m. MadeBetween m ks below) grown made.2) (omega (arith, many)) (omega (arith, whole, grown, at))
            (is ∙ sym (append_assoc pre (Copied copy ∷ []) (all_copies copies))),
      )

-- the positions at which copy backs copied
abbrev positions_of : List CopyBack → List ℕ
positions_of [] = []
positions_of (call ∷ calls) = call.primary.own ++ positions_of calls

module _ (primary : GateId View) (fallback : Fallback) (mine : Sight) (before : List Entry) where
  calls-made : (from : ℕ) (calls : List CopyBack) → from ≤ length mine.prefix → CopyInTurn primary fallback mine before from calls
      → MadeBetween fallback.diversion fallback.gate mine before from (positions_of calls) (length mine.prefix)
  calls-made from [] le turns = le
  calls-made from (call ∷ calls) le (back, later, here, there, rest) =
      weaker fallback.diversion fallback.gate mine before from call.began (positions_of (call ∷ calls)) (length mine.prefix) later
      (one-call fallback.diversion fallback.gate mine before call.fallback call.primary call.began (length call.primary.prefix) call.primary.own (positions_of calls) (length mine.prefix)
      back.1.gate_there there here back.1.copies back.1.rise
      (calls-made (length call.primary.prefix) calls (prefix_length call.primary.prefix mine.prefix here) rest))

  calls-many : (from : ℕ) (calls : List CopyBack) → CopyInTurn primary fallback mine before from calls → length (positions_of calls) ≡ keys_copied calls
  calls-many from [] turns = refl
  calls-many from (call ∷ calls) (back, later, here, there, rest) =
      let one = back.1.keys in
      let others = calls-many (length call.primary.prefix) calls rest in
      let both = length-append call.primary.own (positions_of calls) in
      omega (arith, one, others, both)

pub copies-are-of-calls : (primary : GateId View) (fallback : Fallback) (mine : Sight) (before : List Entry) (calls : List CopyBack) → CopiesAreOfCalls primary fallback mine before calls
copies-are-of-calls primary fallback mine before calls since turns total =
    let pre = since.from.pass.prefix in
    let sizes : length mine.prefix ≡ length pre + length since.copies
    = ap length since.seen ∙ (length-append pre (all_copies since.copies) ∙ ap (λ m. length pre + m) (length-map since.copies (λ (c : KeyCopyView). Copied c))) in
    let made = calls-made primary fallback mine before (length pre) calls (omega (arith, sizes)) turns in
    let many = calls-many primary fallback mine before (length pre) calls turns in
    made-all fallback.diversion fallback.gate mine before pre since.copies (positions_of calls) (length mine.prefix) made (omega (arith, many, total, sizes)) (sym sizes) since.seen
