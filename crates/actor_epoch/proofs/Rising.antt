-- Pairs taken one after another.
use Rattle.std.proofs.Common.{◌≡◌, Bool, true, false, ◌&&◌, List, [], ◌∷◌, refl, sym, ◌∙◌, ap}
use Rattle.std.specs.Prelude.{Option, Some, None}
use Rattle.std.specs.List.{list_all}
use Rattle.actor_epoch.specs.declared.actor.Actor.{Actor}
use Rattle.actor_epoch.specs.declared.dot.Dot.{Dot}
use Rattle.actor_epoch.specs.Contexts.{may_follow, is_rising, is_within_limits}
pub use Rattle.std.proofs.lemmas.Bool.{and_from as and_both}

pub and_first : (a b : Bool) → (a && b) ≡ true → a ≡ true
and_first true b h = refl
and_first false b h = cc

pub and_second : (a b : Bool) → (a && b) ≡ true → b ≡ true
and_second true b h = h
and_second false b h = cc

-- each pair is within its limits, and its actor may follow the one before
abbrev pub all_go_on : Option Actor → List Dot → Bool
all_go_on last [] = true
all_go_on last (entry ∷ entries) = (may_follow last entry.actor && is_within_limits entry) && all_go_on (Some entry.actor) entries

moved : (w o r l : Bool) → (w && (o && (r && l))) ≡ ((o && r) && (w && l))
moved true true r l = refl
moved true false r l = refl
moved false true true l = refl
moved false true false l = refl
moved false false r l = refl

grouped : (o w rest : Bool) → ((o && w) && rest) ≡ (o && (w && rest))
grouped true w rest = refl
grouped false w rest = refl

-- so they are strictly rising, and all within their limits
pub all_go_on-rising : (entries : List Dot) → all_go_on None entries ≡ (is_rising entries && list_all is_within_limits entries)
all_go_on-rising [] = refl
all_go_on-rising (entry ∷ []) = refl
all_go_on-rising (entry ∷ next ∷ entries) =
    ap (λ b. is_within_limits entry && b)
    (grouped (may_follow (Some entry.actor) next.actor) (is_within_limits next) (all_go_on (Some next.actor) entries)
    ∙ ap (λ b. may_follow (Some entry.actor) next.actor && b) (all_go_on-rising (next ∷ entries)))
    ∙ moved (is_within_limits entry) (may_follow (Some entry.actor) next.actor) (is_rising (next ∷ entries)) (list_all is_within_limits (next ∷ entries))

-- where a pair may not follow
pub all_go_on-ends : (pairs rest others : List Dot) (last : Option Actor) (entry : Dot) → all_go_on None pairs ≡ all_go_on last rest → rest ≡ entry ∷ others
    → (may_follow last entry.actor && is_within_limits entry) ≡ false → false ≡ (is_rising pairs && list_all is_within_limits pairs)
all_go_on-ends pairs rest others last entry h e f =
    sym (sym (all_go_on-rising pairs) ∙ h ∙ ap (all_go_on last) e ∙ ap (λ b. b && all_go_on (Some entry.actor) others) f)
