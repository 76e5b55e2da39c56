-- Folds of a step over a message's fields.
use Rattle.std.proofs.Common.{◌≡◌, ℕ, List, [], ◌∷◌, ◌++◌, Some, Result, Ok, refl, sym, ap, subst, ◌∙◌}
use Rattle.std.proofs.lemmas.List.{append_assoc, append-nil}
use Rattle.pb_fields.specs.Field.{WireField, BeginsWithField, seen}
use Rattle.pb_fields.specs.Message.{BeginsWithFields, Encodes}
use Rattle.pb_fields.specs.Next.{Yields}
use Rattle.pb_fields.specs.Merging.{MergesAll, RefusesOne, Tracks}
use Rattle.pb_fields.specs.declared.field.Field.{Field}
use Rattle.pb_fields.specs.declared.fault.FieldFault.{FieldFault}
use Rattle.pb_fields.proofs.Parts.{field_once}
use Rattle.pb_fields.proofs.Lists.{fields_more, nothing}

-- one field more
pub MergesAll-more : {A : Type 0} (step : A → WireField → A → Type 0) (a b c : A) (fields : List WireField) (field : WireField) →
    MergesAll step a fields b → step b field c → MergesAll step a (fields ++ field ∷ []) c
MergesAll-more step a b c [] field e last = let P : _ → Type 0 = λ x. step x field c in (c, subst P (sym e) last, refl)
MergesAll-more step a b c (f ∷ fs) field (next, first, rest) last = (next, first, MergesAll-more step next b c fs field rest last)

-- what holds of no fields, and of one field more after each step, holds of all
pub MergesAll-keeps : {A : Type 0} (step : A → WireField → A → Type 0) (P : List WireField → A → Type 0) (a b : A)
    (done fields : List WireField) →
    ((fs : List WireField) (f : WireField) (x y : A) → P fs x → step x f y → P (fs ++ f ∷ []) y) →
    P done a → MergesAll step a fields b → P (done ++ fields) b
MergesAll-keeps step P a b done [] more holds e =
    let Q : List WireField → Type 0 = λ fs. P fs b in
    let R : _ → Type 0 = λ x. P done x in
    subst Q (sym (append-nil done)) (subst R e holds)
MergesAll-keeps step P a b done (f ∷ fs) more holds (next, first, rest) =
    let Q : List WireField → Type 0 = λ gs. P gs b in
    subst Q (append_assoc done (f ∷ []) fs)
    (MergesAll-keeps step P next b (done ++ f ∷ []) fs more (more done f a next holds first) rest)

-- what a value has of no fields, it has of all that were merged into it
pub MergesAll-tracks : {A : Type 0} (has : A → List WireField → Type 0) (a b : A) (fields : List WireField) →
    has a [] → MergesAll (Tracks has) a fields b → has b fields
MergesAll-tracks has a b fields none all =
    MergesAll-keeps (Tracks has) (λ fs x. has x fs) a b [] fields (λ fs f x y holds step. step fs holds) none all

-- bytes that begin with some fields and stand for a list stand for these and more
pub Encodes-split : (bs rest : List ℕ) (fs gs : List WireField) → BeginsWithFields bs fs rest → Encodes bs gs →
    (more : List WireField) × (gs ≡ fs ++ more)
Encodes-split bs rest [] gs a b = (gs, refl)
Encodes-split bs rest (f ∷ fs) [] (x, begins, a) b =
    let P : List ℕ → Type 0 = λ cs. BeginsWithField cs f x in absurd (nothing x f (subst P b begins))
Encodes-split bs rest (f ∷ fs) (g ∷ gs) (x, begins_f, a) (y, begins_g, b) =
    let one = field_once bs x y f g begins_f begins_g in
    let P : List ℕ → Type 0 = λ cs. Encodes cs gs in
    let more = Encodes-split x rest fs gs a (subst P (sym one.1) b) in
    (more.0, ap (λ h. h ∷ gs) (sym one.0) ∙ ap (λ ts. f ∷ ts) more.1)

-- the field that was given
pub field_given : (before after : List ℕ) (given : Result Field FieldFault) (field : Field) → Yields before (Some given) after → given ≡ Ok field →
    BeginsWithField before (seen field) after
field_given before after given field yields e =
    let P : Result Field FieldFault → Type 0 = λ r. Yields before (Some r) after in subst P e yields

-- a field was refused behind some others
pub RefusesOne-here : {F : Type 0} (refuses : WireField → F → Type 0) (body before after : List ℕ) (fields others : List WireField)
    (field : WireField) (fault : F) → BeginsWithFields body fields before → BeginsWithField before field after →
    refuses field fault → Encodes body others → RefusesOne refuses others fault
RefusesOne-here refuses body before after fields others field fault read begins refused stands =
    let split = Encodes-split body after (fields ++ field ∷ []) others (fields_more body after before fields field read begins) stands in
    (fields, field, split.0, split.1 ∙ append_assoc fields (field ∷ []) split.0, refused)
