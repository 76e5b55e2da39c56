-- A part of what is to be sent was sent.
use Rattle.std.proofs.Common.{◌≡◌, ◌==◌, Bool, true, false, ℕ, ◌+◌, ◌-◌, ◌<◌, ◌≤◌, List, [], ◌∷◌, ◌++◌, length, take, drop, Option, refl, sym, ap, subst, ◌∙◌, append_assoc, append-nil, length-append, arith}
use Rattle.std.specs.Io.KnownBytes.{Appends, Keeps}
use Rattle.std.proofs.KnownBytes.{Appends-trans, Appends-nil, Appends-kept}
use Rattle.std.proofs.lemmas.List.{nil_from_length, take-append-le, take-append-drop}
use Rattle.std.proofs.lemmas.Bool.{false≢true}
use Rattle.std.proofs.lemmas.Bool.Decides.{nat_tests}
use Rattle.std.proofs.Math.Seq.{drop-append-add, take-append_seam}
use Rattle.node_session.specs.Stages.{SentSome}
use Rattle.node_session.specs.Sending.{IsWriteCutShort}
use Rattle.node_session.specs.Unsent.{IsFront}
use Rattle.node_session.specs.Views.{Transcript}

pub sent_none : (held : Option (List ℕ)) (s : Transcript) → SentSome held held s s
sent_none held s = record { done = []; splits = refl; written = Appends-nil held; same = refl }

-- the first bytes of the front are the first bytes of all
pub front_take : (front bytes : List ℕ) (n : ℕ) → IsFront front bytes → n ≤ length front → take n front ≡ take n bytes
front_take front bytes n is le = sym (take-append-le n front is.more le) ∙ ap (take n) (sym is.splits)

pub sent_more : (a b c : Option (List ℕ)) (old mid new : Transcript) (front : List ℕ) (n : ℕ) → SentSome a b old mid → IsFront front mid.unsent → n ≤ length front → Appends b c (take n front)
    → new ≡ record mid { unsent = drop n mid.unsent } → SentSome a c old new
sent_more a b c old mid new front n p is le wrote e =
    let to : new.unsent ≡ drop n mid.unsent = ap (λ (s : Transcript). s.unsent) e in
    let some = take n mid.unsent in
    record {
      done = p.done ++ some;
      splits = p.splits ∙ ap (λ (t : List ℕ). p.done ++ t) (sym (take-append-drop n mid.unsent)) ∙ sym (append_assoc p.done some (drop n mid.unsent)) ∙ ap (λ (t : List ℕ). (p.done ++ some) ++ t) (sym to);
      written = Appends-trans a b c p.done some p.written (subst (Appends b c) (front_take front mid.unsent n is le) wrote);
      same = e ∙ ap (λ (s : Transcript). record s { unsent = drop n mid.unsent }) p.same ∙ ap (λ (t : List ℕ). record old { unsent = t }) (sym to);
    }

-- nothing is left
pub all_sent : (a b : Option (List ℕ)) (old new : Transcript) → SentSome a b old new → new.unsent ≡ [] → Appends a b old.unsent × (new ≡ record old { unsent = [] })
all_sent a b old new p empty = (
  subst (Appends a b) (sym (append-nil p.done) ∙ ap (λ (t : List ℕ). p.done ++ t) (sym empty) ∙ sym p.splits) p.written,
  p.same ∙ ap (λ (t : List ℕ). record old { unsent = t }) empty,
)

-- some is left
pub sent_short : (a b c : Option (List ℕ)) (old new : Transcript) → SentSome a b old new → 0 < length new.unsent → Keeps b c → IsWriteCutShort a c old.unsent
sent_short a b c old new p some kept =
    let all : length old.unsent ≡ length p.done + length new.unsent = ap length p.splits ∙ length-append p.done new.unsent in
    record {
      len = length p.done;
      short = omega (arith, all, some);
      written = Appends-kept a b c _ (subst (Appends a b) (sym (ap (take (length p.done)) p.splits ∙ take-append_seam p.done new.unsent)) p.written) kept;
    }

-- the writer keeps what it has
pub sent_kept : (a b c : Option (List ℕ)) (old new : Transcript) → Keeps b c → SentSome a b old new → SentSome a c old new
sent_kept a b c old new kept p = record { done = p.done; splits = p.splits; written = Appends-kept a b c p.done p.written kept; same = p.same }

-- there is a byte in what has a front with a byte
pub some_unsent : (front bytes : List ℕ) → IsFront front bytes → 0 < length front → 0 < length bytes
some_unsent front bytes is some =
    let len : length bytes ≡ length front + length is.more = ap length is.splits ∙ length-append front is.more in
    omega (arith, len, some)

pub not_empty : (xs : List ℕ) → (length xs == 0) ≡ false → 0 < length xs
not_empty [] e = absurd (false≢true (sym e))
not_empty (x ∷ xs) e = omega arith

-- and in what was tested not to be empty
pub tested : (xs : List ℕ) (is : Bool) → is ≡ (length xs == 0) → is ≡ false → 0 < length xs
tested xs is told not = not_empty xs (sym told ∙ not)

-- what was tested to be empty
pub empty_if : (xs : List ℕ) (is : Bool) → is ≡ (length xs == 0) → is ≡ true → xs ≡ []
empty_if xs is told holds =
    let none : length xs ≡ 0 = grind (arith, nat_tests, told, holds) in
    nil_from_length xs none

-- what is left where more than the first bytes go
pub drop_past : (xs ys : List ℕ) (n : ℕ) → length xs ≤ n → drop n (xs ++ ys) ≡ drop (n - length xs) ys
drop_past xs ys n le = ap (λ (k : ℕ). drop k (xs ++ ys)) (omega (arith, le)) ∙ drop-append-add xs ys (n - length xs)

-- where none is left to be sent
pub none_left : (n : ℕ) (xs : List ℕ) → n ≡ length xs → n ≤ 0 → xs ≡ []
none_left n xs is none = nil_from_length xs (omega (arith, is, none))
