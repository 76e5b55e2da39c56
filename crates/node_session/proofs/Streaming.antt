-- What reads gave one after another, and what a writer took.
use Rattle.std.proofs.Common.{◌≡◌, ◌∙◌, ℕ, ◌+◌, ◌*◌, ◌≤◌, ◌<◌, List, [], ◌∷◌, ◌++◌, length, Option, refl, sym, ap, subst, append_assoc, append-nil, length-append, arith}
use Rattle.std.specs.Prelude.{None, Some, false, if◌then◌else◌}
use Rattle.std.specs.List.{flat_map}
use Rattle.std.specs.Io.KnownBytes.{Consumes, Keeps}
use Rattle.std.specs.declared.io.ErrorKind.{ErrorKind}
use Rattle.std.specs.declared.io.ErrorKind.TheVariants.{Interrupted}
use Rattle.std.proofs.KnownBytes.{Appends-kept, Appends-nil, Appends-trans, Consumes-nil, Consumes-trans, Keeps-refl, Keeps-trans}
use Rattle.std.proofs.lemmas.Grind.{div_ceil_times}
use Rattle.std.proofs.lemmas.List.Concat.{flat_map-append}
use Rattle.node_session.specs.declared.source.ReadNote.{ReadNote}
use Rattle.node_session.specs.declared.source.ReadNote.TheVariants.{Bytes, Failed}
use Rattle.node_session.specs.Session.{Given, LastFailed}
use Rattle.node_session.specs.Stages.{HasRead}
use Rattle.node_session.specs.Streams.{SourceView, TargetView, Adds, Gave, Holds, Took, IsLast, blocked, bytes_of, input_of, is_interrupted, reads_of, weight_of}

Adds-nil : (a : Option (List ReadNote)) → Adds a a []
Adds-nil None = tt
Adds-nil (Some noted) = sym (append-nil noted)

Adds-trans : (a b c : Option (List ReadNote)) (noted more : List ReadNote) → Adds a b noted → Adds b c more → Adds a c (noted ++ more)
Adds-trans None b c noted more p q = tt
Adds-trans (Some old) None c noted more p q = absurd p
Adds-trans (Some old) (Some mid) None noted more p q = absurd q
Adds-trans (Some old) (Some mid) (Some new) noted more p q = q ∙ ap (λ (l : List ReadNote). l ++ more) p ∙ append_assoc old noted more

pub Gave-nil : (a : SourceView) → Gave a a []
Gave-nil a = record { number = refl; read = Consumes-nil a.unread; heard = Adds-nil a.heard }

pub Gave-trans : (a b c : SourceView) (noted more : List ReadNote) → Gave a b noted → Gave b c more → Gave a c (noted ++ more)
Gave-trans a b c noted more p q = record {
  number = q.number ∙ p.number;
  read = subst (Consumes a.unread c.unread) (sym (flat_map-append bytes_of noted more)) (Consumes-trans a.unread b.unread c.unread (input_of noted) (input_of more) p.read q.read);
  heard = Adds-trans a.heard b.heard c.heard noted more p.heard q.heard;
}

pub Holds-refl : (a : TargetView) → Holds a a
Holds-refl a = record { number = refl; contents = Keeps-refl a.contents }

pub Holds-trans : (a b c : TargetView) → Holds a b → Holds b c → Holds a c
Holds-trans a b c p q = record { number = q.number ∙ p.number; contents = Keeps-trans a.contents b.contents c.contents p.contents q.contents }

pub Holds-took : (a b c : TargetView) (bytes : List ℕ) → Holds a b → Took b c bytes → Took a c bytes
Holds-took a b c bytes p q = record { number = q.number ∙ p.number; contents = Appends-trans a.contents b.contents c.contents [] bytes (Appends-kept a.contents a.contents b.contents [] (Appends-nil a.contents) p.contents) q.contents }

pub not_interrupted : (kind : ErrorKind) → (kind ≡ Interrupted → ⊥) → is_interrupted kind ≡ false
not_interrupted Interrupted not = absurd (not refl)
not_interrupted kind not = refl

-- what these reads count for, and those
pub reads-append : (noted more : List ReadNote) → reads_of (noted ++ more) ≡ reads_of noted + reads_of more
reads-append [] more = omega arith
reads-append (note ∷ noted) more =
    let ih = reads-append noted more in
    omega (arith, ih)

-- a read gives no more than it counts for
note_bound : (note : ReadNote) → length (bytes_of note) ≤ 4096 * weight_of note
note_bound (Bytes bytes) =
    let few = (div_ceil_times (length bytes) 4096 (omega arith)).0 in
    omega (arith, few)
note_bound (Failed kind) = omega arith

pub input_bound : (noted : List ReadNote) → length (input_of noted) ≤ 4096 * reads_of noted
input_bound [] = omega arith
input_bound (note ∷ noted) =
    let one = note_bound note in
    let ih = input_bound noted in
    let len : length (input_of (note ∷ noted)) ≡ length (bytes_of note) + length (input_of noted) = length-append (bytes_of note) (input_of noted) in
    omega (arith, len, one, ih)

-- so it is with a session
pub read_bound : (u u' : SourceView) (input : List ℕ) (made most : ℕ) → HasRead u u' input made most → length input ≤ 4096 * made
read_bound u u' input made most p =
    let len : length input ≡ length (input_of p.noted) = ap length p.is in
    let bound = input_bound p.noted in
    omega (arith, len, bound, p.counted)

pub read_nothing : (u : SourceView) (most : ℕ) → most ≤ 4294967296 → HasRead u u [] 0 most
read_nothing u most few = record { noted = []; gave = Gave-nil u; is = refl; counted = refl; within = omega arith; few = few }

-- one read more, by what it gave and what it counts for
abbrev pub read_more : (u u' u'' : SourceView) (input input' : List ℕ) (made made' most : ℕ) (note : ReadNote) → Gave u' u'' (note ∷ []) → input' ≡ input ++ bytes_of note → made' ≡ made + weight_of note → made' ≤ most → HasRead u u' input made most → HasRead u u'' input' made' most
read_more u u' u'' input input' made made' most note gave is counts more p =
    let all : input_of (p.noted ++ note ∷ []) ≡ input_of p.noted ++ (bytes_of note ++ []) = flat_map-append bytes_of p.noted (note ∷ []) in
    let sum : reads_of (p.noted ++ note ∷ []) ≡ reads_of p.noted + (weight_of note + 0) = reads-append p.noted (note ∷ []) in
    record {
      noted = p.noted ++ note ∷ [];
      gave = Gave-trans u u' u'' p.noted (note ∷ []) p.gave gave;
      is = is ∙ ap (λ (l : List ℕ). l ++ bytes_of note) p.is ∙ ap (λ (l : List ℕ). input_of p.noted ++ l) (sym (append-nil (bytes_of note))) ∙ sym all;
      counted = omega (arith, sum, counts, p.counted);
      within = more;
      few = p.few;
    }

-- one that would have had to wait gave nothing, and counts for nothing
pub read_blocked : (u u' u'' : SourceView) (input : List ℕ) (made most : ℕ) → Gave u' u'' (blocked ∷ []) → HasRead u u' input made most → HasRead u u'' input made most
read_blocked u u' u'' input made most gave p = read_more u u' u'' input input made made most blocked gave (sym (append-nil input)) (omega arith) p.within p

-- by what was read so something was given
pub given : (u u' : SourceView) (input : List ℕ) (made most : ℕ) (Serves : List ReadNote → Type 0) (p : HasRead u u' input made most) → Serves p.noted → Given u u' most Serves
given u u' input made most Serves p serves = record { noted = p.noted; gave = p.gave; within = omega (arith, p.counted, p.within); serves = serves }

-- and so for what follows from it
pub given_as : (u u' : SourceView) (most : ℕ) (Serves Serves' : List ReadNote → Type 0) → ((noted : List ReadNote) → Serves noted → Serves' noted) → Given u u' most Serves → Given u u' most Serves'
given_as u u' most Serves Serves' to p = record { noted = p.noted; gave = p.gave; within = p.within; serves = to p.noted p.serves }
