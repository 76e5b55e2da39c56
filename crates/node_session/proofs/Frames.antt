-- Frames at the front of what is left.
use Rattle.std.proofs.Common.{◌≡◌, ℕ, ◌+◌, ◌-◌, ◌<◌, ◌≤◌, List, [], ◌∷◌, ◌++◌, length, take, drop, refl, sym, ap, subst, ◌∙◌, append_assoc, append-nil, length-append, inl, inr, arith}
use Rattle.std.specs.List.{flat_map, All}
use Rattle.std.proofs.lemmas.Bool.{cases_lt}
use Rattle.std.proofs.lemmas.List.{take-append-le, take-append-drop, length-take-le, length-drop, map-append}
use Rattle.std.proofs.lemmas.List.Elements.{All-nil, All-cons, All-append}
use Rattle.std.proofs.lemmas.List.Concat.{flat_map-append}
use Rattle.std.proofs.Math.Seq.{take-append_seam}
use Rattle.pb_frame.specs.Limits.{max_request_len}
use Rattle.pb_frame.specs.Message.{CodedMessage, frame, FitsLimit, IsPartial}
use Rattle.node_session.specs.declared.exchange.Exchange.{Exchange}
use Rattle.pb_frame.proofs.Headers.{more_partial}
use Rattle.node_session.specs.Answered.{CameInLastRead}
use Rattle.node_session.specs.Views.{CanFollow, EndsInPiece, IsRead, message_of, messages_of}

-- a frame has a byte
pub some_frame : (m : CodedMessage) → 0 < length (frame m)
unfolding frame
some_frame m = omega arith

-- nothing is wrong with nothing
pub none_partial : IsPartial max_request_len []
none_partial = record {
  left = λ m more within e. absurd (omega (arith, ap length e ∙ length-append (frame m) more, some_frame m));
  short = λ long. absurd (omega (arith, long));
}

-- a frame at the front ends behind what has none
behind : (y piece more : List ℕ) (m : CodedMessage) → IsPartial max_request_len y → FitsLimit max_request_len m → y ++ piece ≡ frame m ++ more → length y < length (frame m)
behind y piece more m partial within e =
    let n = length (frame m) in
    elim (cases_lt (length y) n) [
      | inl lt ↦ lt
      | inr le ↦
          let front : take n y ≡ frame m = sym (take-append-le n y piece le) ∙ ap (take n) e ∙ take-append_seam (frame m) more in
          absurd (partial.left m (drop n y) within (sym (take-append-drop n y) ∙ ap (λ (t : List ℕ). t ++ drop n y) front))
    ]

-- what is left behind a frame came with the last piece
pub goes_on : (rest more : List ℕ) (m : CodedMessage) → EndsInPiece rest → FitsLimit max_request_len m → rest ≡ frame m ++ more → EndsInPiece more
goes_on rest more m last within e =
    let y = last.before in
    let piece = last.piece in
    let front : y ++ piece ≡ frame m ++ more = sym last.splits ∙ e in
    let ends = behind y piece more m last.partial within front in
    let len : length y + length piece ≡ length (frame m) + length more = sym (length-append y piece) ∙ ap length front ∙ length-append (frame m) more in
    let few : length piece ≤ 4096 = last.bound in
    record { before = []; piece = more; splits = refl; bound = omega (arith, ends, len, few); partial = none_partial }

-- fewer bytes may follow too
pub fewer_follow : (rest : List ℕ) (len fewer : ℕ) → fewer ≤ len → CanFollow rest len → CanFollow rest fewer
fewer_follow rest len fewer le (inl few) = inl (omega (arith, few, le))
fewer_follow rest len fewer le (inr fits) = inr (fits.0, omega (arith, fits.1, le))

-- what ends a session behind a piece came with its last bytes: nothing is wrong with what precedes these, and no whole frame stands there
pub came_after : (rest piece : List ℕ) → IsPartial max_request_len rest → CanFollow rest (length piece) → 0 < length piece → CameInLastRead (rest ++ piece)
came_after rest piece p (inl few) some = record { before = rest; piece = piece; splits = refl; some = some; bound = few; partial = p }
came_after rest piece p (inr fits) some =
    let n = length piece - 1 in
    let within : n ≤ length piece = omega arith in
    let most : length (take n piece) ≡ n = length-take-le n piece within in
    let last : length (drop n piece) ≡ length piece - n = length-drop n piece in
    record {
      before = rest ++ take n piece;
      piece = drop n piece;
      splits = ap (λ (t : List ℕ). rest ++ t) (sym (take-append-drop n piece)) ∙ sym (append_assoc rest (take n piece) (drop n piece));
      some = omega (arith, last, some);
      bound = omega (arith, last, some);
      partial = more_partial max_request_len rest (take n piece) (omega arith) p fits.0 (omega (arith, most, fits.1, some));
    }

-- what is left with a piece behind it ends in one
pub ends_after : (rest piece : List ℕ) → IsPartial max_request_len rest → CanFollow rest (length piece) → EndsInPiece (rest ++ piece)
ends_after rest piece p follows =
    elim (cases_lt 0 (length piece)) [
      | inl some ↦
          let c = came_after rest piece p follows some in
          record { before = c.before; piece = c.piece; splits = c.splits; bound = c.bound; partial = c.partial }
      | inr none ↦ record { before = rest; piece = piece; splits = refl; bound = omega (arith, none); partial = p }
    ]

-- one piece more
pub read_on : (input rest piece : List ℕ) (es : List Exchange) → IsRead input es rest → IsPartial max_request_len rest → CanFollow rest (length piece) → IsRead (input ++ piece) es (rest ++ piece)
read_on input rest piece es read p follows = record {
  stream = ap (λ (t : List ℕ). t ++ piece) read.stream ∙ append_assoc (flat_map frame (messages_of es)) rest piece;
  each = read.each;
  last = ends_after rest piece p follows;
}

-- one message more
pub read_more : (input rest more : List ℕ) (es : List Exchange) (x : Exchange) → IsRead input es rest → FitsLimit max_request_len (message_of x) → rest ≡ frame (message_of x) ++ more
    → IsRead input (es ++ x ∷ []) more
read_more input rest more es x p within e =
    let one = frame (message_of x) in
    let all = messages_of (es ++ x ∷ []) in
    let listed : all ≡ messages_of es ++ message_of x ∷ [] = map-append message_of es (x ∷ []) in
    let frames : flat_map frame all ≡ flat_map frame (messages_of es) ++ one =
    ap (flat_map frame) listed ∙ flat_map-append frame (messages_of es) (message_of x ∷ []) ∙ ap (λ (t : List ℕ). flat_map frame (messages_of es) ++ t) (append-nil one) in
    record {
      stream = p.stream ∙ ap (λ (t : List ℕ). flat_map frame (messages_of es) ++ t) e ∙ sym (append_assoc (flat_map frame (messages_of es)) one more) ∙ ap (λ (t : List ℕ). t ++ more) (sym frames);
      each = subst (λ (ms : List CodedMessage). All (FitsLimit max_request_len) ms) (sym listed) (All-append (FitsLimit max_request_len) (messages_of es) (message_of x ∷ []) p.each (All-cons (FitsLimit max_request_len) (message_of x) [] within (All-nil (FitsLimit max_request_len))));
      last = goes_on rest more (message_of x) p.last within e;
    }
