-- What a run of feeds and takes leaves.
use Rattle.std.proofs.Common.{◌≡◌, ℕ, ◌^◌, ◌<◌, List, [], ◌∷◌, ◌++◌, sym, ap, subst, ◌∙◌, append_assoc, arith, append-nil}
use Rattle.std.proofs.lemmas.List.Elements.{All-nil, All-cons}
use Rattle.std.specs.List.{flat_map, All}
use Rattle.pb_frame.specs.declared.fault.FrameFault.{FrameFault}
use Rattle.pb_frame.specs.declared.fault.FrameFault.TheVariants.{Empty, TooLarge, NoMemory}
use Rattle.pb_frame.specs.Message.{frame, FitsLimit, IsShort, IsBadLength, IsPartial, IsFaulty, Splits, IsFaultyStream}
use Rattle.pb_frame.specs.Stream.{Stream, opening}
use Rattle.pb_frame.specs.Taking.{IsOut, IsRefused}
use Rattle.pb_frame.specs.Run.{FramerEvent, fed, taken, Ran, fed_bytes, taken_messages}
use Rattle.pb_frame.proofs.Headers.{one_reading}

-- what a run makes of a framer: what was fed is what was taken, and what is left
pub record IsRun (old : Stream) (events : List FramerEvent) (new : Stream) : Type 0 where
  pub limit : new.limit ≡ old.limit
  pub bytes : old.rest ++ fed_bytes events ≡ flat_map frame (taken_messages events) ++ new.rest
  pub each : All (FitsLimit old.limit) (taken_messages events)

-- each run does so
pub run_of : (events : List FramerEvent) (old new : Stream) → Ran old events new → IsRun old events new
run_of [] old new p = record {
  limit = ap (λ (s : Stream). s.limit) p;
  bytes = append-nil old.rest ∙ ap (λ (s : Stream). s.rest) (sym p);
  each = All-nil (FitsLimit old.limit);
}
run_of (fed piece ∷ events) old new p =
    let next = run_of events (record old { rest = old.rest ++ piece }) new p in record {
      limit = next.limit;
      bytes = sym (append_assoc old.rest piece (fed_bytes events)) ∙ next.bytes;
      each = next.each;
    }
run_of (taken m ∷ events) old new p =
    let mid = p.0 in
    let next = run_of events mid new p.2 in
    let same : mid.limit ≡ old.limit = ap (λ (s : Stream). s.limit) p.1.stream in
    let others : All (FitsLimit old.limit) (taken_messages events) = subst (λ (n : ℕ). All (FitsLimit n) (taken_messages events)) same next.each in record {
      limit = next.limit ∙ same;
      bytes = ap (λ (t : List ℕ). t ++ fed_bytes events) p.1.front ∙ append_assoc (frame m) mid.rest (fed_bytes events) ∙ ap (λ (t : List ℕ). frame m ++ t) next.bytes ∙ sym (append_assoc (frame m) (flat_map frame (taken_messages events)) new.rest);
      each = All-cons (FitsLimit old.limit) m (taken_messages events) p.1.within others;
    }

-- less than a whole frame has no bad length
short_not_bad : (limit : ℕ) (rest : List ℕ) (fault : FrameFault) → IsShort limit rest → IsBadLength limit rest fault → ⊥
short_not_bad limit rest Empty short bad = let p = short bad.0 in omega (arith, p.0, bad.1)
short_not_bad limit rest TooLarge short bad = let p = short bad.0 in omega (arith, p.1, bad.1)
short_not_bad limit rest NoMemory short bad = bad

-- where none is left, all were taken, and the stream isn't faulty
pub all_taken : (limit : ℕ) → limit < 2 ^ 32 → (events : List FramerEvent) (old new : Stream) → Ran (opening limit) events old → IsOut old new
    → Splits limit (fed_bytes events) (taken_messages events) new.rest
    × ((fault : FrameFault) → IsFaultyStream limit (fed_bytes events) fault → ⊥)
all_taken limit lt events old new p out =
    let run = run_of events (opening limit) old p in
    let rest : old.rest ≡ new.rest = ap (λ (s : Stream). s.rest) (sym out.stream) in
    let partial = subst (λ (n : ℕ). IsPartial n old.rest) run.limit out.partial in
    let splits : Splits limit (fed_bytes events) (taken_messages events) old.rest = record { whole = run.bytes; each = run.each; left = partial.left } in (
      subst (Splits limit (fed_bytes events) (taken_messages events)) rest splits,
      λ fault faulty.
          let same = one_reading limit lt (fed_bytes events) (taken_messages events) faulty.messages old.rest faulty.rest splits faulty.splits in
          short_not_bad limit old.rest fault partial.short (subst (λ (r : List ℕ). IsBadLength limit r fault) (sym same.1) faulty.faulty),
    )

-- after the fault of a bad length all were taken, and the stream is faulty
pub fault_behind : (limit : ℕ) (events : List FramerEvent) (old new : Stream) (fault : FrameFault) → Ran (opening limit) events old → IsRefused old fault new
    → Splits limit (fed_bytes events) (taken_messages events) new.rest × IsFaultyStream limit (fed_bytes events) fault
fault_behind limit events old new fault p refused =
    let run = run_of events (opening limit) old p in
    let rest : old.rest ≡ new.rest = ap (λ (s : Stream). s.rest) (sym refused.stream) in
    let faulty = subst (λ (n : ℕ). IsFaulty n old.rest fault) run.limit refused.faulty in
    let splits : Splits limit (fed_bytes events) (taken_messages events) old.rest = record { whole = run.bytes; each = run.each; left = faulty.left } in (
      subst (Splits limit (fed_bytes events) (taken_messages events)) rest splits,
      record { messages = taken_messages events; rest = old.rest; splits = splits; faulty = faulty.length },
    )
