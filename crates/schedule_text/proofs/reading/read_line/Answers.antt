use Rattle.std.proofs.Common.{◌≡◌, ℕ, List, sym, ap, ◌∙◌, codes, true, false}
use Rattle.std.specs.Str.{bytes_eq}
use Rattle.schedule_text.specs.declared.line.KeyStep.{KeyStep}
use Rattle.schedule_text.specs.declared.line.KeyStep.TheVariants.{Reap, Copy}
use Rattle.schedule_text.specs.Lines.{gate_word, key_word}
use Rattle.schedule_text.proofs.LineOperands.{whole_line, same_text, no_word}
use Rattle.schedule_text.proofs.reading.read_line.Goals as goal

pub returns-then-is_ask : goal.returns-then-is_ask
returns-then-is_ask c =
    let word = c.in-Some.word.now in
    let is : true ≡ bytes_eq word (codes "ask") = sym c.if-is_ask.true ∙ c.eq-is_ask.ensures ∙ ap (bytes_eq word) c.as_slice.ensures in
    record {
      reads =
          whole_line c.args.workers c.args.text.now word c.in-Some.operands.now (codes "ask") c.read_ask.result c.in-Some.ensures
          (same_text word (codes "ask") is) c.read_ask.ensures;
    }

pub returns-then-is_reap : goal.returns-then-is_reap
returns-then-is_reap c =
    let word = c.in-Some.word.now in
    let is : true ≡ bytes_eq word (codes "reap") = sym c.if-is_reap.true ∙ c.eq-is_reap.ensures ∙ ap (bytes_eq word) c.as_slice-2.ensures in
    record {
      reads =
          whole_line c.args.workers c.args.text.now word c.in-Some.operands.now (codes "reap") c.read_keyed.result c.in-Some.ensures
          (same_text word (codes "reap") is) c.read_keyed.ensures;
    }

pub returns-then-is_copy : goal.returns-then-is_copy
returns-then-is_copy c =
    let word = c.in-Some.word.now in
    let is : true ≡ bytes_eq word (codes "copy") = sym c.if-is_copy.true ∙ c.eq-is_copy.ensures ∙ ap (bytes_eq word) c.as_slice-3.ensures in
    record {
      reads =
          whole_line c.args.workers c.args.text.now word c.in-Some.operands.now (codes "copy") c.read_keyed-then-is_copy.result c.in-Some.ensures
          (same_text word (codes "copy") is) c.read_keyed-then-is_copy.ensures;
    }

pub returns-then-is_divert : goal.returns-then-is_divert
returns-then-is_divert c =
    let word = c.in-Some.word.now in
    let is : true ≡ bytes_eq word (codes "divert") = sym c.if-is_divert.true ∙ c.eq-is_divert.ensures ∙ ap (bytes_eq word) c.as_slice-4.ensures in
    record {
      reads =
          whole_line c.args.workers c.args.text.now word c.in-Some.operands.now (codes "divert") c.read_divert.result c.in-Some.ensures
          (same_text word (codes "divert") is) (c.read_divert.ensures c.args.workers);
    }

pub returns-then-is_close : goal.returns-then-is_close
returns-then-is_close c =
    let word = c.in-Some.word.now in
    let is : true ≡ bytes_eq word (codes "close") = sym c.if-is_close.true ∙ c.eq-is_close.ensures ∙ ap (bytes_eq word) c.as_slice-5.ensures in
    record {
      reads =
          whole_line c.args.workers c.args.text.now word c.in-Some.operands.now (codes "close") c.read_close.result c.in-Some.ensures
          (same_text word (codes "close") is) c.read_close.ensures;
    }

pub returns-in-Some-named : goal.returns-in-Some-named
returns-in-Some-named c = record {
  reads =
      whole_line c.args.workers c.args.text.now c.in-Some.word.now c.in-Some.operands.now (gate_word c.in-Some-named.step) c.read_gate_step.result
      c.in-Some.ensures (sym c.in-Some-named.ensures) c.read_gate_step.ensures;
}

pub returns-in-None : goal.returns-in-None
returns-in-None c =
    let word = c.in-Some.word.now in
    let other : bytes_eq word (codes "ask") ≡ false = sym (c.eq-is_ask.ensures ∙ ap (bytes_eq word) c.as_slice.ensures) ∙ c.if-is_ask.false in
    let another : bytes_eq word (codes "reap") ≡ false = sym (c.eq-is_reap.ensures ∙ ap (bytes_eq word) c.as_slice-2.ensures) ∙ c.if-is_reap.false in
    let copied : bytes_eq word (codes "copy") ≡ false = sym (c.eq-is_copy.ensures ∙ ap (bytes_eq word) c.as_slice-3.ensures) ∙ c.if-is_copy.false in
    let third : bytes_eq word (codes "divert") ≡ false = sym (c.eq-is_divert.ensures ∙ ap (bytes_eq word) c.as_slice-4.ensures) ∙ c.if-is_divert.false in
    let fourth : bytes_eq word (codes "close") ≡ false = sym (c.eq-is_close.ensures ∙ ap (bytes_eq word) c.as_slice-5.ensures) ∙ c.if-is_close.false in
    record {
      reads =
          no_word c.args.workers c.args.text.now word c.in-Some.operands.now c.in-Some.ensures c.in-None.ensures other (both word another copied) third
          fourth;
    }
  where
    both : (word : List ℕ) → bytes_eq word (codes "reap") ≡ false → bytes_eq word (codes "copy") ≡ false → (step : KeyStep) → bytes_eq word (key_word step) ≡ false
    both word reap copy Reap = reap
    both word reap copy Copy = copy
