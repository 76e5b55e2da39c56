-- The words of a line have no space, and tell the actions apart.
use Rattle.std.proofs.Common.{◌≡◌, ℕ, ◌<◌, ◌==◌, true, not, List, [], ◌∷◌, codes, refl, sym, ap, ◌∙◌, false, arith}
use Rattle.std.specs.Prelude.{decimal, ◌^◌, ◌≢◌}
use Rattle.std.specs.Str.{bytes_eq}
use Rattle.std.specs.Char.{digit_value}
use Rattle.std.specs.Str.Parse.{AllDigits}
use Rattle.std.proofs.lemmas.Fmt.{decimal_is_IsNumeral}
use Rattle.std.proofs.lemmas.Str.Parse.{digit_from_value}
use Rattle.schedule_text.specs.declared.line.Line.{Line}
use Rattle.schedule_text.specs.declared.line.Line.TheVariants.{By, Divert, Close}
use Rattle.schedule_text.specs.declared.line.LineAction.{LineAction}
use Rattle.schedule_text.specs.declared.line.LineAction.TheVariants.{Ask, Key as OfKey, Gate}
use Rattle.schedule_text.specs.declared.line.KeyStep.{KeyStep}
use Rattle.schedule_text.specs.declared.line.KeyStep.TheVariants.{Reap, Copy}
use Rattle.schedule_text.specs.declared.line.GateStep.{GateStep}
use Rattle.schedule_text.specs.declared.line.GateStep.TheVariants.{Enter, Leave, Mark, Unmark, Take, Put, Look, Publish}
use Rattle.schedule_text.specs.Cuts.{Lacks}
use Rattle.schedule_text.specs.Lines.{gate_word, key_word, action_word, word_of}

gate_word-lacks_space : (step : GateStep) → Lacks 32 (gate_word step)
gate_word-lacks_space Enter = refl
gate_word-lacks_space Leave = refl
gate_word-lacks_space Mark = refl
gate_word-lacks_space Unmark = refl
gate_word-lacks_space Take = refl
gate_word-lacks_space Put = refl
gate_word-lacks_space Look = refl
gate_word-lacks_space Publish = refl

action_word-lacks_space : (action : LineAction) → Lacks 32 (action_word action)
action_word-lacks_space (Ask request) = refl
action_word-lacks_space (OfKey Reap key) = refl
action_word-lacks_space (OfKey Copy key) = refl
action_word-lacks_space (Gate step) = gate_word-lacks_space step

pub word-lacks_space : (line : Line) → Lacks 32 (word_of line)
word-lacks_space (By worker action) = action_word-lacks_space action
word-lacks_space (Divert index) = refl
word-lacks_space (Close worker index) = refl

-- a digit isn't a space
not_space : (c : ℕ) → digit_value c < 10 → not (c == 32) ≡ true
not_space c is =
    let range = digit_from_value c is in
    grind (arith)

digits-lack_space : (ds : List ℕ) → AllDigits 10 ds → Lacks 32 ds
digits-lack_space [] all = refl
digits-lack_space (d ∷ ds) all = rw (not_space d all.0, digits-lack_space ds all.1) refl

pub decimal-lacks_space : (n : ℕ) → n < 2 ^ 64 → Lacks 32 (decimal n)
decimal-lacks_space n small = digits-lack_space (decimal n) (decimal_is_IsNumeral n small).0.1

-- the word of a gate's step is neither `ask` nor `reap` nor `copy` nor `divert` nor `close`
other_than : (a b : List ℕ) → bytes_eq a b ≡ false → bytes_eq b b ≡ true → a ≢ b
other_than a b unlike same e =
    let yes : bytes_eq a b ≡ true = ap (λ x. bytes_eq x b) e ∙ same in
    cc (sym yes ∙ unlike)

pub gate_word-not_ask : (step : GateStep) → gate_word step ≢ codes "ask"
gate_word-not_ask Enter = other_than (codes "enter") (codes "ask") refl refl
gate_word-not_ask Leave = other_than (codes "leave") (codes "ask") refl refl
gate_word-not_ask Mark = other_than (codes "mark") (codes "ask") refl refl
gate_word-not_ask Unmark = other_than (codes "unmark") (codes "ask") refl refl
gate_word-not_ask Take = other_than (codes "take") (codes "ask") refl refl
gate_word-not_ask Put = other_than (codes "put") (codes "ask") refl refl
gate_word-not_ask Look = other_than (codes "look") (codes "ask") refl refl
gate_word-not_ask Publish = other_than (codes "publish") (codes "ask") refl refl

pub gate_word-not_key : (step : GateStep) (other : KeyStep) → gate_word step ≢ key_word other
gate_word-not_key Enter Reap = other_than (codes "enter") (codes "reap") refl refl
gate_word-not_key Enter Copy = other_than (codes "enter") (codes "copy") refl refl
gate_word-not_key Leave Reap = other_than (codes "leave") (codes "reap") refl refl
gate_word-not_key Leave Copy = other_than (codes "leave") (codes "copy") refl refl
gate_word-not_key Mark Reap = other_than (codes "mark") (codes "reap") refl refl
gate_word-not_key Mark Copy = other_than (codes "mark") (codes "copy") refl refl
gate_word-not_key Unmark Reap = other_than (codes "unmark") (codes "reap") refl refl
gate_word-not_key Unmark Copy = other_than (codes "unmark") (codes "copy") refl refl
gate_word-not_key Take Reap = other_than (codes "take") (codes "reap") refl refl
gate_word-not_key Take Copy = other_than (codes "take") (codes "copy") refl refl
gate_word-not_key Put Reap = other_than (codes "put") (codes "reap") refl refl
gate_word-not_key Put Copy = other_than (codes "put") (codes "copy") refl refl
gate_word-not_key Look Reap = other_than (codes "look") (codes "reap") refl refl
gate_word-not_key Look Copy = other_than (codes "look") (codes "copy") refl refl
gate_word-not_key Publish Reap = other_than (codes "publish") (codes "reap") refl refl
gate_word-not_key Publish Copy = other_than (codes "publish") (codes "copy") refl refl

gate_word-not_divert : (step : GateStep) → gate_word step ≢ codes "divert"
gate_word-not_divert Enter = other_than (codes "enter") (codes "divert") refl refl
gate_word-not_divert Leave = other_than (codes "leave") (codes "divert") refl refl
gate_word-not_divert Mark = other_than (codes "mark") (codes "divert") refl refl
gate_word-not_divert Unmark = other_than (codes "unmark") (codes "divert") refl refl
gate_word-not_divert Take = other_than (codes "take") (codes "divert") refl refl
gate_word-not_divert Put = other_than (codes "put") (codes "divert") refl refl
gate_word-not_divert Look = other_than (codes "look") (codes "divert") refl refl
gate_word-not_divert Publish = other_than (codes "publish") (codes "divert") refl refl

gate_word-not_close : (step : GateStep) → gate_word step ≢ codes "close"
gate_word-not_close Enter = other_than (codes "enter") (codes "close") refl refl
gate_word-not_close Leave = other_than (codes "leave") (codes "close") refl refl
gate_word-not_close Mark = other_than (codes "mark") (codes "close") refl refl
gate_word-not_close Unmark = other_than (codes "unmark") (codes "close") refl refl
gate_word-not_close Take = other_than (codes "take") (codes "close") refl refl
gate_word-not_close Put = other_than (codes "put") (codes "close") refl refl
gate_word-not_close Look = other_than (codes "look") (codes "close") refl refl
gate_word-not_close Publish = other_than (codes "publish") (codes "close") refl refl

-- the others are different
pub key_word-not_ask : (step : KeyStep) → key_word step ≢ codes "ask"
key_word-not_ask Reap = other_than (codes "reap") (codes "ask") refl refl
key_word-not_ask Copy = other_than (codes "copy") (codes "ask") refl refl

pub key_word-once : (a b : KeyStep) → key_word a ≡ key_word b → a ≡ b
key_word-once Reap Reap e = refl
key_word-once Reap Copy e = absurd (other_than (codes "reap") (codes "copy") refl refl e)
key_word-once Copy Reap e = absurd (other_than (codes "copy") (codes "reap") refl refl e)
key_word-once Copy Copy e = refl

-- and none names a partition
pub action_word-not_divert : (action : LineAction) → action_word action ≢ codes "divert"
action_word-not_divert (Ask request) = other_than (codes "ask") (codes "divert") refl refl
action_word-not_divert (OfKey Reap key) = other_than (codes "reap") (codes "divert") refl refl
action_word-not_divert (OfKey Copy key) = other_than (codes "copy") (codes "divert") refl refl
action_word-not_divert (Gate step) = gate_word-not_divert step

pub action_word-not_close : (action : LineAction) → action_word action ≢ codes "close"
action_word-not_close (Ask request) = other_than (codes "ask") (codes "close") refl refl
action_word-not_close (OfKey Reap key) = other_than (codes "reap") (codes "close") refl refl
action_word-not_close (OfKey Copy key) = other_than (codes "copy") (codes "close") refl refl
action_word-not_close (Gate step) = gate_word-not_close step

pub close-not_ask : codes "close" ≢ codes "ask"
close-not_ask = other_than (codes "close") (codes "ask") refl refl

pub close-not_key : (step : KeyStep) → codes "close" ≢ key_word step
close-not_key Reap = other_than (codes "close") (codes "reap") refl refl
close-not_key Copy = other_than (codes "close") (codes "copy") refl refl

pub close-not_divert : codes "close" ≢ codes "divert"
close-not_divert = other_than (codes "close") (codes "divert") refl refl

pub divert-not_ask : codes "divert" ≢ codes "ask"
divert-not_ask = other_than (codes "divert") (codes "ask") refl refl

pub divert-not_key : (step : KeyStep) → codes "divert" ≢ key_word step
divert-not_key Reap = other_than (codes "divert") (codes "reap") refl refl
divert-not_key Copy = other_than (codes "divert") (codes "copy") refl refl
