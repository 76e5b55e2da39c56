-- A line asks for one step.
use Rattle.std.proofs.Common.{◌≡◌, ℕ, ◌<◌, List, Option, Some, None, if◌then◌else◌, refl, sym, ap, subst, ◌∙◌, arith}
use Rattle.std.specs.Prelude.{◌^◌, decimal, codes}
use Rattle.std.specs.Str.{bytes_eq}
use Rattle.std.proofs.lemmas.List.{append-nil}
use Rattle.std.proofs.lemmas.Fmt.{decimal_injective}
use Rattle.hex.specs.Hex.{encode_lower}
use Rattle.riak_msgs.specs.declared.key.Key.{Key}
use Rattle.riak_msgs.specs.declared.get.GetAsk.{GetAsk}
use Rattle.riak_msgs.specs.declared.request.Request.{Request}
use Rattle.riak_msgs.specs.declared.request.Request.TheVariants as requests
use Rattle.schedule_text.specs.declared.line.Line.{Line}
use Rattle.schedule_text.specs.declared.line.Line.TheVariants.{By, Divert, Close}
use Rattle.schedule_text.specs.declared.line.LineAction.{LineAction}
use Rattle.schedule_text.specs.declared.line.LineAction.TheVariants.{Ask, Key as OfKey, Gate}
use Rattle.schedule_text.specs.declared.line.KeyStep.{KeyStep}
use Rattle.schedule_text.specs.declared.line.GateStep.{GateStep}
use Rattle.schedule_text.specs.declared.line.GateStep.TheVariants.{Enter, Leave, Mark, Unmark, Take, Put, Look, Publish}
use Rattle.schedule_text.specs.Cuts.{IsCut}
use Rattle.schedule_text.specs.Lines.{gate_word, key_word, action_word, word_of, operand_text, IsWorker, CarriesRequest, HasWorker, HasIndex, HasClose, HasOperands, IsLine}
use Rattle.schedule_text.specs.Reading.{Asks}
use Rattle.schedule_text.proofs.Cutting.{cut_once}
use Rattle.schedule_text.proofs.Words.{word-lacks_space, decimal-lacks_space, gate_word-not_ask, gate_word-not_key, key_word-not_ask, key_word-once, action_word-not_divert, action_word-not_close, close-not_divert}
use Rattle.schedule_text.proofs.LineOperands.{worker-small, operands_cut, asks_one, close_cut}

-- the step of a word
abbrev step_at : List ℕ → Option GateStep
step_at word =
    if bytes_eq word (codes "enter") then Some Enter
    else if bytes_eq word (codes "leave") then Some Leave
    else if bytes_eq word (codes "mark") then Some Mark
    else if bytes_eq word (codes "unmark") then Some Unmark
    else if bytes_eq word (codes "take") then Some Take
    else if bytes_eq word (codes "put") then Some Put
    else if bytes_eq word (codes "look") then Some Look
    else Some Publish

step_at-word : (step : GateStep) → step_at (gate_word step) ≡ Some step
step_at-word Enter = refl
step_at-word Leave = refl
step_at-word Mark = refl
step_at-word Unmark = refl
step_at-word Take = refl
step_at-word Put = refl
step_at-word Look = refl
step_at-word Publish = refl

-- the value of an option, or another
abbrev value_or : GateStep → Option GateStep → GateStep
value_or other None = other
value_or other (Some step) = step

-- a word is of one step
step_once : (s t : GateStep) → gate_word s ≡ gate_word t → s ≡ t
step_once s t word = ap (value_or s) (sym (step_at-word s) ∙ ap step_at word ∙ step_at-word t)

-- operands with a message name one worker
worker_once : (workers u v : ℕ) (text : List ℕ) (a b : Request) → workers < 2 ^ 16 → Asks workers text u a
    → Asks workers text v b → u ≡ v
worker_once workers u v text a b few x y =
    let su = worker-small workers u few x.is_worker in
    let sv = worker-small workers v few y.is_worker in
    let cut : IsCut 32 text (decimal u) (encode_lower x.message) = record { whole = x.whole; first = decimal-lacks_space u su } in
    decimal_injective u v su sv (operands_cut text (decimal u) (encode_lower x.message) y.message v cut sv y.whole).0

-- operands without a message are the worker's number
number_alone : (text : List ℕ) (worker : ℕ) (carried : Option (List ℕ)) → text ≡ operand_text worker carried → carried ≡ None
    → text ≡ decimal worker
number_alone text worker carried whole none = whole ∙ ap (operand_text worker) none ∙ append-nil (decimal worker)

-- the get of a request, or another
abbrev get_in : GetAsk → Request → GetAsk
get_in other requests.Ping = other
get_in other (requests.Get get) = get
get_in other (requests.Put put) = other
get_in other (requests.Del del) = other

-- what operands with a request ask
asks_carried : (workers worker : ℕ) (text : List ℕ) (carried : Option (List ℕ)) (request : Request)
    → text ≡ operand_text worker carried → IsWorker workers worker → CarriesRequest carried request
    → Asks workers text worker request
asks_carried workers worker text carried request whole is_worker carries = record {
  message = carries.message;
  whole = whole ∙ ap (operand_text worker) carries.is;
  is_worker = is_worker;
  bytes = carries.bytes;
  asks = carries.asks;
}

ask_once : (workers u v : ℕ) (text : List ℕ) (r s : Request) → workers < 2 ^ 16 → HasWorker workers text u (Ask r)
    → HasWorker workers text v (Ask s) → By u (Ask r) ≡ By v (Ask s)
ask_once workers u v text r s few x y =
    let left = asks_carried workers u text x.carried r x.whole x.is_worker x.carries in
    let right = asks_carried workers v text y.carried s y.whole y.is_worker y.carries in
    rw (worker_once workers u v text r s few left right, asks_one workers u v text r s few left right) refl

-- the get that a step with a key carries
keyed_get : (step : KeyStep) (workers worker : ℕ) (text : List ℕ) (key : Key) → HasWorker workers text worker (OfKey step key)
    → (get : GetAsk) × (get.key ≡ key) × Asks workers text worker (requests.Get get)
keyed_get step workers worker text key has = (
  has.carries.0,
  has.carries.1,
  asks_carried workers worker text has.carried (requests.Get has.carries.0) has.whole has.is_worker has.carries.2,
)

keyed_once : (workers u v : ℕ) (text : List ℕ) (a b : KeyStep) (k l : Key) → workers < 2 ^ 16 → key_word a ≡ key_word b → HasWorker workers text u (OfKey a k)
    → HasWorker workers text v (OfKey b l) → By u (OfKey a k) ≡ By v (OfKey b l)
keyed_once workers u v text a b k l few word x y =
    let left = keyed_get a workers u text k x in
    let right = keyed_get b workers v text l y in
    let one = asks_one workers u v text (requests.Get left.0) (requests.Get right.0) few left.2 right.2 in
    let get : left.0 ≡ right.0 = ap (get_in left.0) one in
    let key : k ≡ l = sym left.1 ∙ ap (λ g. g.key) get ∙ right.1 in
    rw (worker_once workers u v text (requests.Get left.0) (requests.Get right.0) few left.2 right.2, key, key_word-once a b word) refl

gate_once : (workers u v : ℕ) (text : List ℕ) (s t : GateStep) → workers < 2 ^ 16 → gate_word s ≡ gate_word t
    → HasWorker workers text u (Gate s) → HasWorker workers text v (Gate t)
    → By u (Gate s) ≡ By v (Gate t)
gate_once workers u v text s t few word x y =
    let left = number_alone text u x.carried x.whole x.carries in
    let right = number_alone text v y.carried y.whole y.carries in
    let one : u ≡ v = decimal_injective u v (worker-small workers u few x.is_worker) (worker-small workers v few y.is_worker) (sym left ∙ right) in
    rw (one, step_once s t word) refl

-- behind one word stand the operands of one step
action_once : (workers u v : ℕ) (text : List ℕ) (p q : LineAction) → workers < 2 ^ 16 → action_word p ≡ action_word q
    → HasWorker workers text u p → HasWorker workers text v q → By u p ≡ By v q
action_once workers u v text (Ask r) (Ask s) few word x y = ask_once workers u v text r s few x y
action_once workers u v text (Ask r) (OfKey b l) few word x y = absurd (key_word-not_ask b (sym word))
action_once workers u v text (Ask r) (Gate t) few word x y = absurd (gate_word-not_ask t (sym word))
action_once workers u v text (OfKey a k) (Ask s) few word x y = absurd (key_word-not_ask a word)
action_once workers u v text (OfKey a k) (OfKey b l) few word x y = keyed_once workers u v text a b k l few word x y
action_once workers u v text (OfKey a k) (Gate t) few word x y = absurd (gate_word-not_key t a (sym word))
action_once workers u v text (Gate s) (Ask r) few word x y = absurd (gate_word-not_ask s word)
action_once workers u v text (Gate s) (OfKey b l) few word x y = absurd (gate_word-not_key s b word)
action_once workers u v text (Gate s) (Gate t) few word x y = gate_once workers u v text s t few word x y

small_index : (index : ℕ) → index < 2 ^ 16 → index < 2 ^ 64
small_index index h = omega (arith, h)

index_once : (text : List ℕ) (i j : ℕ) → HasIndex text i → HasIndex text j → Divert i ≡ Divert j
index_once text i j x y = ap (λ n. Divert n) (decimal_injective i j (small_index i x.fits) (small_index j y.fits) (sym x.whole ∙ y.whole))

close_once : (workers u v i j : ℕ) (text : List ℕ) → workers < 2 ^ 16 → HasClose workers text u i → HasClose workers text v j
    → Close u i ≡ Close v j
close_once workers u v i j text few x y =
    let su = worker-small workers u few x.is_worker in
    let sv = worker-small workers v few y.is_worker in
    let cut : IsCut 32 text (decimal u) (decimal i) = record { whole = x.whole; first = decimal-lacks_space u su } in
    let parts = close_cut workers v j text (decimal u) (decimal i) few cut y in
    let worker : u ≡ v = decimal_injective u v su sv parts.0 in
    let index : i ≡ j = decimal_injective i j (small_index i x.fits) (small_index j y.fits) parts.1 in
    rw (worker, index) refl

-- behind one word stand the operands of one line
line_once : (workers : ℕ) (text : List ℕ) (a b : Line) → workers < 2 ^ 16 → word_of a ≡ word_of b
    → HasOperands workers text a → HasOperands workers text b → a ≡ b
line_once workers text (By u p) (By v q) few word x y = action_once workers u v text p q few word x y
line_once workers text (By u p) (Divert j) few word x y = absurd (action_word-not_divert p word)
line_once workers text (Divert i) (By v q) few word x y = absurd (action_word-not_divert q (sym word))
line_once workers text (By u p) (Close v j) few word x y = absurd (action_word-not_close p word)
line_once workers text (Divert i) (Divert j) few word x y = index_once text i j x y
line_once workers text (Divert i) (Close v j) few word x y = absurd (close-not_divert (sym word))
line_once workers text (Close u i) (By v q) few word x y = absurd (action_word-not_close q (sym word))
line_once workers text (Close u i) (Divert j) few word x y = absurd (close-not_divert word)
line_once workers text (Close u i) (Close v j) few word x y = close_once workers u v i j text few x y

pub one_step : (workers : ℕ) (text : List ℕ) (a b : Line) → workers < 2 ^ 16 → IsLine workers text a → IsLine workers text b
    → a ≡ b
one_step workers text a b few x y =
    let parts = cut_once 32 (word_of a) x.operands (word_of b) y.operands (word-lacks_space a) (word-lacks_space b) (sym x.whole ∙ y.whole) in
    line_once workers y.operands a b few parts.0 (subst (λ o. HasOperands workers o a) parts.1 x.stand) y.stand
