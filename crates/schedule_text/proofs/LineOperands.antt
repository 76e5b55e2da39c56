-- The operands of a line, and what they ask for.
use Rattle.std.proofs.Common.{◌≡◌, ℕ, ◌<◌, List, ◌∷◌, ◌++◌, Some, None, Result, Ok, Err, codes, refl, sym, ap, ◌∙◌, subst, inl, inr, true, false, arith}
use Rattle.std.specs.Prelude.{◌^◌, ◌≢◌, decimal}
use Rattle.std.specs.Str.{bytes_eq}
use Rattle.std.proofs.lemmas.Slice.Eq.{bytes_eq-Decides}
use Rattle.hex.specs.Hex.{encode_lower}
use Rattle.riak_msgs.specs.declared.get.GetAsk.{GetAsk}
use Rattle.riak_msgs.specs.declared.request.Request.{Request}
use Rattle.riak_msgs.specs.declared.request.Request.TheVariants as requests
use Rattle.schedule_text.specs.declared.fault.LineFault.{LineFault}
use Rattle.schedule_text.specs.declared.fault.LineFault.TheVariants.{BadStep, NoMemory}
use Rattle.schedule_text.specs.declared.line.Line.{Line}
use Rattle.schedule_text.specs.declared.line.Line.TheVariants.{By, Divert, Close}
use Rattle.schedule_text.specs.declared.line.LineAction.{LineAction}
use Rattle.schedule_text.specs.declared.line.LineAction.TheVariants.{Ask, Key as OfKey, Gate}
use Rattle.schedule_text.specs.declared.line.KeyStep.{KeyStep}
use Rattle.schedule_text.specs.declared.line.GateStep.{GateStep}
use Rattle.schedule_text.specs.Cuts.{IsCut}
use Rattle.schedule_text.specs.Lines.{gate_word, key_word, action_word, word_of, operand_text, IsWorker, HasWorker, HasClose, HasOperands, IsLine}
use Rattle.schedule_text.specs.Reading.{ReadsLine, ReadsDecimal, ReadsOperands, Asks, ReadsAsked, MakesKeyed, ReadsHexMessage}
use Rattle.schedule_text.proofs.Cutting.{cut_once}
use Rattle.schedule_text.proofs.Words.{word-lacks_space, decimal-lacks_space, gate_word-not_ask, gate_word-not_key, key_word-not_ask, action_word-not_divert, action_word-not_close, divert-not_ask, divert-not_key, close-not_ask, close-not_key, close-not_divert}
use Rattle.schedule_text.proofs.Hexadecimal.{hex_once}
use Rattle.schedule_text.proofs.Messages.{asks_once}

-- a worker's number is small
pub worker-small : (workers worker : ℕ) → workers < 2 ^ 16 → IsWorker workers worker → worker < 2 ^ 64
worker-small workers worker few is =
    let top = is.1 in
    omega (arith, top)

-- operands with a message are cut into its number and its hexadecimal
pub operands_cut : (text number digits message : List ℕ) (worker : ℕ) → IsCut 32 text number digits → worker < 2 ^ 64
    → text ≡ operand_text worker (Some message) → (number ≡ decimal worker) × (digits ≡ encode_lower message)
operands_cut text number digits message worker cut small whole =
    cut_once 32 number digits (decimal worker) (encode_lower message) cut.first (decimal-lacks_space worker small)
    (sym cut.whole ∙ whole)

-- the number of operands with a message is the worker's
pub number_is : (workers worker : ℕ) (text number digits : List ℕ) (request : Request) → workers < 2 ^ 16
    → IsCut 32 text number digits → Asks workers text worker request → number ≡ decimal worker
number_is workers worker text number digits request few cut asks =
    (operands_cut text number digits asks.message worker cut (worker-small workers worker few asks.is_worker) asks.whole).0

-- operands are a number, a space and hexadecimal
whole_operands : (text number digits message : List ℕ) (worker : ℕ) → IsCut 32 text number digits → number ≡ decimal worker
    → digits ≡ encode_lower message → text ≡ operand_text worker (Some message)
whole_operands text number digits message worker cut is hex = cut.whole ∙ rw (is, hex) refl

pub asked_refused : (workers worker : ℕ) (text number digits : List ℕ) (fault : LineFault) → workers < 2 ^ 16
    → IsCut 32 text number digits → number ≡ decimal worker → IsWorker workers worker
    → ReadsHexMessage digits (Err fault) → ReadsAsked workers text (Err fault)
asked_refused workers worker text number digits BadStep few cut is is_worker reads = λ other request asks.
    let parts = operands_cut text number digits asks.message other cut (worker-small workers other few asks.is_worker) asks.whole in
    reads asks.message request (record { whole = parts.1; bytes = asks.bytes }) asks.asks
asked_refused workers worker text number digits NoMemory few cut is is_worker reads = record {
  worker = worker;
  message = reads.0;
  whole = whole_operands text number digits reads.0 worker cut is reads.1.whole;
  is_worker = is_worker;
  bytes = reads.1.bytes;
}

-- operands ask for one request
pub asks_one : (workers u v : ℕ) (text : List ℕ) (a b : Request) → workers < 2 ^ 16 → Asks workers text u a
    → Asks workers text v b → a ≡ b
asks_one workers u v text a b few x y =
    let small = worker-small workers u few x.is_worker in
    let cut : IsCut 32 text (decimal u) (encode_lower x.message) = record { whole = x.whole; first = decimal-lacks_space u small } in
    let parts = operands_cut text (decimal u) (encode_lower x.message) y.message v cut (worker-small workers v few y.is_worker) y.whole in
    let same : x.message ≡ y.message = hex_once (encode_lower x.message) x.message y.message
    (record { whole = refl; bytes = x.bytes }) (record { whole = parts.1; bytes = y.bytes }) in
    asks_once y.message a b (rw same at x.asks) y.asks

-- the operands of an ask ask for its request
ask_asks : (workers worker : ℕ) (text : List ℕ) (action : LineAction) → action_word action ≡ codes "ask"
    → HasWorker workers text worker action → (request : Request) × Asks workers text worker request
ask_asks workers worker text (Ask request) word has = (
  request,
  record {
    message = has.carries.message;
    whole = has.whole ∙ ap (operand_text worker) has.carries.is;
    is_worker = has.is_worker;
    bytes = has.carries.bytes;
    asks = has.carries.asks;
  },
)
ask_asks workers worker text (OfKey step key) word has = absurd (key_word-not_ask step word)
ask_asks workers worker text (Gate step) word has = absurd (gate_word-not_ask step word)

-- the operands of a step with a key ask for a get
keyed_asks : (kind : KeyStep) (workers worker : ℕ) (text : List ℕ) (action : LineAction) → action_word action ≡ key_word kind
    → HasWorker workers text worker action
    → (get : GetAsk) × Asks workers text worker (requests.Get get)
keyed_asks kind workers worker text (Ask request) word has = absurd (key_word-not_ask kind (sym word))
keyed_asks kind workers worker text (OfKey step key) word has = (
  has.carries.0,
  record {
    message = has.carries.2.message;
    whole = has.whole ∙ ap (operand_text worker) has.carries.2.is;
    is_worker = has.is_worker;
    bytes = has.carries.2.bytes;
    asks = has.carries.2.asks;
  },
)
keyed_asks kind workers worker text (Gate step) word has = absurd (gate_word-not_key step kind word)

-- a line that isn't one of an ask, where its operands ask for no request
no_ask : (workers : ℕ) (text : List ℕ) → ((worker : ℕ) (request : Request) → ¬ (Asks workers text worker request))
    → (line : Line) → word_of line ≡ codes "ask" → ¬ (HasOperands workers text line)
no_ask workers text reads (By worker action) word has =
    let asks = ask_asks workers worker text action word has in
    reads worker asks.0 asks.1
no_ask workers text reads (Divert index) word has = divert-not_ask word
no_ask workers text reads (Close worker index) word has = close-not_ask word

-- the same of a step with a key, where they ask for no get
no_keyed_line : (kind : KeyStep) (workers : ℕ) (text : List ℕ) → ((worker : ℕ) (get : GetAsk) → ¬ (Asks workers text worker (requests.Get get)))
    → (line : Line) → word_of line ≡ key_word kind → ¬ (HasOperands workers text line)
no_keyed_line kind workers text reads (By worker action) word has =
    let asks = keyed_asks kind workers worker text action word has in
    reads worker asks.0 asks.1
no_keyed_line kind workers text reads (Divert index) word has = divert-not_key kind word
no_keyed_line kind workers text reads (Close worker index) word has = close-not_key kind word

pub ask_refused : (workers : ℕ) (text : List ℕ) (fault : LineFault) → ReadsAsked workers text (Err fault)
    → ReadsOperands (codes "ask") workers text (Err fault)
ask_refused workers text BadStep reads = no_ask workers text reads
ask_refused workers text NoMemory reads = (inl refl, reads)

pub keyed_refused : (kind : KeyStep) (workers : ℕ) (text : List ℕ) (fault : LineFault) → ReadsAsked workers text (Err fault)
    → ReadsOperands (key_word kind) workers text (Err fault)
keyed_refused kind workers text BadStep reads = no_keyed_line kind workers text (λ worker get asks. reads worker (requests.Get get) asks)
keyed_refused kind workers text NoMemory reads = (inr (kind, refl), reads)

-- the line of a step with a key
keyed_line : (kind : KeyStep) (workers worker : ℕ) (text : List ℕ) (get : GetAsk) → Asks workers text worker (requests.Get get)
    → ReadsOperands (key_word kind) workers text (Ok (By worker (OfKey kind get.key)))
keyed_line kind workers worker text get asks = (
  refl,
  record {
    carried = Some asks.message;
    whole = asks.whole;
    is_worker = asks.is_worker;
    carries = (get, refl, record { message = asks.message; is = refl; bytes = asks.bytes; asks = asks.asks });
  },
)

-- a request that is no get makes none
no_keyed : (kind : KeyStep) (workers worker : ℕ) (text : List ℕ) (request : Request) → workers < 2 ^ 16 → Asks workers text worker request
    → ((get : GetAsk) → request ≢ requests.Get get) → ReadsOperands (key_word kind) workers text (Err BadStep)
no_keyed kind workers worker text request few asks other =
    no_keyed_line kind workers text (λ one get reaps. other get (asks_one workers worker one text request (requests.Get get) few asks reaps))

pub keyed_read : (kind : KeyStep) (workers worker : ℕ) (text : List ℕ) (request : Request) (r : Result Line LineFault) → workers < 2 ^ 16
    → Asks workers text worker request → MakesKeyed kind worker request r → ReadsOperands (key_word kind) workers text r
keyed_read kind workers worker text request (Ok line) few asks makes =
    let get = makes.0 in
    let asks_get : Asks workers text worker (requests.Get get) = subst (λ a. Asks workers text worker a) makes.1 asks in
    subst (λ l. ReadsOperands (key_word kind) workers text (Ok l)) (sym makes.2) (keyed_line kind workers worker text get asks_get)
keyed_read kind workers worker text request (Err fault) few asks makes =
    subst (λ f. ReadsOperands (key_word kind) workers text (Err f)) (sym makes.0) (no_keyed kind workers worker text request few asks makes.1)

-- a line is read as the operands behind its word are
pub whole_line : (workers : ℕ) (text word operands known : List ℕ) (r : Result Line LineFault) → IsCut 32 text word operands
    → word ≡ known → ReadsOperands known workers operands r → ReadsLine workers text r
whole_line workers text word operands known (Ok line) cut is reads = record {
  operands = operands;
  whole = cut.whole ∙ ap (λ w. w ++ 32 ∷ operands) (is ∙ sym reads.0);
  stand = reads.1;
}
whole_line workers text word operands known (Err BadStep) cut is reads = λ line has.
    let parts = cut_once 32 word operands (word_of line) has.operands cut.first (word-lacks_space line) (sym cut.whole ∙ has.whole) in
    reads line (sym parts.0 ∙ is) (subst (λ o. HasOperands workers o line) (sym parts.1) has.stand)
whole_line workers text word operands known (Err NoMemory) cut is reads = record {
  word = known;
  operands = operands;
  is_word = reads.0;
  whole = cut.whole ∙ ap (λ w. w ++ 32 ∷ operands) is;
  stand = reads.1;
}

-- two texts that are compared as equal are one
pub same_text : (a b : List ℕ) → true ≡ bytes_eq a b → a ≡ b
same_text a b e = (bytes_eq-Decides a b).0 (sym e)

-- an index is refused where the text writes none
pub divert_refused : (workers : ℕ) (text : List ℕ) → ReadsDecimal text None → ReadsOperands (codes "divert") workers text (Err BadStep)
divert_refused workers text none = λ line word has. by line word has
  where
    by : (line : Line) → word_of line ≡ codes "divert" → ¬ (HasOperands workers text line)
    by (By worker action) word has = action_word-not_divert action word
    by (Divert index) word has = none index has.fits has.whole
    by (Close worker index) word has = close-not_divert word

-- a worker's number and an index are cut at their space
pub close_cut : (workers worker index : ℕ) (text number digits : List ℕ) → workers < 2 ^ 16 → IsCut 32 text number digits
    → HasClose workers text worker index → (number ≡ decimal worker) × (digits ≡ decimal index)
close_cut workers worker index text number digits few cut has =
    cut_once 32 number digits (decimal worker) (decimal index) cut.first
    (decimal-lacks_space worker (worker-small workers worker few has.is_worker)) (sym cut.whole ∙ has.whole)

-- a close is refused where the text isn't of one
pub close_refused : (workers : ℕ) (text : List ℕ) → ((worker index : ℕ) → ¬ (HasClose workers text worker index))
    → ReadsOperands (codes "close") workers text (Err BadStep)
close_refused workers text none = λ line word has. by line word has
  where
    by : (line : Line) → word_of line ≡ codes "close" → ¬ (HasOperands workers text line)
    by (By worker action) word has = action_word-not_close action word
    by (Divert index) word has = close-not_divert (sym word)
    by (Close worker index) word has = none worker index has

-- the word of a line, where it isn't one of these
none_of : (line : Line) (word : List ℕ) → ((step : GateStep) → gate_word step ≢ word) → bytes_eq word (codes "ask") ≡ false
    → ((step : KeyStep) → bytes_eq word (key_word step) ≡ false) → bytes_eq word (codes "divert") ≡ false
    → bytes_eq word (codes "close") ≡ false → word_of line ≢ word
none_of (By worker (Ask request)) word gate ask keyed divert close e =
    let yes : bytes_eq word (codes "ask") ≡ true = (bytes_eq-Decides word (codes "ask")).1 (sym e) in
    cc (sym yes ∙ ask)
none_of (By worker (OfKey step key)) word gate ask keyed divert close e =
    let yes : bytes_eq word (key_word step) ≡ true = (bytes_eq-Decides word (key_word step)).1 (sym e) in
    cc (sym yes ∙ keyed step)
none_of (By worker (Gate step)) word gate ask keyed divert close e = gate step e
none_of (Divert index) word gate ask keyed divert close e =
    let yes : bytes_eq word (codes "divert") ≡ true = (bytes_eq-Decides word (codes "divert")).1 (sym e) in
    cc (sym yes ∙ divert)
none_of (Close worker index) word gate ask keyed divert close e =
    let yes : bytes_eq word (codes "close") ≡ true = (bytes_eq-Decides word (codes "close")).1 (sym e) in
    cc (sym yes ∙ close)

pub no_word : (workers : ℕ) (text word operands : List ℕ) → IsCut 32 text word operands
    → ((step : GateStep) → gate_word step ≢ word) → bytes_eq word (codes "ask") ≡ false
    → ((step : KeyStep) → bytes_eq word (key_word step) ≡ false) → bytes_eq word (codes "divert") ≡ false
    → bytes_eq word (codes "close") ≡ false → (line : Line) → ¬ (IsLine workers text line)
no_word workers text word operands cut gate ask keyed divert close line has =
    let parts = cut_once 32 word operands (word_of line) has.operands cut.first (word-lacks_space line) (sym cut.whole ∙ has.whole) in
    none_of line word gate ask keyed divert close (sym parts.0)
