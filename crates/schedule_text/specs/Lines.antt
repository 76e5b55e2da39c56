-- The text of a schedule's line, and the step that it asks for.
use Rattle.std.specs.Prelude.{◌≡◌, ◌<◌, ◌^◌, ◌≢◌, ◌≤◌, ◌⊎◌, ℕ, List, [], ◌∷◌, ◌++◌, Option, Some, None, Ok, codes, decimal}
use Rattle.hex.specs.Hex.{encode_lower, IsBytes}
use Rattle.riak_msgs.specs.declared.get.GetAsk.{GetAsk}
use Rattle.riak_msgs.specs.declared.request.Request.{Request}
use Rattle.riak_msgs.specs.declared.request.Request.TheVariants as requests
use Rattle.riak_msgs.specs.Reading.{Decodes}
use Rattle.schedule_text.specs.declared.line.Line.{Line}
use Rattle.schedule_text.specs.declared.line.Line.TheVariants.{By, Divert, Close}
use Rattle.schedule_text.specs.declared.line.LineAction.{LineAction}
use Rattle.schedule_text.specs.declared.line.LineAction.TheVariants.{Ask, Key as OfKey, Gate}
use Rattle.schedule_text.specs.declared.line.KeyStep.{KeyStep}
use Rattle.schedule_text.specs.declared.line.KeyStep.TheVariants.{Reap, Copy}
use Rattle.schedule_text.specs.declared.line.GateStep.{GateStep}
use Rattle.schedule_text.specs.declared.line.GateStep.TheVariants.{Enter, Leave, Mark, Unmark, Take, Put, Look, Publish}

-- the word of a gate's step
abbrev pub gate_word : GateStep → List ℕ
gate_word Enter = codes "enter"
gate_word Leave = codes "leave"
gate_word Mark = codes "mark"
gate_word Unmark = codes "unmark"
gate_word Take = codes "take"
gate_word Put = codes "put"
gate_word Look = codes "look"
gate_word Publish = codes "publish"

-- the step of this word, and none where no step has it
abbrev pub NamesStep : List ℕ → Option GateStep → Type 0
NamesStep word (Some step) = gate_word step ≡ word
NamesStep word None = (step : GateStep) → gate_word step ≢ word

-- the same of the steps that take the state out, see it, change it and put it back
abbrev pub NamesInnerStep : List ℕ → Option GateStep → Type 0
NamesInnerStep word (Some step) = gate_word step ≡ word
NamesInnerStep word None =
    (gate_word Take ≢ word) × (gate_word Put ≢ word) × (gate_word Look ≢ word) × (gate_word Publish ≢ word)

-- the word of a step with a key
abbrev pub key_word : KeyStep → List ℕ
key_word Reap = codes "reap"
key_word Copy = codes "copy"

-- the word of an action
abbrev pub action_word : LineAction → List ℕ
action_word (Ask request) = codes "ask"
action_word (OfKey step key) = key_word step
action_word (Gate step) = gate_word step

-- the word of a line
abbrev pub word_of : Line → List ℕ
word_of (By worker action) = action_word action
word_of (Divert index) = codes "divert"
word_of (Close worker index) = codes "close"

-- a space and a message in lower-case hexadecimal; nothing where there is no message
abbrev pub message_text : Option (List ℕ) → List ℕ
message_text None = []
message_text (Some message) = 32 ∷ encode_lower message

-- what stands behind a word and its space: the worker's number in decimal, and a message
abbrev pub operand_text : ℕ → Option (List ℕ) → List ℕ
operand_text worker message = decimal worker ++ message_text message

-- workers are numbered from 1
abbrev pub IsWorker : ℕ → ℕ → Type 0
IsWorker workers worker = (1 ≤ worker) × (worker ≤ workers)

-- the code of a get, a put or a delete
abbrev pub IsStoreCode : ℕ → Type 0
IsStoreCode code = (code ≡ 9) ⊎ ((code ≡ 11) ⊎ (code ≡ 13))

-- the message is a code of these and a body, which say the request
pub record AsksFor (message : List ℕ) (request : Request) : Type 0 where
  pub code : ℕ
  pub body : List ℕ
  pub whole : message ≡ code ∷ body
  pub stored : IsStoreCode code
  pub says : Decodes code body (Ok request)

-- a line's message says this request
pub record CarriesRequest (carried : Option (List ℕ)) (request : Request) : Type 0 where
  pub message : List ℕ
  pub is : carried ≡ Some message
  pub bytes : IsBytes message
  pub asks : AsksFor message request

-- an ask carries its request, a reap and a copy a get of its key, and a gate's step nothing
abbrev pub Carries : LineAction → Option (List ℕ) → Type 0
Carries (Ask request) carried = CarriesRequest carried request
Carries (OfKey step key) carried = (get : GetAsk) × (get.key ≡ key) × CarriesRequest carried (requests.Get get)
Carries (Gate step) carried = carried ≡ None

-- the text behind the word of what a worker does, and its space
pub record HasWorker (workers : ℕ) (text : List ℕ) (worker : ℕ) (action : LineAction) : Type 0 where
  pub carried : Option (List ℕ)
  pub whole : text ≡ operand_text worker carried
  pub is_worker : IsWorker workers worker
  pub carries : Carries action carried

-- the text is a partition's index in decimal, which has 16 bits
pub record HasIndex (text : List ℕ) (index : ℕ) : Type 0 where
  pub whole : text ≡ decimal index
  pub fits : index < 2 ^ 16

-- the text is a worker's number and a partition's index, which has 16 bits, in decimal, with a space between them
pub record HasClose (workers : ℕ) (text : List ℕ) (worker index : ℕ) : Type 0 where
  pub whole : text ≡ decimal worker ++ 32 ∷ decimal index
  pub is_worker : IsWorker workers worker
  pub fits : index < 2 ^ 16

-- the text behind a line's word and its space
abbrev pub HasOperands : ℕ → List ℕ → Line → Type 0
HasOperands workers text (By worker action) = HasWorker workers text worker action
HasOperands workers text (Divert index) = HasIndex text index
HasOperands workers text (Close worker index) = HasClose workers text worker index

-- the text asks for this line's step, where there are so many workers
pub record IsLine (workers : ℕ) (text : List ℕ) (line : Line) : Type 0 where
  pub operands : List ℕ
  pub whole : text ≡ word_of line ++ 32 ∷ operands
  pub stand : HasOperands workers operands line
