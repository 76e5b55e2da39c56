-- What comes of reading a line, and of reading its parts.
use Rattle.std.specs.Prelude.{◌≡◌, ◌≢◌, ◌⊎◌, ℕ, List, ◌∷◌, ◌++◌, ◌<◌, ◌^◌, Option, Some, None, Result, Ok, Err, codes, decimal}
use Rattle.hex.specs.Hex.{encode_lower, IsBytes}
use Rattle.riak_msgs.specs.declared.get.GetAsk.{GetAsk}
use Rattle.riak_msgs.specs.declared.request.Request.{Request}
use Rattle.riak_msgs.specs.declared.request.Request.TheVariants as requests
use Rattle.riak_msgs.specs.declared.fault.MsgFault.{MsgFault}
use Rattle.riak_msgs.specs.declared.fault.MsgFault.TheVariants as faults
use Rattle.schedule_text.specs.declared.line.Line.{Line}
use Rattle.schedule_text.specs.declared.line.Line.TheVariants.{By}
use Rattle.schedule_text.specs.declared.line.LineAction.TheVariants.{Key as OfKey}
use Rattle.schedule_text.specs.declared.line.KeyStep.{KeyStep}
use Rattle.schedule_text.specs.declared.fault.LineFault.{LineFault}
use Rattle.schedule_text.specs.declared.fault.LineFault.TheVariants.{BadStep, NoMemory}
use Rattle.schedule_text.specs.Lines.{key_word, word_of, operand_text, IsWorker, AsksFor, HasOperands, IsLine}

-- the number below 65,536 that a text writes in decimal without leading zeros
abbrev pub ReadsDecimal : List ℕ → Option ℕ → Type 0
ReadsDecimal text (Some number) = text ≡ decimal number
ReadsDecimal text None = (number : ℕ) → number < 2 ^ 16 → text ≢ decimal number

-- the worker whose number a text writes
abbrev pub ReadsWorker : ℕ → List ℕ → Option ℕ → Type 0
ReadsWorker workers text (Some worker) = (text ≡ decimal worker) × IsWorker workers worker
ReadsWorker workers text None = (worker : ℕ) → IsWorker workers worker → text ≢ decimal worker

-- the fault of a line whose message is refused
abbrev pub fault_of_message : MsgFault → LineFault
fault_of_message faults.UnknownCode = BadStep
fault_of_message faults.BadMessage = BadStep
fault_of_message faults.MissingField = BadStep
fault_of_message faults.EmptyName = BadStep
fault_of_message faults.NoKey = BadStep
fault_of_message faults.NoMemory = NoMemory

-- the operands of an ask, a reap or a copy, whatever their message says
pub record HasMessage (workers : ℕ) (text : List ℕ) : Type 0 where
  pub worker : ℕ
  pub message : List ℕ
  pub whole : text ≡ operand_text worker (Some message)
  pub is_worker : IsWorker workers worker
  pub bytes : IsBytes message

-- the word of an ask, a reap or a copy
abbrev pub IsAskWord : List ℕ → Type 0
IsAskWord word = (word ≡ codes "ask") ⊎ ((step : KeyStep) × (word ≡ key_word step))

-- a line of the form of an ask, a reap or a copy, whatever its message says
pub record IsOfAskForm (workers : ℕ) (text : List ℕ) : Type 0 where
  pub word : List ℕ
  pub operands : List ℕ
  pub is_word : IsAskWord word
  pub whole : text ≡ word ++ 32 ∷ operands
  pub stand : HasMessage workers operands

-- a line is read as what it asks for, and refused where it asks for nothing; want of memory is told of a line of the
-- form of an ask, a reap or a copy alone
abbrev pub ReadsLine : ℕ → List ℕ → Result Line LineFault → Type 0
ReadsLine workers text (Ok line) = IsLine workers text line
ReadsLine workers text (Err BadStep) = (line : Line) → ¬ (IsLine workers text line)
ReadsLine workers text (Err NoMemory) = IsOfAskForm workers text

-- the same of the text behind a word and its space
abbrev pub ReadsOperands : List ℕ → ℕ → List ℕ → Result Line LineFault → Type 0
ReadsOperands word workers text (Ok line) = (word_of line ≡ word) × HasOperands workers text line
ReadsOperands word workers text (Err BadStep) =
    (line : Line) → word_of line ≡ word → ¬ (HasOperands workers text line)
ReadsOperands word workers text (Err NoMemory) = IsAskWord word × HasMessage workers text

-- these operands name the worker, and carry the request
pub record Asks (workers : ℕ) (text : List ℕ) (worker : ℕ) (request : Request) : Type 0 where
  pub message : List ℕ
  pub whole : text ≡ operand_text worker (Some message)
  pub is_worker : IsWorker workers worker
  pub bytes : IsBytes message
  pub asks : AsksFor message request

-- the operands of an ask, a reap or a copy are read as what they ask, or refused
abbrev pub ReadsAsked : ℕ → List ℕ → Result (ℕ × Request) LineFault → Type 0
ReadsAsked workers text (Ok asked) = Asks workers text asked.0 asked.1
ReadsAsked workers text (Err BadStep) = (worker : ℕ) (request : Request) → ¬ (Asks workers text worker request)
ReadsAsked workers text (Err NoMemory) = HasMessage workers text

-- of a get a step with its key is made, and of another request none
abbrev pub MakesKeyed : KeyStep → ℕ → Request → Result Line LineFault → Type 0
MakesKeyed step worker request (Ok line) =
    (get : GetAsk) × (request ≡ requests.Get get) × (line ≡ By worker (OfKey step get.key))
MakesKeyed step worker request (Err fault) = (fault ≡ BadStep) × ((get : GetAsk) → request ≢ requests.Get get)

-- a message is read as the request that it asks for, or refused
abbrev pub ReadsMessage : List ℕ → Result Request LineFault → Type 0
ReadsMessage message (Ok request) = AsksFor message request
ReadsMessage message (Err BadStep) = (request : Request) → ¬ (AsksFor message request)
ReadsMessage message (Err NoMemory) = (request : Request) × AsksFor message request

-- the bytes that the text writes in lower-case hexadecimal
pub record IsHexOf (text message : List ℕ) : Type 0 where
  pub whole : text ≡ encode_lower message
  pub bytes : IsBytes message

-- hexadecimal is read as the bytes that it writes, or refused
abbrev pub ReadsHex : {V : Type 0} → (V → List ℕ) → List ℕ → Result V LineFault → Type 0
ReadsHex items text (Ok message) = IsHexOf text (items message)
ReadsHex items text (Err BadStep) = (message : List ℕ) → ¬ (IsHexOf text message)
ReadsHex items text (Err NoMemory) = (message : List ℕ) × IsHexOf text message

-- hexadecimal is read as the request that its bytes ask for, or refused
abbrev pub ReadsHexMessage : List ℕ → Result Request LineFault → Type 0
ReadsHexMessage text (Ok request) = (message : List ℕ) × IsHexOf text message × AsksFor message request
ReadsHexMessage text (Err BadStep) =
    (message : List ℕ) (request : Request) → IsHexOf text message → ¬ (AsksFor message request)
ReadsHexMessage text (Err NoMemory) = (message : List ℕ) × IsHexOf text message
