-- What a message asks for, and that it asks for one request.
use Rattle.std.proofs.Common.{◌≡◌, ℕ, List, ◌∷◌, Result, Ok, Err, sym, ap, ◌∙◌, subst}
use Rattle.riak_msgs.specs.declared.request.Request.{Request}
use Rattle.riak_msgs.specs.declared.fault.MsgFault.{MsgFault}
use Rattle.riak_msgs.specs.declared.fault.MsgFault.TheVariants as faults
use Rattle.riak_msgs.specs.Reading.{Decodes, Reads as ReadsRequest}
use Rattle.riak_msgs.proofs.RequestsOnce.{says_once}
use Rattle.schedule_text.specs.declared.fault.LineFault.{LineFault}
use Rattle.schedule_text.specs.declared.fault.LineFault.TheVariants.{BadStep, NoMemory}
use Rattle.schedule_text.specs.Lines.{IsStoreCode, AsksFor}
use Rattle.schedule_text.specs.Reading.{IsHexOf, ReadsMessage, ReadsHexMessage, fault_of_message}
use Rattle.schedule_text.proofs.Cutting.{head_or, behind}
use Rattle.schedule_text.proofs.Hexadecimal.{hex_once}

-- the code and the body of a message are its own
says_of_message : (message body : List ℕ) (code : ℕ) (request : Request) → message ≡ code ∷ body
    → AsksFor message request → Decodes code body (Ok request)
says_of_message message body code request whole asks =
    let same : asks.code ∷ asks.body ≡ code ∷ body = sym asks.whole ∙ whole in
    let e : asks.code ≡ code = ap (head_or 0) same in
    let f : asks.body ≡ body = ap behind same in
    subst (λ c. Decodes c body (Ok request)) e (subst (λ b. Decodes asks.code b (Ok request)) f asks.says)

-- the value of a result, or another
abbrev value_or : Request → Result Request MsgFault → Request
value_or other (Ok request) = request
value_or other (Err fault) = other

-- a message asks for one request
pub asks_once : (message : List ℕ) (a b : Request) → AsksFor message a → AsksFor message b → a ≡ b
asks_once message a b x y =
    let says = says_of_message message x.body x.code b x.whole y in
    ap (value_or a) (says_once x.code x.body (Ok a) (Ok b) x.says says)

-- a message that says a fault asks for nothing
says_fault : (message body : List ℕ) (code : ℕ) (fault : MsgFault) → message ≡ code ∷ body → Decodes code body (Err fault)
    → (request : Request) → ¬ (AsksFor message request)
says_fault message body code fault whole says request asks =
    let same : Err fault ≡ Ok request = says_once code body (Err fault) (Ok request) says (says_of_message message body code request whole asks) in
    cc same

-- what comes of a message whose code and body are refused
told : (message body : List ℕ) (code : ℕ) (fault : MsgFault) → message ≡ code ∷ body → IsStoreCode code
    → ReadsRequest code body (Err fault) → ReadsMessage message (Err (fault_of_message fault))
told message body code faults.UnknownCode whole stored reads = says_fault message body code faults.UnknownCode whole reads
told message body code faults.BadMessage whole stored reads = says_fault message body code faults.BadMessage whole reads
told message body code faults.MissingField whole stored reads = says_fault message body code faults.MissingField whole reads
told message body code faults.EmptyName whole stored reads = says_fault message body code faults.EmptyName whole reads
told message body code faults.NoKey whole stored reads = says_fault message body code faults.NoKey whole reads
told message body code faults.NoMemory whole stored reads =
    (reads.0, record { code = code; body = body; whole = whole; stored = stored; says = reads.1 })

pub refused : (message body : List ℕ) (code : ℕ) (fault : MsgFault) (line_fault : LineFault) → message ≡ code ∷ body
    → IsStoreCode code → ReadsRequest code body (Err fault) → line_fault ≡ fault_of_message fault
    → ReadsMessage message (Err line_fault)
refused message body code fault line_fault whole stored reads is =
    subst (λ f. ReadsMessage message (Err f)) (sym is) (told message body code fault whole stored reads)

-- what hexadecimal writes is read as its message is
pub message_read : (text message : List ℕ) (r : Result Request LineFault) → IsHexOf text message
    → ReadsMessage message r → ReadsHexMessage text r
message_read text message (Ok request) is reads = (message, is, reads)
message_read text message (Err BadStep) is reads = λ other request also asks.
    reads request (subst (λ m. AsksFor m request) (hex_once text other message also is) asks)
message_read text message (Err NoMemory) is reads = (message, is)
