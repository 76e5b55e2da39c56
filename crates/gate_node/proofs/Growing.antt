-- What a session over gates counts.
use Rattle.std.proofs.Common.{◌≡◌, ◌≤◌, ◌+◌, ◌∙◌, ℕ, List, [], ◌∷◌, refl, sym, ap, subst, arith, inl, inr}
use Rattle.std.specs.Prelude.{◌⊎◌, Bool, true, false, Option, Some, None, Result, Ok, Err}
use Rattle.node_session.specs.SessionLaws.{CodedMessage}
use Rattle.riak_msgs.specs.declared.GetAsk.{GetAsk}
use Rattle.riak_msgs.specs.declared.GetReply.{GetReply}
use Rattle.riak_msgs.specs.declared.PutReply.{PutReply}
use Rattle.riak_msgs.specs.Contents.{Content}
use Rattle.riak_msgs.specs.declared.Key.{Key}
use Rattle.riak_msgs.specs.declared.Text.{Text}
use Rattle.riak_msgs.specs.declared.Text.TheVariants as texts
use Rattle.riak_msgs.specs.declared.fault.MsgFault.{MsgFault}
use Rattle.riak_msgs.specs.declared.Request.{Request}
use Rattle.riak_msgs.specs.declared.Request.TheVariants as requests
use Rattle.riak_msgs.specs.declared.Reply.{Reply}
use Rattle.riak_msgs.specs.declared.Reply.TheVariants as replies
use Rattle.stats_book.specs.declared.totals.Totals.{Totals}
use Rattle.stats_book.specs.declared.quantity.Quantity.{Quantity}
use Rattle.stats_book.specs.declared.quantity.Quantity.TheVariants.{Gets, Puts, Deletes, Refusals, Reaps}
use Rattle.stats_book.specs.Counting.{raised, number_of, zeros}
use Rattle.vnode_machine.specs.Machine.{State}
use Rattle.vnode_machine.specs.Asks.{get_command}
use Rattle.vnode_machine.specs.Replies.{get_reply}
use Rattle.vnode_core.specs.declared.ask.Ask.{Ask}
use Rattle.vnode_core.specs.declared.ask.Ask.TheVariants as asks
use Rattle.vnode_core.specs.declared.ask.Answer.{Answer}
use Rattle.vnode_core.specs.declared.ask.Answer.TheVariants as answers
use Rattle.vnode_core.specs.Reaping.{Reaped}
use Rattle.vnode_core.specs.declared.event.VnodeEvent.TheVariants as events
use Rattle.vnode_core.specs.declared.entry.Entry.{Entry}
use Rattle.vnode_core.specs.declared.entry.Entry.TheVariants.{Command as Commanded, Copied, Closed}
use Rattle.vnode_core.specs.declared.refusal.Refusal.{Refusal}
use Rattle.vnode_core.specs.Events.{AsksReap, EntryAsks, AnsweredBy}
use Rattle.vnode_core.specs.Plans.{IsAnsweredUnchanged, IsWrite}
use Rattle.node_session.specs.Answers.{AnswersRead, AnswersInTurn, message_fault_text}
use Rattle.node_session.specs.PlainNodes.{partition_of}
use Rattle.vnode_core.specs.Replies.{answer_reply}
use Rattle.rw_gate.specs.declared.asking.AskOutcome.{AskOutcome}
use Rattle.rw_gate.specs.declared.asking.AskOutcome.TheVariants.{Made, Told, Moved, Full}
use Rattle.rw_gate.specs.declared.asking.AskOutcome.TheVariants as Outcomes
use Rattle.gate_node.specs.Asked.{Sight, Changes, ChangesOpen, GetsOpen, ComesOf, IsMadeBy, answer_quantity, get_quantity, outcome_quantity, outcome_reply, told_quantity}
use Rattle.gate_node.specs.Asked.{Gets as AnswersGet}
use Rattle.gate_node.specs.Gates.{Gates}
use Rattle.gate_node.specs.GateStep.{NodeOverGates, GateNodeStep, AnswersError, AtIndex, AtIndexFrom, AnswersAtPartition}
use Rattle.stats_book.specs.Counter.{Count, Counts, CountsReply, CountsAnswer}
use Rattle.gate_node.specs.Sessions.{reply_most, most_of, CountsUpTo}
use Rattle.stats_book.proofs.Raising.{raised_none}
use Rattle.gate_node.proofs.Keeping.{read-keeps}
use Rattle.gate_node.proofs.Unclosed.{gets_open}

-- how much of a quantity so many of another are
abbrev part : Quantity → ℕ → Quantity → ℕ
part q n quantity = number_of quantity (raised q n zeros)

raised-at : (q : Quantity) (n : ℕ) (quantity : Quantity) (t : Totals) → number_of quantity (raised q n t) ≡ number_of quantity t + part q n quantity
raised-at Gets n Gets t = omega arith
raised-at Gets n Puts t = omega arith
raised-at Gets n Deletes t = omega arith
raised-at Gets n Refusals t = omega arith
raised-at Gets n Reaps t = omega arith
raised-at Puts n Gets t = omega arith
raised-at Puts n Puts t = omega arith
raised-at Puts n Deletes t = omega arith
raised-at Puts n Refusals t = omega arith
raised-at Puts n Reaps t = omega arith
raised-at Deletes n Gets t = omega arith
raised-at Deletes n Puts t = omega arith
raised-at Deletes n Deletes t = omega arith
raised-at Deletes n Refusals t = omega arith
raised-at Deletes n Reaps t = omega arith
raised-at Refusals n Gets t = omega arith
raised-at Refusals n Puts t = omega arith
raised-at Refusals n Deletes t = omega arith
raised-at Refusals n Refusals t = omega arith
raised-at Refusals n Reaps t = omega arith
raised-at Reaps n Gets t = omega arith
raised-at Reaps n Puts t = omega arith
raised-at Reaps n Deletes t = omega arith
raised-at Reaps n Refusals t = omega arith
raised-at Reaps n Reaps t = omega arith

true-false : {b : Bool} → b ≡ true → b ≡ false → ⊥
true-false h k = cc

-- what a count comes to
counts-kept : (q : Quantity) (n : ℕ) (old new : Count) → Counts q n old new → (quantity : Quantity) → number_of quantity old.counted ≤ number_of quantity new.counted
counts-kept q n old new (inl is) quantity =
    let e : number_of quantity new.counted ≡ number_of quantity (raised q n old.counted) = ap (λ (c : Count). number_of quantity c.counted) is in
    let r = raised-at q n quantity old.counted in
    omega (arith, e, r)
counts-kept q n old new (inr full) quantity =
    let e : number_of quantity new.counted ≡ number_of quantity old.counted = ap (λ (c : Count). number_of quantity c.counted) full.1 in
    omega (arith, e)

counts-bound : (q : Quantity) (n : ℕ) (old new : Count) → Counts q n old new → (quantity : Quantity) → number_of quantity new.counted ≤ number_of quantity old.counted + part q n quantity
counts-bound q n old new (inl is) quantity =
    let e : number_of quantity new.counted ≡ number_of quantity (raised q n old.counted) = ap (λ (c : Count). number_of quantity c.counted) is in
    let r = raised-at q n quantity old.counted in
    omega (arith, e, r)
counts-bound q n old new (inr full) quantity =
    let e : number_of quantity new.counted ≡ number_of quantity old.counted = ap (λ (c : Count). number_of quantity c.counted) full.1 in
    omega (arith, e)

counts-exact : (q : Quantity) (n : ℕ) (old new : Count) → Counts q n old new → new.book_full ≡ false → (quantity : Quantity) → number_of quantity new.counted ≡ number_of quantity old.counted + part q n quantity
counts-exact q n old new (inl is) room quantity =
    let e : number_of quantity new.counted ≡ number_of quantity (raised q n old.counted) = ap (λ (c : Count). number_of quantity c.counted) is in
    e ∙ raised-at q n quantity old.counted
counts-exact q n old new (inr full) room quantity = absurd (true-false (ap (λ (c : Count). c.book_full) full.1) room)

counts-full : (q : Quantity) (n : ℕ) (old new : Count) → Counts q n old new → old.book_full ≡ true → new.book_full ≡ true
counts-full q n old new (inl is) full = ap (λ (c : Count). c.book_full) is ∙ full
counts-full q n old new (inr is) full = ap (λ (c : Count). c.book_full) is.1

counts-room : (q : Quantity) (n : ℕ) (old new : Count) → Counts q n old new → new.book_full ≡ false → old.book_full ≡ false
counts-room q n old new (inl is) room = sym (ap (λ (c : Count). c.book_full) is) ∙ room
counts-room q n old new (inr is) room = absurd (true-false (ap (λ (c : Count). c.book_full) is.1) room)

-- so much of one quantity and then of another
counts-up : (q r : Quantity) (m n : ℕ) (old mid new : Count) (most : Quantity → ℕ) → Counts q m old mid → Counts r n mid new
    → ((quantity : Quantity) → part q m quantity + part r n quantity ≤ most quantity) → part q m Gets + part r n Gets ≡ most Gets → part q m Puts + part r n Puts ≡ most Puts
    → CountsUpTo most old new
counts-up q r m n old mid new most one two within gets puts = record {
  kept = λ quantity. let a = counts-kept q m old mid one quantity in let b = counts-kept r n mid new two quantity in omega (arith, a, b);
  bound = λ quantity. let a = counts-bound q m old mid one quantity in let b = counts-bound r n mid new two quantity in let w = within quantity in omega (arith, a, b, w);
  gets = λ room. let a = counts-exact q m old mid one (counts-room r n mid new two room) Gets in let b = counts-exact r n mid new two room Gets in omega (arith, a, b, gets);
  puts = λ room. let a = counts-exact q m old mid one (counts-room r n mid new two room) Puts in let b = counts-exact r n mid new two room Puts in omega (arith, a, b, puts);
  full = λ full. counts-full r n mid new two (counts-full q m old mid one full);
}

not-full : (a b : Bool) → (a ≡ true → b ≡ true) → b ≡ false → a ≡ false
not-full true b full room = absurd (true-false (full refl) room)
not-full false b full room = refl

-- what a reply may be counted as
abbrev Fits : Reply → Option Quantity → Type 0
Fits (replies.Get reply) quantity = quantity ≡ Some Gets
Fits (replies.Put reply) quantity = quantity ≡ Some Puts
Fits replies.Del quantity = (quantity ≡ Some Deletes) ⊎ (quantity ≡ None)
Fits (replies.Error text) quantity = quantity ≡ Some Refusals
Fits replies.Ping quantity = ⊥

-- the state is shown by a get's reply, or by an error
get-fits : (r : GetReply) (A B C : Type 0) (t : Text) (reply : Reply) (quantity : Option Quantity) → ((reply ≡ replies.Get r) × A) ⊎ (B × ((reply ≡ replies.Error t) × C)) → quantity ≡ Some (get_quantity reply) → Fits reply quantity
get-fits r A B C t reply quantity (inl is) counted = subst (λ (x : Reply). Fits x quantity) (sym is.0) (counted ∙ ap (λ (x : Reply). Some (get_quantity x)) is.0)
get-fits r A B C t reply quantity (inr (takes, is)) counted = subst (λ (x : Reply). Fits x quantity) (sym is.0) (counted ∙ ap (λ (x : Reply). Some (get_quantity x)) is.0)

gets-fit : (get : GetAsk) (old new : Sight) (reply : Reply) (quantity : Option Quantity) → AnswersGet get old new reply quantity → Fits reply quantity
gets-fit get old new reply quantity (inl said, counted) = get-fits (get_reply said.state (get_command get)) (said.state ≡ said.state) (Unit {0}) (said.state ≡ said.state) texts.NoMemory reply quantity said.says counted
gets-fit get old new reply quantity (inr moved, counted) = subst (λ (x : Reply). Fits x quantity) (sym moved.0) (counted ∙ ap (λ (x : Reply). Some (get_quantity x)) moved.0)

no-reap : (ask : Ask) → IsWrite ask → (key : Key) → AsksReap key ask → ⊥
no-reap (asks.Put put) write key h = h
no-reap (asks.Del del) write key h = h
no-reap (asks.Reap other) write key h = write
no-reap (asks.ReapFirst from) write key h = write
no-reap (asks.Copy copy) write key h = write
no-reap (asks.Close number) write key h = write

put-reaped : (reaped : Reaped) (reply : PutReply) → answers.Reaped reaped ≡ answers.Put reply → ⊥
put-reaped reaped reply h = cc

del-reaped : (reaped : Reaped) → answers.Reaped reaped ≡ answers.Del → ⊥
del-reaped reaped h = cc

copied-reaped : (reaped : Reaped) → answers.Reaped reaped ≡ answers.Copied → ⊥
copied-reaped reaped h = cc

closed-reaped : (reaped : Reaped) → answers.Reaped reaped ≡ answers.Closed → ⊥
closed-reaped reaped h = cc

made-no-reap : (ask : Ask) → IsWrite ask → (entry : Entry) (reaped : Reaped) → EntryAsks entry ask → AnsweredBy entry (answers.Reaped reaped) → ⊥
made-no-reap ask write (Commanded (events.Put put reply)) reaped asked answered = put-reaped reaped reply answered
made-no-reap ask write (Commanded (events.Del del)) reaped asked answered = del-reaped reaped answered
made-no-reap ask write (Commanded (events.Reap key)) reaped asked answered = no-reap ask write key asked
made-no-reap ask write (Copied copy) reaped asked answered = copied-reaped reaped answered
made-no-reap ask write (Closed number) reaped asked answered = closed-reaped reaped answered

-- what came of a write, and how it is counted
made-fits : (ask : Ask) → IsWrite ask → (old new : Sight) (answer : Answer) → IsMadeBy ask old new answer → Fits (answer_reply answer) (Some (answer_quantity answer))
made-fits ask write old new (answers.Put reply) made = refl
made-fits ask write old new answers.Del made = inl refl
made-fits ask write old new (answers.Reaped reaped) made = absurd (made-no-reap ask write made.event reaped made.asked made.answered)
made-fits ask write old new answers.Copied made = refl
made-fits ask write old new answers.Stuck made = refl
made-fits ask write old new answers.Closed made = refl

told-fits : (state : State Content) (ask : Ask) → IsWrite ask → (answer : Answer) → IsAnsweredUnchanged state ask answer → Fits (answer_reply answer) (told_quantity answer)
told-fits state ask write answer (inr (closed, is)) = subst (λ (a : Answer). Fits (answer_reply a) (told_quantity a)) (sym is) refl
told-fits state (asks.Put put) write answer (inl (opened, says)) = absurd says
told-fits state (asks.Del del) write answer (inl (opened, (is, step))) = subst (λ (a : Answer). Fits (answer_reply a) (told_quantity a)) (sym is) (inr refl)
told-fits state (asks.Reap key) write answer (inl h) = absurd write
told-fits state (asks.ReapFirst from) write answer (inl h) = absurd write
told-fits state (asks.Copy copy) write answer (inl h) = absurd write
told-fits state (asks.Close number) write answer (inl h) = absurd write

outcome-fits : (ask : Ask) → IsWrite ask → (old new : Sight) (outcome : AskOutcome Answer Refusal) → ComesOf ask old new outcome → Fits (outcome_reply outcome) (outcome_quantity outcome)
outcome-fits ask write old new (Made answer) comes = made-fits ask write old new answer comes
outcome-fits ask write old new (Told answer) comes = told-fits comes.state ask write answer comes.says
outcome-fits ask write old new (Outcomes.Refused refusal) comes = refl
outcome-fits ask write old new Moved comes = refl
outcome-fits ask write old new Full comes = refl

changes-fit : (ask : Ask) → IsWrite ask → (old new : Sight) (reply : Reply) (quantity : Option Quantity) → Changes ask old new reply quantity → Fits reply quantity
changes-fit ask write old new reply quantity c =
    subst (λ (x : Reply). Fits x quantity) (sym c.replied) (subst (λ q. Fits (outcome_reply c.outcome) q) (sym c.counted) (outcome-fits ask write old new c.outcome c.comes))

within-get : (budget reaps : ℕ) (reply : GetReply) → reaps ≤ budget → (quantity : Quantity) → part Gets 1 quantity + part Reaps reaps quantity ≤ reply_most budget quantity (replies.Get reply)
within-get budget reaps reply few Gets = omega (arith, few)
within-get budget reaps reply few Puts = omega (arith, few)
within-get budget reaps reply few Deletes = omega (arith, few)
within-get budget reaps reply few Refusals = omega (arith, few)
within-get budget reaps reply few Reaps = omega (arith, few)

within-put : (budget reaps : ℕ) (reply : PutReply) → reaps ≤ budget → (quantity : Quantity) → part Puts 1 quantity + part Reaps reaps quantity ≤ reply_most budget quantity (replies.Put reply)
within-put budget reaps reply few Gets = omega (arith, few)
within-put budget reaps reply few Puts = omega (arith, few)
within-put budget reaps reply few Deletes = omega (arith, few)
within-put budget reaps reply few Refusals = omega (arith, few)
within-put budget reaps reply few Reaps = omega (arith, few)

within-del : (budget reaps : ℕ) → reaps ≤ budget → (quantity : Quantity) → part Deletes 1 quantity + part Reaps reaps quantity ≤ reply_most budget quantity replies.Del
within-del budget reaps few Gets = omega (arith, few)
within-del budget reaps few Puts = omega (arith, few)
within-del budget reaps few Deletes = omega (arith, few)
within-del budget reaps few Refusals = omega (arith, few)
within-del budget reaps few Reaps = omega (arith, few)

within-error : (budget reaps : ℕ) (text : Text) → reaps ≤ budget → (quantity : Quantity) → part Refusals 1 quantity + part Reaps reaps quantity ≤ reply_most budget quantity (replies.Error text)
within-error budget reaps text few Gets = omega (arith, few)
within-error budget reaps text few Puts = omega (arith, few)
within-error budget reaps text few Deletes = omega (arith, few)
within-error budget reaps text few Refusals = omega (arith, few)
within-error budget reaps text few Reaps = omega (arith, few)

within-idle : (budget reaps : ℕ) → reaps ≤ budget → (quantity : Quantity) → part Gets 0 quantity + part Reaps reaps quantity ≤ reply_most budget quantity replies.Del
within-idle budget reaps few Gets = omega (arith, few)
within-idle budget reaps few Puts = omega (arith, few)
within-idle budget reaps few Deletes = omega (arith, few)
within-idle budget reaps few Refusals = omega (arith, few)
within-idle budget reaps few Reaps = omega (arith, few)

-- one reply and its reaps
one-counts : (budget reaps : ℕ) (reply : Reply) (quantity : Option Quantity) (old new : Count) → Fits reply quantity → reaps ≤ budget → CountsAnswer quantity reaps old new
    → CountsUpTo (λ q. reply_most budget q reply) old new
one-counts budget reaps (replies.Get reply) quantity old new fits few c =
    counts-up Gets Reaps 1 reaps old c.replied new (λ q. reply_most budget q (replies.Get reply)) (subst (λ q. CountsReply q old c.replied) fits c.reply) c.forgotten (within-get budget reaps reply few) (omega arith) (omega arith)
one-counts budget reaps (replies.Put reply) quantity old new fits few c =
    counts-up Puts Reaps 1 reaps old c.replied new (λ q. reply_most budget q (replies.Put reply)) (subst (λ q. CountsReply q old c.replied) fits c.reply) c.forgotten (within-put budget reaps reply few) (omega arith) (omega arith)
one-counts budget reaps (replies.Error text) quantity old new fits few c =
    counts-up Refusals Reaps 1 reaps old c.replied new (λ q. reply_most budget q (replies.Error text)) (subst (λ q. CountsReply q old c.replied) fits c.reply) c.forgotten (within-error budget reaps text few) (omega arith) (omega arith)
one-counts budget reaps replies.Del quantity old new (inl fits) few c =
    counts-up Deletes Reaps 1 reaps old c.replied new (λ q. reply_most budget q replies.Del) (subst (λ q. CountsReply q old c.replied) fits c.reply) c.forgotten (within-del budget reaps few) (omega arith) (omega arith)
one-counts budget reaps replies.Del quantity old new (inr fits) few c =
    let same : c.replied ≡ old = subst (λ q. CountsReply q old c.replied) fits c.reply in
    let none = raised_none Gets old.counted in
    let counts : Counts Gets 0 old c.replied = inl (same ∙ ap (λ t. record old { counted = t }) (sym none)) in
    counts-up Gets Reaps 0 reaps old c.replied new (λ q. reply_most budget q replies.Del) counts c.forgotten (within-idle budget reaps few) (omega arith) (omega arith)
one-counts budget reaps replies.Ping quantity old new fits few c = absurd fits

-- nothing is counted
none-counts : (most : Quantity → ℕ) (old : Count) → most Gets ≡ 0 → most Puts ≡ 0 → CountsUpTo most old old
none-counts most old gets puts = record {
  kept = λ quantity. omega arith;
  bound = λ quantity. omega arith;
  gets = λ room. omega (arith, gets);
  puts = λ room. omega (arith, puts);
  full = λ full. full;
}

abbrev CountsAs : NodeOverGates → Reply → NodeOverGates → Type 0
CountsAs old reply new = CountsUpTo (λ q. reply_most old.shared.budget q reply) old.count new.count

index-counts : (index : ℕ) (old : NodeOverGates) (reply : Reply) (new : NodeOverGates) (Says : Sight → Sight → Option Quantity → Type 0) → ((p q : Sight) (quantity : Option Quantity) → Says p q quantity → Fits reply quantity)
    → AtIndex index old new Says → CountsAs old reply new
index-counts index old reply new Says fits at =
    let few : at.reaps ≤ old.shared.budget = at.steps.reaps.few in
    subst (λ (n : NodeOverGates). CountsAs old reply n) (sym at.node)
    (one-counts old.shared.budget at.reaps reply at.quantity old.count at.count (fits at.before at.steps.answered at.quantity at.steps.answers) few at.counts)

text-counts : (text : Text) (old : NodeOverGates) (reply : Reply) (new : NodeOverGates) → AnswersError text old reply new → CountsAs old reply new
text-counts text old reply new answers =
    subst (λ (n : NodeOverGates). CountsAs old reply n) (sym answers.node)
    (one-counts old.shared.budget 0 reply (Some Refusals) old.count answers.count (subst (λ (r : Reply). Fits r (Some Refusals)) (sym answers.replied) refl) (omega arith) answers.counts)

-- a look counts nothing
module _ (index number : ℕ) (old : NodeOverGates) (reply : Reply) (new : NodeOverGates) (Answers : Sight → Sight → Reply → Option Quantity → Type 0)
    (fits : (p q : Sight) (quantity : Option Quantity) → Answers p q reply quantity → Fits reply quantity) where
  from-counts : AtIndexFrom index number old reply new Answers → CountsAs old reply new
  from-counts at =
      let looked : (at.looked.shared, at.looked.count) ≡ (old.shared, old.count) = ap (λ (n : NodeOverGates). (n.shared, n.count)) at.looks.node in
      let here : CountsAs at.looked reply new = elim at.answers [
        | inl far ↦ index-counts index at.looked reply new (λ p q. Answers p q reply) fits far.1
        | inr short ↦ text-counts texts.Moved at.looked reply new short.1
      ] in
      subst (λ (p : Gates × Count). CountsUpTo (λ q. reply_most p.0.budget q reply) p.1 new.count) looked here

at-counts : (index : ℕ) (old : NodeOverGates) (reply : Reply) (new : NodeOverGates) (Answers AnswersOpen : Sight → Sight → Reply → Option Quantity → Type 0)
    → ((p q : Sight) (quantity : Option Quantity) → Answers p q reply quantity → Fits reply quantity) → ((p q : Sight) (quantity : Option Quantity) → AnswersOpen p q reply quantity → Answers p q reply quantity)
    → AnswersAtPartition index old reply new Answers AnswersOpen → CountsAs old reply new
at-counts index old reply new Answers AnswersOpen fits opened (inl (none, at)) = index-counts index old reply new (λ p q. Answers p q reply) fits at
at-counts index old reply new Answers AnswersOpen fits opened (inr (inl (inr short))) = text-counts texts.NoMemory old reply new short
at-counts index old reply new Answers AnswersOpen fits opened (inr (inl (inl at))) =
    subst (λ (n : NodeOverGates). CountsAs old reply n) (sym at.node)
    (one-counts old.shared.budget 0 reply at.quantity old.count at.count (fits at.before at.after at.quantity (opened at.before at.after at.quantity at.answers)) (omega arith) at.counts)
at-counts index old reply new Answers AnswersOpen fits opened (inr (inr at)) =
    subst (λ (p : Gates × Count). CountsUpTo (λ q. reply_most p.0.budget q reply) p.1 new.count) (ap (λ (n : NodeOverGates). (n.shared, n.count)) at.closed.node)
    (from-counts index at.number at.found reply new Answers fits at.answers)

same-counts : (most : Quantity → ℕ) (old new : NodeOverGates) → new ≡ old → most Gets ≡ 0 → most Puts ≡ 0 → CountsUpTo most old.count new.count
same-counts most old new same gets puts = subst (λ (n : NodeOverGates). CountsUpTo most old.count n.count) (sym same) (none-counts most old.count gets puts)

step-counts : (old : NodeOverGates) (request : Request) (reply : Reply) (new : NodeOverGates) → GateNodeStep old request reply new → CountsUpTo (λ q. reply_most old.shared.budget q reply) old.count new.count
step-counts old requests.Ping reply new step =
    subst (λ (r : Reply). CountsUpTo (λ q. reply_most old.shared.budget q r) old.count new.count) (sym step.0) (same-counts (λ q. reply_most old.shared.budget q replies.Ping) old new step.1 refl refl)
step-counts old (requests.Get get) reply new step =
    at-counts (partition_of old.shared.index_bits get.key) old reply new (AnswersGet get) (GetsOpen get) (λ p q quantity. gets-fit get p q reply quantity) (λ p q quantity. gets_open get p q reply quantity) step
step-counts old (requests.Put put) reply new step =
    at-counts (partition_of old.shared.index_bits put.key) old reply new (Changes (asks.Put put)) (ChangesOpen (asks.Put put)) (λ p q quantity. changes-fit (asks.Put put) tt p q reply quantity) (λ p q quantity says. says.0) step
step-counts old (requests.Del del) reply new step =
    at-counts (partition_of old.shared.index_bits del.key) old reply new (Changes (asks.Del del)) (ChangesOpen (asks.Del del)) (λ p q quantity. changes-fit (asks.Del del) tt p q reply quantity) (λ p q quantity says. says.0) step

error-counts : (old new : NodeOverGates) (reply : Reply) (text : Text) → reply ≡ replies.Error text → new ≡ old → CountsUpTo (λ q. reply_most old.shared.budget q reply) old.count new.count
error-counts old new reply text is same =
    subst (λ (r : Reply). CountsUpTo (λ q. reply_most old.shared.budget q r) old.count new.count) (sym is) (same-counts (λ q. reply_most old.shared.budget q (replies.Error text)) old new same refl refl)

read-counts : (old : NodeOverGates) (said : Result Request MsgFault) (reply : Reply) (new : NodeOverGates) → AnswersRead GateNodeStep old said reply new → CountsUpTo (λ q. reply_most old.shared.budget q reply) old.count new.count
read-counts old (Ok request) reply new (inl step) = step-counts old request reply new step
read-counts old (Ok request) reply new (inr stays) = error-counts old new reply texts.NoMemory stays.0 stays.1
read-counts old (Err fault) reply new stays = error-counts old new reply (message_fault_text fault) stays.0 stays.1

-- one after another
both-count : (f g : Quantity → ℕ) (old mid new : Count) → CountsUpTo f old mid → CountsUpTo g mid new → CountsUpTo (λ q. f q + g q) old new
both-count f g old mid new one two =
    let room : new.book_full ≡ false → mid.book_full ≡ false = λ room. not-full mid.book_full new.book_full two.full room in
    record {
      kept = λ quantity. let a = one.kept quantity in let b = two.kept quantity in omega (arith, a, b);
      bound = λ quantity. let a = one.bound quantity in let b = two.bound quantity in omega (arith, a, b);
      gets = λ left. let a = one.gets (room left) in let b = two.gets left in omega (arith, a, b);
      puts = λ left. let a = one.puts (room left) in let b = two.puts left in omega (arith, a, b);
      full = λ full. two.full (one.full full);
    }

pub run-counts : (old : NodeOverGates) (messages : List CodedMessage) (replies : List Reply) (new : NodeOverGates) → AnswersInTurn GateNodeStep old messages replies new → CountsUpTo (most_of old.shared.budget replies) old.count new.count
run-counts old [] [] new run = same-counts (most_of old.shared.budget []) old new run refl refl
run-counts old [] (reply ∷ replies) new run = absurd run
run-counts old (message ∷ messages) [] new run = absurd run
run-counts old (message ∷ messages) (reply ∷ replies) new run =
    let here = read-counts old run.1.said reply run.0 run.1.answers in
    let shared = read-keeps old run.1.said reply run.0 run.1.answers in
    let rest = subst (λ (s : Gates). CountsUpTo (most_of s.budget replies) run.0.count new.count) shared (run-counts run.0 messages replies new run.2) in
    both-count (λ q. reply_most old.shared.budget q reply) (most_of old.shared.budget replies) old.count run.0.count new.count here rest
