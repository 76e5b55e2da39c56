-- A command that is ready, and what finishing it leaves.
use Rattle.std.proofs.Common.{◌≡◌, ℕ, refl, sym, ◌∙◌, ap, subst}
use Rattle.std.specs.Prelude.{◌≢◌, List, Option, Some, None, option_map}
use Rattle.riak_msgs.specs.Contents.{Content}
use Rattle.riak_msgs.specs.declared.PutAsk.{PutAsk}
use Rattle.actor_epoch.specs.declared.Actor.{Actor}
use Rattle.actor_epoch.specs.declared.Dot.{Dot}
use Rattle.actor_epoch.specs.Given.{Context, Malformed, Pairs, context_of, pairs_read}
use Rattle.vnode_machine.specs.Machine.{State, actor_for}
use Rattle.sibling_register.specs.Answers.{AskPut}
use Rattle.sibling_register.specs.History.{Operation, Write}
use Rattle.vnode_machine.specs.Step.{Response, MachineOutcome, Accepted, Refused, outcome}
use Rattle.vnode_core.specs.declared.ask.Ask.{Ask}
use Rattle.vnode_core.specs.declared.ask.Ask.TheVariants.{Put, Del, Reap, ReapFirst, Copy, Close}
use Rattle.vnode_core.specs.declared.ask.Answer.{Answer}
use Rattle.vnode_core.specs.declared.ready.Ready.{Ready}
use Rattle.vnode_machine.specs.Sound.{IsSound}
use Rattle.vnode_core.specs.Plans.{View, AcceptsPrepared, IsAcceptedStep, AcceptsAsk, IsWrite, RegistersStep, Steps}
use Rattle.vnode_machine.specs.Asks.{put_command}
use Rattle.vnode_machine.specs.Replies.{put_reply}
use Rattle.clock_store.specs.declared.store.WriteKind.TheVariants.{Value}
use Rattle.clock_store.specs.Contents.{Contents, HasWriteRoom}
use Rattle.vnode_core.specs.declared.ask.Answer.TheVariants as answers
use Rattle.vnode_core.specs.declared.checks.Writer.{Writer}
use Rattle.clock_store.specs.Keys.{Keys}
use Rattle.vnode_core.specs.Vnodes.{IsOfForm, IsWriteReady, IsReadyFor, IsVnode, state_of, view_of, key_in, written_by, state_after, writes_after, tombstones_after, VnodeFields, fields, AcceptsPut}
use Rattle.vnode_core.specs.Checks.{writer_of}
use Rattle.vnode_core.proofs.Sound.{registers-step, sound-after}
use Rattle.vnode_core.proofs.Putting.{written-put, steps-put}
use Rattle.vnode_core.proofs.Deleting.{written-del, not-malformed}

pub record IsFinished (state : State Content) (ask : Ask) (answer : Answer) (after : State Content) : Type 0 where
  pub step : Steps state ask answer after
  pub register : RegistersStep state ask answer after
  pub sound : IsSound after

-- a vnode in which a command is ready
module _ (v : VnodeFields) (is : IsSound (state_of v)) (ask : Ask) (write : IsWrite ask) (r : IsWriteReady (state_of v) v.store v.ready ask write) (ready : Ready) (found : v.ready ≡ Some ready) where
  ready-is : ready ≡ record { writer = writer_of (state_of v) (key_in ask write); answer = r.answer }
  ready-is = let e : Some ready ≡ Some (record { writer = writer_of (state_of v) (key_in ask write); answer = r.answer }) = sym found ∙ r.made in cc

  abbrev after : (epochs writes tombstones : ℕ) → Keys → State Content
  after epochs writes tombstones keys = record (state_of v) { last_epoch = epochs; writes = writes; tombstones = tombstones; keys = keys }

  state-is : (epochs writes tombstones : ℕ) (keys : Keys) → epochs ≡ ready.writer.last_epoch → writes ≡ writes_after v.writes ask → tombstones ≡ tombstones_after v.tombstones ask
      → keys ≡ written_by v.store.keys ask ready.writer.actor → after epochs writes tombstones keys ≡ state_after (state_of v) ask
  state-is epochs writes tombstones keys e n m k = by ask write (e ∙ ap (λ (r : Ready). r.writer.last_epoch) ready-is) n m (k ∙ ap (λ (r : Ready). written_by v.store.keys ask r.writer.actor) ready-is) r.answer r.step
    where
      by : (ask : Ask) (write : IsWrite ask) → epochs ≡ (writer_of (state_of v) (key_in ask write)).last_epoch → writes ≡ writes_after v.writes ask → tombstones ≡ tombstones_after v.tombstones ask
          → keys ≡ written_by v.store.keys ask (actor_for (state_of v) (key_in ask write)) → (answer : Answer) → Steps (state_of v) ask answer (state_after (state_of v) ask)
          → after epochs writes tombstones keys ≡ state_after (state_of v) ask
      by (Put put) write e n m k answer step = λ i. after (e i) (n i) (m i) ((k ∙ written-put (state_of v) is put) i)
      by (Del del) write e n m k answer step =
          λ i. after (e i) (n i) (m i) ((k ∙ written-del (state_of v) del.key (context_of del.context) (not-malformed (state_of v) del answer _ step.1)) i)
      by (Reap key) write e n m k answer step = absurd write
      by (ReapFirst from) write e n m k answer step = absurd write
      by (Copy copy) write e n m k answer step = absurd write
      by (Close number) write e n m k answer step = absurd write

  finished-here : (after : State Content) → after ≡ state_after (state_of v) ask → IsFinished (state_of v) ask ready.answer after
  finished-here after leads =
      let step : Steps (state_of v) ask ready.answer after =
      subst (λ next. Steps (state_of v) ask ready.answer next) (sym leads) (subst (λ answer. Steps (state_of v) ask answer (state_after (state_of v) ask)) (sym (ap (λ (r : Ready). r.answer) ready-is)) r.step) in
      record { step = step; register = registers-step (state_of v) is ask ready.answer after step; sound = sound-after (state_of v) is ask ready.answer after step }

ready-write : (state : State Content) (store : Contents) (ready : Option Ready) (ask : Ask) (write : IsWrite ask) → IsReadyFor state store ready (Some ask) → IsWriteReady state store ready ask write
ready-write state store ready (Put put) write r = r
ready-write state store ready (Del del) write r = r
ready-write state store ready (Reap key) write r = absurd write
ready-write state store ready (ReapFirst from) write r = absurd write
ready-write state store ready (Copy copy) write r = absurd write
ready-write state store ready (Close number) write r = absurd write

-- the context of a write that the machine accepts is of the form
put-form : (state : State Content) (put : PutAsk) (reply : Response) (next : State Content)
    → outcome state (AskPut (put_command put)) ≡ Accepted (Write put.content) reply next → context_of put.context ≢ Some Malformed
put-form state put reply next step reads =
    let asked : Option Context → MachineOutcome = λ given. outcome state (AskPut (record (put_command put) { context = given })) in
    let refused : asked (Some Malformed) ≡ Refused 4 = refl in
    let both = sym refused ∙ ap asked (sym reads) ∙ step in
    cc

pub form-prepared : (v : VnodeFields) → IsVnode v → (ask : Ask) → IsWrite ask → v.prepared ≡ Some ask → IsOfForm ask
form-prepared v is ask write prepared =
    by ask write (ready-write (state_of v) v.store v.ready ask write (subst (IsReadyFor (state_of v) v.store v.ready) prepared is.ready))
  where
    by : (ask : Ask) (write : IsWrite ask) → IsWriteReady (state_of v) v.store v.ready ask write → IsOfForm ask
    by (Put put) write r = put-form (state_of v) put _ _ r.step.1.2
    by (Del del) write r = not-malformed (state_of v) del r.answer _ r.step.1
    by (Reap key) write r = absurd write
    by (ReapFirst from) write r = absurd write
    by (Copy copy) write r = absurd write
    by (Close number) write r = absurd write

-- as a caller sees it
pub finished : (v : VnodeFields) → IsVnode v → (seen : View) → view_of v ≡ seen → (ask : Ask) (write : IsWrite ask) → seen.prepared ≡ Some ask → (ready : Ready) → v.ready ≡ Some ready
    → (epochs writes tombstones : ℕ) (keys : Keys) → epochs ≡ ready.writer.last_epoch → writes ≡ writes_after v.writes ask → tombstones ≡ tombstones_after v.tombstones ask
    → keys ≡ written_by v.store.keys ask ready.writer.actor
    → IsFinished seen.state ask ready.answer (record (state_of v) { last_epoch = epochs; writes = writes; tombstones = tombstones; keys = keys })
finished v is seen sees ask write prepared ready found epochs writes tombstones keys e n m k =
    let was : v.prepared ≡ Some ask = ap (λ w. w.prepared) sees ∙ prepared in
    let r : IsWriteReady (state_of v) v.store v.ready ask write = ready-write (state_of v) v.store v.ready ask write (subst (IsReadyFor (state_of v) v.store v.ready) was is.ready) in
    let next : State Content = record (state_of v) { last_epoch = epochs; writes = writes; tombstones = tombstones; keys = keys } in
    let here = finished-here v is.sound ask write r ready found next (state-is v is.sound ask write r ready found epochs writes tombstones keys e n m k) in
    subst (λ (w : View). IsFinished w.state ask ready.answer next) sees here

-- by another name of the answer
pub answered-as : (state : State Content) (ask : Ask) (answer told : Answer) (after : State Content) → told ≡ answer → IsFinished state ask answer after → IsFinished state ask told after
answered-as state ask answer told after same f = subst (λ a. IsFinished state ask a after) (sym same) f

accepted-step : (outcome : MachineOutcome) (operation : Operation Content) (response : Response) (next : State Content) → outcome ≡ Accepted operation response next → IsAcceptedStep outcome
accepted-step outcome operation response next h = subst IsAcceptedStep (sym h) tt

ready-accepted : (state : State Content) (store : Contents) (ready : Option Ready) (ask : Ask) → IsReadyFor state store ready (Some ask) → AcceptsAsk state ask
ready-accepted state store ready (Put put) r = (r.step.0, accepted-step _ _ _ _ r.step.1.2)
ready-accepted state store ready (Del del) r = (r.step.0, accepted-step _ _ _ _ r.step.1.1)
ready-accepted state store ready (Reap key) r = r
ready-accepted state store ready (ReapFirst from) r = r
ready-accepted state store ready (Copy copy) r = r.0
ready-accepted state store ready (Close number) r = r

-- what is prepared the machine accepts
pub accepts-prepared : (v : VnodeFields) → IsVnode v → AcceptsPrepared (view_of v)
accepts-prepared v is ask prepared = ready-accepted (state_of v) v.store v.ready ask (subst (IsReadyFor (state_of v) v.store v.ready) prepared is.ready)

read-pairs : (seen : Option (List Dot)) → pairs_read (option_map Pairs seen) ≡ seen
read-pairs None = refl
read-pairs (Some pairs) = refl

-- a vnode in which a put that it accepts has room, and its answer is made, is one in which it is ready
pub put-ready : (v : VnodeFields) → IsSound (state_of v) → (seen : View) → view_of v ≡ seen → v.closed ≡ None → (put : PutAsk) (made : Ready) → AcceptsPut seen.state put made
    → (pairs : Option (List Dot)) → context_of put.context ≡ option_map Pairs pairs
    → (store : Contents) → store.keys ≡ v.store.keys → HasWriteRoom store put.key pairs made.writer.actor Value
    → (ready : Option Ready) → ready ≡ Some made → (prepared : Option Ask) → prepared ≡ Some (Put put)
    → IsVnode (fields v.id v.epochs v.writes v.tombstones v.reaps store ready prepared v.closed)
put-ready v is seen sees opened put made gives pairs given store same room ready r prepared p =
    let here : AcceptsPut (state_of v) put made = subst (λ (w : View). AcceptsPut w.state put made) (sym sees) gives in
    let next : State Content = record (state_of v) { keys = store.keys } in
    let stays : state_of v ≡ next = λ i. record (state_of v) { keys = sym same i } in
    let actor = ap (λ (w : Writer). w.actor) here.writer in
    let now : IsWriteReady (state_of v) store (Some made) (Put put) tt = record {
      answer = answers.Put (put_reply (state_after (state_of v) (Put put)) (put_command put));
      step = (opened, (put_reply (state_after (state_of v) (Put put)) (put_command put), refl, steps-put (state_of v) is put here.free));
      room =
          subst (λ ps. HasWriteRoom store put.key ps (actor_for (state_of v) put.key) Value) (sym (ap pairs_read given ∙ read-pairs pairs))
          (subst (λ (own : Actor). HasWriteRoom store put.key pairs own Value) actor room);
      made = λ i. Some (record { writer = here.writer i; answer = here.answer i });
    } in
    record {
      sound = subst IsSound stays is;
      ready =
          subst (IsReadyFor next store ready) (sym p)
          (subst (λ o. IsReadyFor next store o (Some (Put put))) (sym r) (subst (λ (s : State Content). IsWriteReady s store (Some made) (Put put) tt) stays now));
    }
