-- Copies that a pass published stay what they are.
use Rattle.std.proofs.Common.{◌≡◌, ◌∙◌, ◌+◌, ◌≤◌, ℕ, List, [], ◌∷◌, ◌++◌, length, length-append, refl, sym, ap, subst, arith}
use Rattle.std.specs.Prelude.{◌⊎◌, Option, Some, None, IfNone, IfOk, IfSome, IsSome, IsTrue, Result, Ok, Err, slice_get}
use Rattle.std.proofs.lemmas.List.{append-nil}
use Rattle.std.proofs.lemmas.List.Elements.{All-weaker, All-push}
use mathlib.Core.List.{IsPrefix}
use mathlib.Core.Logic.{inl, inr}
use Rattle.riak_msgs.specs.declared.Key.{Key}
use Rattle.riak_msgs.specs.Contents.{Content}
use Rattle.vnode_machine.specs.Copying.{is_stuck}
use Rattle.vnode_machine.specs.Machine.{State, Stored, stored}
use Rattle.vnode_core.specs.declared.ask.Answer.{Answer}
use Rattle.rw_gate.specs.Views.{GateId}
use Rattle.rw_gate.proofs.Prefixes.{prefix_length, prefix_trans}
use Rattle.vnode_core.specs.declared.ask.Ask.TheVariants as asks
use Rattle.vnode_core.specs.declared.entry.Entry.{Entry}
use Rattle.vnode_core.specs.declared.entry.Entry.TheVariants as entries
use Rattle.vnode_core.specs.declared.event.VnodeEvent.TheVariants as events
use Rattle.vnode_core.specs.Events.{EntryAsks, commands_of}
use Rattle.vnode_core.specs.KeyCopies.{KeyCopyView}
use Rattle.vnode_core.specs.Plans.{IsAnsweredUnchanged, View}
use Rattle.ghost_state.proofs.Lists.{get-before, get-last}
use Rattle.handoff.specs.declared.copy_step.Step.{Step}
use Rattle.handoff.specs.declared.fault.Stop.{Stop}
use Rattle.handoff.specs.declared.copy_step.Step.TheVariants.{End, Passed, Made, Stuck}
use Rattle.handoff.specs.Copying.{IsCopyOf, HasCopyAt, AreCopies, CopiesOne, IsStuckOf, RiseBetween, WereTried}
use Rattle.handoff.specs.Sights.{Sight, LeadsVnodeTo, ShowsState}
use Rattle.handoff.specs.Steps.{CopiesOrStays}

pub get_prefix : {A : Type 0} (xs ys : List A) (k : ℕ) (x : A) → IsPrefix xs ys → slice_get xs k ≡ Some x → slice_get ys k ≡ Some x
get_prefix xs ys k x p at = subst (λ zs. slice_get zs k ≡ Some x) p.1 (get-before xs p.0 k x at)

copy-more : (n : ℕ) (theirs theirs' : Sight) (entry : Entry) → theirs'.gate ≡ theirs.gate → IsPrefix theirs.prefix theirs'.prefix → IsCopyOf n theirs entry → IsCopyOf n theirs' entry
copy-more n theirs theirs' entry gate more copy = record {
  copy = copy.copy;
  is = copy.is;
  number = copy.number;
  prefix = copy.prefix;
  begins = prefix_trans copy.prefix theirs.prefix theirs'.prefix copy.begins more;
  commands = copy.commands;
  state = copy.state;
  leads = subst (λ (g : GateId View). LeadsVnodeTo g copy.prefix copy.state) (sym gate) copy.leads;
  unclosed = copy.unclosed;
  there = copy.there;
  held = copy.held;
  clock = copy.clock;
}

-- what a fallback holds of a key, as it is asked to be copied
pub held-copy : (n : ℕ) (theirs : Sight) (from : State Content) (copy : KeyCopyView) (there : Stored Content) → ShowsState theirs from → from.closed ≡ None → copy.diversion ≡ n
    → copy.prefix ≡ commands_of theirs.prefix → stored from copy.key ≡ Some there → copy.clock ≡ there.clock → IsCopyOf n theirs (entries.Copied copy)
held-copy n theirs from copy there shows unclosed number commands held clock = record {
  copy = copy;
  is = refl;
  number = number;
  prefix = theirs.prefix;
  begins = ([], append-nil theirs.prefix);
  commands = commands;
  state = from;
  leads = shows;
  unclosed = unclosed;
  there = there;
  held = held;
  clock = clock;
}

-- a copy that was told unchanged is stuck, or the primary is closed
pub told-stuck : (state : State Content) (copy : KeyCopyView) (answer : Answer) → IsAnsweredUnchanged state (asks.Copy copy) answer
    → IsTrue (is_stuck state copy.key copy.clock) ⊎ IsSome state.closed
told-stuck state copy answer (inl (opened, (is, stuck))) = inl stuck
told-stuck state copy answer (inr (closed, is)) = inr closed

-- where both passes see more
stuck-more : (n : ℕ) (mine mine' theirs theirs' : Sight) (copy : KeyCopyView) → mine'.gate ≡ mine.gate → IsPrefix mine.prefix mine'.prefix → theirs'.gate ≡ theirs.gate
    → IsPrefix theirs.prefix theirs'.prefix → IsStuckOf n mine theirs copy → IsStuckOf n mine' theirs' copy
stuck-more n mine mine' theirs theirs' copy here_gate here gate there is = record {
  of_fallback = copy-more n theirs theirs' (entries.Copied copy) gate there is.of_fallback;
  prefix = is.prefix;
  begins = prefix_trans is.prefix mine.prefix mine'.prefix is.begins here;
  state = is.state;
  leads = subst (λ (g : GateId View). LeadsVnodeTo g is.prefix is.state) (sym here_gate) is.leads;
  stuck = is.stuck;
}

pub tried-more : (n : ℕ) (mine mine' theirs theirs' : Sight) (copied tried : ℕ) → mine'.gate ≡ mine.gate → IsPrefix mine.prefix mine'.prefix → theirs'.gate ≡ theirs.gate
    → IsPrefix theirs.prefix theirs'.prefix → WereTried n mine theirs copied tried → WereTried n mine' theirs' copied tried
tried-more n mine mine' theirs theirs' copied tried here_gate here gate there all = record {
  copies = all.copies;
  counted = all.counted;
  stuck = All-weaker (IsStuckOf n mine theirs) (IsStuckOf n mine' theirs') (λ copy is. stuck-more n mine mine' theirs theirs' copy here_gate here gate there is) all.copies all.stuck;
}

-- one more was copied
pub tried-made : (n : ℕ) (mine theirs : Sight) (copied tried : ℕ) → WereTried n mine theirs copied tried → WereTried n mine theirs (copied + 1) (tried + 1)
tried-made n mine theirs copied tried all =
    let counted = all.counted in
    record { copies = all.copies; counted = omega (arith, counted); stuck = all.stuck }

-- one more was stuck
pub tried-stuck : (n : ℕ) (old mine theirs : Sight) (step : Step) (key : Key) (copied tried : ℕ) → step ≡ Stuck key → CopiesOrStays n old mine theirs step
    → WereTried n mine theirs copied tried → WereTried n mine theirs copied (tried + 1)
tried-stuck n old mine theirs step key copied tried is steps all =
    let one : CopiesOrStays n old mine theirs (Stuck key) = subst (λ s. CopiesOrStays n old mine theirs s) is steps in
    let counted = all.counted in
    let longer : length (all.copies ++ one.1 ∷ []) ≡ length all.copies + 1 = length-append all.copies (one.1 ∷ []) in
    record {
      copies = all.copies ++ one.1 ∷ [];
      counted = omega (arith, counted, longer);
      stuck = All-push (IsStuckOf n mine theirs) all.copies one.1 all.stuck one.2;
    }

pub copies-more : (n : ℕ) (mine mine' theirs theirs' : Sight) (positions : List ℕ) → IsPrefix mine.prefix mine'.prefix → theirs'.gate ≡ theirs.gate → IsPrefix theirs.prefix theirs'.prefix
    → AreCopies n mine theirs positions → AreCopies n mine' theirs' positions
copies-more n mine mine' theirs theirs' positions here gate there =
    All-weaker (HasCopyAt n mine theirs) (HasCopyAt n mine' theirs')
    (λ k has. record { entry = has.entry; stands = get_prefix mine.prefix mine'.prefix k has.entry here has.stands; copy = copy-more n theirs theirs' has.entry gate there has.copy }) positions

-- one copy more
copies-push : (n : ℕ) (old mine theirs theirs' : Sight) → theirs'.gate ≡ theirs.gate → IsPrefix theirs.prefix theirs'.prefix → AreCopies n old theirs old.own → CopiesOne n old mine theirs'
    → AreCopies n mine theirs' mine.own
copies-push n old mine theirs theirs' gate there all one =
    let grown : IsPrefix old.prefix mine.prefix = prefix_trans old.prefix one.position mine.prefix one.begins (one.entry ∷ [], sym one.seen) in
    let last : HasCopyAt n mine theirs' (length one.position) = record {
      entry = one.entry;
      stands = subst (λ zs. slice_get zs (length one.position) ≡ Some one.entry) (sym one.seen) (get-last one.position one.entry);
      copy = one.copy;
    } in
    subst (λ (ks : List ℕ). AreCopies n mine theirs' ks) (sym one.own)
    (All-push (HasCopyAt n mine theirs') old.own (length one.position) (copies-more n old mine theirs theirs' old.own grown gate there all) last)

-- the same where nothing was published
same-copies : (n : ℕ) (old mine theirs theirs' : Sight) → theirs'.gate ≡ theirs.gate → IsPrefix theirs.prefix theirs'.prefix → IsPrefix old.prefix mine.prefix
    → AreCopies n old theirs old.own → mine.own ≡ old.own → AreCopies n mine theirs' mine.own
same-copies n old mine theirs theirs' gate there here all own =
    subst (λ (ks : List ℕ). AreCopies n mine theirs' ks) (sym own) (copies-more n old mine theirs theirs' old.own here gate there all)

pub step-copies : (n : ℕ) (old mine theirs theirs' : Sight) (step : Step) → theirs'.gate ≡ theirs.gate → IsPrefix theirs.prefix theirs'.prefix → IsPrefix old.prefix mine.prefix
    → AreCopies n old theirs old.own → CopiesOrStays n old mine theirs' step → AreCopies n mine theirs' mine.own
step-copies n old mine theirs theirs' End gate there here all own = same-copies n old mine theirs theirs' gate there here all own
step-copies n old mine theirs theirs' (Passed key) gate there here all own = same-copies n old mine theirs theirs' gate there here all own
step-copies n old mine theirs theirs' (Stuck key) gate there here all own = same-copies n old mine theirs theirs' gate there here all own.0
step-copies n old mine theirs theirs' (Made key) gate there here all one = copies-push n old mine theirs theirs' gate there all one

pub made-length : (n : ℕ) (old mine theirs : Sight) (step : Step) (key : Key) → step ≡ Made key → CopiesOrStays n old mine theirs step → length mine.own ≡ length old.own + 1
made-length n old mine theirs step key is steps =
    let one : CopiesOne n old mine theirs = subst (λ s. CopiesOrStays n old mine theirs s) is steps in
    ap length one.own ∙ length-append old.own (length one.position ∷ [])

-- a step behind a look in which nothing was published
later-step : (n : ℕ) (old mid mine theirs : Sight) (step : Step) → IsPrefix old.prefix mid.prefix → mid.own ≡ old.own → CopiesOrStays n mid mine theirs step → CopiesOrStays n old mine theirs step
later-step n old mid mine theirs End more same steps = steps ∙ same
later-step n old mid mine theirs (Passed key) more same steps = steps ∙ same
later-step n old mid mine theirs (Stuck key) more same steps = (steps.0 ∙ same, steps.1, steps.2)
later-step n old mid mine theirs (Made key) more same one = record {
  position = one.position;
  entry = one.entry;
  begins = prefix_trans old.prefix mid.prefix one.position more one.begins;
  seen = one.seen;
  own = one.own ∙ ap (λ ks. ks ++ length one.position ∷ []) same;
  copy = one.copy;
}

pub later-steps : (n : ℕ) (old mid mine theirs : Sight) (result : Result Step Stop) → IsPrefix old.prefix mid.prefix → mid.own ≡ old.own → IfOk result (CopiesOrStays n mid mine theirs)
    → IfOk result (CopiesOrStays n old mine theirs)
later-steps n old mid mine theirs (Ok step) more same steps = later-step n old mid mine theirs step more same steps
later-steps n old mid mine theirs (Err stop) more same steps = tt

-- the entry of an asked copy
pub entry-copied : (entry : Entry) (copy : KeyCopyView) → EntryAsks entry (asks.Copy copy) → entry ≡ entries.Copied copy
entry-copied (entries.Command (events.Put put reply)) copy h = cc
entry-copied (entries.Command (events.Del del)) copy h = cc
entry-copied (entries.Command (events.Reap key)) copy h = absurd h
entry-copied (entries.Copied other) copy h = let same : copy ≡ other = cc in ap (λ c. entries.Copied c) (sym same)
entry-copied (entries.Closed number) copy h = cc

-- what holds of an option holds of what it has
pub if-some : {A : Type 0} (P : A → Type 0) (o : Option A) (x : A) → o ≡ Some x → IfSome o P → P x
if-some P o x is holds = subst (λ o. IfSome o P) is holds

pub if-none : {A P : Type 0} (o : Option A) → o ≡ None → IfNone o P → P
if-none {A} {P} o is holds = subst (λ (o : Option A). IfNone o P) is holds

-- positions that rise, up to more
pub rise-more : (from : ℕ) (positions : List ℕ) (below more : ℕ) → below ≤ more → RiseBetween from positions below → RiseBetween from positions more
rise-more from [] below more le rise = omega (arith, le, rise)
rise-more from (k ∷ ks) below more le rise = (rise.0, rise-more (k + 1) ks below more le rise.1)

-- and one position more
pub rise-push : (from : ℕ) (positions : List ℕ) (below k : ℕ) → below ≤ k → RiseBetween from positions below → RiseBetween from (positions ++ k ∷ []) (k + 1)
rise-push from [] below k le rise = (omega (arith, le, rise), omega arith)
rise-push from (j ∷ ks) below k le rise = (rise.0, rise-push (j + 1) ks below k le rise.1)

rise-stays : (from : ℕ) (old mine : Sight) → IsPrefix old.prefix mine.prefix → RiseBetween from old.own (length old.prefix) → mine.own ≡ old.own → RiseBetween from mine.own (length mine.prefix)
rise-stays from old mine here rise own =
    subst (λ (ks : List ℕ). RiseBetween from ks (length mine.prefix)) (sym own) (rise-more from old.own (length old.prefix) (length mine.prefix) (prefix_length old.prefix mine.prefix here) rise)

pub step-rises : (from n : ℕ) (old mine theirs : Sight) (step : Step) → IsPrefix old.prefix mine.prefix → RiseBetween from old.own (length old.prefix) → CopiesOrStays n old mine theirs step
    → RiseBetween from mine.own (length mine.prefix)
step-rises from n old mine theirs End here rise own = rise-stays from old mine here rise own
step-rises from n old mine theirs (Passed key) here rise own = rise-stays from old mine here rise own
step-rises from n old mine theirs (Stuck key) here rise own = rise-stays from old mine here rise own.0
step-rises from n old mine theirs (Made key) here rise one =
    let longer : length mine.prefix ≡ length one.position + 1 = ap length one.seen ∙ length-append one.position (one.entry ∷ []) in
    subst (λ (p : List ℕ × ℕ). RiseBetween from p.0 p.1) (λ i. (sym one.own i, sym longer i))
    (rise-push from old.own (length old.prefix) (length one.position) (prefix_length old.prefix one.position one.begins) rise)
