-- The plain register answers as its definition may.
use Rattle.std.proofs.Common.{◌≡◌, ℕ, Bool, true, false, not, ◌&&◌, cond, List, [], ◌∷◌, length, refl, sym, inr, subst}
use Rattle.std.specs.Prelude.{Option, Some, None, IsTrue, MatchBool, ◌||◌}
use Rattle.sibling_register.specs.declared.command.Command.{Command}
use Rattle.sibling_register.specs.declared.command.Command.TheVariants.{Get, Put, Del, Reap}
use Rattle.sibling_register.specs.declared.entry.Entry.{Entry}
use Rattle.sibling_register.specs.History.{Event, Write, Reap as Forgotten, count_of, numbers_to}
use Rattle.sibling_register.specs.Siblings.{is_defined, is_present, is_dead}
use Rattle.sibling_register.specs.Naming.{DelSees}
use Rattle.sibling_register.specs.Answers.{Told, Refused, Shown, Done, Reaped, Kept, GetCommand, PutCommand, DelCommand, RegisterOutcome, Answers, Accepts, MayGive, PutGives, DelGives, get_told, all_shown, put_refusal, del_refusal, does_nothing, has_too_many, is_name, nothing_shown}
use Rattle.sibling_register.specs.Legal.{IsAccepted, EachAccepted, IsLegal}
use Rattle.sibling_register.specs.Counting.{by_count, context_at}
use Rattle.sibling_register.specs.Plain.{asked, Follows, Gives, is_decided}
use Rattle.sibling_register.specs.Plans.{saw_by, put_outcome_by, del_outcome_by, del_saw, plain_outcome}
use Rattle.sibling_register.specs.Entries.{outcome_by, kept_of}
use Rattle.sibling_register.proofs.Counts.{counting}
use Rattle.sibling_register.proofs.Sights.{put_sees, del_sees}

abbrev DecidedBy : Option ℕ → Type 0
DecidedBy None = Unit {0}
DecidedBy (Some number) = IsTrue (is_decided (Refused number))

abbrev IsDecidedAnswer : Told ℕ → Type 0
IsDecidedAnswer told = IsTrue (is_decided told)

check_by : (a b c d : Bool) → DecidedBy (cond a (Some 1) (cond b (Some 3) (cond c (Some 2) (cond d (Some 5) None))))
check_by true b c d = refl
check_by false true c d = refl
check_by false false true d = refl
check_by false false false true = refl
check_by false false false false = tt

get_by : (a b c d : Bool) (x y z w : Told ℕ) → IsDecidedAnswer x → IsDecidedAnswer y → IsDecidedAnswer z → IsDecidedAnswer w
    → IsDecidedAnswer (cond a x (cond b (cond c y x) (cond d z w)))
get_by true b c d x y z w p q r s = p
get_by false true true d x y z w p q r s = q
get_by false true false d x y z w p q r s = p
get_by false false c true x y z w p q r s = r
get_by false false c false x y z w p q r s = s

put_by : (b : Bool) (x : Told ℕ) → IsDecidedAnswer x → IsDecidedAnswer (cond b x Done)
put_by true x p = p
put_by false x p = refl

module _ {V : Type 0} where
  put_may : (history : List (Event V ℕ)) (put : PutCommand V ℕ) (r : Option ℕ) → put_refusal by_count history put (saw_by put.context) ≡ r
      → PutGives by_count history put (saw_by put.context) (put_outcome_by history put r)
  put_may history put None e = (e, refl, refl)
  put_may history put (Some number) e = inr (rw e refl)

  del_may : (history : List (Event V ℕ)) (del : DelCommand ℕ) (saw : List ℕ) (r : Option ℕ) → del_refusal history del.key saw ≡ r
      → DelGives by_count history del saw (del_outcome_by history del saw r)
  del_may history del saw None e = (e, refl, refl)
  del_may history del saw (Some number) e = inr (rw e refl)

  idle_or : (b : Bool) (x y : RegisterOutcome V ℕ) (P : RegisterOutcome V ℕ → Type 0) → P y → MatchBool b (cond b x y ≡ x) (P (cond b x y))
  idle_or true x y P p = refl
  idle_or false x y P p = p

  abbrev answer_of : RegisterOutcome V ℕ → Told ℕ
  answer_of (Answers told) = told
  answer_of (Accepts event told) = told

  -- what the plain register does is what the register may do
  pub may_give : (history : List (Event V ℕ)) (command : Command V) → MayGive by_count history (asked history command) (plain_outcome history (asked history command))
  may_give history (Get key if_modified head deletedvclock) = refl
  may_give history (Put key context value rb rh inm ifn) =
      let put : PutCommand V ℕ = record { key = key; context = context_at history key context; value = value; return_body = rb; return_head = rh; if_not_modified = inm; if_none_match = ifn } in
      (saw_by put.context, put_sees history key context, put_may history put (put_refusal by_count history put (saw_by put.context)) refl)
  may_give history (Del key context) =
      let del : DelCommand ℕ = record { key = key; context = context_at history key context } in
      idle_or (does_nothing history del) (Answers Done) (del_outcome_by history del (del_saw history del) (del_refusal history key (del_saw history del)))
      (λ outcome. (saw : List ℕ) × DelSees by_count history key (context_at history key context) saw × DelGives by_count history del saw outcome)
      (del_saw history del, del_sees history key context, del_may history del (del_saw history del) (del_refusal history key (del_saw history del)) refl)
  may_give history (Reap key) = refl

  check_decided : (history : List (Event V ℕ)) (put : PutCommand V ℕ) (saw : List ℕ) → DecidedBy (put_refusal by_count history put saw)
  check_decided history put saw =
      check_by (put.if_none_match && is_present history put.key) ((put.if_not_modified && not put.if_none_match) && not (is_present history put.key))
      ((put.if_not_modified && not put.if_none_match) && not (is_name by_count history put.key put.context)) (has_too_many history put.key saw)

  abbrev IsDecided : RegisterOutcome V ℕ → Type 0
  IsDecided outcome = IsTrue (is_decided (answer_of outcome))

  put_decided : (history : List (Event V ℕ)) (put : PutCommand V ℕ) (r : Option ℕ) → DecidedBy r → IsDecided (put_outcome_by history put r)
  put_decided history put None d =
      put_by (put.return_body || put.return_head)
      (let event : Event V ℕ = record { key = put.key; operation = Write put.value; context = put.context; saw = saw_by put.context } in all_shown (event ∷ history) put.key (not put.return_body)) refl
  put_decided history put (Some number) d = d

  del_decided : (history : List (Event V ℕ)) (del : DelCommand ℕ) (saw : List ℕ) (b : Bool)
      → IsDecided (del_outcome_by history del saw (cond b (Some 5) None))
  del_decided history del saw true = refl
  del_decided history del saw false = refl

  get_decided : (history : List (Event V ℕ)) (get : GetCommand ℕ) → IsTrue (is_decided (get_told by_count history get))
  get_decided history get =
      get_by (not (is_defined history get.key)) (is_dead history get.key) get.deletedvclock (is_name by_count history get.key get.if_modified)
      nothing_shown (Shown [] (Some (length history)) false false) (Shown [] None true false) (all_shown history get.key get.head) refl refl refl refl

  del_idle : (b : Bool) (outcome : RegisterOutcome V ℕ) → IsDecided outcome → IsDecided (cond b (Answers Done) outcome)
  del_idle true outcome d = refl
  del_idle false outcome d = d

  reap_decided : (b : Bool) (event : Event V ℕ) → IsDecided (cond b (Accepts event Reaped) (Answers Kept))
  reap_decided true event = refl
  reap_decided false event = refl

  decided : (history : List (Event V ℕ)) (command : Command V) → IsDecided (plain_outcome history (asked history command))
  decided history (Get key if_modified head deletedvclock) =
      get_decided history (record { key = key; if_modified = context_at history key if_modified; head = head; deletedvclock = deletedvclock })
  decided history (Put key context value rb rh inm ifn) =
      let put : PutCommand V ℕ = record { key = key; context = context_at history key context; value = value; return_body = rb; return_head = rh; if_not_modified = inm; if_none_match = ifn } in
      put_decided history put (put_refusal by_count history put (saw_by put.context)) (check_decided history put (saw_by put.context))
  decided history (Del key context) =
      let del : DelCommand ℕ = record { key = key; context = context_at history key context } in
      del_idle (does_nothing history del) (del_outcome_by history del (del_saw history del) (del_refusal history key (del_saw history del)))
      (del_decided history del (del_saw history del) (has_too_many history key (del_saw history del)))
  decided history (Reap key) = reap_decided (is_dead history key) (record { key = key; operation = Forgotten; context = None; saw = numbers_to (count_of history key) })

  same_answer : (old : List (Event V ℕ)) (outcome : RegisterOutcome V ℕ) (told : Told ℕ) (new : List (Event V ℕ)) → Follows old outcome told new → told ≡ answer_of outcome
  same_answer old (Answers given) told new f = f.0
  same_answer old (Accepts event given) told new f = f.0

  follows_kept : (history : List (Event V ℕ)) (told : Told ℕ) (entry : Option (Entry V)) → Follows history (outcome_by told entry) told (kept_of history entry)
  follows_kept history told None = (refl, refl)
  follows_kept history told (Some entry) = (refl, refl)

  -- so its answer is by the definition
  pub gives : (history : List (Event V ℕ)) (command : Command V) (told : Told ℕ) (entry : Option (Entry V)) (new : List (Event V ℕ))
      → outcome_by told entry ≡ plain_outcome history (asked history command) → new ≡ kept_of history entry → Gives history command told new
  gives history command told entry new o n =
      let outcome : RegisterOutcome V ℕ = plain_outcome history (asked history command) in
      let F : RegisterOutcome V ℕ → Type 0 = λ x. Follows history x told (kept_of history entry) in
      let G : List (Event V ℕ) → Type 0 = λ x. Follows history outcome told x in
      let f : F outcome = subst F o (follows_kept history told entry) in
      let D : Told ℕ → Type 0 = λ x. IsTrue (is_decided x) in
      record {
        outcome = outcome;
        exact = refl;
        may = may_give history command;
        follows = subst G (sym n) f;
        decided = subst D (sym (same_answer history outcome told _ f)) (decided history command);
      }

  -- what it accepts is accepted by the definition
  each_accepted : (old : List (Event V ℕ)) (command : Command V) (told : Told ℕ) (new : List (Event V ℕ)) → Gives old command told new
      → EachAccepted by_count old → EachAccepted by_count new
  each_accepted old command told new gives each = by gives.outcome gives.may gives.follows
    where
      by : (outcome : RegisterOutcome V ℕ) → MayGive by_count old (asked old command) outcome → Follows old outcome told new → EachAccepted by_count new
      by (Answers given) may follows = subst (EachAccepted by_count) (sym follows.1) each
      by (Accepts event given) may follows =
          let one_more : IsAccepted by_count old event = record { ask = asked old command; told = given; given = may } in
          subst (EachAccepted by_count) (sym follows.1) (each, one_more)

  pub stays_legal : (old : List (Event V ℕ)) (command : Command V) (told : Told ℕ) (new : List (Event V ℕ)) → Gives old command told new
      → IsLegal by_count old → IsLegal by_count new
  stays_legal old command told new gives legal = record { naming_law = counting new; accepted = each_accepted old command told new gives legal.accepted }
