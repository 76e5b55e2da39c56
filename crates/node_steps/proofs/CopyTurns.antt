-- What a copier's step makes of it and of the vnode that the step is at.
use Rattle.std.proofs.Common.{◌≡◌, ◌≢◌, inl, inr, ℕ, zero, suc, ◌+◌, ◌≤◌, Bool, true, false, ◌∷◌, refl, sym, ◌∙◌, ap, arith, subst}
use Rattle.std.specs.Prelude.{◌==◌, Option, Some, None, is_some}
use Rattle.riak_msgs.specs.declared.Key.{Key}
use Rattle.riak_msgs.specs.Contents.{Content}
use Rattle.dvv_set.specs.Clocks.{DotState}
use Rattle.vnode_machine.specs.Copying.{is_stuck, apply_copy}
use Rattle.vnode_machine.specs.Machine.{State, clock_of, is_held}
use Rattle.vnode_machine.specs.Replay.{IsWithinLimits}
use Rattle.vnode_machine.proofs.Tests.{none-from}
use Rattle.copy_laws.specs.Copies.{Copy, Copied}
use Rattle.copy_laws.specs.Joining.{Log}
use Rattle.node_steps.specs.World.{Word, Open, Taken, CopyStage, CopyAsked, CopyInside, CopyLooked, CopyTaken, CopyDone, Phase, Idle, Copying, Brought}
use Rattle.node_steps.specs.Steps.{Action, CopiesFrom, Enters, Leaves, Takes, Puts, Looks, Publishes, Outcome, Happened, NotHeld, StuckThere, Elsewhere, WorkerTurn, left, sees, finds_by, finds_open, syncs_by, copies_by}
use Rattle.node_steps.specs.Schedules.{Begins}
use Rattle.node_steps.proofs.Coming.{BetweenIs, Comes}
use Rattle.node_steps.proofs.Lists.{one, no_more, cancel}
use Rattle.node_steps.proofs.Beginnings.{begins-itself, begins-longer}
use Rattle.node_steps.proofs.Inside.{is_reader, is_holder, FitsWord, state_of, IsInPlace, IsInHand, HasSeen, same_test, other_test, StaysAt, copied-mixed, vnode_in}
use Rattle.node_steps.proofs.Turns.{same_number, one_of, Goes, IsTurn, one_same, fits_same, place_read, turns, moved, laid, leave_fits, left_place, held_place}
use Rattle.node_steps.proofs.Numbers.{apart}

module _ (id epoch home index readers holders : ℕ) where
  -- a copier goes on with its copy, between the same sites
  stays_between : (action : Action) (closed : Option ℕ) (own site : ℕ) (key : Key) (was next : CopyStage)
      → BetweenIs action index home closed (Copying own site key was) (Copying own site key next)
  stays_between action closed own site key was next = λ own2 site2 h. (refl, inl (h, refl))

  goes_on : (action : Action) (own site : ℕ) (key : Key) (was next : CopyStage)
      → ((other : ℕ) → index ≢ other → StaysAt other (Copying own site key was) (Copying own site key next))
      → Goes id epoch home index readers holders action (Copying own site key was) (Copying own site key next)
  goes_on action own site key was next keeps = record {
    keeps = keeps;
    about = λ other h. inl h;
  }

  module _ (limits : IsWithinLimits id epoch) (log : Log) (seen : Log) (brought : Brought) (place : State Content) (has : Begins seen log)
      (own site : ℕ) (key : Key) where
    abbrev copying : CopyStage → Phase
    copying stage = Copying own site key stage

    abbrev TurnsTo : Word → Action → Phase → WorkerTurn → Type 0
    TurnsTo word action phase t = turns id epoch home index readers holders limits log seen brought place has word action phase ≡ Some t

    abbrev Is : Action → Phase → WorkerTurn → Type 0
    Is action phase t = IsTurn id epoch home index readers holders action phase brought log t

    abbrev stay : (other : ℕ) (was next : CopyStage) → Type 0
    stay other was next = StaysAt other (copying was) (copying next)

    pub ask_turn : (word : Word) → FitsWord word readers holders → IsInPlace id epoch word log place → site ≡ index → (t : WorkerTurn)
        → TurnsTo word (CopiesFrom own site key) Idle t → Is (CopiesFrom own site key) Idle t
    ask_turn word f p e t h =
        subst (λ u. Is (CopiesFrom own site key) Idle u) (cc)
        (moved id epoch home index readers holders limits log seen brought place has (CopiesFrom own site key) Idle (copying CopyAsked) word
        (λ r h p q. fits_same id epoch home index readers holders word f r h (no_more r readers p) (no_more h holders q)) p tt tt
        (record {
          keeps = λ other n. record { reader = refl; holder = refl; hand = λ i k l had. tt; whole = λ front history had. tt };
          about = λ other about. elim (one_of (own == other) (site == other) about) [
            | inl is ↦ inr (inr (inr (site, ap (λ (o : ℕ). Some (o, site)) (same_number own other is))))
            | inr is ↦ inr (inl (sym e ∙ same_number site other is))
          ];
        }) (λ own2 site2 k. (refl, inr (inl (k, refl)))) (inl refl) word)

    pub enter_turn : (word : Word) → FitsWord word readers holders → IsInPlace id epoch word log place → site ≡ index → (t : WorkerTurn)
        → TurnsTo word Enters (copying CopyAsked) t → Is Enters (copying CopyAsked) t
    enter_turn (Open n false) f p e t h =
        subst (λ u. Is Enters (copying CopyAsked) u) (cc)
        (moved id epoch home index readers holders limits log seen brought place has Enters (copying CopyAsked) (copying CopyInside) (Open (n + 1) false)
        (λ r h p q. (omega (arith, p, one_same id epoch home index readers holders site e, f.0), omega (arith, q, f.1))) p tt tt
        (goes_on Enters own site key CopyAsked CopyInside (λ other n. record {
          reader = other_test site other (apart site index other e n);
          holder = refl;
          hand = λ i k l had. tt;
          whole = λ front history had. tt;
        })) (stays_between Enters (state_of id epoch log).closed own site key CopyAsked CopyInside) (inl refl) (Open n false))
    enter_turn (Open n true) f p e t h = cc
    enter_turn Taken f p e t h = cc

    -- a look: nothing but the copier changes
    looked : (was next : CopyStage) (word : Word) (came : Outcome) → FitsWord word readers holders → IsInPlace id epoch word log place
        → is_reader index (copying was) ≡ is_reader index (copying next) → is_holder index (copying was) ≡ is_holder index (copying next)
        → IsInHand id epoch index log (copying next) → HasSeen index (copying next) log log
        → ((other : ℕ) → index ≢ other → stay other was next)
        → Comes id epoch index (copying was) brought log (sees seen brought (vnode_in id home epoch log place word) (copying next) came) came
        → Is Looks (copying was) (sees seen brought (vnode_in id home epoch log place word) (copying next) came)
    looked was next word came f p a b in_hand whole keeps comes = record {
      same_id = refl;
      same_own = refl;
      same_epoch = refl;
      same_closed = refl;
      between = stays_between Looks (state_of id epoch log).closed own site key was next;
      same = inl refl;
      grows = begins-itself log;
      word = λ r h x y.
          fits_same id epoch home index readers holders word f r h (cancel r readers (is_reader index (copying was)) (x ∙ ap (λ c. readers + one c) (sym a)))
          (cancel h holders (is_holder index (copying was)) (y ∙ ap (λ c. holders + one c) (sym b)));
      place = p;
      hand = in_hand;
      seen = begins-itself log;
      whole = whole;
      goes = goes_on Looks own site key was next keeps;
      call = inl refl;
      alone = λ only. only;
      plain = λ only plain. plain;
      comes = comes;
    }

    abbrev found : Word → Bool → WorkerTurn
    found word held = finds_by seen brought (vnode_in id home epoch log place word) own site key held

    find_by : (word : Word) → FitsWord word readers holders → IsInPlace id epoch word log place → site ≡ index → place ≡ state_of id epoch log
        → place.closed ≡ None → (held : Bool) → is_held place key ≡ held → Is Looks (copying CopyInside) (found word held)
    find_by word f p e is clear true h =
        looked CopyInside (CopyLooked (clock_of place key)) word Happened f p refl refl
        (λ _. (ap (λ s. clock_of s key) is, ap (λ s. is_held s key) (sym is) ∙ h, ap (λ (s : State Content). s.closed) (sym is) ∙ clear)) (λ _. refl)
        (λ other n. record {
          reader = refl;
          holder = refl;
          hand = λ i k l had. λ at. absurd (n (sym e ∙ at));
          whole = λ front history had. λ at. absurd (n (sym e ∙ at));
        }) refl
    find_by word f p e is clear false h =
        looked CopyInside (CopyDone None) word NotHeld f p refl refl tt tt
        (λ other n. record { reader = refl; holder = refl; hand = λ i k l had. tt; whole = λ front history had. tt }) refl

    -- where the fallback is closed it is done
    open_by : (word : Word) → FitsWord word readers holders → IsInPlace id epoch word log place → site ≡ index → place ≡ state_of id epoch log
        → (closed : Bool) → is_some place.closed ≡ closed
        → Is Looks (copying CopyInside) (finds_open seen brought (vnode_in id home epoch log place word) own site key closed)
    open_by word f p e is true closed =
        looked CopyInside (CopyDone None) word Elsewhere f p refl refl tt tt
        (λ other n. record { reader = refl; holder = refl; hand = λ i k l had. tt; whole = λ front history had. tt }) refl
    open_by word f p e is false closed = find_by word f p e is (none-from place.closed closed) (is_held place key) refl

    pub find_turn : (word : Word) → FitsWord word readers holders → IsInPlace id epoch word log place → one (is_reader index (copying CopyInside)) ≤ readers → site ≡ index → (t : WorkerTurn)
        → TurnsTo word Looks (copying CopyInside) t → Is Looks (copying CopyInside) t
    find_turn word f p n e t h =
        let is : place ≡ state_of id epoch log =
        place_read id epoch home index readers holders word log place f (omega (arith, n, one_same id epoch home index readers holders site e)) p in
        subst (λ u. Is Looks (copying CopyInside) u) (cc) (open_by word f p e is (is_some place.closed) refl)

    not_both : (n : ℕ) → one (is_reader index (copying CopyInside)) ≤ readers → readers ≡ 0 → site ≡ index → ⊥
    not_both n h z e = omega (arith, h, z, one_same id epoch home index readers holders site e)

    pub take_turn : (word : Word) → FitsWord word readers holders → IsInPlace id epoch word log place → (clock : DotState (Option Content))
        → one (is_reader index (copying (CopyLooked clock))) ≤ readers → IsInHand id epoch index log (copying (CopyLooked clock)) → own ≡ index → (t : WorkerTurn)
        → TurnsTo word Takes (copying (CopyLooked clock)) t → Is Takes (copying (CopyLooked clock)) t
    take_turn (Open zero mark) f p clock n mine e t h =
        subst (λ u. Is Takes (copying (CopyLooked clock)) u) (cc)
        (moved id epoch home index readers holders limits log seen brought place has Takes (copying (CopyLooked clock)) (copying (CopyTaken clock place None)) Taken
        (λ r h p q. (omega (arith, cancel r readers (site == index) p, f.0), omega (arith, q, one_same id epoch home index readers holders own e, f.1))) tt
        (mine, λ _. (p, tt)) (λ at. absurd (not_both 0 n f.0 at))
        (goes_on Takes own site key (CopyLooked clock) (CopyTaken clock place None) (λ other n. record {
          reader = refl;
          holder = other_test own other (apart own index other e n);
          hand = λ i k l had. (had, λ at. absurd (n (sym e ∙ at)));
          whole = λ front history had. had;
        })) (stays_between Takes (state_of id epoch log).closed own site key (CopyLooked clock) (CopyTaken clock place None)) (inl refl) (Open zero mark))
    take_turn (Open (suc n) mark) f p clock m mine e t h = cc
    take_turn Taken f p clock m mine e t h = cc

    abbrev synced : Word → DotState (Option Content) → State Content → Bool → WorkerTurn
    synced word clock hand stuck = syncs_by seen brought (vnode_in id home epoch log place word) own site key clock hand stuck

    sync_by : (word : Word) → FitsWord word readers holders → IsInPlace id epoch word log place → (clock : DotState (Option Content)) (hand : State Content)
        → IsInHand id epoch index log (copying (CopyTaken clock hand None)) → own ≡ index
        → (stuck : Bool) → is_stuck hand key clock ≡ stuck → Is Looks (copying (CopyTaken clock hand None)) (synced word clock hand stuck)
    sync_by word f p clock hand mine e true h =
        looked (CopyTaken clock hand None) (CopyDone (Some hand)) word StuckThere f p refl refl (λ at. (mine.1 at).0) tt
        (λ other n. record { reader = refl; holder = refl; hand = λ i k l had. λ at. (had.1 at).0; whole = λ front history had. tt }) refl
    sync_by word f p clock hand mine e false h =
        looked (CopyTaken clock hand None) (CopyTaken clock hand (Some (apply_copy hand key clock))) word Happened f p refl refl
        (mine.0, λ at. ((mine.1 at).0, (refl, h))) (λ _. refl)
        (λ other n. record {
          reader = refl;
          holder = refl;
          hand = λ i k l had. (had.0, λ at. ((had.1 at).0, (refl, h)));
          whole = λ front history had. had;
        }) refl

    pub sync_turn : (word : Word) → FitsWord word readers holders → IsInPlace id epoch word log place → (clock : DotState (Option Content)) (hand : State Content)
        → IsInHand id epoch index log (copying (CopyTaken clock hand None)) → own ≡ index → (t : WorkerTurn)
        → TurnsTo word Looks (copying (CopyTaken clock hand None)) t → Is Looks (copying (CopyTaken clock hand None)) t
    sync_turn word f p clock hand mine e t h =
        let turn : WorkerTurn = synced word clock hand (is_stuck hand key clock) in
        let same : turn ≡ t = cc in
        subst (λ u. Is Looks (copying (CopyTaken clock hand None)) u) same (sync_by word f p clock hand mine e (is_stuck hand key clock) refl)

    pub publish_turn : (word : Word) → FitsWord word readers holders → (clock : DotState (Option Content)) (hand next : State Content)
        → one (is_holder index (copying (CopyTaken clock hand (Some next)))) ≤ holders
        → IsInHand id epoch index log (copying (CopyTaken clock hand (Some next))) → own ≡ index → (t : WorkerTurn)
        → TurnsTo word Publishes (copying (CopyTaken clock hand (Some next))) t → Is Publishes (copying (CopyTaken clock hand (Some next))) t
    publish_turn word f clock hand next held mine e t h =
        let copy : Copy Content = record { key = key; clock = clock; diversion = brought.diversion; prefix = brought.prefix } in
        let turn : WorkerTurn = copies_by seen brought (vnode_in id home epoch log place word) own site key clock next in
        let same : turn ≡ t = cc in
        let was : (hand ≡ state_of id epoch log) × ((next ≡ apply_copy hand key clock) × (is_stuck hand key clock ≡ false)) = mine.1 e in
        subst (λ u. Is Publishes (copying (CopyTaken clock hand (Some next))) u) same (record {
          same_id = refl;
          same_own = refl;
          same_epoch = refl;
          same_closed = refl;
          between = stays_between Publishes (state_of id epoch log).closed own site key (CopyTaken clock hand (Some next)) (CopyDone (Some next));
          same = inr (same_test own index e);
          grows = begins-longer (Copied copy) log log (begins-itself log);
          word = λ r h x y. fits_same id epoch home index readers holders word f r h (cancel r readers (site == index) x) (cancel h holders (own == index) y);
          place = held_place id epoch home index readers holders limits log seen brought place has word f
              (omega (arith, held, one_same id epoch home index readers holders own e)) (Copied copy ∷ log);
          hand = λ _. was.1.0 ∙ ap (λ s. apply_copy s key clock) was.0;
          seen = begins-itself (Copied copy ∷ log);
          whole = tt;
          goes = goes_on Publishes own site key (CopyTaken clock hand (Some next)) (CopyDone (Some next)) (λ other n. record {
            reader = refl;
            holder = refl;
            hand = λ i k l had. λ at. absurd (n (sym e ∙ at));
            whole = λ front history had. tt;
          });
          call = inl refl;
          alone = λ only. absurd (copied-mixed copy log only);
          plain = λ only plain. absurd (copied-mixed copy log only);
          comes = record {
            own = own;
            site = site;
            key = key;
            clock = clock;
            hand = hand;
            next = next;
            phase_is = refl;
            at = e;
            open_there = ap (λ s. is_stuck s key clock) (sym was.0) ∙ was.1.1;
            later_is = refl;
          };
        })

    pub put_turn : (word : Word) → FitsWord word readers holders → (hand : State Content) → IsInHand id epoch index log (copying (CopyDone (Some hand))) → own ≡ index → (t : WorkerTurn)
        → TurnsTo word Puts (copying (CopyDone (Some hand))) t → Is Puts (copying (CopyDone (Some hand))) t
    put_turn word f hand mine e t h =
        subst (λ u. Is Puts (copying (CopyDone (Some hand))) u) (cc)
        (laid id epoch home index readers holders limits log seen brought place has (copying (CopyDone (Some hand))) (copying (CopyDone None)) word hand
        (put_fits word f) (mine e) tt tt
        (goes_on Puts own site key (CopyDone (Some hand)) (CopyDone None) (λ other n. record {
          reader = refl;
          holder = sym (other_test own other (apart own index other e n));
          hand = λ i k l had. tt;
          whole = λ front history had. tt;
        })) (stays_between Puts (state_of id epoch log).closed own site key (CopyDone (Some hand)) (CopyDone None)) (inl refl))
      where
        put_fits : (word : Word) → FitsWord word readers holders → (r h : ℕ) → r + one (site == index) ≡ readers + one (site == index)
            → h + one (own == index) ≡ holders + 0 → FitsWord (Open 0 false) r h
        put_fits (Open n mark) f r h x y = absurd (omega (arith, y, one_same id epoch home index readers holders own e, f.1))
        put_fits Taken f r h x y =
            (omega (arith, cancel r readers (site == index) x, f.0), omega (arith, y, one_same id epoch home index readers holders own e, f.1))

    pub leave_turn : (word : Word) → FitsWord word readers holders → IsInPlace id epoch word log place → site ≡ index → (t : WorkerTurn)
        → TurnsTo word Leaves (copying (CopyDone None)) t → Is Leaves (copying (CopyDone None)) t
    leave_turn word f p e t h =
        subst (λ u. Is Leaves (copying (CopyDone None)) u) (cc)
        (moved id epoch home index readers holders limits log seen brought place has Leaves (copying (CopyDone None)) Idle (left word)
        (leave_fits id epoch home index readers holders limits log seen brought place has word f (copying (CopyDone None)) Idle
        (one_same id epoch home index readers holders site e) refl refl refl)
        (left_place id epoch home index readers holders limits log seen brought place has word p) tt tt
        (record {
          keeps = λ other n. record {
            reader = sym (other_test site other (apart site index other e n));
            holder = refl;
            hand = λ i k l had. tt;
            whole = λ front history had. tt;
          };
          about = λ other h. cc;
        }) (λ own2 site2 h. cc) (inl refl) word)
