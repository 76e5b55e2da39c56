-- What a step for a call makes of its worker and its vnode, where they were as they always are.
use Rattle.std.proofs.Common.{◌≡◌, ◌≢◌, ◌⊎◌, inl, inr, ℕ, zero, suc, ◌+◌, ◌≤◌, true, false, refl, ◌∙◌, ap, arith, subst}
use Rattle.std.specs.Prelude.{◌==◌, Option, Some, None, is_some}
use Rattle.riak_msgs.specs.Contents.{Content}
use Rattle.sibling_register.specs.Answers.{RegisterAsk, AskGet, GetCommand}
use Rattle.actor_epoch.specs.Given.{Context}
use Rattle.vnode_machine.specs.Machine.{State}
use Rattle.vnode_machine.specs.Replay.{IsWithinLimits}
use Rattle.copy_laws.specs.Joining.{Log}
use Rattle.node_steps.specs.World.{Word, Open, Taken, Phase, Idle, Asked, Reading, Holding, Done, Turned, Copying, Closing, Brought, CommandsAlone}
use Rattle.node_steps.specs.Steps.{Action, Asks, Enters, Leaves, Marks, Unmarks, Takes, Puts, WorkerTurn, left, moves, lays, turn_of}
use Rattle.node_steps.specs.Schedules.{Begins}
use Rattle.node_steps.proofs.Coming.{BetweenIs, AboutIs, CallIs, Comes}
use Rattle.node_steps.proofs.Lists.{same_or_other, one, no_more}
use Rattle.node_steps.proofs.Beginnings.{begins-itself}
use Rattle.node_steps.proofs.Inside.{is_reader, is_holder, FitsWord, state_of, IsInPlace, IsInHand, HasSeen, IsAbout, IsOfOne, same_test, StaysAt, stays, about_one, IsPlain, vnode_in}
pub use Rattle.std.proofs.lemmas.Bool.{eqb-true as same_number, or_cases as one_of}

pub some_none : (o : Option ℕ) → is_some o ≡ true → o ≡ None → ⊥
some_none None h e = cc
some_none (Some n) h e = cc

module _ (id epoch home index readers holders : ℕ) where
  -- how a worker's phase goes over: elsewhere it has what it had, and it is about no site that is new but the step's and its own
  pub record Goes (action : Action) (phase next : Phase) : Type 0 where
    pub keeps : (other : ℕ) → index ≢ other → StaysAt other phase next
    pub about : AboutIs action index home phase next

  -- what a turn of a worker in this phase leaves, and what comes of it
  pub record IsTurn (action : Action) (phase : Phase) (brought : Brought) (log : Log) (t : WorkerTurn) : Type 0 where
    pub same_id : t.vnode.id ≡ id
    pub same_own : t.vnode.own ≡ home
    pub same_epoch : t.vnode.last_epoch ≡ epoch
    pub same_closed : (state_of id epoch t.vnode.log).closed ≡ (state_of id epoch log).closed
    pub same : (t.vnode.log ≡ log) ⊎ (is_holder index phase ≡ true)
    pub grows : Begins log t.vnode.log
    pub word : (r h : ℕ) → r + one (is_reader index phase) ≡ readers + one (is_reader index t.phase)
        → h + one (is_holder index phase) ≡ holders + one (is_holder index t.phase) → FitsWord t.vnode.word r h
    pub place : IsInPlace id epoch t.vnode.word t.vnode.log t.vnode.place
    pub hand : IsInHand id epoch index t.vnode.log t.phase
    pub seen : Begins t.seen t.vnode.log
    pub whole : HasSeen index t.phase t.seen t.vnode.log
    pub goes : Goes action phase t.phase
    pub between : BetweenIs action index home (state_of id epoch log).closed phase t.phase
    pub call : CallIs action phase t.phase
    pub alone : CommandsAlone t.vnode.log → CommandsAlone log
    pub plain : CommandsAlone t.vnode.log → IsPlain id epoch log → IsPlain id epoch t.vnode.log
    pub comes : Comes id epoch index phase brought log t t.outcome

  -- a phase of one site is between none
  pub not_between : (action : Action) (closed : Option ℕ) (before later : Phase) → IsOfOne later → BetweenIs action index home closed before later
  not_between action closed before Idle one = λ own site h. cc
  not_between action closed before (Asked at ask) one = λ own site h. cc
  not_between action closed before (Reading at get) one = λ own site h. cc
  not_between action closed before (Holding at ask hand plan) one = λ own site h. cc
  not_between action closed before (Done at hand) one = λ own site h. cc
  not_between action closed before (Turned own at ask hand) one = absurd one
  not_between action closed before (Copying own at key stage) one = absurd one
  not_between action closed before (Closing own at stage) one = absurd one

  -- of a phase that is about one site
  pub one_goes : (action : Action) (phase next : Phase) → IsOfOne phase → IsOfOne next → IsAbout index phase → IsAbout index next → Goes action phase next
  one_goes action phase next one later was is = record {
    keeps = λ other n. stays index other phase next one later was is n;
    about = λ other h. elim (same_or_other index other) [
      | inl e ↦ inr (inl e)
      | inr n ↦ absurd (about_one index other next later is h n)
    ];
  }

  pub one_same : (a : ℕ) → a ≡ index → one (a == index) ≡ 1
  one_same a e = ap one (same_test a index e)

  pub fits_same : (word : Word) → FitsWord word readers holders → (r h : ℕ) → r ≡ readers → h ≡ holders → FitsWord word r h
  fits_same (Open n mark) f r h p q = (p ∙ f.0, q ∙ f.1)
  fits_same Taken f r h p q = (p ∙ f.0, q ∙ f.1)

  -- the state in place, where a reader is inside
  pub place_read : (word : Word) (log : Log) (place : State Content) → FitsWord word readers holders → 1 ≤ readers
      → IsInPlace id epoch word log place → place ≡ state_of id epoch log
  place_read (Open n mark) log place f h p = p
  place_read Taken log place f h p = absurd (omega (arith, f.0, h))

  module _ (limits : IsWithinLimits id epoch) (log : Log) (seen : Log) (brought : Brought) (place : State Content) (has : Begins seen log) where
    abbrev pub turns : Word → Action → Phase → Option WorkerTurn
    turns word action phase = turn_of seen brought (vnode_in id home epoch log place word) action phase

    -- the phase goes over, and the word fits
    abbrev pub Fits : Phase → Phase → Word → Type 0
    Fits phase next word = (r h : ℕ) → r + one (is_reader index phase) ≡ readers + one (is_reader index next)
        → h + one (is_holder index phase) ≡ holders + one (is_holder index next) → FitsWord word r h

    -- a turn that moves its worker, and the word
    pub moved : (action : Action) (phase next : Phase) (word : Word) → Fits phase next word → IsInPlace id epoch word log place → IsInHand id epoch index log next
        → HasSeen index next seen log → Goes action phase next → BetweenIs action index home (state_of id epoch log).closed phase next → CallIs action phase next → (old : Word)
        → IsTurn action phase brought log (moves seen brought (vnode_in id home epoch log place old) next word)
    moved action phase next word fits in_place in_hand whole goes between call old = record {
      same_id = refl;
      same_own = refl;
      same_epoch = refl;
      same_closed = refl;
      between = between;
      same = inl refl;
      grows = begins-itself log;
      word = fits;
      place = in_place;
      hand = in_hand;
      seen = has;
      whole = whole;
      goes = goes;
      call = call;
      alone = λ only. only;
      plain = λ only plain. plain;
      comes = refl;
    }

    pub asks_turn : (word : Word) → FitsWord word readers holders → IsInPlace id epoch word log place → (other : ℕ) (ask : RegisterAsk Content Context) → other ≡ index → (t : WorkerTurn)
        → turns word (Asks other ask) Idle ≡ Some t → IsTurn (Asks other ask) Idle brought log t
    asks_turn word f p other ask e t h =
        subst (λ u. IsTurn (Asks other ask) Idle brought log u) (cc)
        (moved (Asks other ask) Idle (Asked other ask) word (λ r h p q. fits_same word f r h (no_more r readers p) (no_more h holders q)) p tt tt
        (one_goes (Asks other ask) Idle (Asked other ask) tt tt tt e) (not_between (Asks other ask) (state_of id epoch log).closed Idle (Asked other ask) tt)
        (inr (inr (record { site = other; ask = ask }, refl, refl))) word)

    pub enter_turn : (word : Word) → FitsWord word readers holders → IsInPlace id epoch word log place → (other : ℕ) (get : GetCommand Context) → other ≡ index → (t : WorkerTurn)
        → turns word Enters (Asked other (AskGet get)) ≡ Some t → IsTurn Enters (Asked other (AskGet get)) brought log t
    enter_turn (Open n false) f p other get e t h =
        subst (λ u. IsTurn Enters (Asked other (AskGet get)) brought log u) (cc)
        (moved Enters (Asked other (AskGet get)) (Reading other get) (Open (n + 1) false)
        (λ r h p q. (omega (arith, p, one_same other e, f.0), omega (arith, q, f.1))) p tt tt
        (one_goes Enters (Asked other (AskGet get)) (Reading other get) tt tt e e) (not_between Enters (state_of id epoch log).closed (Asked other (AskGet get)) (Reading other get) tt) (inl refl) (Open n false))
    enter_turn (Open n true) f p other get e t h = cc
    enter_turn Taken f p other get e t h = cc

    pub leave_fits : (word : Word) → FitsWord word readers holders → (phase next : Phase) → one (is_reader index phase) ≡ 1 → is_reader index next ≡ false
        → is_holder index phase ≡ false → is_holder index next ≡ false → Fits phase next (left word)
    leave_fits (Open n mark) f phase next a b c d = λ r h p q. (omega (arith, p, q, a, ap one b, f.0), omega (arith, q, ap one c, ap one d, f.1))
    leave_fits Taken f phase next a b c d = λ r h p q. absurd (omega (arith, p, a, ap one b, f.0))

    pub left_place : (word : Word) → IsInPlace id epoch word log place → IsInPlace id epoch (left word) log place
    left_place (Open n mark) p = p
    left_place Taken p = p

    pub leave_turn : (word : Word) → FitsWord word readers holders → IsInPlace id epoch word log place → (phase : Phase) → IsOfOne phase → IsAbout index phase → (t : WorkerTurn)
        → turns word Leaves phase ≡ Some t → IsTurn Leaves phase brought log t
    leave_turn word f p Idle one at t h = cc
    leave_turn word f p (Asked other ask) one at t h = cc
    leave_turn word f p (Reading other get) one at t h =
        subst (λ u. IsTurn Leaves (Reading other get) brought log u) (cc)
        (moved Leaves (Reading other get) (Asked other (AskGet get)) (left word)
        (leave_fits word f (Reading other get) (Asked other (AskGet get)) (one_same other at) refl refl refl) (left_place word p) tt tt
        (one_goes Leaves (Reading other get) (Asked other (AskGet get)) tt tt at at) (not_between Leaves (state_of id epoch log).closed (Reading other get) (Asked other (AskGet get)) tt) (inl refl) word)
    leave_turn word f p (Holding other ask hand plan) one at t h = cc
    leave_turn word f p (Done other None) one at t h =
        subst (λ u. IsTurn Leaves (Done other None) brought log u) (cc)
        (moved Leaves (Done other None) Idle (left word) (leave_fits word f (Done other None) Idle (one_same other at) refl refl refl) (left_place word p) tt tt
        (one_goes Leaves (Done other None) Idle tt tt at tt) (not_between Leaves (state_of id epoch log).closed (Done other None) Idle tt) (inl refl) word)
    leave_turn word f p (Done other (Some hand)) one at t h = cc
    leave_turn word f p (Turned own other ask hand) one at t h = absurd one
    leave_turn word f p (Copying own other key stage) one at t h = absurd one
    leave_turn word f p (Closing own other stage) one at t h = absurd one

    pub mark_turn : (word : Word) → FitsWord word readers holders → IsInPlace id epoch word log place → (other : ℕ) (ask : RegisterAsk Content Context) → other ≡ index → (t : WorkerTurn)
        → turns word Marks (Asked other ask) ≡ Some t → IsTurn Marks (Asked other ask) brought log t
    mark_turn (Open n false) f p other ask e t h =
        subst (λ u. IsTurn Marks (Asked other ask) brought log u) (cc)
        (moved Marks (Asked other ask) (Asked other ask) (Open n true) (λ r h p q. (no_more r readers p ∙ f.0, no_more h holders q ∙ f.1)) p tt tt
        (one_goes Marks (Asked other ask) (Asked other ask) tt tt e e) (not_between Marks (state_of id epoch log).closed (Asked other ask) (Asked other ask) tt) (inl refl) (Open n false))
    mark_turn (Open n true) f p other ask e t h = cc
    mark_turn Taken f p other ask e t h = cc

    pub unmark_turn : (word : Word) → FitsWord word readers holders → IsInPlace id epoch word log place → (other : ℕ) (ask : RegisterAsk Content Context) → other ≡ index → (t : WorkerTurn)
        → turns word Unmarks (Asked other ask) ≡ Some t → IsTurn Unmarks (Asked other ask) brought log t
    unmark_turn (Open n false) f p other ask e t h = cc
    unmark_turn (Open n true) f p other ask e t h =
        subst (λ u. IsTurn Unmarks (Asked other ask) brought log u) (cc)
        (moved Unmarks (Asked other ask) (Asked other ask) (Open n false) (λ r h p q. (no_more r readers p ∙ f.0, no_more h holders q ∙ f.1)) p tt tt
        (one_goes Unmarks (Asked other ask) (Asked other ask) tt tt e e) (not_between Unmarks (state_of id epoch log).closed (Asked other ask) (Asked other ask) tt) (inl refl) (Open n true))
    unmark_turn Taken f p other ask e t h = cc

    pub take_turn : (word : Word) → FitsWord word readers holders → IsInPlace id epoch word log place → (other : ℕ) (ask : RegisterAsk Content Context) → other ≡ index → (t : WorkerTurn)
        → turns word Takes (Asked other ask) ≡ Some t → IsTurn Takes (Asked other ask) brought log t
    take_turn (Open zero mark) f p other ask e t h =
        subst (λ u. IsTurn Takes (Asked other ask) brought log u) (cc)
        (moved Takes (Asked other ask) (Holding other ask place None) Taken
        (λ r h p q. (omega (arith, p, f.0), omega (arith, q, one_same other e, f.1))) tt (λ _. (p, tt)) tt
        (one_goes Takes (Asked other ask) (Holding other ask place None) tt tt e e) (not_between Takes (state_of id epoch log).closed (Asked other ask) (Holding other ask place None) tt) (inl refl) (Open zero mark))
    take_turn (Open (suc n) mark) f p other ask e t h = cc
    take_turn Taken f p other ask e t h = cc

    pub lay_fits : (word : Word) → FitsWord word readers holders → (phase next : Phase) → one (is_holder index phase) ≡ 1 → is_holder index next ≡ false
        → is_reader index phase ≡ false → is_reader index next ≡ false → Fits phase next (Open 0 false)
    lay_fits (Open n mark) f phase next a b c d = λ r h p q. absurd (omega (arith, q, a, ap one b, f.1))
    lay_fits Taken f phase next a b c d = λ r h p q. (omega (arith, p, ap one c, ap one d, f.0), omega (arith, q, a, ap one b, f.1))

    pub laid : (phase next : Phase) (word : Word) (hand : State Content) → Fits phase next (Open 0 false) → hand ≡ state_of id epoch log
        → IsInHand id epoch index log next → HasSeen index next seen log → Goes Puts phase next → BetweenIs Puts index home (state_of id epoch log).closed phase next → CallIs Puts phase next
        → IsTurn Puts phase brought log (lays seen brought (vnode_in id home epoch log place word) next hand)
    laid phase next word hand fits is in_hand whole goes between call = record {
      same_id = refl;
      same_own = refl;
      same_epoch = refl;
      same_closed = refl;
      between = between;
      same = inl refl;
      grows = begins-itself log;
      word = fits;
      place = is;
      hand = in_hand;
      seen = has;
      whole = whole;
      goes = goes;
      call = call;
      alone = λ only. only;
      plain = λ only plain. plain;
      comes = refl;
    }

    pub put_turn : (word : Word) → FitsWord word readers holders → (phase : Phase) → IsOfOne phase → IsAbout index phase → IsInHand id epoch index log phase → (t : WorkerTurn)
        → turns word Puts phase ≡ Some t → IsTurn Puts phase brought log t
    put_turn word f Idle one at mine t h = cc
    put_turn word f (Asked other ask) one at mine t h = cc
    put_turn word f (Reading other get) one at mine t h = cc
    put_turn word f (Holding other ask hand plan) one at mine t h =
        subst (λ u. IsTurn Puts (Holding other ask hand plan) brought log u) (cc)
        (laid (Holding other ask hand plan) (Asked other ask) word hand
        (lay_fits word f (Holding other ask hand plan) (Asked other ask) (one_same other at) refl refl refl) (mine at).0 tt tt
        (one_goes Puts (Holding other ask hand plan) (Asked other ask) tt tt at at) (not_between Puts (state_of id epoch log).closed (Holding other ask hand plan) (Asked other ask) tt) (inl refl))
    put_turn word f (Done other None) one at mine t h = cc
    put_turn word f (Done other (Some hand)) one at mine t h =
        subst (λ u. IsTurn Puts (Done other (Some hand)) brought log u) (cc)
        (laid (Done other (Some hand)) Idle word hand (lay_fits word f (Done other (Some hand)) Idle (one_same other at) refl refl refl) (mine at) tt tt
        (one_goes Puts (Done other (Some hand)) Idle tt tt at tt) (not_between Puts (state_of id epoch log).closed (Done other (Some hand)) Idle tt) (inl refl))
    put_turn word f (Turned own other ask hand) one at mine t h = absurd one
    put_turn word f (Copying own other key stage) one at mine t h = absurd one
    put_turn word f (Closing own other stage) one at mine t h = absurd one

    -- while somebody holds the state, nothing is asked of what is in place
    pub held_place : (word : Word) → FitsWord word readers holders → 1 ≤ holders → (later : Log) → IsInPlace id epoch word later place
    held_place (Open n mark) f held later = absurd (omega (arith, held, f.1))
    held_place Taken f held later = tt
