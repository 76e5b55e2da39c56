-- What a step at one site makes of a worker that was turned away from a closed fallback, or of a closer, and of the vnode there.
use Rattle.std.proofs.Common.{◌≡◌, ◌≢◌, inl, inr, ℕ, zero, suc, ◌+◌, true, false, ◌||◌, refl, sym, ◌∙◌, ap, arith, subst}
use Rattle.std.specs.Prelude.{◌==◌, Option, Some, None}
use Rattle.riak_msgs.specs.Contents.{Content}
use Rattle.sibling_register.specs.Answers.{RegisterAsk}
use Rattle.actor_epoch.specs.Given.{Context}
use Rattle.vnode_machine.specs.Machine.{State}
use Rattle.vnode_machine.specs.Replay.{IsWithinLimits}
use Rattle.copy_laws.specs.Joining.{Log}
use Rattle.node_steps.specs.World.{Word, Open, Taken, CloseStage, CloseAsked, CloseTaken, CloseInside, CloseDone, Phase, Idle, Asked, Turned, Closing, Brought}
use Rattle.node_steps.specs.Steps.{Action, ClosesFrom, Enters, Leaves, Takes, Puts, WorkerTurn, left}
use Rattle.node_steps.specs.Schedules.{Begins}
use Rattle.node_steps.proofs.Coming.{is_looked, BetweenIs}
use Rattle.node_steps.proofs.Lists.{one, no_more, cancel}
use Rattle.node_steps.proofs.Inside.{FitsWord, state_of, IsInPlace, IsInHand, other_test, StaysAt}
use Rattle.node_steps.proofs.Turns.{same_number, one_of, Goes, IsTurn, not_between, one_same, fits_same, turns, moved, laid, lay_fits, leave_fits, left_place}
use Rattle.node_steps.proofs.Numbers.{apart}

module _ (id epoch home index readers holders : ℕ) where
  -- a closer goes on, between the same sites
  goes_on : (action : Action) (own site : ℕ) (was next : CloseStage)
      → ((other : ℕ) → index ≢ other → StaysAt other (Closing own site was) (Closing own site next))
      → Goes id epoch home index readers holders action (Closing own site was) (Closing own site next)
  goes_on action own site was next keeps = record { keeps = keeps; about = λ other h. inl h }

  stays_between : (action : Action) (closed : Option ℕ) (own site : ℕ) (was next : CloseStage) → is_looked (Closing own site next) ≡ false
      → BetweenIs action index home closed (Closing own site was) (Closing own site next)
  stays_between action closed own site was next n = λ own2 site2 h. (n, inl (h, refl))

  module _ (limits : IsWithinLimits id epoch) (log : Log) (seen : Log) (brought : Brought) (place : State Content) (has : Begins seen log)
      (own site : ℕ) where
    abbrev TurnsTo : Word → Action → Phase → WorkerTurn → Type 0
    TurnsTo word action phase t = turns id epoch home index readers holders limits log seen brought place has word action phase ≡ Some t

    abbrev Is : Action → Phase → WorkerTurn → Type 0
    Is action phase t = IsTurn id epoch home index readers holders action phase brought log t

    abbrev closed_here : Option ℕ
    closed_here = (state_of id epoch log).closed

    -- who was turned away leaves, or puts the state back, and is asked at its partition's own site
    pub leave_turned : (word : Word) → FitsWord word readers holders → IsInPlace id epoch word log place → (ask : RegisterAsk Content Context) → site ≡ index → (t : WorkerTurn)
        → TurnsTo word Leaves (Turned own site ask None) t → Is Leaves (Turned own site ask None) t
    leave_turned word f p ask e t h =
        subst (λ u. Is Leaves (Turned own site ask None) u) (cc)
        (moved id epoch home index readers holders limits log seen brought place has Leaves (Turned own site ask None) (Asked own ask) (left word)
        (leave_fits id epoch home index readers holders limits log seen brought place has word f (Turned own site ask None) (Asked own ask)
        (one_same id epoch home index readers holders site e) refl refl refl)
        (left_place id epoch home index readers holders limits log seen brought place has word p) tt tt
        (record {
          keeps = λ other n. record {
            reader = sym (other_test site other (apart site index other e n));
            holder = refl;
            hand = λ i k l had. tt;
            whole = λ front history had. tt;
          };
          about = λ other about. inl (ap (λ b. b || (site == other)) about);
        })
        (not_between id epoch home index readers holders Leaves closed_here (Turned own site ask None) (Asked own ask) tt)
        (inr (inr (record { site = own; ask = ask }, refl, refl))) word)

    pub put_turned : (word : Word) → FitsWord word readers holders → (ask : RegisterAsk Content Context) (hand : State Content) → IsInHand id epoch index log (Turned own site ask (Some hand))
        → site ≡ index → (t : WorkerTurn) → TurnsTo word Puts (Turned own site ask (Some hand)) t → Is Puts (Turned own site ask (Some hand)) t
    put_turned word f ask hand mine e t h =
        subst (λ u. Is Puts (Turned own site ask (Some hand)) u) (cc)
        (laid id epoch home index readers holders limits log seen brought place has (Turned own site ask (Some hand)) (Asked own ask) word hand
        (lay_fits id epoch home index readers holders limits log seen brought place has word f (Turned own site ask (Some hand)) (Asked own ask)
        (one_same id epoch home index readers holders site e) refl refl refl) (mine e) tt tt
        (record {
          keeps = λ other n. record {
            reader = refl;
            holder = sym (other_test site other (apart site index other e n));
            hand = λ i k l had. tt;
            whole = λ front history had. tt;
          };
          about = λ other about. inl (ap (λ b. b || (site == other)) about);
        })
        (not_between id epoch home index readers holders Puts closed_here (Turned own site ask (Some hand)) (Asked own ask) tt)
        (inr (inr (record { site = own; ask = ask }, refl, refl))))

    -- a closer is sent
    pub ask_turn : (word : Word) → FitsWord word readers holders → IsInPlace id epoch word log place → site ≡ index → (t : WorkerTurn)
        → TurnsTo word (ClosesFrom own site) Idle t → Is (ClosesFrom own site) Idle t
    ask_turn word f p e t h =
        subst (λ u. Is (ClosesFrom own site) Idle u) (cc)
        (moved id epoch home index readers holders limits log seen brought place has (ClosesFrom own site) Idle (Closing own site CloseAsked) word
        (λ r h p q. fits_same id epoch home index readers holders word f r h (no_more r readers p) (no_more h holders q)) p tt tt
        (record {
          keeps = λ other n. record { reader = refl; holder = refl; hand = λ i k l had. tt; whole = λ front history had. tt };
          about = λ other about. elim (one_of (own == other) (site == other) about) [
            | inl is ↦ inr (inr (inr (site, ap (λ (o : ℕ). Some (o, site)) (same_number own other is))))
            | inr is ↦ inr (inl (sym e ∙ same_number site other is))
          ];
        }) (λ own2 site2 k. (refl, inr (inl (k, refl)))) (inl refl) word)

    -- it takes the fallback's state
    pub take_turn : (word : Word) → FitsWord word readers holders → IsInPlace id epoch word log place → site ≡ index → (t : WorkerTurn)
        → TurnsTo word Takes (Closing own site CloseAsked) t → Is Takes (Closing own site CloseAsked) t
    take_turn (Open zero mark) f p e t h =
        subst (λ u. Is Takes (Closing own site CloseAsked) u) (cc)
        (moved id epoch home index readers holders limits log seen brought place has Takes (Closing own site CloseAsked) (Closing own site (CloseTaken place)) Taken
        (λ r h p q. (omega (arith, p, f.0), omega (arith, q, one_same id epoch home index readers holders site e, f.1))) tt (λ _. p) tt
        (goes_on Takes own site CloseAsked (CloseTaken place) (λ other n. record {
          reader = refl;
          holder = other_test site other (apart site index other e n);
          hand = λ i k l had. λ at. absurd (n (sym e ∙ at));
          whole = λ front history had. tt;
        })) (stays_between Takes closed_here own site CloseAsked (CloseTaken place) refl) (inl refl) (Open zero mark))
    take_turn (Open (suc n) mark) f p e t h = cc
    take_turn Taken f p e t h = cc

    -- it enters the primary
    pub enter_turn : (word : Word) → FitsWord word readers holders → IsInPlace id epoch word log place → (hand : State Content) → IsInHand id epoch index log (Closing own site (CloseTaken hand))
        → own ≡ index → (t : WorkerTurn) → TurnsTo word Enters (Closing own site (CloseTaken hand)) t → Is Enters (Closing own site (CloseTaken hand)) t
    enter_turn (Open n false) f p hand mine e t h =
        subst (λ u. Is Enters (Closing own site (CloseTaken hand)) u) (cc)
        (moved id epoch home index readers holders limits log seen brought place has Enters (Closing own site (CloseTaken hand)) (Closing own site (CloseInside hand)) (Open (n + 1) false)
        (λ r h p q. (omega (arith, p, one_same id epoch home index readers holders own e, f.0), omega (arith, cancel h holders (site == index) q, f.1))) p mine tt
        (goes_on Enters own site (CloseTaken hand) (CloseInside hand) (λ other n. record {
          reader = other_test own other (apart own index other e n);
          holder = refl;
          hand = λ i k l had. had;
          whole = λ front history had. tt;
        })) (stays_between Enters closed_here own site (CloseTaken hand) (CloseInside hand) refl) (inl refl) (Open n false))
    enter_turn (Open n true) f p hand mine e t h = cc
    enter_turn Taken f p hand mine e t h = cc

    -- it leaves the primary
    pub leave_turn : (word : Word) → FitsWord word readers holders → IsInPlace id epoch word log place → (hand : State Content) → IsInHand id epoch index log (Closing own site (CloseDone hand true))
        → own ≡ index → (t : WorkerTurn) → TurnsTo word Leaves (Closing own site (CloseDone hand true)) t → Is Leaves (Closing own site (CloseDone hand true)) t
    leave_turn word f p hand mine e t h =
        subst (λ u. Is Leaves (Closing own site (CloseDone hand true)) u) (cc)
        (moved id epoch home index readers holders limits log seen brought place has Leaves (Closing own site (CloseDone hand true)) (Closing own site (CloseDone hand false)) (left word)
        (fits word f) (left_place id epoch home index readers holders limits log seen brought place has word p) mine tt
        (goes_on Leaves own site (CloseDone hand true) (CloseDone hand false) (λ other n. record {
          reader = sym (other_test own other (apart own index other e n));
          holder = refl;
          hand = λ i k l had. had;
          whole = λ front history had. tt;
        })) (stays_between Leaves closed_here own site (CloseDone hand true) (CloseDone hand false) refl) (inl refl) word)
      where
        fits : (word : Word) → FitsWord word readers holders → (r h : ℕ) → r + one (own == index) ≡ readers + 0
            → h + one (site == index) ≡ holders + one (site == index) → FitsWord (left word) r h
        fits (Open n mark) f r h x y = (omega (arith, x, one_same id epoch home index readers holders own e, f.0), omega (arith, cancel h holders (site == index) y, f.1))
        fits Taken f r h x y = absurd (omega (arith, x, one_same id epoch home index readers holders own e, f.0))

    -- and puts the fallback's state back
    pub put_turn : (word : Word) → FitsWord word readers holders → (hand : State Content) → IsInHand id epoch index log (Closing own site (CloseDone hand false))
        → site ≡ index → (t : WorkerTurn) → TurnsTo word Puts (Closing own site (CloseDone hand false)) t → Is Puts (Closing own site (CloseDone hand false)) t
    put_turn word f hand mine e t h =
        subst (λ u. Is Puts (Closing own site (CloseDone hand false)) u) (cc)
        (laid id epoch home index readers holders limits log seen brought place has (Closing own site (CloseDone hand false)) Idle word hand
        (lay_fits id epoch home index readers holders limits log seen brought place has word f (Closing own site (CloseDone hand false)) Idle
        (one_same id epoch home index readers holders site e) refl refl refl) (mine e) tt tt
        (record {
          keeps = λ other n. record {
            reader = refl;
            holder = sym (other_test site other (apart site index other e n));
            hand = λ i k l had. tt;
            whole = λ front history had. tt;
          };
          about = λ other h. cc;
        }) (λ own2 site2 h. cc) (inl refl))
