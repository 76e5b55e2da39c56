-- What any step makes of its worker and its vnode.
use Rattle.std.proofs.Common.{◌≡◌, ℕ, ◌≤◌, true, false, subst}
use Rattle.std.specs.Prelude.{Some, None}
use Rattle.sibling_register.specs.Answers.{AskGet}
use Rattle.copy_laws.specs.Joining.{Log}
use Rattle.node_steps.specs.World.{CopyAsked, CopyInside, CopyLooked, CopyTaken, CopyDone, CloseAsked, CloseTaken, CloseDone, Phase, Idle, Asked, Reading, Holding, Done, Turned, Copying, Closing, Brought, SiteVnode}
use Rattle.node_steps.specs.Steps.{Action, Asks, CopiesFrom, ClosesFrom, Enters, Leaves, Marks, Unmarks, Takes, Puts, Looks, Publishes, WorkerTurn, turn_of, site_of}
use Rattle.node_steps.specs.Schedules.{Begins}
use Rattle.node_steps.proofs.Lists.{one}
use Rattle.node_steps.proofs.Inside.{is_reader, is_holder, IsInHand, IsAbout, IsSoundAs}
use Rattle.node_steps.proofs.Turns.{IsTurn, asks_turn, enter_turn, leave_turn, mark_turn, unmark_turn, take_turn, put_turn}
use Rattle.node_steps.proofs.LookTurns.{look_turn, publish_turn}
use Rattle.node_steps.proofs.CopyTurns.{ask_turn as copy_ask, enter_turn as copy_enter, find_turn, take_turn as copy_take, sync_turn, publish_turn as copy_publish, put_turn as copy_put, leave_turn as copy_leave}
use Rattle.node_steps.proofs.CloseTurns.{leave_turned, put_turned, ask_turn as close_ask, take_turn as close_take, enter_turn as close_enter, leave_turn as close_leave, put_turn as close_put}

module _ (id epoch home index readers holders : ℕ) where
  pub about_is : (action : Action) (phase : Phase) → site_of action phase ≡ Some index → IsAbout index phase
  about_is action Idle h = tt
  about_is action (Asked other ask) h = cc
  about_is action (Reading other get) h = cc
  about_is action (Holding other ask hand plan) h = cc
  about_is action (Done other hand) h = cc
  about_is action (Turned own site ask hand) h = cc
  about_is action (Copying own site key stage) h = cc
  about_is action (Closing own site stage) h = cc

  pub turn_is : (seen : Log) (brought : Brought) (vnode : SiteVnode) (same_id : vnode.id ≡ id) (same_own : vnode.own ≡ home) (same_epoch : vnode.last_epoch ≡ epoch) → IsSoundAs id epoch readers holders vnode → Begins seen vnode.log
      → (action : Action) (phase : Phase) → one (is_reader index phase) ≤ readers → one (is_holder index phase) ≤ holders
      → IsInHand id epoch index vnode.log phase → site_of action phase ≡ Some index → (t : WorkerTurn) → turn_of seen brought vnode action phase ≡ Some t
      → IsTurn id epoch home index readers holders action phase brought vnode.log t
  turn_is seen brought vnode same_id same_own same_epoch sound has action phase reading held mine a t h =
      by action phase reading held mine a t
      (subst (λ e. turn_of seen brought (record vnode { id = id; own = home; last_epoch = e }) action phase ≡ Some t) same_epoch
      (subst (λ o. turn_of seen brought (record vnode { id = id; own = o }) action phase ≡ Some t) same_own
      (subst (λ i. turn_of seen brought (record vnode { id = i }) action phase ≡ Some t) same_id h)))
    where
      by : (action : Action) (phase : Phase) → one (is_reader index phase) ≤ readers → one (is_holder index phase) ≤ holders
          → IsInHand id epoch index vnode.log phase → site_of action phase ≡ Some index → (t : WorkerTurn)
          → turn_of seen brought (record vnode { id = id; own = home; last_epoch = epoch }) action phase ≡ Some t
          → IsTurn id epoch home index readers holders action phase brought vnode.log t
      by (Asks other ask) Idle reading held mine a t h =
          asks_turn id epoch home index readers holders sound.limits vnode.log seen brought vnode.place has vnode.word sound.word sound.place other ask (cc) t h
      by (CopiesFrom own site key) Idle reading held mine a t h =
          copy_ask id epoch home index readers holders sound.limits vnode.log seen brought vnode.place has own site key vnode.word sound.word sound.place (cc) t h
      by (ClosesFrom own site) Idle reading held mine a t h =
          close_ask id epoch home index readers holders sound.limits vnode.log seen brought vnode.place has own site vnode.word sound.word sound.place (cc) t h
      by Leaves (Turned own site ask None) reading held mine a t h =
          leave_turned id epoch home index readers holders sound.limits vnode.log seen brought vnode.place has own site vnode.word sound.word sound.place ask (cc) t h
      by Puts (Turned own site ask (Some hand)) reading held mine a t h =
          put_turned id epoch home index readers holders sound.limits vnode.log seen brought vnode.place has own site vnode.word sound.word ask hand mine (cc) t h
      by Takes (Closing own site CloseAsked) reading held mine a t h =
          close_take id epoch home index readers holders sound.limits vnode.log seen brought vnode.place has own site vnode.word sound.word sound.place (cc) t h
      by Enters (Closing own site (CloseTaken hand)) reading held mine a t h =
          close_enter id epoch home index readers holders sound.limits vnode.log seen brought vnode.place has own site vnode.word sound.word sound.place hand mine (cc) t h
      by Leaves (Closing own site (CloseDone hand true)) reading held mine a t h =
          close_leave id epoch home index readers holders sound.limits vnode.log seen brought vnode.place has own site vnode.word sound.word sound.place hand mine (cc) t h
      by Puts (Closing own site (CloseDone hand false)) reading held mine a t h =
          close_put id epoch home index readers holders sound.limits vnode.log seen brought vnode.place has own site vnode.word sound.word hand mine (cc) t h
      by Enters (Asked other (AskGet get)) reading held mine a t h =
          enter_turn id epoch home index readers holders sound.limits vnode.log seen brought vnode.place has vnode.word sound.word sound.place other get (cc) t h
      by Enters (Copying own site key CopyAsked) reading held mine a t h =
          copy_enter id epoch home index readers holders sound.limits vnode.log seen brought vnode.place has own site key vnode.word sound.word sound.place (cc) t h
      by Leaves (Reading other get) reading held mine a t h =
          leave_turn id epoch home index readers holders sound.limits vnode.log seen brought vnode.place has vnode.word sound.word sound.place (Reading other get) tt (about_is Leaves (Reading other get) a) t h
      by Leaves (Done other hand) reading held mine a t h =
          leave_turn id epoch home index readers holders sound.limits vnode.log seen brought vnode.place has vnode.word sound.word sound.place (Done other hand) tt (about_is Leaves (Done other hand) a) t h
      by Leaves (Copying own site key (CopyDone None)) reading held mine a t h =
          copy_leave id epoch home index readers holders sound.limits vnode.log seen brought vnode.place has own site key vnode.word sound.word sound.place (cc) t h
      by Marks (Asked other ask) reading held mine a t h =
          mark_turn id epoch home index readers holders sound.limits vnode.log seen brought vnode.place has vnode.word sound.word sound.place other ask (cc) t h
      by Unmarks (Asked other ask) reading held mine a t h =
          unmark_turn id epoch home index readers holders sound.limits vnode.log seen brought vnode.place has vnode.word sound.word sound.place other ask (cc) t h
      by Takes (Asked other ask) reading held mine a t h =
          take_turn id epoch home index readers holders sound.limits vnode.log seen brought vnode.place has vnode.word sound.word sound.place other ask (cc) t h
      by Takes (Copying own site key (CopyLooked clock)) reading held mine a t h =
          copy_take id epoch home index readers holders sound.limits vnode.log seen brought vnode.place has own site key vnode.word sound.word sound.place clock reading mine (cc) t h
      by Puts (Holding other ask hand plan) reading held mine a t h =
          put_turn id epoch home index readers holders sound.limits vnode.log seen brought vnode.place has vnode.word sound.word (Holding other ask hand plan) tt (about_is Puts (Holding other ask hand plan) a) mine t h
      by Puts (Done other hand) reading held mine a t h =
          put_turn id epoch home index readers holders sound.limits vnode.log seen brought vnode.place has vnode.word sound.word (Done other hand) tt (about_is Puts (Done other hand) a) mine t h
      by Puts (Copying own site key (CopyDone (Some hand))) reading held mine a t h =
          copy_put id epoch home index readers holders sound.limits vnode.log seen brought vnode.place has own site key vnode.word sound.word hand mine (cc) t h
      by Looks (Reading other get) reading held mine a t h =
          look_turn id epoch home index readers holders sound.limits vnode.log seen brought vnode.place has vnode.word sound.word sound.place (Reading other get) tt reading (about_is Looks (Reading other get) a) mine t h
      by Looks (Holding other ask hand plan) reading held mine a t h =
          look_turn id epoch home index readers holders sound.limits vnode.log seen brought vnode.place has vnode.word sound.word sound.place (Holding other ask hand plan) tt reading (about_is Looks (Holding other ask hand plan) a) mine t h
      by Looks (Copying own site key CopyInside) reading held mine a t h =
          find_turn id epoch home index readers holders sound.limits vnode.log seen brought vnode.place has own site key vnode.word sound.word sound.place reading (cc) t h
      by Looks (Copying own site key (CopyTaken clock hand None)) reading held mine a t h =
          sync_turn id epoch home index readers holders sound.limits vnode.log seen brought vnode.place has own site key vnode.word sound.word sound.place clock hand mine (cc) t h
      by Publishes (Holding other ask hand plan) reading held mine a t h =
          publish_turn id epoch home index readers holders sound.limits vnode.log seen brought vnode.place has vnode.word sound.word (Holding other ask hand plan) tt held (about_is Publishes (Holding other ask hand plan) a) mine t h
      by Publishes (Copying own site key (CopyTaken clock hand (Some next))) reading held mine a t h =
          copy_publish id epoch home index readers holders sound.limits vnode.log seen brought vnode.place has own site key vnode.word sound.word clock hand next held mine (cc) t h
      by action phase reading held mine a t h = cc
