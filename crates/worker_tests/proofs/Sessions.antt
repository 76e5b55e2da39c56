-- Sessions of a test that rest, and may go on.
use Rattle.std.proofs.Common.{◌≡◌, ◌∙◌, List, [], ◌∷◌, ◌++◌, Vec, Global, map, ap, refl, sym, subst}
use Rattle.std.proofs.lemmas.List.{append-nil, append_assoc}
use Rattle.job_pool.specs.Lists.{Every, concat}
use Rattle.job_pool.proofs.Lists.{all_more}
use Rattle.job_pool.specs.declared.worker.NumberedEnd.{NumberedEnd}
use Rattle.node_session.specs.Streams.{SourceView, TargetView}
use Rattle.gate_node.specs.Gates.{Gates}
use Rattle.gate_node.specs.Passes.{Sights}
use Rattle.worker_pool.specs.declared.end_sink.SessionEnd.{SessionEnd}
use Rattle.worker_pool.specs.declared.served_sessions.ServedSessions.{ServedSessions}
use Rattle.worker_pool.specs.Resuming.{IsLater}
use Rattle.worker_pool.specs.PausedSessions.{PausedSessionView, CanGoOn}
use Rattle.worker_pool.specs.Telling.{RestedSession, IsRestedSession, TellsAll, now_of}
use Rattle.worker_pool.proofs.Resuming.{later_on, later_same}

pub all_left : {A : Type 0} (P : A → Type 0) (xs : List A) (x : A) → Every P (xs ++ x ∷ []) → Every P xs
all_left P [] x h = tt
all_left P (y ∷ xs) x h = (h.0, all_left P xs x h.1)

pub all_last : {A : Type 0} (P : A → Type 0) (xs : List A) (x : A) → Every P (xs ++ x ∷ []) → P x
all_last P [] x h = h.0
all_last P (y ∷ xs) x h = all_last P xs x h.1

-- lists that are laid one behind another
module _ {A : Type 0} where
  abbrev joined : List (Vec A Global) → List A
  joined lists = concat (map (λ one. one.items) lists)

  pub joined_none : (all : List A) (left lists : List (Vec A Global)) → all ≡ [] → left ≡ lists → all ++ joined left ≡ joined lists
  joined_none all left lists none same = ap (λ (l : List A). l ++ joined left) none ∙ ap joined same

  pub joined_more : (all all' : List A) (left left' : List (Vec A Global)) (one : Vec A Global) (whole : List A) → left ≡ one ∷ left' → all' ≡ all ++ one.items → all ++ joined left ≡ whole → all' ++ joined left' ≡ whole
  joined_more all all' left left' one whole next more h =
      ap (λ (l : List A). l ++ joined left') more ∙ append_assoc all one.items (joined left') ∙ ap (λ (ls : List (Vec A Global)). all ++ joined ls) (sym next) ∙ h

  pub joined_all : (all : List A) (left : List (Vec A Global)) (whole : List A) → left ≡ [] → all ++ joined left ≡ whole → whole ≡ all
  joined_all all left whole none h = sym h ∙ ap (λ (ls : List (Vec A Global)). all ++ joined ls) none ∙ append-nil all

module _ {R W : Type 0} where
  module _ (may_rest : Type 0) (source : R → SourceView) (target : W → TargetView) (shared : Gates) where
    rested_go_on : (given : List (PausedSessionView R W)) (rested : List (RestedSession R W)) → Every (IsRestedSession source target shared given may_rest) rested → Every (CanGoOn shared) (map now_of rested)
    rested_go_on given [] h = tt
    rested_go_on given (one ∷ rested) h =
        (record { later = subst (λ (gates : Gates). IsLater gates shared) (sym h.0.rests.over) (later_same shared); room = h.0.rests.room refl }, rested_go_on given rested h.1)

    -- what rests of a run may go on over its gates
    pub rest_goes_on : {K : Type 0} (told : K → List (NumberedEnd (SessionEnd R W))) (given : List (PausedSessionView R W)) (first : Sights) (served : ServedSessions R W K) (seen : Sights)
        → TellsAll may_rest source target told shared given first served seen → Every (CanGoOn shared) (concat (map (λ one. one.items) served.resting.items))
    rest_goes_on told given first served seen tells = subst (Every (CanGoOn shared)) tells.rests (rested_go_on given tells.rested tells.each_rests)

  -- and over what they become
  pub goes_on_later : (old new : Gates) (sessions : List (PausedSessionView R W)) → IsLater old new → Every (CanGoOn old) sessions → Every (CanGoOn new) sessions
  goes_on_later old new sessions later = all_more (λ one may. record { later = later_on one.over old new may.later later; room = may.room }) sessions
