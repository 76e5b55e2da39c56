-- Where no session rests, and how many are over that a server had which is paused and goes on.
use Rattle.std.proofs.Common.{◌≡◌, ◌∙◌, ◌↔◌, ℕ, ◌+◌, IsTrue, true, List, [], ◌∷◌, Vec, Global, length, map, nat_eq, ap, arith, refl, sym}
use Rattle.std.proofs.lemmas.List.{length-append, length-map, length-reverse}
use Rattle.std.proofs.lemmas.List.Folds.{list_all-map}
use Rattle.std.specs.List.{list_all}
use mathlib.Core.Logic.{inl, inr}
use Rattle.job_pool.specs.Lists.{concat}
use Rattle.gate_node.specs.Gates.{Gates}
use Rattle.worker_pool.specs.PausedSessions.{PausedSessionView}
use Rattle.worker_pool.specs.Telling.{now_of}
use Rattle.socket_streams.specs.declared.halves.RequestHalf.{RequestHalf}
use Rattle.socket_streams.specs.declared.halves.ReplyHalf.{ReplyHalf}
use Rattle.socket_streams.specs.Sessions.{begun_by, in_turn}
use Rattle.node_commands.specs.declared.progress.Progress.{Progress}
use Rattle.node_commands.specs.declared.progress.Paused.{Paused}
use Rattle.node_commands.specs.declared.options.ServerSettings.{ServerSettings}
use Rattle.node_commands.specs.Periods.{GoesThrough, HasRun, HasServed, NoneRests, all_over, over_in, rested_in}

abbrev Sessions : Type 0
Sessions = Vec (PausedSessionView RequestHalf ReplyHalf) Global

module _ {A : Type 0} where
  none_in : (lists : List (List A)) → list_all (λ one. nat_eq (length one) 0) lists ≡ true → concat lists ≡ []
  none_in [] h = refl
  none_in ([] ∷ lists) h = none_in lists h
  none_in ((x ∷ xs) ∷ lists) h = absurd (grind (arith, h))

  each_empty : (lists : List (List A)) → concat lists ≡ [] → list_all (λ one. nat_eq (length one) 0) lists ≡ true
  each_empty [] h = refl
  each_empty ([] ∷ lists) h = each_empty lists h
  each_empty ((x ∷ xs) ∷ lists) h = absurd (cc h)

  -- there is nothing in lists just where each is empty
  pub none_in_all : (lists : List (Vec A Global)) → IsTrue (list_all (λ one. nat_eq (length one.items) 0) lists) ↔ concat (map (λ one. one.items) lists) ≡ []
  none_in_all lists =
      let all = list_all-map (λ xs. nat_eq (length xs) 0) (λ (one : Vec A Global). one.items) lists in
      let items = map (λ (one : Vec A Global). one.items) lists in
      (λ yes. none_in items (all ∙ yes), λ none. sym all ∙ each_empty items none)

-- how many sessions rest
abbrev resting : Progress → ℕ
resting progress = length (concat (rested_in progress))

-- behind a period: what is over and what rests now are what rested and the connections that came
period_adds_up : (gates : Gates) (old new : Progress) (served : HasServed gates old new)
    → ((length served.told.ended + served.served.refused) + served.away) + (resting new + old.connections) ≡ resting old + new.connections
period_adds_up gates old new served =
    let told = served.told in
    let rested = in_turn (rested_in old) in
    let begun = map (begun_by gates) served.jobs in
    let all : (length told.ended + length told.rested) + served.served.refused ≡ served.served.accepted = told.all in
    let given : served.served.accepted ≡ length rested + length begun = told.accepted ∙ length-append rested begun in
    let turned : length rested ≡ resting old = length-reverse (concat (rested_in old)) in
    let many : length begun ≡ length served.jobs = length-map served.jobs (begun_by gates) in
    let rests : length told.rested ≡ resting new =
    sym (length-map told.rested now_of) ∙ ap length told.rests ∙ ap (λ (lists : Vec Sessions Global). length (concat (map (λ one. one.items) lists.items))) (sym served.rested) in
    let connections : new.connections ≡ old.connections + (length served.jobs + served.away) = served.connections in
    omega (arith, all, given, turned, many, rests, connections)

-- where nothing was done
stays_so : (old new : Progress) → new ≡ old → 0 + (resting new + old.connections) ≡ resting old + new.connections
stays_so old new same =
    let rests : resting new ≡ resting old = ap (λ (p : Progress). resting p) same in
    let connections : new.connections ≡ old.connections = ap (λ (p : Progress). p.connections) same in
    omega (arith, rests, connections)

-- one thing behind another
add_up : (one more rest_first rest_next rest_last first next last : ℕ)
    → one + (rest_next + first) ≡ rest_first + next → more + (rest_last + next) ≡ rest_next + last → (one + more) + (rest_last + first) ≡ rest_first + last
add_up one more rest_first rest_next rest_last first next last here on = omega (arith, here, on)

path_adds_up : (first : Paused) (path : List Paused) (last : Paused) (goes : GoesThrough first path last)
    → all_over first path last goes + (resting last.progress + first.progress.connections) ≡ resting first.progress + last.progress.connections
path_adds_up first [] last same = stays_so first.progress last.progress (ap (λ (p : Paused). p.progress) same)
path_adds_up first (next ∷ path) last (inl (same, served), goes) =
    add_up (over_in first next (inl (same, served))) (all_over next path last goes) (resting first.progress) (resting next.progress) (resting last.progress)
    first.progress.connections next.progress.connections last.progress.connections
    (period_adds_up first.shared first.progress next.progress served) (path_adds_up next path last goes)
path_adds_up first (next ∷ path) last (inr (same, index, diverted), goes) =
    add_up 0 (all_over next path last goes) (resting first.progress) (resting next.progress) (resting last.progress)
    first.progress.connections next.progress.connections last.progress.connections
    (stays_so first.progress next.progress same) (path_adds_up next path last goes)

-- where none rests behind a new run, as many are over as connections were accepted
pub all_are_over : (settings : ServerSettings) (last : Paused) (run : HasRun settings last) → NoneRests last.progress → all_over run.first run.path last run.goes ≡ last.progress.connections
all_are_over settings last run none =
    let first = run.first.progress in
    let sum = path_adds_up run.first run.path last run.goes in
    let none_now : resting last.progress ≡ 0 = ap length none in
    let none_first : resting first ≡ 0 = ap (λ (lists : List Sessions). length (concat (map (λ one. one.items) lists))) run.begins.none in
    let unaccepted : first.connections ≡ 0 = run.begins.unaccepted in
    omega (arith, sum, none_now, none_first, unaccepted)
