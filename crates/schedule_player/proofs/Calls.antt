-- Calls that are kept, and what is told of them.
use Rattle.std.proofs.Common.{◌≡◌, ℕ, zero, suc, ◌+◌, List, [], ◌∷◌, ◌++◌, refl, ap, ◌∙◌}
use Rattle.std.specs.Prelude.{◌-◌, true, false, is_some, Option, Some, None, replicate, map, option_map, slice_get, slice_set, unwrap_or}
use Rattle.std.specs.Option.{option_map_or}
use Rattle.std.specs.Global.{Box}
use Rattle.std.proofs.lemmas.List.{map-append, replicate_more}
use Rattle.std.proofs.lemmas.Option.{slice_get-map}
use Rattle.riak_msgs.specs.Contents.{Content}
use Rattle.riak_msgs.specs.declared.Request.{Request}
use Rattle.riak_msgs.specs.declared.Request.TheVariants as requests
use Rattle.riak_msgs.specs.declared.reply.Reply.{Reply}
use Rattle.schedule_text.specs.Compared.{Compared, after_call, after_reply}
use Rattle.node_steps.specs.declared.step.Step.{Step as RunStep}
use Rattle.node_steps.specs.declared.outcome.Outcome.TheVariants as outcomes
use Rattle.node_steps.specs.Asked.{Context, RegisterAsk, asks_by, request_ask}
use Rattle.node_steps.proofs.Erasing.{map-set}
use Rattle.schedule_player.specs.Calls.{call_in, call_of}
use Rattle.schedule_player.specs.Heard.{Heard, Calls, after_act, asked_by, last_call, replied, with_call}

-- a list that one more is put behind, seen through a map
pub map-one : {X Y : Type 0} (f : X → Y) (xs xs' : List X) (x : X) (n : ℕ) (y : Y) → xs' ≡ xs ++ x ∷ [] → f x ≡ y → map f xs ≡ replicate n y
    → map f xs' ≡ replicate (n + 1) y
map-one f xs xs' x n y more is before =
    ap (map f) more ∙ map-append f xs (x ∷ []) ∙ ap (λ ys. ys ++ f x ∷ []) before ∙ ap (λ z. replicate n y ++ z ∷ []) is ∙ replicate_more n y

-- what a step asks is what its request does
pub asked_is : (index : ℕ) (request : Request) → asked_by (asks_by index (request_ask request)) ≡ request_ask request
asked_is index requests.Ping = refl
asked_is index (requests.Get get) = refl
asked_is index (requests.Put put) = refl
asked_is index (requests.Del del) = refl

-- a request's reply, by what the step asks
pub replied_is : (line index : ℕ) (request : Request) (reply : Reply) (known : Compared)
    → option_map_or (λ ask. after_reply line ask reply known) (request_ask request) known
    ≡ option_map_or (λ ask. replied line reply ask known) (asked_by (asks_by index (request_ask request))) known
replied_is line index requests.Ping reply known = refl
replied_is line index (requests.Get get) reply known = refl
replied_is line index (requests.Put put) reply known = refl
replied_is line index (requests.Del del) reply known = refl

-- what is heard where only the comparison changes, by an ask that may be there
pub compared_is : (o : Option (RegisterAsk Content Context)) (calls : Calls) (known : Compared) (f : RegisterAsk Content Context → Compared)
    → (let heard : Heard = record { calls = calls; compared = option_map_or f o known } in heard)
    ≡ option_map_or (λ ask. record { calls = calls; compared = f ask }) o (record { calls = calls; compared = known })
compared_is None calls known f = refl
compared_is (Some ask) calls known f = refl

-- the last call of a worker, by what is kept of it
pub last_is : (calls : List (Option (Box RunStep))) (worker : ℕ)
    → last_call (map call_in calls) worker ≡ unwrap_or (option_map call_in (slice_get calls (worker - 1))) None
last_is calls worker = ap (λ o. unwrap_or o None) (slice_get-map call_in calls (worker - 1))

-- a call is kept where the list has a place for it
pub kept_is : (calls : List (Option (Box RunStep))) (worker : ℕ) (call : Box RunStep) (ask : RegisterAsk Content Context) → call_of call.value ≡ Some ask
    → map call_in (slice_set calls (worker - 1) (Some call)) ≡ with_call (map call_in calls) worker ask
kept_is calls worker call ask is =
    map-set call_in calls (worker - 1) (Some call) ∙ ap (λ o. slice_set (map call_in calls) (worker - 1) o) is

pub none_is : (o : Option (RegisterAsk Content Context)) → is_some o ≡ false → o ≡ None
none_is None e = refl
none_is (Some ask) e = cc

-- a call was told of, and kept
pub called_is : (o : Option (RegisterAsk Content Context)) (calls calls' : Calls) (known known' : Compared) (line worker : ℕ) → is_some o ≡ true
    → ((ask : RegisterAsk Content Context) → o ≡ Some ask → calls' ≡ with_call calls worker ask)
    → known' ≡ option_map_or (λ ask. after_call ask known) o known
    → (let heard : Heard = record { calls = calls'; compared = known' } in heard) ≡ after_act line worker o outcomes.Done (record { calls = calls; compared = known })
called_is None calls calls' known known' line worker e kept told = cc
called_is (Some ask) calls calls' known known' line worker e kept told = λ i. record { calls = kept ask refl i; compared = told i }

-- a list without a place for a call stays
no_place : (calls : List (Option (Box RunStep))) (i : ℕ) (kept : Option (RegisterAsk Content Context)) → slice_get calls i ≡ None
    → map call_in calls ≡ slice_set (map call_in calls) i kept
no_place [] i kept e = refl
no_place (call ∷ calls) zero kept e = cc
no_place (call ∷ calls) (suc i) kept e = ap (λ rest. call_in call ∷ rest) (no_place calls i kept e)

pub not_kept : (calls : List (Option (Box RunStep))) (worker : ℕ) (ask : RegisterAsk Content Context) → slice_get calls (worker - 1) ≡ None
    → map call_in calls ≡ with_call (map call_in calls) worker ask
not_kept calls worker ask e = no_place calls (worker - 1) (Some ask) e
