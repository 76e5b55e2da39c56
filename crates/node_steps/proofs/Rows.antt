-- Schedules that a reader can follow by hand: a reader inside while a writer marks, a second reader that cannot enter until
-- the state is in place again; and steps that aren't possible.
use Rattle.std.proofs.Common.{◌≡◌, ℕ, List, [], ◌∷◌, false, refl}
use Rattle.std.specs.Prelude.{None, Ok, Err, Some}
use Rattle.riak_msgs.specs.declared.Key.{Key}
use Rattle.riak_msgs.specs.Contents.{Content, no_content}
use Rattle.sibling_register.specs.Refusals.{bad_context}
use Rattle.sibling_register.specs.Answers.{RegisterAsk, AskGet, AskPut, AskDel, AskReap}
use Rattle.actor_epoch.specs.Given.{Context, Malformed}
use Rattle.vnode_machine.specs.Step.{GetDone, PutDone, DelDone, ReapDone, ReapKept}
use Rattle.node_steps.specs.World.{World, opening_world}
use Rattle.node_steps.specs.Steps.{Step, By, Diverts, Action, Asks, AsksNowhere, Enters, Leaves, Marks, Unmarks, Takes, Puts, Looks, Publishes, Outcome, NotPossible, Happened, Replied, after, outcome}

-- what comes of steps that are taken in this order
abbrev pub outcomes : World → List Step → List Outcome
outcomes w [] = []
outcomes w (step ∷ steps) = outcome w step ∷ outcomes (after w step) steps

abbrev pub k : Key
k = record { bucket_type = 100 ∷ []; bucket = 98 ∷ []; key = 107 ∷ [] }

abbrev pub v : Content
v = record no_content { value = 118 ∷ [] }

abbrev pub get : RegisterAsk Content Context
get = AskGet (record { key = k; if_modified = None; head = false; deletedvclock = false })

abbrev pub put : RegisterAsk Content Context
put = AskPut (record { key = k; context = None; value = v; return_body = false; return_head = false; if_not_modified = false; if_none_match = false })

abbrev pub del : RegisterAsk Content Context
del = AskDel (record { key = k; context = None })

abbrev put_malformed : RegisterAsk Content Context
put_malformed = AskPut (record { key = k; context = Some Malformed; value = v; return_body = false; return_head = false; if_not_modified = false; if_none_match = false })

-- the worker of this number does this
abbrev pub does : ℕ → Action → Step
does worker action = By worker action

abbrev pub nothing : Outcome
nothing = Replied (Ok (GetDone (record { contents = []; context = []; unchanged = false })))

abbrev pub stored : Outcome
stored = Replied (Ok (PutDone (record { contents = []; context = [] })))

-- "v" by the context with version 2 and the entry of vnode 65536, epoch 1, counter 1
abbrev pub shows : Outcome
shows = Replied (Ok (GetDone (record {
  contents = record { content = v; deleted = false } ∷ [];
  context = 2 ∷ 0 ∷ 0 ∷ 0 ∷ 0 ∷ 0 ∷ 1 ∷ 0 ∷ 0 ∷ 0 ∷ 0 ∷ 0 ∷ 1 ∷ 0 ∷ 0 ∷ 0 ∷ 0 ∷ 0 ∷ 0 ∷ 0 ∷ 1 ∷ [];
  unchanged = false;
})))

-- run 1, three workers, one vnode
reader_and_writer : outcomes (opening_world 1 3 1)
    (does 1 (Asks 0 get) ∷ does 2 (Asks 0 put) ∷ does 3 (Asks 0 get) ∷ does 1 Enters ∷ does 2 Marks ∷ does 3 Enters ∷ does 2 Takes ∷ does 1 Looks ∷ does 1 Leaves
    ∷ does 2 Takes ∷ does 2 Looks ∷ does 2 Publishes ∷ does 3 Enters ∷ does 2 Puts ∷ does 3 Enters ∷ does 3 Looks ∷ does 3 Leaves ∷ [])
    ≡ Happened ∷ Happened ∷ Happened ∷ Happened ∷ Happened ∷ NotPossible ∷ NotPossible ∷ nothing ∷ Happened
    ∷ Happened ∷ Happened ∷ stored ∷ NotPossible ∷ Happened ∷ Happened ∷ shows ∷ Happened ∷ []
reader_and_writer = refl

-- a put, a delete by which the key is dead, and a reap, each by one worker; at each publish the state goes on
whole_life : outcomes (opening_world 1 1 1)
    (does 1 (Asks 0 put) ∷ does 1 Takes ∷ does 1 Looks ∷ does 1 Publishes ∷ does 1 Puts
    ∷ does 1 (Asks 0 (AskReap k)) ∷ does 1 Takes ∷ does 1 Looks ∷ does 1 Puts
    ∷ does 1 (Asks 0 del) ∷ does 1 Takes ∷ does 1 Looks ∷ does 1 Publishes ∷ does 1 Puts
    ∷ does 1 (Asks 0 (AskReap k)) ∷ does 1 Takes ∷ does 1 Looks ∷ does 1 Publishes ∷ does 1 Puts
    ∷ does 1 (Asks 0 get) ∷ does 1 Enters ∷ does 1 Looks ∷ [])
    ≡ Happened ∷ Happened ∷ Happened ∷ stored ∷ Happened
    ∷ Happened ∷ Happened ∷ Replied (Ok ReapKept) ∷ Happened
    ∷ Happened ∷ Happened ∷ Happened ∷ Replied (Ok DelDone) ∷ Happened
    ∷ Happened ∷ Happened ∷ Happened ∷ Replied (Ok ReapDone) ∷ Happened
    ∷ Happened ∷ Happened ∷ nothing ∷ []
whole_life = refl

-- a refused put is answered at its look, and has nothing to publish
refused : outcomes (opening_world 1 1 1) (does 1 (Asks 0 put_malformed) ∷ does 1 Takes ∷ does 1 Looks ∷ does 1 Publishes ∷ does 1 Looks ∷ does 1 Puts ∷ [])
    ≡ Happened ∷ Happened ∷ Replied (Err bad_context) ∷ NotPossible ∷ NotPossible ∷ Happened ∷ []
refused = refl

-- a put back before the publish drops the plan and keeps the call
put_back : outcomes (opening_world 1 1 1)
    (does 1 (Asks 0 put) ∷ does 1 Takes ∷ does 1 Looks ∷ does 1 Puts ∷ does 1 Takes ∷ does 1 Publishes ∷ does 1 Looks ∷ does 1 Publishes ∷ [])
    ≡ Happened ∷ Happened ∷ Happened ∷ Happened ∷ Happened ∷ NotPossible ∷ Happened ∷ stored ∷ []
put_back = refl

-- a put back leaves no mark: it was made while a reader was inside, and the next reader enters
put_back_unmarks : outcomes (opening_world 1 2 1)
    (does 1 (Asks 0 put) ∷ does 2 (Asks 0 get) ∷ does 1 Unmarks ∷ does 1 Marks ∷ does 1 Marks ∷ does 2 Enters ∷ does 1 Takes ∷ does 1 Puts ∷ does 2 Enters ∷ [])
    ≡ Happened ∷ Happened ∷ NotPossible ∷ Happened ∷ NotPossible ∷ NotPossible ∷ Happened ∷ Happened ∷ Happened ∷ []
put_back_unmarks = refl

-- a reader that leaves keeps the mark: no reader enters until it is taken away
leave_keeps_mark : outcomes (opening_world 1 3 1)
    (does 1 (Asks 0 get) ∷ does 2 (Asks 0 put) ∷ does 3 (Asks 0 get) ∷ does 1 Enters ∷ does 2 Marks ∷ does 1 Leaves ∷ does 3 Enters ∷ does 2 Marks
    ∷ does 2 Unmarks ∷ does 3 Enters ∷ [])
    ≡ Happened ∷ Happened ∷ Happened ∷ Happened ∷ Happened ∷ Happened ∷ NotPossible ∷ NotPossible ∷ Happened ∷ Happened ∷ []
leave_keeps_mark = refl

-- a publish without a look, a look from outside, and a worker that isn't there
not_possible : outcomes (opening_world 1 1 1)
    (does 1 (Asks 0 put) ∷ does 1 Enters ∷ does 1 Takes ∷ does 1 Publishes ∷ does 1 Leaves ∷ does 1 Puts ∷ does 1 Looks
    ∷ does 2 (Asks 0 get) ∷ does 0 (Asks 0 get) ∷ does 1 (Asks 0 get) ∷ [])
    ≡ Happened ∷ NotPossible ∷ Happened ∷ NotPossible ∷ NotPossible ∷ Happened ∷ NotPossible
    ∷ NotPossible ∷ NotPossible ∷ NotPossible ∷ []
not_possible = refl

-- a ping, a vnode that isn't there, and each step of a worker that has no call
no_call : outcomes (opening_world 1 1 1)
    (does 1 AsksNowhere ∷ does 1 (Asks 1 get) ∷ does 1 Enters ∷ does 1 Leaves ∷ does 1 Marks ∷ does 1 Unmarks ∷ does 1 Takes ∷ does 1 Puts ∷ does 1 Looks ∷ does 1 Publishes ∷ [])
    ≡ NotPossible ∷ NotPossible ∷ NotPossible ∷ NotPossible ∷ NotPossible ∷ NotPossible ∷ NotPossible ∷ NotPossible ∷ NotPossible ∷ NotPossible ∷ []
no_call = refl

-- a partition that is diverted: it isn't while a worker has a call there, and not twice; its calls go to the fallback, whose dots
-- are its own, and what the primary had isn't shown; no reap is asked there
abbrev shows_f : Outcome
shows_f = Replied (Ok (GetDone (record {
  contents = record { content = v; deleted = false } ∷ [];
  context = 2 ∷ 0 ∷ 0 ∷ 0 ∷ 0 ∷ 0 ∷ 1 ∷ 128 ∷ 0 ∷ 0 ∷ 0 ∷ 0 ∷ 1 ∷ 0 ∷ 0 ∷ 0 ∷ 0 ∷ 0 ∷ 0 ∷ 0 ∷ 1 ∷ [];
  unchanged = false;
})))

diverted_once : outcomes (opening_world 1 1 1)
    (does 1 (Asks 0 put) ∷ Diverts 0 ∷ does 1 Takes ∷ does 1 Looks ∷ does 1 Publishes ∷ Diverts 0 ∷ does 1 Puts ∷ Diverts 1 ∷ Diverts 0 ∷ Diverts 0 ∷ Diverts 1
    ∷ does 1 (Asks 1 get) ∷ does 1 (Asks 0 (AskReap k)) ∷ does 1 (Asks 0 get) ∷ does 1 Enters ∷ does 1 Looks ∷ does 1 Leaves
    ∷ does 1 (Asks 0 put) ∷ does 1 Takes ∷ does 1 Looks ∷ does 1 Publishes ∷ does 1 Puts
    ∷ does 1 (Asks 0 get) ∷ does 1 Enters ∷ does 1 Looks ∷ [])
    ≡ Happened ∷ NotPossible ∷ Happened ∷ Happened ∷ stored ∷ NotPossible ∷ Happened ∷ NotPossible ∷ Happened ∷ NotPossible ∷ NotPossible
    ∷ NotPossible ∷ NotPossible ∷ Happened ∷ Happened ∷ nothing ∷ Happened
    ∷ Happened ∷ Happened ∷ Happened ∷ stored ∷ Happened
    ∷ Happened ∷ Happened ∷ shows_f ∷ []
diverted_once = refl
