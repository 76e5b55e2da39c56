-- Whole exchanges, ask by ask, by the machine's step, at vnode 65536 before its first epoch.
use Rattle.std.proofs.Common.{◌≡◌, ℕ, List, [], ◌∷◌, true, false, refl}
use Rattle.std.specs.Prelude.{Some, None, Result, Ok, Err}
use Rattle.riak_msgs.specs.Contents.{Content, no_content, tombstone}
use Rattle.riak_msgs.specs.declared.Shown.{Shown}
use Rattle.riak_msgs.specs.declared.DelAsk.{DelAsk}
use Rattle.sibling_register.specs.Answers.{RegisterAsk, AskGet, AskPut, AskDel, AskReap}
use Rattle.actor_epoch.specs.Entries.{entry_in}
use Rattle.actor_epoch.specs.Given.{Context, Malformed, Pairs, context_of}
use Rattle.vnode_machine.specs.Machine.{State, opening}
use Rattle.vnode_machine.specs.Asks.{del_command}
use Rattle.vnode_machine.specs.Step.{Response, GetDone, PutDone, DelDone, ReapDone, ReapKept, outcome}
use Rattle.vnode_machine.specs.Runs.{reply_of, state_after_step}
use Rattle.vnode_machine.proofs.Rows.{k, j, at, bytes, put_of, put, get, reply, live}

abbrev Asks : Type 0
Asks = List (RegisterAsk Content Context)

abbrev Replies : Type 0
Replies = List (Result Response ℕ)

-- what is replied to asks that come one after another
abbrev replies_from : State Content → Asks → Replies
replies_from state [] = []
replies_from state (ask ∷ asks) = reply_of (outcome state ask) ∷ replies_from (state_after_step state (outcome state ask)) asks

abbrev replies : Asks → Replies
replies asks = replies_from (opening 65536 0) asks

abbrev shows : List Shown → List ℕ → Result Response ℕ
shows contents context = Ok (GetDone (reply contents context))

abbrev written : Result Response ℕ
written = Ok (PutDone (record { contents = []; context = [] }))

-- one key: absent, put, put blindly, put by the first context, not put where it is present, deleted
abbrev life : Asks
life =
    AskGet (get k None false false) ∷ AskPut (put k 118 None) ∷ AskGet (get k None false false)
    ∷ AskPut (put k 119 None) ∷ AskGet (get k None false false)
    ∷ AskPut (put k 120 (Some (Pairs (at 1 1 ∷ [])))) ∷ AskGet (get k None false false)
    ∷ AskPut (put_of k 122 None false true)
    ∷ AskDel (record { key = k; context = None }) ∷ AskGet (get k None false true) ∷ AskGet (get k None false false) ∷ []

life_is_answered : replies life
    ≡ shows [] [] ∷ written ∷ shows (live 118 ∷ []) (2 ∷ bytes 1 1)
    ∷ written ∷ shows (live 119 ∷ live 118 ∷ []) (2 ∷ bytes 1 2)
    ∷ written ∷ shows (live 120 ∷ live 119 ∷ []) (2 ∷ bytes 1 3)
    ∷ Err 1
    ∷ Ok DelDone ∷ shows [] (2 ∷ bytes 1 4) ∷ shows [] [] ∷ []
life_is_answered = refl

-- a present key is kept, a dead one is forgotten, and then it is absent; its next life has the next epoch
abbrev lives : Asks
lives =
    AskPut (put k 98 None) ∷ AskReap k ∷ AskDel (record { key = k; context = None }) ∷ AskReap k ∷ AskReap k
    ∷ AskPut (put k 98 None) ∷ AskGet (get k None false false)
    ∷ AskPut (put_of k 101 (Some (Pairs (at 1 1 ∷ []))) true false) ∷ AskPut (put_of j 101 (Some (Pairs (at 1 1 ∷ []))) true false) ∷ []

lives_are_answered : replies lives
    ≡ written ∷ Ok ReapKept ∷ Ok DelDone ∷ Ok ReapDone ∷ Ok ReapKept
    ∷ written ∷ shows (live 98 ∷ []) (2 ∷ bytes 2 1)
    ∷ Err 2 ∷ Err 3 ∷ []
lives_are_answered = refl

-- a delete without context of an absent key is answered and takes no epoch; one by a context that covers nothing is refused
-- while the epoch isn't given
abbrev idle : Asks
idle =
    AskDel (record { key = k; context = None }) ∷ AskDel (record { key = k; context = Some (Pairs (at 1 1 ∷ [])) })
    ∷ AskDel (record { key = k; context = Some Malformed }) ∷ AskPut (record (put k 118 None) { return_body = true }) ∷ []

idle_is_answered : replies idle
    ≡ Ok DelDone ∷ Err 4 ∷ Err 4 ∷ Ok (PutDone (record { contents = live 118 ∷ []; context = 2 ∷ bytes 1 1 })) ∷ []
idle_is_answered = refl

-- a delete by an old context beside a newer value; reads by a context and without values
abbrev beside : Asks
beside =
    AskPut (put k 118 None) ∷ AskGet (get k (Some (Pairs (at 1 1 ∷ []))) false false) ∷ AskGet (get k None true false)
    ∷ AskPut (put k 119 None) ∷ AskDel (record { key = k; context = Some (Pairs (at 1 1 ∷ [])) }) ∷ AskGet (get k None false false) ∷ []

beside_is_answered : replies beside
    ≡ written ∷ Ok (GetDone (record { contents = []; context = []; unchanged = true }))
    ∷ shows (record { content = no_content; deleted = false } ∷ []) (2 ∷ bytes 1 1)
    ∷ written ∷ Ok DelDone ∷ shows (tombstone ∷ live 119 ∷ []) (2 ∷ bytes 1 3) ∷ []
beside_is_answered = refl

-- a delete gives back the bytes that the first get showed
abbrev del_ask : List ℕ → DelAsk
del_ask context = record { key = k; context = context }

shown_bytes_decode : del_command (del_ask (2 ∷ bytes 1 1)) ≡ record { key = k; context = Some (Pairs (at 1 1 ∷ [])) }
unfolding context_of entry_in
shown_bytes_decode = refl

-- no bytes are no context, and others are malformed
no_bytes : del_command (del_ask []) ≡ record { key = k; context = None }
unfolding context_of
no_bytes = refl

version_alone : del_command (del_ask (2 ∷ [])) ≡ record { key = k; context = Some Malformed }
unfolding context_of
version_alone = refl

-- bytes of the first version, whose counters have four bytes, give the same pairs
first_version : del_command (del_ask (1 ∷ 0 ∷ 0 ∷ 0 ∷ 0 ∷ 0 ∷ 1 ∷ 0 ∷ 0 ∷ 0 ∷ 0 ∷ 0 ∷ 1 ∷ 0 ∷ 0 ∷ 0 ∷ 1 ∷ [])) ≡ record { key = k; context = Some (Pairs (at 1 1 ∷ [])) }
unfolding context_of entry_in
first_version = refl

-- each version has its own width
other_width : del_command (del_ask (1 ∷ bytes 1 1)) ≡ record { key = k; context = Some Malformed }
unfolding context_of entry_in
other_width = refl

other_version : del_command (del_ask (3 ∷ bytes 1 1)) ≡ record { key = k; context = Some Malformed }
unfolding context_of entry_in
other_version = refl
