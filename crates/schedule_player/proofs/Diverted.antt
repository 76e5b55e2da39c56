-- Once a partition was diverted a run isn't compared.
use Rattle.std.proofs.Common.{◌≡◌, inl, inr, ℕ, ◌+◌, Bool, true, false, cond, List, [], ◌∷◌, length, codes, refl, ap, ◌∙◌}
use Rattle.std.specs.Prelude.{Option, Some, None}
use Rattle.std.specs.Option.{option_map_or}
use Rattle.riak_msgs.specs.Contents.{Content}
use Rattle.riak_msgs.specs.declared.reply.Reply.{Reply}
use Rattle.node_steps.specs.Asked.{Context, RegisterAsk, AskGet, AskPut, AskDel, AskReap}
use Rattle.schedule_text.specs.declared.verdict.Verdict.{Verdict}
use Rattle.schedule_text.specs.declared.verdict.Verdict.TheVariants.{NotCompared}
use Rattle.schedule_text.specs.PlainAnswers.{command_by, plain_of, told_in, history_after, is_due}
use Rattle.schedule_text.specs.Verdicts.{verdict_after, verdict_line}
use Rattle.schedule_text.specs.Compared.{Compared, key_of, given_in, position_given, is_unknown, is_asked, within, not_compared, after_call, after_reply_at, after_reply}
use Rattle.node_steps.specs.declared.outcome.Outcome.{Outcome as Returned}
use Rattle.node_steps.specs.declared.outcome.Outcome.TheVariants as outcomes
use Rattle.node_steps.specs.Returned.{returned}
use Rattle.node_steps.specs.Schedules.{Start, world_after}
use Rattle.node_steps.specs.Steps.{Step, By, Diverts, Outcome, Happened, outcome}
use Rattle.schedule_player.specs.Heard.{Heard, asked_by, last_call, replied, reaped, after_act, after_diversion, after_line, heard_after, last_line, HasDiverted}

abbrev IsEnded : Compared → Type 0
IsEnded known = known.verdict ≡ NotCompared

-- what isn't compared stays so
call-ended : (ask : RegisterAsk Content Context) (known : Compared) → IsEnded known → IsEnded (after_call ask known)
call-ended ask known e = by (is_unknown known.shown (key_of ask) (given_in ask))
  where
    by : (b : Bool) → IsEnded (cond b (not_compared known) known)
    by true = refl
    by false = e

after-ended : (line : ℕ) (verdict : Verdict) (is_due : Bool) → verdict ≡ NotCompared → verdict_after line verdict is_due ≡ NotCompared
after-ended line verdict is_due e = ap (λ v. verdict_after line v is_due) e

reply-ended : (line : ℕ) (ask : RegisterAsk Content Context) (reply : Reply) (known : Compared) → IsEnded known → IsEnded (after_reply line ask reply known)
reply-ended line ask reply known e = by (is_asked reply)
  where
    by : (b : Bool) → IsEnded (cond b (after_reply_at line ask reply known) known)
    by true =
        let position = within known.history (position_given known.shown (key_of ask) (given_in ask)) in
        let outcome = plain_of known.history (command_by ask position) in
        after-ended line known.verdict (is_due (history_after known.history outcome) (key_of ask) (told_in outcome) reply) e
    by false = e

replied-ended : (line : ℕ) (reply : Reply) (ask : RegisterAsk Content Context) (known : Compared) → IsEnded known → IsEnded (replied line reply ask known)
replied-ended line reply (AskGet get) known e = reply-ended line (AskGet get) reply known e
replied-ended line reply (AskPut put) known e = reply-ended line (AskPut put) reply known e
replied-ended line reply (AskDel del) known e = reply-ended line (AskDel del) reply known e
replied-ended line reply (AskReap key) known e = e

reaped-ended : (ask : RegisterAsk Content Context) (known : Compared) → IsEnded known → IsEnded (reaped ask known)
reaped-ended (AskGet get) known e = e
reaped-ended (AskPut put) known e = e
reaped-ended (AskDel del) known e = e
reaped-ended (AskReap key) known e = e

-- by an ask that may be there
by_ask : (heard : Heard) (f : RegisterAsk Content Context → Heard) → IsEnded heard.compared → ((ask : RegisterAsk Content Context) → IsEnded (f ask).compared)
    → (o : Option (RegisterAsk Content Context)) → IsEnded (option_map_or f o heard).compared
by_ask heard f e h None = e
by_ask heard f e h (Some ask) = h ask

act-ended : (line worker : ℕ) (asked : Option (RegisterAsk Content Context)) (came : Returned) (heard : Heard) → IsEnded heard.compared
    → IsEnded (after_act line worker asked came heard).compared
act-ended line worker asked outcomes.No heard e = e
act-ended line worker asked outcomes.Copied heard e = e
act-ended line worker asked outcomes.Stuck heard e = e
act-ended line worker asked outcomes.Elsewhere heard e = e
act-ended line worker asked (outcomes.Left keys) heard e = e
act-ended line worker asked outcomes.Done heard e = by_ask heard _ e (λ ask. call-ended ask heard.compared e) asked
act-ended line worker asked (outcomes.Reply reply) heard e =
    by_ask heard _ e (λ ask. replied-ended line reply ask heard.compared e) (last_call heard.calls worker)
act-ended line worker asked outcomes.Reaped heard e = by_ask heard _ e (λ ask. reaped-ended ask heard.compared e) (last_call heard.calls worker)
act-ended line worker asked outcomes.Kept heard e = by_ask heard _ e (λ ask. reaped-ended ask heard.compared e) (last_call heard.calls worker)

diversion-ended : (came : Returned) (heard : Heard) → IsEnded heard.compared → IsEnded (after_diversion came heard).compared
diversion-ended outcomes.No heard e = e
diversion-ended outcomes.Done heard e = refl
diversion-ended (outcomes.Reply reply) heard e = e
diversion-ended outcomes.Reaped heard e = e
diversion-ended outcomes.Kept heard e = e
diversion-ended outcomes.Copied heard e = e
diversion-ended outcomes.Stuck heard e = e
diversion-ended outcomes.Elsewhere heard e = e
diversion-ended (outcomes.Left keys) heard e = e

line-ended : (line : ℕ) (step : Step) (came : Returned) (heard : Heard) → IsEnded heard.compared → IsEnded (after_line line step came heard).compared
line-ended line (By number action) came heard e = act-ended line number (asked_by action) came heard e
line-ended line (Diverts index) came heard e = diversion-ended came heard e

module _ (start : Start) where
  ended-after : (schedule : List Step) → HasDiverted start schedule → IsEnded (heard_after start schedule).compared
  ended-after [] has = absurd has
  ended-after (step ∷ earlier) (inl it) =
      let line : ℕ = length earlier + 1 in
      let heard : Heard = heard_after start earlier in
      ap (λ (o : Outcome). (after_line line step (returned o) heard).compared.verdict) it.2
      ∙ ap (λ (s : Step). (after_line line s (returned Happened) heard).compared.verdict) it.1
  ended-after (step ∷ earlier) (inr has) =
      line-ended (length earlier + 1) step (returned (outcome (world_after start earlier) step)) (heard_after start earlier) (ended-after earlier has)

  -- so its last line says that it isn't
  pub last_ended : (schedule : List Step) → HasDiverted start schedule → last_line start schedule ≡ codes "plain not compared\n"
  last_ended schedule has = ap verdict_line (ended-after schedule has)
