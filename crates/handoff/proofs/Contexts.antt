-- Where each context had been shown, those of a partition's diversions name what was there.
use Rattle.std.proofs.Common.{◌≡◌, ◌∙◌, ◌+◌, ◌++◌, ◌≤◌, ℕ, true, cond, List, [], ◌∷◌, append_assoc, length, refl, sym, ap, subst, arith, inl, inr}
use Rattle.std.specs.Prelude.{◌⊎◌, MatchBool, Option, None, Some}
use Rattle.std.proofs.lemmas.Bool.{cases_lt}
use Rattle.ring_map.specs.Ring.{id_of}
use Rattle.riak_msgs.specs.declared.Key.{Key}
use Rattle.riak_msgs.specs.Contents.{Content}
use Rattle.riak_msgs.specs.KeyOrder.{key_eq}
use Rattle.sibling_register.specs.History.{Event, count_of}
use Rattle.actor_epoch.specs.declared.Dot.{Dot}
use Rattle.actor_epoch.specs.Dots.{covers}
use Rattle.actor_epoch.specs.Given.{Context}
use Rattle.vnode_machine.specs.Lives.{dot_of}
use Rattle.vnode_machine.specs.Machine.{clock_of, pairs_of}
use Rattle.vnode_machine.specs.Registers.{key_of, context_in_ask}
use Rattle.vnode_machine.specs.Replay.{HasReplay, History, replay}
use Rattle.copy_laws.specs.Copies.{Copy, Command as LawCommand, Copied as LawCopied, commands_of as commands_in, count_brought}
use Rattle.copy_laws.specs.CopyReplay.{HasEntries, primary_after, seen_at}
use Rattle.copy_laws.specs.Joining.{Log, Fallbacks, HasCome, HasDot, IsTrueCopy, SidesRise}
use Rattle.copy_laws.specs.LegalLogs.{IsLegalLog}
use Rattle.copy_laws.specs.Sides.{Partition, Number, is_covered_by}
use Rattle.copy_laws.proofs.Apart.{dots_stand_apart}
use Rattle.copy_laws.proofs.Clocks.{knows}
use Rattle.copy_laws.proofs.Later.{count-later, legal-before, open-before}
use Rattle.copy_laws.proofs.Tests.{not_zero}
use Rattle.rw_gate.specs.Views.{GateId}
use Rattle.vnode_core.specs.declared.entry.Entry.{Entry}
use Rattle.vnode_core.specs.declared.event.VnodeEvent.{VnodeEvent}
use Rattle.vnode_core.specs.KeyCopies.{KeyCopyView}
use Rattle.vnode_core.specs.Events.{IsMadeNew, all_commands, event_command, event_deed}
use Rattle.vnode_core.specs.Plans.{View}
use Rattle.handoff.specs.Joined.{AreMade, log_after, log_entry}
use Rattle.handoff.specs.Meeting.{copy_of}
use Rattle.handoff.specs.Partitions.{fallback_id}
use Rattle.handoff.specs.Running.{Diversion, GiveShown, ShownContextsName, fallbacks_of, log_of, opened_in, partition_of, seen_here}
use Rattle.handoff.specs.Shown.{WasShown}
use Rattle.handoff.specs.Started.{all_copies}
use Rattle.handoff.proofs.Blocks.{copy-number, log-append, log-grows}
use Rattle.handoff.proofs.Joined.{turns-spare}
use Rattle.handoff.proofs.Returns.{are-made, commands-since, new-at, seen-is}
use Rattle.handoff.proofs.Running.{Back, IsLegalAt, IsOne, Of, are-of, brought-by-return, facts, legal-entries, legal-there, numbers, open-still, partition, rise}
use Rattle.handoff.proofs.Shown.{AreKnownThere, AreNamed, ComesBy, ComesThere, CoversCame, IsKnown, IsKnownThere, comes-later, covers-known, known-command, known-copy, known-none, known-there, named-came, named-contexts, shown-comes}
use Rattle.handoff.proofs.Turns.{EachCopy, InTurns, copy-in, each-behind, turn-at, turns-behind}

-- a log is as long as the entries that it is of
log-size : (partition : Partition) (entries : List Entry) (log : Log) → length (log_after partition log entries) ≡ length log + length entries
log-size partition [] log = omega arith
log-size partition (entry ∷ entries) log = let rest = log-size partition entries (log_entry partition log entry ∷ log) in omega (arith, rest)

-- a command as the law of copies has it behind a log
abbrev law-event : Partition → Log → VnodeEvent → Event Content Context
law-event partition log event = record {
  key = key_of (event_command event);
  operation = event_deed event;
  context = context_in_ask (event_command event);
  saw = seen_at partition log (key_of (event_command event)) (context_in_ask (event_command event)) (event_deed event);
}

module _ (run index : ℕ) (primary : GateId View) (new : IsMadeNew (id_of run index) 0 primary) (opened : ℕ → ℕ) (most : ℕ) (F : Fallbacks) (key : Key) where
  abbrev P : Partition
  P = partition run index primary new opened most F

  module _ (rises : SidesRise P F) (L : Log) (entries : HasEntries P key L) (turns : InTurns L)
      (each : EachCopy (IsOne run index primary new opened most F L key most) L)
      (legal : (n : ℕ) → 1 ≤ n → n ≤ most → IsLegalAt run index primary new opened most F key n) (open_still : (primary_after P L).closed ≡ None) where
    abbrev Is : Copy Content → Type 0
    Is = IsOne run index primary new opened most F L key most

    -- where contexts name what was there, each position of the log is legal
    legal-at : (gap log : Log) → gap ++ log ≡ L → AreNamed P F key rises log → IsLegalLog P log F key
    legal-at gap log is named =
        let here = legal-before P key gap log (subst (HasEntries P key) (sym is) entries) in
        let copies = each-behind Is gap log (subst (EachCopy Is) (sym is) each) in
        let ordered = turns-behind gap log (subst InTurns (sym is) turns) in
        let came = named-came P F key rises log named in
        record {
          hand_off = record {
            primary_legal = here;
            fallbacks_legal = λ n diversion. (legal n diversion.0 diversion.1).0;
            copies = λ later before copy stands.
                let one : IsTrueCopy P L F key copy = ((copy-in Is log later before copy copies stands.0).1 stands.1).0 in
                record { diversion = one.diversion; begins = one.begins; clock = one.clock };
            apart = dots_stand_apart P log F key rises;
            unreaped = λ n diversion. (legal n diversion.0 diversion.1).1;
            reaps = turns-spare P log F key rises came (λ later before event at n. turn-at key n later event before (subst InTurns (sym at) ordered));
            contexts = named-contexts P F key rises log named;
          };
          rise = rises;
          came = came;
          had = λ later before copy stands. ((copy-in Is log later before copy copies stands.0).1 stands.1).1;
          open_still = open-before P key gap log (subst (HasEntries P key) (sym is) entries) (ap (λ (t : Log). (primary_after P t).closed) is ∙ open_still);
        }

    still : (few : ℕ) (gap log : Log) → AreKnownThere P F key rises few log → AreKnownThere P F key rises few (gap ++ log)
    still few gap log there n first last later place is dot h = comes-later P F key rises gap log dot (there n first last later place is dot h)

    -- commands, each with contexts that were shown
    module _ (few size : ℕ) (S gap : Log) (whole : gap ++ S ≡ L)
        (shown : (later before : Log) (event : Event Content Context) → later ++ LawCommand event ∷ before ≡ S → size ≤ length before → key_eq event.key key ≡ true → (context : Context) → event.context ≡ Some context
        → WasShown P F key few before context) where
      commands-named : (events : List VnodeEvent) (log : Log) → log_after P log (all_commands events) ≡ S → size ≤ length log → AreNamed P F key rises log → IsKnown P F key rises log → AreKnownThere P F key rises few log
          → AreNamed P F key rises S × IsKnown P F key rises S × AreKnownThere P F key rises few S
      commands-named [] log is long named known there =
          (subst (AreNamed P F key rises) is named, subst (IsKnown P F key rises) is known, subst (AreKnownThere P F key rises few) is there)
      commands-named (event ∷ events) log is long named known there =
          let more : AreNamed P F key rises (LawCommand (law-event P log event) ∷ log) = (by-context c.context refl, named) in
          let later = legal-at (gap ++ grown.0) (LawCommand c ∷ log) (append_assoc gap grown.0 (LawCommand c ∷ log) ∙ (ap (λ (t : Log). gap ++ t) stands ∙ whole)) more in
          commands-named events (LawCommand c ∷ log) is (omega (arith, long)) more (known-command P F key rises c log known later more.0) (still few (LawCommand c ∷ []) log there)
        where
          c : Event Content Context
          c = law-event P log event

          grown : (g : Log) × (g ++ LawCommand (law-event P log event) ∷ log ≡ log_after P (LawCommand (law-event P log event) ∷ log) (all_commands events))
          grown = log-grows P (all_commands events) (LawCommand (law-event P log event) ∷ log)

          stands : grown.0 ++ LawCommand (law-event P log event) ∷ log ≡ S
          stands = grown.1 ∙ is

          by-context : (given : Option Context) → c.context ≡ given → key_eq c.key key ≡ true → (dot : Dot) → covers (pairs_of c.context) dot ≡ true → ComesBy P F key rises log dot
          by-context None q p dot h = let no : covers (pairs_of None) dot ≡ true = ap (λ (o : Option Context). covers (pairs_of o) dot) (sym q) ∙ h in cc no
          by-context (Some context) q p dot h =
              shown-comes P F key rises few log known there context (shown grown.0 log c stands long p context q) dot (ap (λ (o : Option Context). covers (pairs_of o) dot) (sym q) ∙ h)

    -- copies of a diversion, of whose fallback all is known
    module _ (n : ℕ) (S gapS : Log) (gate : GateId View) (before : List Entry) (there : IsKnownThere P F key rises S n)
        (covered : (later place : History) → later ++ place ≡ F n → (dot : Dot) → is_covered_by place key dot ≡ true → ComesThere P F key rises S n place dot) where
      copies-named : (copies : List KeyCopyView) (log gap end : Log) → gap ++ log_after P log (all_copies copies) ≡ L → end ++ S ≡ log → AreMade n gate before copies → AreNamed P F key rises log → IsKnown P F key rises log
          → AreNamed P F key rises (log_after P log (all_copies copies)) × IsKnown P F key rises (log_after P log (all_copies copies))
      copies-named [] log gap end whole is made named known = (named, known)
      copies-named (copy ∷ copies) log gap end whole is (made, rest) named known =
          copies-named copies (LawCopied (copy_of P copy) ∷ log) gap (LawCopied (copy_of P copy) ∷ end) whole (ap (λ (t : Log). LawCopied (copy_of P copy) ∷ t) is) rest (came, named)
          (known-copy P F key rises (copy_of P copy) log S end known is one (subst (λ m. IsKnownThere P F key rises S m) (sym same) there))
        where
          same : copy.diversion ≡ n
          same = copy-number n made.0 copy made.1

          grown : (g : Log) × (g ++ LawCopied (copy_of P copy) ∷ log ≡ log_after P (LawCopied (copy_of P copy) ∷ log) (all_copies copies))
          grown = log-grows P (all_copies copies) (LawCopied (copy_of P copy) ∷ log)

          stands : (gap ++ grown.0) ++ LawCopied (copy_of P copy) ∷ log ≡ L
          stands = append_assoc gap grown.0 (LawCopied (copy_of P copy) ∷ log) ∙ (ap (λ (t : Log). gap ++ t) grown.1 ∙ whole)

          one : key_eq copy.key key ≡ true → IsTrueCopy P log F key (copy_of P copy)
          one p =
              let is_one : IsTrueCopy P L F key (copy_of P copy) = ((copy-in Is L (gap ++ grown.0) log (copy_of P copy) each stands).1 p).0 in
              record { diversion = is_one.diversion; begins = is_one.begins; clock = is_one.clock }

          number-of : ℕ → Number
          number-of j = record { side = copy.diversion; number = j }

          by : (dot : Dot) → 1 ≤ copy.diversion → ComesThere P F key rises S copy.diversion (copy_of P copy).prefix dot
              → (number : Number) × HasDot P log F key number dot × ((number.side ≡ copy.diversion) ⊎ HasCome P log F key log number)
          by dot some (inl comes) =
              let later : ComesBy P F key rises log dot = subst (λ (t : Log). ComesBy P F key rises t dot) is (comes-later P F key rises end S dot comes) in
              (later.0, later.1, inr later.2)
          by dot some (inr (j, le, d)) = (
            number-of j,
            ap (λ b. cond b (dot_of P.primary P.last_epoch (commands_in log) key j) (dot_of P.fallback (P.opened copy.diversion) (F copy.diversion) key j)) (not_zero copy.diversion some) ∙ d,
            inl refl,
          )

          came : CoversCame P F key rises (copy_of P copy) log
          came p =
              let first : 1 ≤ copy.diversion = (one p).diversion.0 in (
                first,
                λ dot h. by dot first (subst (λ m. (later place : History) → later ++ place ≡ F m → (dot : Dot) → is_covered_by place key dot ≡ true → ComesThere P F key rises S m place dot) (sym same) covered
                    (one p).begins.0 (copy_of P copy).prefix (one p).begins.1 dot h),
              )

    -- so it is behind each return
    states : (diversions : List Diversion) → Back run index primary new opened most F diversions → Of run index primary new opened most F diversions → GiveShown run index P F key diversions → length diversions ≤ most
        → (gap : Log) → gap ++ log_after P [] (seen_here diversions) ≡ L
        → AreNamed P F key rises (log_after P [] (seen_here diversions)) × IsKnown P F key rises (log_after P [] (seen_here diversions)) × AreKnownThere P F key rises (length diversions) (log_after P [] (seen_here diversions))
    states [] back of shown le gap is = (tt, known-none P F key rises, λ n first last later place at dot h. absurd (omega (arith, first, last)))
    states (one ∷ earlier) (back, rest) of (shown, shown_before) le gap is =
        let since = commands-since run index primary earlier one new back rest in
        let copies = back.returned.of_gates.sees.since.copies in
        let n : ℕ = length (one ∷ earlier) in
        let B : Log = log_after P [] (seen_here earlier) in
        let S : Log = log_after P [] one.start.pass.prefix in
        let N : Log = log_after P [] one.passes.primary.prefix in
        let s_is : log_after P B (all_commands since.0) ≡ S = sym (ap (λ (es : List Entry). log_after P [] es) since.1 ∙ log-append P (seen_here earlier) (all_commands since.0) []) in
        let n_is : log_after P S (all_copies copies) ≡ N = sym (ap (λ (es : List Entry). log_after P [] es) (seen-is run index primary earlier one back) ∙ log-append P one.start.pass.prefix (all_copies copies) []) in
        let to_n = log-grows P (all_copies copies) S in
        let to_s = log-grows P (all_commands since.0) B in
        let whole_s : (gap ++ to_n.0) ++ S ≡ L = append_assoc gap to_n.0 S ∙ (ap (λ (t : Log). gap ++ t) (to_n.1 ∙ n_is) ∙ is) in
        let whole_b : ((gap ++ to_n.0) ++ to_s.0) ++ B ≡ L = append_assoc (gap ++ to_n.0) to_s.0 B ∙ (ap (λ (t : Log). (gap ++ to_n.0) ++ t) (to_s.1 ∙ s_is) ∙ whole_s) in
        let before = states earlier rest of.2 shown_before (omega (arith, le)) ((gap ++ to_n.0) ++ to_s.0) whole_b in
        let size = log-size P (seen_here earlier) [] in
        let started = commands-named (length earlier) (length (seen_here earlier)) S (gap ++ to_n.0) whole_s shown.here since.0 B s_is (omega (arith, size)) before.0 before.1 before.2 in
        let replays : HasReplay (fallback_id run index) (opened (length (one ∷ earlier))) (F (length (one ∷ earlier))) = (legal (length (one ∷ earlier)) (omega arith) le).0 in
        let there = known-there P F key rises S (length (one ∷ earlier)) (length earlier) replays started.1 started.2 shown.there in
        let covered = covers-known P F key rises S (length (one ∷ earlier)) (length earlier) replays started.1 started.2 shown.there in
        let made : AreMade (length (one ∷ earlier)) one.fallback.gate back.returned.of_gates.sees.ended.before copies
        = subst (λ m. AreMade m one.fallback.gate back.returned.of_gates.sees.ended.before copies) (numbers run index primary new opened most F (one ∷ earlier) (back, rest)) (are-made run index primary earlier one back) in
        let ended = copies-named (length (one ∷ earlier)) S (gap ++ to_n.0) one.fallback.gate back.returned.of_gates.sees.ended.before there covered copies S gap [] (ap (λ (t : Log). gap ++ t) n_is ∙ is) refl made started.0 started.1 in
        let named = subst (AreNamed P F key rises) n_is ended.0 in
        let known = subst (IsKnown P F key rises) n_is ended.1 in
        let brought = brought-by-return run index primary new opened most F key one earlier (back, rest) of le (legal-at gap N is named) in
        (named, known, all one earlier (to_n.0, to_n.1 ∙ n_is) started.2 there brought)
      where
        all : (one : Diversion) (earlier : List Diversion) → (g : Log) × (g ++ log_after P [] one.start.pass.prefix ≡ log_after P [] one.passes.primary.prefix)
            → AreKnownThere P F key rises (length earlier) (log_after P [] one.start.pass.prefix) → IsKnownThere P F key rises (log_after P [] one.start.pass.prefix) (length (one ∷ earlier))
            → count_brought (log_after P [] one.passes.primary.prefix) key (length (one ∷ earlier)) ≡ count_of (F (length (one ∷ earlier))) key
            → AreKnownThere P F key rises (length (one ∷ earlier)) (log_after P [] one.passes.primary.prefix)
        all one earlier grown before there brought n first last later place at dot h = elim (cases_lt n (length (one ∷ earlier))) [
          | inl lt ↦ up (before n first (omega (arith, lt)) later place at dot h)
          | inr ge ↦ let same : n ≡ length (one ∷ earlier) = omega (arith, ge, last) in
              its (there later place (at ∙ ap F same) dot (subst (λ m. knows (clock_of (replay P.fallback (P.opened m) place) key) dot ≡ true) same h)) (at ∙ ap F same)
        ]
          where
            up : ComesBy P F key rises (log_after P [] one.start.pass.prefix) dot → ComesBy P F key rises (log_after P [] one.passes.primary.prefix) dot
            up came = subst (λ (t : Log). ComesBy P F key rises t dot) grown.1 (comes-later P F key rises grown.0 (log_after P [] one.start.pass.prefix) dot came)

            its : ComesThere P F key rises (log_after P [] one.start.pass.prefix) (length (one ∷ earlier)) place dot → later ++ place ≡ F (length (one ∷ earlier)) → ComesBy P F key rises (log_after P [] one.passes.primary.prefix) dot
            its (inl came) at' = up came
            its (inr (j, le', d)) at' =
                let more : count_of place key ≤ count_of (F (length (one ∷ earlier))) key = subst (λ (t : History). count_of place key ≤ count_of t key) at' (count-later key later place) in (
                  record { side = length (one ∷ earlier); number = j },
                  ap (λ b. cond b (dot_of P.primary P.last_epoch (commands_in (log_after P [] one.passes.primary.prefix)) key j) (dot_of P.fallback (P.opened (length (one ∷ earlier))) (F (length (one ∷ earlier))) key j))
                      (not_zero (length (one ∷ earlier)) (omega arith)) ∙ d,
                  subst (λ b. MatchBool b (j ≤ count_of (commands_in (log_after P [] one.passes.primary.prefix)) key) (j ≤ count_brought (log_after P [] one.passes.primary.prefix) key (length (one ∷ earlier))))
                      (sym (not_zero (length (one ∷ earlier)) (omega arith))) (omega (arith, le', more, brought)),
                )

pub shown-contexts-name : (run index : ℕ) (primary : GateId View) (last : Diversion) (earlier : List Diversion) → ShownContextsName run index primary last earlier
shown-contexts-name run index primary last earlier new_run back key shown =
    let new = new-at run index last.ended.gates primary new_run.made_new back.0.gate in
    let F = fallbacks_of run index (last ∷ earlier) in
    let o = opened_in run index (last ∷ earlier) in
    let most = length (last ∷ earlier) in
    let L = log_of run index (last ∷ earlier) in
    let rises = rise run index primary new last earlier back in
    let state = states run index primary new (opened_in run index (last ∷ earlier)) (length (last ∷ earlier)) F key rises L (legal-entries run index primary new last earlier back key)
    (facts run index primary new last earlier back key).0 (facts run index primary new last earlier back key).1 (legal-there run index primary new last earlier back key) (open-still run index primary new last earlier back key)
    (last ∷ earlier) back (are-of run index (last ∷ earlier)) shown (omega arith) [] refl in
    (named-came (partition_of run index (last ∷ earlier)) F key rises L state.0, named-contexts (partition_of run index (last ∷ earlier)) F key rises L state.0)
