-- The log of a partition by its blocks: commands, and behind them the copies of one diversion.
use Rattle.std.proofs.Common.{◌≡◌, ◌∙◌, ◌++◌, ℕ, List, [], ◌∷◌, append_assoc, refl, sym, ap, subst}
use mathlib.Core.List.{IsPrefix}
use Rattle.riak_msgs.specs.Contents.{Content}
use Rattle.copy_laws.specs.Copies.{Copy, LogEntry, Copied as LawCopied}
use Rattle.copy_laws.specs.Joining.{Log}
use Rattle.copy_laws.specs.Sides.{Partition}
use Rattle.rw_gate.specs.Views.{GateId}
use Rattle.vnode_core.specs.declared.entry.Entry.{Entry}
use Rattle.vnode_core.specs.declared.entry.Entry.TheVariants.{Copied}
use Rattle.vnode_core.specs.declared.event.VnodeEvent.{VnodeEvent}
use Rattle.vnode_core.specs.KeyCopies.{KeyCopyView}
use Rattle.vnode_core.specs.Events.{all_commands}
use Rattle.vnode_core.specs.Plans.{View}
use Rattle.handoff.specs.Copying.{IsCopyOf}
use Rattle.handoff.specs.Joined.{AreMade, log_after, log_entry}
use Rattle.handoff.specs.Meeting.{copy_of}
use Rattle.handoff.specs.Sights.{Sight}
use Rattle.handoff.specs.Started.{all_copies}
use Rattle.handoff.proofs.Turns.{AtCommandsEarlier, EachCopy, InTurns}

-- the diversion of a copy that a copy back made
pub copy-number : (n : ℕ) (their : Sight) (copy : KeyCopyView) → IsCopyOf n their (Copied copy) → copy.diversion ≡ n
copy-number n their copy made = let is : made.copy ≡ copy = sym (cc made.is) in ap (λ (c : KeyCopyView). c.diversion) (sym is) ∙ made.number

module _ (partition : Partition) where
  pub log-append : (xs ys : List Entry) (log : Log) → log_after partition log (xs ++ ys) ≡ log_after partition (log_after partition log xs) ys
  log-append [] ys log = refl
  log-append (entry ∷ xs) ys log = log-append xs ys (log_entry partition log entry ∷ log)

  -- a log grows by the entries behind it
  pub log-grows : (entries : List Entry) (log : Log) → (gap : Log) × (gap ++ log ≡ log_after partition log entries)
  log-grows [] log = ([], refl)
  log-grows (entry ∷ entries) log =
      let here : LogEntry Content = log_entry partition log entry in
      let rest = log-grows entries (here ∷ log) in
      (rest.0 ++ here ∷ [], append_assoc rest.0 (here ∷ []) log ∙ rest.1)

  -- commands leave the copies as they are
  pub commands-turn : (events : List VnodeEvent) (log : Log) → InTurns log → InTurns (log_after partition log (all_commands events))
  commands-turn [] log turns = turns
  commands-turn (event ∷ events) log turns = commands-turn events _ turns

  pub commands-each : (Is : Copy Content → Type 0) (events : List VnodeEvent) (log : Log) → EachCopy Is log → EachCopy Is (log_after partition log (all_commands events))
  commands-each Is [] log each = each
  commands-each Is (event ∷ events) log each = commands-each Is events _ each

  -- copies of one diversion go on behind commands
  module _ (n : ℕ) (gate : GateId View) (before : List Entry) where
    pub copies-turn : (copies : List KeyCopyView) (log : Log) → AreMade n gate before copies → AtCommandsEarlier n log → InTurns log → InTurns (log_after partition log (all_copies copies))
    copies-turn [] log made earlier turns = turns
    copies-turn (copy ∷ copies) log (made, rest) earlier turns =
        let same : n ≡ copy.diversion = sym (copy-number n made.0 copy made.1) in
        copies-turn copies (LawCopied (copy_of partition copy) ∷ log) rest earlier (subst (λ m. AtCommandsEarlier m log) same earlier, turns)

    pub copies-each : (Is : Copy Content → Type 0)
        → ((copy : KeyCopyView) (their : Sight) → IsCopyOf n their (Copied copy) → their.gate ≡ gate → IsPrefix their.prefix before → Is (copy_of partition copy))
        → (copies : List KeyCopyView) (log : Log) → EachCopy Is log → AreMade n gate before copies → EachCopy Is (log_after partition log (all_copies copies))
    copies-each Is one [] log each made = each
    copies-each Is one (copy ∷ copies) log each (made, rest) =
        copies-each Is one copies (LawCopied (copy_of partition copy) ∷ log) (one copy made.0 made.1 made.2 made.3, each) rest
