-- The vnodes of a node, by their indexes, are after the histories that the register has.
use Rattle.std.proofs.Common.{◌≡◌, ◌≢◌, ◌==◌, if◌then◌else◌, Bool, ℕ, ◌<◌, ◌∷◌, sym, ap, subst, inl, inr, arith}
use Rattle.std.proofs.lemmas.Bool.{cases_eq, ne_eqb}
use Rattle.ring_map.specs.Ring.{id_of}
use Rattle.riak_msgs.specs.declared.Key.{Key}
use Rattle.riak_msgs.specs.Contents.{Content}
use Rattle.riak_msgs.specs.declared.Reply.{Reply}
use Rattle.sibling_register.specs.Answers.{RegisterAsk}
use Rattle.vnode_machine.specs.Asks.{Context}
use Rattle.vnode_machine.specs.Machine.{State}
use Rattle.vnode_machine.specs.Replay.{History, IsAfter, IsWithinLimits}
use Rattle.vnode_machine.specs.Registers.{key_of}
use Rattle.vnode_machine.specs.Runs.{TakesEach, TakesTurn, AnswersTurn}
use Rattle.vnode_machine.proofs.Legals.{replay_is_legal}
use Rattle.vnode_machine.proofs.RunLaw.{run_is_played}
use Rattle.vnode_machine.proofs.Tests.{nat_eq-refl}
use Rattle.node_session.specs.ByIndex.{AnswersAsk}
use Rattle.node_session.specs.Registers.{Histories, AreAfter}
use Rattle.node_session.specs.SessionLaws.{IsRunNumber}

-- another history at one index
abbrev changed_at : Histories → ℕ → History → Histories
changed_at histories index history other = if other == index then history else histories other

changed_at-itself : (histories : Histories) (index : ℕ) (history : History) → changed_at histories index history index ≡ history
changed_at-itself histories index history = ap (λ (b : Bool). if b then history else histories index) (nat_eq-refl index)

changed_at-other : (histories : Histories) (index : ℕ) (history : History) (other : ℕ) → other ≢ index → changed_at histories index history other ≡ histories other
changed_at-other histories index history other ne = ap (λ (b : Bool). if b then history else histories other) (ne_eqb other index ne)

-- each vnode is after its history
abbrev pub EachAfter : (run : ℕ) → (vnodes : (index : ℕ) → State Content) → Histories → Type 0
EachAfter run vnodes histories = (index : ℕ) → IsAfter (id_of run index) 0 (histories index) (vnodes index)

pub each_legal : (run : ℕ) (vnodes : (index : ℕ) → State Content) (histories : Histories) → EachAfter run vnodes histories → AreAfter run histories vnodes
each_legal run vnodes histories each =
    record { after = each; legal = λ index. replay_is_legal (id_of run index) 0 (histories index) (each index).replays }

module _ (run : ℕ) (is : IsRunNumber run) where
  pub limits : (index : ℕ) → index < 65536 → IsWithinLimits (id_of run index) 0
  limits index inside = (omega (arith, is.1, inside), omega arith)

  module _ (index_of : Key → ℕ) (budget : ℕ) where
    each_after : (old new : (index : ℕ) → State Content) (histories : Histories) (index : ℕ) (history : History) → EachAfter run old histories
        → IsAfter (id_of run index) 0 history (new index) → ((other : ℕ) → other ≢ index → new other ≡ old other) → EachAfter run new (changed_at histories index history)
    each_after old new histories index history each after others other = elim (cases_eq other index) [
      | inl same ↦
          subst (λ (n : ℕ). IsAfter (id_of run n) 0 (changed_at histories index history n) (new n)) (sym same)
          (subst (λ (h : History). IsAfter (id_of run index) 0 h (new index)) (sym (changed_at-itself histories index history)) after)
      | inr ne ↦
          subst (λ (h : History). IsAfter (id_of run other) 0 h (new other)) (sym (changed_at-other histories index history other ne))
          (subst (λ (state : State Content). IsAfter (id_of run other) 0 (histories other) state) (sym (others other ne)) (each other))
    ]

    pub ask_followed : (old new : (index : ℕ) → State Content) (histories : Histories) (ask : RegisterAsk Content Context) (reply : Reply) → index_of (key_of ask) < 65536 → EachAfter run old histories
        → AnswersAsk (λ index. TakesTurn) index_of budget old ask reply new
        → (after : Histories) × EachAfter run new after × AnswersAsk (λ index. AnswersTurn (id_of run index) 0) index_of budget histories ask reply after
    ask_followed old new histories ask reply inside each step =
        let index = index_of (key_of ask) in
        let turns = record { ask = ask; reply = step.result } ∷ step.reaps in
        let one = run_is_played (id_of run index) 0 (histories index) (limits index inside) turns (old index) (new index) (each index) step.takes.each in (
          changed_at histories index one.history,
          each_after old new histories index one.history each one.after step.takes.others,
          record {
            result = step.result;
            replied = step.replied;
            reaps = step.reaps;
            few = step.few;
            only = step.only;
            takes = record {
              each = subst (λ (h : History). TakesEach (AnswersTurn (id_of run index) 0) (histories index) turns h) (sym (changed_at-itself histories index one.history)) one.answered;
              others = λ other ne. changed_at-other histories index one.history other ne;
            };
          },
        )
