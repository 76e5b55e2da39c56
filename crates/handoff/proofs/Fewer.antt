-- A hand-off at whose log no copy of a later diversion has come is one of a partition with fewer diversions.
use Rattle.std.proofs.Common.{◌≡◌, ℕ, ◌≤◌, not, ◌&&◌, cond, false, List, [], ◌∷◌, refl, sym, ◌∙◌, ap, arith}
use Rattle.std.specs.Prelude.{◌==◌, length, filter, Option, Some, None}
use Rattle.std.specs.Option.{option_map_or}
use Rattle.riak_msgs.specs.declared.Key.{Key}
use Rattle.riak_msgs.specs.Contents.{Content}
use Rattle.sibling_register.specs.History.{Operation, Write, Tombstone, Reap, count_of, numbers_to}
use Rattle.actor_epoch.specs.Dots.{covers}
use Rattle.actor_epoch.specs.Given.{Context}
use Rattle.vnode_machine.specs.Lives.{dot_of}
use Rattle.vnode_machine.specs.Machine.{pairs_of, same_context}
use Rattle.copy_laws.specs.Copies.{Copy, Command, Copied, Closed, commands_of}
use Rattle.copy_laws.specs.CopyReplay.{HasEntries, name_at, named_at, seen_at}
use Rattle.copy_laws.specs.Joining.{Log, Fallbacks, IsHandOff, IsTrueCopy, NamesWhatCame, SidesRise}
use Rattle.copy_laws.specs.Sides.{Partition, Number, is_defined_at}
use Rattle.copy_laws.proofs.MoreSides.{any-more, none-come}
use Rattle.handoff.proofs.Turns.{EachCopy, copy-in, each-before}

module _ (partition : Partition) (n : ℕ) (le : n ≤ partition.diversions) where
  abbrev pub fewer : Partition
  fewer = record partition { diversions = n }

  abbrev pub IsAmong : Copy Content → Type 0
  IsAmong copy = copy.diversion ≤ n

  defined-same : (log : Log) (key : Key) → EachCopy IsAmong log → is_defined_at fewer log key ≡ is_defined_at partition log key
  defined-same log key each =
      ap (λ (ns : List Number). not (length ns == 0))
      (any-more partition log key n partition.diversions le (λ m less. none-come key log n m less (λ later before copy is itself. copy-in IsAmong log later before copy each is)))

  named-same : (log : Log) (key : Key) (context : Context) → EachCopy IsAmong log → named_at fewer log key context ≡ named_at partition log key context
  named-same [] key context each = refl
  named-same (entry ∷ before) key context each =
      let log : Log = entry ∷ before in
      ap (λ d. cond (d && same_context context (name_at partition log key)) (Some log) (named_at fewer before key context)) (defined-same log key each)
      ∙ ap (λ (o : Option Log). cond (is_defined_at partition log key && same_context context (name_at partition log key)) (Some log) o) (named-same before key context (each-before IsAmong entry before each))

  -- a command saw the same there
  seen-same : (log : Log) (key : Key) (given : Option Context) (operation : Operation Content) → EachCopy IsAmong log → seen_at fewer log key given operation ≡ seen_at partition log key given operation
  seen-same log key (Some context) operation each =
      ap (λ (o : Option Log).
      option_map_or (λ position. numbers_to (count_of (commands_of position) key)) o
      (filter (λ number. option_map_or (covers (pairs_of (Some context))) (dot_of partition.primary partition.last_epoch (commands_of log) key number) false) (numbers_to (count_of (commands_of log) key))))
      (named-same log key context each)
  seen-same log key None (Write content) each = refl
  seen-same log key None Tombstone each = refl
  seen-same log key None Reap each = refl

  entries-same : (key : Key) (log : Log) → EachCopy IsAmong log → HasEntries partition key log → HasEntries fewer key log
  entries-same key [] each legal = tt
  entries-same key (Command event ∷ before) each legal =
      (entries-same key before each legal.0, legal.1, (legal.2.0, λ itself. legal.2.1 itself ∙ sym (seen-same before event.key event.context event.operation each)))
  entries-same key (Copied copy ∷ before) each legal = (entries-same key before each.1 legal.0, legal.1, legal.2)
  entries-same key (Closed number ∷ before) each legal = (entries-same key before each legal.0, legal.1, legal.2)

  module _ (log : Log) (fallbacks : Fallbacks) (key : Key) where
    pub fewer-hand-off : EachCopy IsAmong log → IsHandOff partition log fallbacks key → IsHandOff fewer log fallbacks key
    fewer-hand-off each off = record {
      primary_legal = entries-same key log each off.primary_legal;
      fallbacks_legal = λ m diversion. off.fallbacks_legal m (diversion.0, let most = diversion.1 in omega (arith, most, le));
      copies = λ later before copy stands.
          let one : IsTrueCopy partition log fallbacks key copy = off.copies later before copy stands in
          record { diversion = (one.diversion.0, copy-in IsAmong log later before copy each stands.0); begins = one.begins; clock = one.clock };
      apart = off.apart;
      unreaped = λ m diversion. off.unreaped m (diversion.0, let most = diversion.1 in omega (arith, most, le));
      reaps = off.reaps;
      contexts = off.contexts;
    }

    pub fewer-came : NamesWhatCame partition log fallbacks key → NamesWhatCame fewer log fallbacks key
    fewer-came came = record { given = came.given; copied = came.copied }

    pub fewer-rise : SidesRise partition fallbacks → SidesRise fewer fallbacks
    fewer-rise rise = record { ids = rise.ids; epochs = rise.epochs }
