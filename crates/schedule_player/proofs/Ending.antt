-- How a run ends, from where it stands.
use Rattle.std.proofs.Common.{◌≡◌, ◌⊎◌, ◌+◌, ◌≤◌, ℕ, List, [], ◌∷◌, ◌++◌, length, take, Option, Result, Ok, Err, refl, sym, ap, subst, ◌∙◌, append-nil, inl, inr, arith}
use Rattle.std.specs.Io.KnownBytes.{Appends, Keeps}
use Rattle.std.proofs.KnownBytes.{Appends-trans, Appends-kept, Appends-nil, Consumes-nil}
use Rattle.schedule_text.specs.Cuts.{lines_of}
use Rattle.schedule_text.specs.Verdicts.{verdict_line}
use Rattle.node_steps.specs.declared.outcome.Outcome.{Outcome as Returned}
use Rattle.node_steps.specs.Steps.{Step, outcome}
use Rattle.node_steps.specs.Schedules.{Start, world_after}
use Rattle.node_steps.specs.Returned.{returned}
use Rattle.schedule_player.specs.declared.fault.StepsFault.{StepsFault}
use Rattle.schedule_player.specs.declared.fault.StepsFault.TheVariants.{BadStep, ReadFailed, WriteFailed, NoMemory}
use Rattle.schedule_player.specs.declared.player.Player.{Player}
use Rattle.schedule_player.specs.Answers.{answer_line, next_line}
use Rattle.schedule_player.specs.Asked.{AsksForStep, AsksForNone, AskForAll}
use Rattle.schedule_player.specs.Lines.{PlaysLine}
use Rattle.schedule_player.specs.Heard.{Heard, heard_after, last_line}
use Rattle.schedule_player.specs.Played.{IsLastLine, Ends, Answered, Played}
use Rattle.schedule_player.specs.Progress.{HasAnswered, WritesEnd}
use Rattle.schedule_player.proofs.Texts.{whole_alone}
use Rattle.schedule_player.proofs.Diverted.{last_ended}

module _ (start : Start) (ring : ℕ) where
  -- a step's line, by the number of lines before it
  pub line_is : (schedule : List Step) (step : Step) (lines : ℕ) (outcome' : Returned) → lines ≡ length schedule
      → outcome' ≡ returned (outcome (world_after start schedule) step) → answer_line (lines + 1) outcome' ≡ next_line start schedule step
  line_is schedule step lines outcome' count is =
      ap (λ n. answer_line (n + 1) outcome') count ∙ ap (answer_line (length schedule + 1)) is

  pub asks_on : (player : Player) (text : List ℕ) (step : Step) (texts : List (List ℕ)) (schedule : List Step) (held held' : Option (List ℕ))
      → HasAnswered start ring player texts schedule held held' → AsksForStep player.workers player.ring text step → AsksForStep start.workers ring text step
  asks_on player text step texts schedule held held' has asks =
      subst (λ w. AsksForStep w ring text step) has.workers (subst (λ r. AsksForStep player.workers r text step) has.ring_is asks)

  -- the answers, and what was written behind them
  ended : (input answered rest last : List ℕ) (texts : List (List ℕ)) (schedule : List Step) (player : Player) (first held held' : Option (List ℕ)) (result : Result (Unit {0}) StepsFault)
      → input ≡ answered ++ rest → lines_of answered ≡ texts → lines_of input ≡ texts ++ lines_of rest
      → HasAnswered start ring player texts schedule first held → Appends held held' last → Ends start ring result schedule rest last
      → Answered start ring input first held' result
  ended input answered rest last texts schedule player first held held' result parts before lines has written ends = record {
    answered = answered;
    rest = rest;
    parts = parts;
    lines = lines ∙ ap (λ x. x ++ lines_of rest) (sym before);
    schedule = schedule;
    asked = subst (λ x. AskForAll start.workers ring x schedule) (sym before) has.asked;
    few = has.few;
    last = last;
    written = Appends-trans first held held' _ _ has.written written;
    ends = ends;
  }

  pub nothing : (held held' : Option (List ℕ)) → Keeps held held' → Appends held held' []
  nothing held held' kept = Appends-kept held held held' [] (Appends-nil held) kept

  -- the next line is not answered
  pub stopped : (fault : StepsFault) (input answered rest text : List ℕ) (texts behind : List (List ℕ)) (schedule : List Step) (old new : Player) (first held held' : Option (List ℕ))
      → input ≡ answered ++ rest → ((r : List ℕ) → lines_of (answered ++ r) ≡ texts ++ lines_of r) → lines_of rest ≡ text ∷ behind
      → HasAnswered start ring old texts schedule first held → PlaysLine old text held held' new (Err fault) → Answered start ring input first held' (Err fault)
  stopped (BadStep line) input answered rest text texts behind schedule old new first held held' parts whole next has bad =
      ended input answered rest [] texts schedule old first held held' (Err (BadStep line)) parts (whole_alone answered texts whole) (ap lines_of parts ∙ whole rest) has (nothing held held' bad.nothing) (
        record {
          text = text;
          behind = behind;
          first = next;
          number = bad.number (subst (λ n. n ≤ 100000) (sym has.count) has.few) ∙ ap (λ n. n + 1) has.count;
          bad = subst (λ n. AsksForNone start.workers text ⊎ (100000 ≤ n)) has.count (subst (λ w. AsksForNone w text ⊎ (100000 ≤ old.lines)) has.workers bad.bad);
        },
        refl,
      )
  stopped ReadFailed input answered rest text texts behind schedule old new first held held' parts whole next has p = absurd p
  stopped WriteFailed input answered rest text texts behind schedule old new first held held' parts whole next has p =
      let bytes = answer_line (old.lines + 1) p.cut.outcome in
      ended input answered rest (take p.cut.cut.0 bytes) texts schedule old first held held' (Err WriteFailed) parts (whole_alone answered texts whole) (ap lines_of parts ∙ whole rest) has p.cut.cut.1
      (inr (record {
        next = bytes;
        is_next = inl (record {
          text = text;
          behind = behind;
          first = next;
          step = p.step;
          asks = asks_on old text p.step texts schedule first held has p.asks;
          next_is = line_is schedule p.step old.lines p.cut.outcome has.count (p.cut.follows start schedule has.kept).0;
        });
        len = p.cut.cut.0;
        begins = refl;
      }))
  stopped NoMemory input answered rest text texts behind schedule old new first held held' parts whole next has kept =
      ended input answered rest [] texts schedule old first held held' (Err NoMemory) parts (whole_alone answered texts whole) (ap lines_of parts ∙ whole rest) has (nothing held held' kept) refl

  -- a run ends between its lines by this fault, and nothing more is written
  pub ended_between : (fault : StepsFault) (player : Player) (input answered rest : List ℕ) (texts : List (List ℕ)) (schedule : List Step) (first held held' : Option (List ℕ))
      → input ≡ answered ++ rest → ((r : List ℕ) → lines_of (answered ++ r) ≡ texts ++ lines_of r) → HasAnswered start ring player texts schedule first held → Keeps held held'
      → Ends start ring (Err fault) schedule rest [] → Answered start ring input first held' (Err fault)
  ended_between fault player input answered rest texts schedule first held held' parts whole has kept ends =
      ended input answered rest [] texts schedule player first held held' (Err fault) parts (whole_alone answered texts whole) (ap lines_of parts ∙ whole rest) has (nothing held held' kept) ends

  -- the verdict that was kept is that of the last line
  last_is : (schedule : List Step) (player : Player) → player.referee ≡ heard_after start schedule
      → verdict_line player.referee.compared.verdict ≡ last_line start schedule
  last_is schedule player heard = ap (λ (h : Heard). verdict_line h.compared.verdict) heard

  last_written : (schedule : List Step) (player : Player) → player.referee ≡ heard_after start schedule
      → IsLastLine start ring schedule [] (verdict_line player.referee.compared.verdict)
  last_written schedule player heard = record {
    nothing = refl;
    next_is = last_is schedule player heard;
    diverted = λ has. last_is schedule player heard ∙ last_ended start schedule has;
  }

  -- all lines were answered, and the line of the verdict is written
  pub end_written : (result : Result (Unit {0}) StepsFault) (player : Player) (input : List ℕ) (texts : List (List ℕ)) (schedule : List Step) (first held held' : Option (List ℕ))
      → lines_of input ≡ texts → HasAnswered start ring player texts schedule first held → WritesEnd player held held' result → Answered start ring input first held' result
  end_written (Ok u) player input texts schedule first held held' lines has w =
      ended input input [] _ texts schedule player first held held' (Ok u) (sym (append-nil input)) lines (lines ∙ sym (append-nil texts)) has w
      (last_written schedule player has.heard)
  end_written (Err (BadStep line)) player input texts schedule first held held' lines has w = absurd w
  end_written (Err ReadFailed) player input texts schedule first held held' lines has w = absurd w
  end_written (Err WriteFailed) player input texts schedule first held held' lines has w =
      ended input input [] _ texts schedule player first held held' (Err WriteFailed) (sym (append-nil input)) lines (lines ∙ sym (append-nil texts)) has w.1
      (inr (record {
        next = verdict_line player.referee.compared.verdict;
        is_next = inr (last_written schedule player has.heard);
        len = w.0;
        begins = refl;
      }))
  end_written (Err NoMemory) player input texts schedule first held held' lines has kept =
      ended input input [] [] texts schedule player first held held' (Err NoMemory) (sym (append-nil input)) lines (lines ∙ sym (append-nil texts)) has (nothing held held' kept) refl

  -- what is flushed in the end stays
  pub Played-kept : (unread unread' held held' held'' : Option (List ℕ)) (result : Result (Unit {0}) StepsFault) → Played start ring unread unread' held held' result → Keeps held' held''
      → Played start ring unread unread' held held'' result
  Played-kept unread unread' held held' held'' result p kept = record {
    input = p.input;
    read = p.read;
    answers = record {
      answered = p.answers.answered;
      rest = p.answers.rest;
      parts = p.answers.parts;
      lines = p.answers.lines;
      schedule = p.answers.schedule;
      asked = p.answers.asked;
      few = p.answers.few;
      last = p.answers.last;
      written = Appends-kept held held' held'' _ p.answers.written kept;
      ends = p.answers.ends;
    };
  }

  -- memory is refused before a world is made
  pub Played-none : (unread held : Option (List ℕ)) → Played start ring unread unread held held (Err NoMemory)
  Played-none unread held = record {
    input = [];
    read = Consumes-nil unread;
    answers = record {
      answered = [];
      rest = [];
      parts = refl;
      lines = refl;
      schedule = [];
      asked = refl;
      few = omega arith;
      last = [];
      written = Appends-nil held;
      ends = refl;
    };
  }
