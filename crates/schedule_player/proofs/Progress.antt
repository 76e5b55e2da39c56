-- How far a run has come after a line.
use Rattle.std.proofs.Common.{◌+◌, ◌<◌, ℕ, List, [], ◌∷◌, ◌++◌, length, Option, refl, sym, ap, subst, ◌∙◌, append_assoc, append-nil, arith}
use Rattle.std.specs.Io.KnownBytes.{Appends, Keeps}
use Rattle.std.proofs.KnownBytes.{Appends-trans, Appends-kept, Appends-nil}
use Rattle.schedule_text.specs.Cuts.{Lacks}
use Rattle.node_steps.specs.Steps.{Step, outcome}
use Rattle.node_steps.specs.Schedules.{Start, world_after}
use Rattle.node_steps.specs.Returned.{returned}
use Rattle.schedule_player.specs.declared.player.Player.{Player}
use Rattle.schedule_player.specs.Lines.{IsPlayed}
use Rattle.schedule_player.specs.Heard.{after_line}
use Rattle.schedule_player.specs.Progress.{IsOpening, HasAnswered, HasPlayed}
use Rattle.schedule_player.proofs.Texts.{lacks_both, whole_more}
use Rattle.schedule_player.proofs.Ending.{line_is, asks_on}

module _ (start : Start) (ring : ℕ) where
  -- one line more was answered
  pub has_more : (old new : Player) (texts : List (List ℕ)) (schedule : List Step) (text : List ℕ) (first held held' : Option (List ℕ))
      → HasAnswered start ring old texts schedule first held → (p : IsPlayed old text held held' new)
      → HasAnswered start ring new (texts ++ text ∷ []) (p.step ∷ schedule) first held'
  has_more old new texts schedule text first held held' has p =
      let a = p.answered in
      let f = a.follows start schedule has.kept in
      let line = line_is start ring schedule p.step old.lines a.outcome has.count f.0 in
      let fewer : length schedule < 100000 = subst (λ n. n < 100000) has.count p.few in
      record {
        workers = a.workers ∙ has.workers;
        ring_is = a.ring ∙ has.ring_is;
        asked = (texts, text, refl, asks_on start ring old text p.step texts schedule first held has p.asks, has.asked);
        kept = f.1;
        count = omega (arith, a.lines, has.count);
        few = omega (arith, fewer);
        heard = a.heard ∙ ap (λ n. after_line (n + 1) p.step a.outcome old.referee) has.count
            ∙ ap (λ o. after_line (length schedule + 1) p.step o old.referee) f.0
            ∙ ap (after_line (length schedule + 1) p.step (returned (outcome (world_after start schedule) p.step))) has.heard;
        written = Appends-trans first held held' _ _ has.written (subst (Appends held held') line a.written);
      }

  -- a line that is ended by a line feed was answered
  pub line_played : (old new : Player) (input partial front : List ℕ) (first held held' : Option (List ℕ))
      → HasPlayed start ring old input first held partial → Lacks 10 front → IsPlayed old (partial ++ front) held held' new
      → HasPlayed start ring new (input ++ (front ++ 10 ∷ [])) first held' []
  line_played old new input partial front first held held' s lacks p =
      let text = partial ++ front in
      let feed : List ℕ = 10 ∷ [] in
      record {
        answered = s.answered ++ (text ++ feed);
        texts = s.texts ++ text ∷ [];
        parts = ap (λ x. x ++ (front ++ feed)) s.parts ∙ append_assoc s.answered partial (front ++ feed)
            ∙ ap (λ x. s.answered ++ x) (sym (append_assoc partial front feed)) ∙ sym (append-nil (s.answered ++ (text ++ feed)));
        whole = whole_more s.answered text s.texts s.whole (lacks_both 10 partial front s.unended lacks);
        schedule = p.step ∷ s.schedule;
        has = has_more old new s.texts s.schedule text first held held' s.has p;
        unended = refl;
      }

  -- what stands behind the last line feed is kept
  pub rest_kept : (player : Player) (input partial rest : List ℕ) (first held : Option (List ℕ))
      → HasPlayed start ring player input first held partial → Lacks 10 rest → HasPlayed start ring player (input ++ rest) first held (partial ++ rest)
  rest_kept player input partial rest first held s lacks = record {
    answered = s.answered;
    texts = s.texts;
    parts = ap (λ x. x ++ rest) s.parts ∙ append_assoc s.answered partial rest;
    whole = s.whole;
    schedule = s.schedule;
    has = s.has;
    unended = lacks_both 10 partial rest s.unended lacks;
  }

  -- what was written is flushed
  pub played_flushed : (player : Player) (input partial : List ℕ) (first held held' : Option (List ℕ))
      → HasPlayed start ring player input first held partial → Keeps held held' → HasPlayed start ring player input first held' partial
  played_flushed player input partial first held held' s kept = record {
    answered = s.answered;
    texts = s.texts;
    parts = s.parts;
    whole = s.whole;
    schedule = s.schedule;
    has = record {
      workers = s.has.workers;
      ring_is = s.has.ring_is;
      asked = s.has.asked;
      kept = s.has.kept;
      count = s.has.count;
      few = s.has.few;
      heard = s.has.heard;
      written = Appends-kept first held held' _ s.has.written kept;
    };
    unended = s.unended;
  }

  -- before any line
  pub opening_has_played : (player : Player) (held : Option (List ℕ)) → IsOpening start ring player → HasPlayed start ring player [] held held []
  opening_has_played player held o = record {
    answered = [];
    texts = [];
    parts = refl;
    whole = λ rest. refl;
    schedule = [];
    has = record {
      workers = o.workers;
      ring_is = o.ring_is;
      asked = refl;
      kept = record { start_is = o.start_is; workers = o.workers_fit; world_is = o.world_is };
      count = o.lines;
      few = omega arith;
      heard = o.heard;
      written = Appends-nil held;
    };
    unended = refl;
  }
