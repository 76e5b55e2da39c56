-- What a piece of the input, and its end, make of where a run stands.
use Rattle.std.proofs.Common.{◌≡◌, ◌<◌, ℕ, List, [], ◌∷◌, ◌++◌, length, Option, Result, Ok, Err, refl, sym, ap, subst, ◌∙◌, append_assoc, append-nil, inl}
use Rattle.std.specs.Io.KnownBytes.{Keeps, Consumes}
use Rattle.std.proofs.KnownBytes.{Consumes-trans, Consumes-kept, Keeps-refl}
use Rattle.schedule_text.specs.Cuts.{Lacks, IsCut, lines_of}
use Rattle.node_steps.specs.Schedules.{Start}
use Rattle.schedule_player.specs.declared.fault.StepsFault.{StepsFault}
use Rattle.schedule_player.specs.declared.fault.StepsFault.TheVariants.{ReadFailed, WriteFailed, NoMemory}
use Rattle.schedule_player.specs.declared.player.Player.{Player}
use Rattle.schedule_player.specs.Lines.{IsPlayed, PlaysLine}
use Rattle.schedule_player.specs.Progress.{HasPlayed, PlaysPiece, PlaysEnd, PlaysAll, WritesEnd}
use Rattle.schedule_text.proofs.Cutting.{lines_at}
use Rattle.schedule_player.proofs.Texts.{last_line, lacks_both, whole_alone}
use Rattle.schedule_player.proofs.Progress.{has_more, line_played, rest_kept, played_flushed}
use Rattle.schedule_player.proofs.Ending.{stopped, ended_between, end_written}

-- a part of a piece was answered, and this is left of it
pub record HasGone (old : Player) (partial piece : List ℕ) (held : Option (List ℕ)) (player : Player) (rest left : List ℕ) (held' : Option (List ℕ)) : Type 0 where
  pub done : List ℕ
  pub split : piece ≡ done ++ rest
  pub goes : PlaysPiece old partial done held player left held' (Ok tt)

-- nothing of it was
pub nothing_gone : (old : Player) (partial piece : List ℕ) (held : Option (List ℕ)) → HasGone old partial piece held old piece partial held
nothing_gone old partial piece held = record {
  done = [];
  split = refl;
  goes = λ start ring input first s. subst (λ x. HasPlayed start ring old x first held partial) (sym (append-nil input)) s;
}

module _ (old player : Player) (partial piece rest left : List ℕ) (held held' : Option (List ℕ)) where
  -- one line more
  pub line_gone : (new : Player) (front behind : List ℕ) (held'' : Option (List ℕ)) → HasGone old partial piece held player rest left held' → IsCut 10 rest front behind
      → IsPlayed player (left ++ front) held' held'' new → HasGone old partial piece held new behind [] held''
  line_gone new front behind held'' g cut p =
      let feed : List ℕ = 10 ∷ [] in
      record {
        done = g.done ++ (front ++ feed);
        split = g.split ∙ ap (λ x. g.done ++ x) (cut.whole ∙ sym (append_assoc front feed behind)) ∙ sym (append_assoc g.done (front ++ feed) behind);
        goes = λ start ring input first s.
            subst (λ x. HasPlayed start ring new x first held'' []) (append_assoc input g.done (front ++ feed))
            (line_played start ring player new (input ++ g.done) left front first held' held'' (g.goes start ring input first s) cut.first p);
      }

  -- the line is not answered
  pub line_stops : (fault : StepsFault) (new : Player) (front behind last : List ℕ) (held'' : Option (List ℕ)) → HasGone old partial piece held player rest left held' → IsCut 10 rest front behind
      → PlaysLine player (left ++ front) held' held'' new (Err fault) → PlaysPiece old partial piece held new last held'' (Err fault)
  line_stops fault new front behind last held'' g cut p = λ start ring input first s.
      let t = g.goes start ring input first s in
      let text = left ++ front in
      stopped start ring fault (input ++ piece) t.answered (text ++ 10 ∷ behind) text t.texts (lines_of behind) t.schedule player new first held' held''
      (ap (λ x. input ++ x) g.split ∙ sym (append_assoc input g.done rest) ∙ ap (λ x. x ++ rest) t.parts ∙ append_assoc t.answered left rest
      ∙ ap (λ x. t.answered ++ (left ++ x)) cut.whole ∙ ap (λ x. t.answered ++ x) (sym (append_assoc left front (10 ∷ behind))))
      t.whole (lines_at text behind (lacks_both 10 left front t.unended cut.first)) t.has p

  -- memory is refused for what is left
  pub memory_stops : (new : Player) (last : List ℕ) → HasGone old partial piece held player rest left held' → PlaysPiece old partial piece held new last held' (Err NoMemory)
  memory_stops new last g = λ start ring input first s.
      let t = g.goes start ring input first s in
      ended_between start ring NoMemory player (input ++ piece) t.answered (left ++ rest) t.texts t.schedule first held' held'
      (ap (λ x. input ++ x) g.split ∙ sym (append_assoc input g.done rest) ∙ ap (λ x. x ++ rest) t.parts ∙ append_assoc t.answered left rest)
      t.whole t.has (Keeps-refl held') refl

  -- no line is left
  pub rest_gone : HasGone old partial piece held player rest left held' → Lacks 10 rest → PlaysPiece old partial piece held player (left ++ rest) held' (Ok tt)
  rest_gone g lacks = λ start ring input first s.
      subst (λ x. HasPlayed start ring player x first held' (left ++ rest)) (append_assoc input g.done rest ∙ ap (λ x. input ++ x) (sym g.split))
      (rest_kept start ring player (input ++ g.done) left rest first held' (g.goes start ring input first s) lacks)

-- the input ends behind a line feed
pub end_empty : (result : Result (Unit {0}) StepsFault) (player : Player) (partial : List ℕ) (held held' : Option (List ℕ)) → partial ≡ [] → WritesEnd player held held' result → PlaysEnd player partial held held' result
end_empty result player partial held held' none w = λ start ring input first s.
    end_written start ring result player input s.texts s.schedule first held held'
    (ap lines_of (s.parts ∙ ap (λ x. s.answered ++ x) none ∙ append-nil s.answered) ∙ whole_alone s.answered s.texts s.whole) s.has w

-- the last line lacks its line feed
pub end_line : (result : Result (Unit {0}) StepsFault) (old new : Player) (partial : List ℕ) (held held' held'' : Option (List ℕ)) → 0 < length partial → IsPlayed old partial held held' new → WritesEnd new held' held'' result
    → PlaysEnd old partial held held'' result
end_line result old new partial held held' held'' some p w = λ start ring input first s.
    end_written start ring result new input (s.texts ++ partial ∷ []) (p.step ∷ s.schedule) first held' held''
    (ap lines_of s.parts ∙ s.whole partial ∙ ap (λ x. s.texts ++ x) (last_line partial some s.unended))
    (has_more start ring old new s.texts s.schedule partial first held held' s.has p) w

pub end_stops : (fault : StepsFault) (old new : Player) (partial : List ℕ) (held held' : Option (List ℕ)) → 0 < length partial → PlaysLine old partial held held' new (Err fault) → PlaysEnd old partial held held' (Err fault)
end_stops fault old new partial held held' some p = λ start ring input first s.
    stopped start ring fault input s.answered partial partial s.texts [] s.schedule old new first held held' s.parts s.whole (last_line partial some s.unended) s.has p

-- what was read by now was answered
pub record HasRead (old : Player) (unread unread' held : Option (List ℕ)) (player : Player) (left : List ℕ) (held' : Option (List ℕ)) : Type 0 where
  pub input : List ℕ
  pub read : Consumes unread unread' input
  pub goes : (start : Start) (ring : ℕ) → HasPlayed start ring old [] held held [] → HasPlayed start ring player input held held' left

module _ (old player : Player) (unread unread' held held' held'' : Option (List ℕ)) (left : List ℕ) where
  -- a piece more
  pub piece_read : (new : Player) (unread'' held₃ : Option (List ℕ)) (piece left' : List ℕ) → HasRead old unread unread' held player left held' → Keeps held' held''
      → Consumes unread' unread'' piece → PlaysPiece player left piece held'' new left' held₃ (Ok tt) → HasRead old unread unread'' held new left' held₃
  piece_read new unread'' held₃ piece left' h flushed read p = record {
    input = h.input ++ piece;
    read = Consumes-trans unread unread' unread'' h.input piece h.read read;
    goes = λ start ring s. p start ring h.input held (played_flushed start ring player h.input left held held' held'' (h.goes start ring s) flushed);
  }

  -- a read was interrupted
  pub nothing_read : (unread'' : Option (List ℕ)) → HasRead old unread unread' held player left held' → Keeps held' held'' → Keeps unread' unread'' → HasRead old unread unread'' held player left held''
  nothing_read unread'' h flushed kept = record {
    input = h.input;
    read = Consumes-kept unread unread' unread'' h.input h.read kept;
    goes = λ start ring s. played_flushed start ring player h.input left held held' held'' (h.goes start ring s) flushed;
  }

  -- the run ends in a piece
  pub piece_stops : (fault : StepsFault) (new : Player) (unread'' held₃ : Option (List ℕ)) (piece left' : List ℕ) → HasRead old unread unread' held player left held' → Keeps held' held''
      → Consumes unread' unread'' piece → PlaysPiece player left piece held'' new left' held₃ (Err fault) → PlaysAll old unread unread'' held held₃ (Err fault)
  piece_stops fault new unread'' held₃ piece left' h flushed read p = λ start ring s. record {
    input = h.input ++ piece;
    read = Consumes-trans unread unread' unread'' h.input piece h.read read;
    answers = p start ring h.input held (played_flushed start ring player h.input left held held' held'' (h.goes start ring s) flushed);
  }

  -- the input ends
  pub end_read : (result : Result (Unit {0}) StepsFault) (unread'' held₃ : Option (List ℕ)) → HasRead old unread unread' held player left held' → Keeps held' held'' → Consumes unread' unread'' []
      → PlaysEnd player left held'' held₃ result → PlaysAll old unread unread'' held held₃ result
  end_read result unread'' held₃ h flushed read p = λ start ring s. record {
    input = h.input;
    read = subst (Consumes unread unread'') (append-nil h.input) (Consumes-trans unread unread' unread'' h.input [] h.read read);
    answers = p start ring h.input held (played_flushed start ring player h.input left held held' held'' (h.goes start ring s) flushed);
  }

  -- the reader fails
  pub read_fails : (unread'' : Option (List ℕ)) → HasRead old unread unread' held player left held' → Keeps held' held'' → Keeps unread' unread'' → PlaysAll old unread unread'' held held'' (Err ReadFailed)
  read_fails unread'' h flushed kept = λ start ring s.
      let t = h.goes start ring s in record {
        input = h.input;
        read = Consumes-kept unread unread' unread'' h.input h.read kept;
        answers = ended_between start ring ReadFailed player h.input t.answered left t.texts t.schedule held held' held'' t.parts t.whole t.has flushed (t.unended, refl);
      }

  -- a flush before a read fails
  pub flush_fails : HasRead old unread unread' held player left held' → Keeps held' held'' → PlaysAll old unread unread' held held'' (Err WriteFailed)
  flush_fails h flushed = λ start ring s.
      let t = h.goes start ring s in record {
        input = h.input;
        read = h.read;
        answers = ended_between start ring WriteFailed player h.input t.answered left t.texts t.schedule held held' held'' t.parts t.whole t.has flushed (inl refl);
      }
