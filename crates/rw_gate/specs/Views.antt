-- What contracts see of a gate, of its passes and of its rights.
use Rattle.std.specs.Prelude.{ℕ, List, Option, refl}
use Rattle.std.specs.Coded.{Coded, code_by, coded×, coded_ℕ, coded_list, coded_option}
use Rattle.logbook.specs.Pages.{Book, book_coded}
use Rattle.rw_gate.specs.declared.log.GateEntry.{GateEntry}
use Rattle.rw_gate.specs.Logs.{opening}

-- which gate it is: the book of its log, and the state that it was made with
pub record GateId (S : Type 0) : Type 0 where
  pub book : Book
  pub opening : Option S

abbrev pub gate_id_coded : {S : Type 0} → Coded S → Coded (GateId S)
gate_id_coded {S} c =
    code_by (Book × Option S) (coded× book_coded (coded_option c))
    (λ h. (h.book, h.opening)) (λ p. record { book = p.0; opening = p.1 }) (λ _. refl)

-- the gate of a log
abbrev pub gate_id : {S E : Type 0} → Book → List (GateEntry S E) → GateId S
gate_id b log = record { book = b; opening = opening log }

-- a pass: the prefix of the history that it has seen, and the positions at which it published
pub record PassView (S E : Type 0) : Type 0 where
  pub gate : GateId S
  pub prefix : List E
  pub own : List ℕ

abbrev pub pass_coded : {S E : Type 0} → Coded S → Coded E → Coded (PassView S E)
pass_coded {S} {E} c d =
    code_by (GateId S × (List E × List ℕ))
    (coded× (gate_id_coded c) (coded× (coded_list d) (coded_list coded_ℕ)))
    (λ v. (v.gate, (v.prefix, v.own)))
    (λ p. record { gate = p.0; prefix = p.1.0; own = p.1.1 }) (λ _. refl)

-- a right to read or to write: the state under it, and the history whose replay that is
pub record RightView (S E : Type 0) : Type 0 where
  pub gate : GateId S
  pub history : List E
  pub state : S

abbrev pub right_coded : {S E : Type 0} → Coded S → Coded E → Coded (RightView S E)
right_coded {S} {E} c d =
    code_by (GateId S × (List E × S)) (coded× (gate_id_coded c) (coded× (coded_list d) c))
    (λ v. (v.gate, (v.history, v.state)))
    (λ p. record { gate = p.0; history = p.1.0; state = p.1.1 }) (λ _. refl)
