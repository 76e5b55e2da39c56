-- What callers see of a framer.
use Rattle.std.specs.Prelude.{ℕ, List, [], Option, None}
use Rattle.pb_frame.specs.declared.fault.FrameFault.{FrameFault}

-- the longest length of a frame, the bytes that were fed and not yet taken, and the fault, once one was returned
pub record Stream : Type 0 where
  pub limit : ℕ
  pub rest : List ℕ
  pub fault : Option FrameFault

-- nothing was fed yet
abbrev pub opening : ℕ → Stream
opening limit = record { limit = limit; rest = []; fault = None }
