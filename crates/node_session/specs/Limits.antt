-- The limits of a session.
use Rattle.std.specs.Prelude.{ℕ}

-- how many bytes are read at a time, at most
abbrev pub max_read_len : ℕ
max_read_len = 4096
