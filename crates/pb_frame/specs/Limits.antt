-- The limits of frames.
use Rattle.std.specs.Prelude.{ℕ}

-- the longest request, code and body: 1 MiB
abbrev pub max_request_len : ℕ
max_request_len = 1048576

-- the longest body of any frame: with the code it has to fit a length of four bytes
abbrev pub max_body_len : ℕ
max_body_len = 4294967294
