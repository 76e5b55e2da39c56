-- Which epoch a vnode gives next.
use Rattle.std.specs.Prelude.{ℕ, ◌+◌, nat_lt, if◌then◌else◌, Option, Some, None}
use Rattle.actor_epoch.specs.Limits.{max_epoch}

-- the epoch after the last one given, while there is one
abbrev pub next_epoch : ℕ → Option ℕ
next_epoch last = if nat_lt last max_epoch then Some (last + 1) else None
