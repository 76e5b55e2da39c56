-- What comes of serving as options ask for.
use Rattle.std.specs.Prelude.{◌≡◌, ◌⊎◌, ℕ, true, false, Some, is_some}
use Rattle.node_commands.specs.Periods.{IsControlled}
use Rattle.node_commands.specs.Runs.{IsServedUntil}
use Rattle.node_commands.specs.declared.until.ServedUntil.{ServedUntil}
use Rattle.riak_node.specs.declared.serving.ServeOutcome.{ServeOutcome}
use Rattle.riak_node.specs.declared.serving.ServeOutcome.TheVariants.{Controlled, Asked}
use Rattle.riak_node.specs.declared.subcommand.ServeOptions.{ServeOptions}

-- an operator's console is asked for: over standard input and output, or over a port of its own
abbrev pub AsksForConsole : ServeOptions → Type 0
AsksForConsole options = (options.control ≡ true) ⊎ (is_some options.control_port ≡ true)

-- connections were served without a console, over the gates of a run by these options, and as many as are asked for where nothing else could end that
pub record IsServedWithout {T : Type 0} (options : ServeOptions) (ring : ℕ) (outcome : ServedUntil T) : Type 0 where
  pub unasked : options.control ≡ false
  pub no_port : is_some options.control_port ≡ false
  pub served : IsServedUntil (record { ring = ring; options = options.serving }) outcome
  pub all : options.until_eof ≡ false → options.serving.connections ≡ Some outcome.connections

-- what came of serving by these options, on this ring: by a console just where one is asked for
abbrev pub IsServedAs : {T : Type 0} → ServeOptions → ℕ → ServeOutcome T → Type 0
IsServedAs options ring (Controlled outcome) = AsksForConsole options × IsControlled (record { ring = ring; options = options.serving }) outcome
IsServedAs options ring (Asked outcome) = IsServedWithout options ring outcome
