-- The lines that a run of connections writes, and why it stopped in words.
use Rattle.std.specs.Prelude.{ℕ, List, [], Option, Some, None, codes, decimal, ◌++◌}
use Rattle.std.specs.Io.KnownBytes.{Appends}
use Rattle.key_counts.specs.declared.counts.KeyCounts.{KeyCounts}
use Rattle.stats_book.specs.declared.totals.Totals.{Totals}
use Rattle.node_commands.specs.declared.fault.ServeFault.{ServeFault}
use Rattle.node_commands.specs.declared.fault.ServeFault.TheVariants.{AcceptFailed, NoThread, NoMemory, BookFull}

-- the line of the address
abbrev pub address_line : ℕ → List ℕ
address_line port = codes "listening 127.0.0.1:" ++ decimal port ++ codes "\n"

-- how many commands were accepted, and how many gets answered
abbrev pub commands_text : Totals → List ℕ
commands_text t = codes "gets " ++ decimal t.gets ++ codes " puts " ++ decimal t.puts ++ codes " deletes " ++ decimal t.deletes

-- what was counted beside them, to the line's end
abbrev pub others_text : Totals → List ℕ
others_text t = codes " refusals " ++ decimal t.refusals ++ codes " reaps " ++ decimal t.reaps ++ codes "\n"

-- the line of the totals
abbrev pub totals_line : Totals → List ℕ
totals_line t = commands_text t ++ others_text t

-- the last that was written is this line
abbrev pub EndsWithLine : {W : Type 0} → (W → Option (List ℕ)) → W → List ℕ → Type 0
EndsWithLine {W} contents writer line = (before : W) × Appends (contents before) (contents writer) line

-- the same of a server that goes on, with how many connections it has accepted
abbrev pub open_text : Totals → ℕ → List ℕ
open_text t connections = codes " refusals " ++ decimal t.refusals ++ codes " reaps " ++ decimal t.reaps ++ codes " connections " ++ decimal connections

-- how much it stores, where that is known
abbrev pub stored_text : Option KeyCounts → List ℕ
stored_text None = []
stored_text (Some c) = codes " keys " ++ decimal c.keys ++ codes " siblings " ++ decimal c.siblings ++ codes " dead " ++ decimal c.dead_keys ++ codes " bytes " ++ decimal c.value_bytes

-- how many puts it has refused for want of memory, to the line's end
abbrev pub refused_text : ℕ → List ℕ
refused_text puts = codes " puts_refused " ++ decimal puts ++ codes "\n"

-- both
abbrev pub held_text : Option KeyCounts → ℕ → List ℕ
held_text counts puts = stored_text counts ++ refused_text puts

-- the line of its totals
abbrev pub open_line : Totals → ℕ → Option KeyCounts → ℕ → List ℕ
open_line t connections counts puts = commands_text t ++ open_text t connections ++ held_text counts puts

-- why serving stopped, in words
abbrev pub serve_fault_text : ServeFault → List ℕ
serve_fault_text AcceptFailed = codes "accept failed"
serve_fault_text NoThread = codes "no thread"
serve_fault_text NoMemory = codes "no memory"
serve_fault_text BookFull = codes "book full"
