-- What the options of a command line say.
use Rattle.std.specs.Prelude.{◌≡◌, ◌≤◌, ℕ, Bool, true, false, List, [], ◌∷◌, Option, Some, None, codes, is_some, option_map}
use Rattle.std.specs.Str.Parse.{IsNumeral, digits_value, without_leading_plus, true_text, false_text}
use Rattle.std.specs.Net.Grammar.{Parses, IsIpText}
use Rattle.std.specs.Net.Addr.{ipv4_octets}
use Rattle.std.specs.declared.net.ip_addr.IpAddr.{IpAddr}
use Rattle.std.specs.declared.net.ip_addr.IpAddr.TheVariants.{V4, V6}
use Rattle.std.specs.declared.net.parser.AddrParseError.{AddrParseError}
use Rattle.clap.specs.Matches.{first_value, matched_of, one_text, subcommand_name_of, ReadsOne}
use Rattle.clap.specs.Walk.{rows_of}
use Rattle.clap.specs.Simple.{subcommand_rows_of}
use Rattle.clap.specs.declared.parser.matches.ArgMatches.{ArgMatches}
use Rattle.clap.specs.declared.parser.matches.Found.{Found}
use Rattle.riak_node.specs.declared.connection_lines.ConnectionLines.{ConnectionLines}
use Rattle.riak_node.specs.declared.connection_lines.ConnectionLines.TheVariants.{Both, Ends, Neither}
use Rattle.riak_node.specs.declared.subcommand.PipeOptions.{PipeOptions}
use Rattle.riak_node.specs.declared.subcommand.ServeOptions.{ServeOptions}
use Rattle.riak_node.specs.declared.subcommand.StepsOptions.{StepsOptions}
use Rattle.riak_node.specs.declared.subcommand.Subcommand.{Subcommand}
use Rattle.riak_node.specs.declared.subcommand.Subcommand.TheVariants.{Pipe, Serve, Steps}
use Rattle.node_commands.specs.declared.options.ServingOptions.{ServingOptions}

-- a text is this number in decimal
abbrev pub Writes : List ℕ → ℕ → Type 0
Writes text number = IsNumeral 10 (without_leading_plus text) × (digits_value 10 (without_leading_plus text) ≡ number)

-- the address 127.0.0.1
abbrev pub IsLocalhost : Option IpAddr → Type 0
IsLocalhost (Some (V4 address)) = ipv4_octets address ≡ 127 ∷ 0 ∷ 0 ∷ 1 ∷ []
IsLocalhost (Some (V6 address)) = ⊥
IsLocalhost None = ⊥

-- the word for these lines of single connections
abbrev pub word_of : ConnectionLines → List ℕ
word_of Both = codes "all"
word_of Ends = codes "ends"
word_of Neither = codes "none"

module _ (found : Found) where
  -- the number of an option: the one that was given, where it lies between these two, and this one where none was
  pub record IsNumber (low high : ℕ) (name : List ℕ) (default number : ℕ) : Type 0 where
    pub absent : one_text found name ≡ None → number ≡ default
    pub given : (text : List ℕ) (n : ℕ) → one_text found name ≡ Some text → Writes text n → low ≤ n → n ≤ high → number ≡ n

  -- the number of an option that has none where none was given
  pub record IsNumberIfGiven (high : ℕ) (name : List ℕ) (number : Option ℕ) : Type 0 where
    pub absent : one_text found name ≡ None → number ≡ None
    pub given : (text : List ℕ) (n : ℕ) → one_text found name ≡ Some text → Writes text n → n ≤ high → number ≡ Some n

  -- whether a flag was given
  pub record IsFlag (name : List ℕ) (flag : Bool) : Type 0 where
    pub absent : one_text found name ≡ None → flag ≡ false
    pub given : one_text found name ≡ Some true_text → flag ≡ true
    pub denied : one_text found name ≡ Some false_text → flag ≡ false

  -- the address that was given, none where its text is none, and this machine's to itself where none was
  pub record IsAddress (address : Option IpAddr) : Type 0 where
    pub absent : is_some (matched_of found (codes "address")) ≡ false → IsLocalhost address
    pub given : is_some (matched_of found (codes "address")) ≡ true → (text : List ℕ) → one_text found (codes "address") ≡ Some text → ReadsOne {E = AddrParseError} (Parses IsIpText) text address

  -- which lines of single connections the log has: those of the word that was given, and all where none was
  pub record AreConnectionLines (lines : ConnectionLines) : Type 0 where
    pub absent : first_value found (codes "log") ≡ None → lines ≡ Both
    pub given : (named : ConnectionLines) → first_value found (codes "log") ≡ Some (word_of named) → lines ≡ named

  pub record ArePipeOptions (options : PipeOptions) : Type 0 where
    pub ring : IsNumber 0 65535 (codes "ring") 1 options.ring
    pub run : IsNumber 1 4294967295 (codes "run") 1 options.run
    pub sweep : IsNumber 0 4294967295 (codes "sweep") 0 options.sweep

  pub record AreServingOptions (options : ServingOptions) : Type 0 where
    pub connections : IsNumberIfGiven 65535 (codes "connections") options.connections
    pub idle : IsNumberIfGiven 4294967295 (codes "idle") options.waiting.idle_seconds
    pub spin : IsNumberIfGiven 1000 (codes "spin") options.waiting.spin_micros
    pub replies : IsNumberIfGiven 18446744073709551615 (codes "replies") options.waiting.replies_bytes
    pub workers : IsNumber 1 64 (codes "workers") 4 options.workers
    pub run : IsNumber 1 4294967295 (codes "run") 1 options.run
    pub sweep : IsNumber 0 4294967295 (codes "sweep") 0 options.sweep

  pub record AreServeOptions (options : ServeOptions) : Type 0 where
    pub address : IsAddress options.address
    pub port : IsNumber 0 65535 (codes "port") 8087 options.port
    pub ring : IsNumber 0 65535 (codes "ring") 64 options.ring
    pub until_eof : IsFlag (codes "until-eof") options.until_eof
    pub control : IsFlag (codes "control") options.control
    pub control_port : IsNumberIfGiven 65535 (codes "control-port") options.control_port
    pub lines : AreConnectionLines options.lines
    pub serving : AreServingOptions options.serving

  pub record AreStepsOptions (options : StepsOptions) : Type 0 where
    pub workers : IsNumber 1 64 (codes "workers") 2 options.workers
    pub ring : IsNumber 0 65535 (codes "ring") 1 options.ring
    pub run : IsNumber 1 4294967295 (codes "run") 1 options.run

-- the subcommand of this name was met, with options of which this holds
pub record IsMet (matches : ArgMatches) (name : List ℕ) (Options : Found → Type 0) : Type 0 where
  pub named : subcommand_name_of matches ≡ Some name
  pub found : Found
  pub rows : option_map (λ rows. rows.1) (subcommand_rows_of matches) ≡ Some (rows_of found)
  pub options : Options found

-- the command of a command line, with its options
abbrev pub IsCommand : ArgMatches → Subcommand → Type 0
IsCommand matches (Pipe options) = IsMet matches (codes "pipe") (λ found. ArePipeOptions found options)
IsCommand matches (Serve options) = IsMet matches (codes "serve") (λ found. AreServeOptions found options)
IsCommand matches (Steps options) = IsMet matches (codes "steps") (λ found. AreStepsOptions found options)
