use Rattle.std.proofs.Common.{◌≡◌, drop}
use Rattle.std.specs.Prelude.{find}
use Rattle.std.specs.Str.{bytes_eq}
use Rattle.riak_msgs.specs.Text.{text_bytes}
use Rattle.riak_msgs.proofs.text.named_in.Given as goal

abbrev pub invariant-loop-text : goal.invariant-loop-text
invariant-loop-text l =
    find (λ text. bytes_eq (text_bytes text) l.bytes) (drop l.text-index l.texts) ≡ find (λ text. bytes_eq (text_bytes text) l.bytes) l.texts
