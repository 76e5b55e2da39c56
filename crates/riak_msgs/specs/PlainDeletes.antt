-- Deletes in the plain form.
use Rattle.std.specs.Prelude.{ℕ, List}
use Rattle.riak_msgs.specs.declared.del.DelAsk.{DelAsk}
use Rattle.riak_msgs.specs.Requests.{default_key}

-- a delete of a key of the default type, after what a context has seen
abbrev pub plain_del : List ℕ → List ℕ → List ℕ → DelAsk
plain_del bucket key context = record { key = default_key bucket key; context = context }
