-- What an error of `accept` says.
use Rattle.std.specs.Prelude.{ℤ, pos, List, [], ◌∷◌, Option, Some, None, if◌then◌else◌}
use Rattle.std.specs.List.{list_any}
use Rattle.std.specs.Ordering.{int_eq}
use Rattle.socket_streams.specs.declared.accept_fault.AcceptFault.{AcceptFault}
use Rattle.socket_streams.specs.declared.accept_fault.AcceptFault.TheVariants.{OfOneConnection, OutOfResources, OfListener}

-- Linux's numbers for want of memory or of descriptors
abbrev pub of_resources : List ℤ
of_resources = pos 12 ∷ pos 23 ∷ pos 24 ∷ pos 105 ∷ []

-- those of a connection that came to nothing, which its manual has tried again
abbrev pub of_one_connection : List ℤ
of_one_connection = pos 1 ∷ pos 4 ∷ pos 64 ∷ pos 71 ∷ pos 92 ∷ pos 95 ∷ pos 100 ∷ pos 101 ∷ pos 103 ∷ pos 110 ∷ pos 112 ∷ pos 113 ∷ []

-- what an error of this number says, if it has one
abbrev pub fault_of : Option ℤ → AcceptFault
fault_of None = OfListener
fault_of (Some number) =
    if list_any (λ n. int_eq n number) of_resources then OutOfResources else if list_any (λ n. int_eq n number) of_one_connection then OfOneConnection else OfListener
