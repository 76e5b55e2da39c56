use Rattle.std.proofs.Common.{◌∙◌, ◌++◌, sym, ap, arith}
use Rattle.dvv_set.specs.Stored.{values_in}
use Rattle.dvv_set.proofs.values.ValuesIterator.next.Goals as goal

pub invariant_of-self : goal.invariant_of-self
invariant_of-self g c = c.self.invariant

pub deref-self-inside-requires : goal.deref-self-inside-requires
deref-self-inside-requires g c = let fits = g.met.V.InMemory.fits_gives c.self.invariant in omega arith

pub returns-in-Some-clause-steps : goal.returns-in-Some-clause-steps
returns-in-Some-clause-steps g c =
    sym c.self.view_is ∙ sym c.loop-value.invariant
    ∙ ap (λ first. first ++ values_in c.loop-value.self-inside.entries.now) c.in-Some.ensures.cases.0
