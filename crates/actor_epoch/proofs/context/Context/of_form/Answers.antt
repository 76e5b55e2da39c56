use Rattle.std.proofs.Common.{sym, ◌∙◌}
use Rattle.actor_epoch.proofs.Given.{formed-some, formed-version, formed-context, formed-entries, formed-pairs}
use Rattle.actor_epoch.proofs.context.Context.of_form.Goals as goal

pub unreachable-requires : goal.unreachable-requires
unreachable-requires c = formed-some c.args.bytes.now c.in_default.ensures.cases c.requires

pub unreachable-requires-in_default-from_byte : goal.unreachable-requires-in_default-from_byte
unreachable-requires-in_default-from_byte c =
    formed-version c.args.bytes.now c.in-Some.first.now c.in-Some.entries.now c.in-Some.ensures.cases.0 (sym c.from_byte.ensures ∙ c.in_default-from_byte.is) c.requires

pub invariant_of-result : goal.invariant_of-result
invariant_of-result c =
    formed-entries c.in-Some-from_byte.version c.in-Some.entries.now c.entry_len.result c.entry_len.ensures.len
    (formed-context c.args.bytes.now c.in-Some.first.now c.in-Some-from_byte.version c.in-Some.entries.now c.in-Some.ensures.cases.0
    (sym c.from_byte.ensures ∙ c.in-Some-from_byte.is) c.requires)

pub returns : goal.returns
returns c =
    formed-pairs c.args.bytes.now c.in-Some.first.now c.in-Some-from_byte.version c.in-Some.entries.now c.entry_len.result c.in-Some.ensures.cases.0
    (sym c.from_byte.ensures ∙ c.in-Some-from_byte.is) c.entry_len.ensures.len
    (formed-context c.args.bytes.now c.in-Some.first.now c.in-Some-from_byte.version c.in-Some.entries.now c.in-Some.ensures.cases.0
    (sym c.from_byte.ensures ∙ c.in-Some-from_byte.is) c.requires)
