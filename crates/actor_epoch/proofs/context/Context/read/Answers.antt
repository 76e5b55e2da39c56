use Rattle.std.proofs.Common.{subst, sym, ◌∙◌, arith}
use Rattle.actor_epoch.specs.Contexts.{DecodesContext}
use Rattle.actor_epoch.proofs.Given.{AreBytes, read-none, read-other, read-part, read-unformed, read-found, decodes_context}
use Rattle.actor_epoch.proofs.context.Context.read.Goals as goal
use Rattle.actor_epoch.proofs.context.Context.read.Goals.{then-entries-size-ne0-via-then-entries-size-ne0, then-entries-size-ne0-via-else-entries-size-ne0+then-not-are_of_form}

pub returns-in_err-first-clause-read : goal.returns-in_err-first-clause-read
returns-in_err-first-clause-read c = c.from_residual.ensures ∙ read-none c.args.bytes.now c.in_err-first.ensures.cases

pub returns-in_err-version-clause-read : goal.returns-in_err-version-clause-read
returns-in_err-version-clause-read c =
    c.from_residual-in_err-version.ensures
    ∙ read-other c.args.bytes.now c.in_ok-first.first.now c.in_ok-first.entries.now c.in_ok-first.ensures.cases.0 (sym c.in_err-version.ensures)

pub returns-then-entries-size-ne0-clause-read : goal.returns-then-entries-size-ne0-clause-read
returns-then-entries-size-ne0-clause-read c =
    let bytes = c.args.bytes.now in
    let first = c.in_ok-first.first.now in
    let entries = c.in_ok-first.entries.now in
    let version = c.in_ok-version.version in
    let size = c.entry_len-size.result in
    let whole = c.in_ok-first.ensures.cases.0 in
    elim c.then-entries-size-ne0.branch [
      | then-entries-size-ne0-via-then-entries-size-ne0 w ↦
          read-part bytes first version entries size whole c.in_ok-version.ensures c.entry_len-size.ensures.len w.if-entries-size-ne0.true
      | then-entries-size-ne0-via-else-entries-size-ne0+then-not-are_of_form w ↦
          read-unformed bytes first version entries size whole c.in_ok-version.ensures c.entry_len-size.ensures.len (sym w.if-not-are_of_form.true ∙ w.are_of_form.ensures)
    ]

pub returns-clause-read : goal.returns-clause-read
returns-clause-read c =
    read-found c.args.bytes.now c.in_ok-first.first.now c.in_ok-version.version c.in_ok-first.entries.now c.entry_len-size.result c.in_ok-first.ensures.cases.0
    c.in_ok-version.ensures c.entry_len-size.ensures.len c.if-entries-size-ne0.false (sym c.if-not-are_of_form.false ∙ c.are_of_form.ensures)

-- the older relation
pub returns-in_err-first-clause-decodes : goal.returns-in_err-first-clause-decodes
returns-in_err-first-clause-decodes c =
    let small : AreBytes c.args.bytes.now = λ i. let fits = c.type_inv.bytes i in omega arith in
    subst (DecodesContext c.args.bytes.now) (sym (returns-in_err-first-clause-read c)) (decodes_context c.args.bytes.now small)

pub returns-in_err-version-clause-decodes : goal.returns-in_err-version-clause-decodes
returns-in_err-version-clause-decodes c =
    let small : AreBytes c.args.bytes.now = λ i. let fits = c.type_inv.bytes i in omega arith in
    subst (DecodesContext c.args.bytes.now) (sym (returns-in_err-version-clause-read c)) (decodes_context c.args.bytes.now small)

pub returns-then-entries-size-ne0-clause-decodes : goal.returns-then-entries-size-ne0-clause-decodes
returns-then-entries-size-ne0-clause-decodes c =
    let small : AreBytes c.args.bytes.now = λ i. let fits = c.type_inv.bytes i in omega arith in
    subst (DecodesContext c.args.bytes.now) (sym (returns-then-entries-size-ne0-clause-read c)) (decodes_context c.args.bytes.now small)

pub returns-clause-decodes : goal.returns-clause-decodes
returns-clause-decodes c =
    let small : AreBytes c.args.bytes.now = λ i. let fits = c.type_inv.bytes i in omega arith in
    subst (DecodesContext c.args.bytes.now) (sym (returns-clause-read c)) (decodes_context c.args.bytes.now small)
